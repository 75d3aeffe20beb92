-- A round over a core: its calls begin in the list's order, then each that hasn't ended makes one granted step in turn.
use Rattle.std.specs.Prelude.{◌≡◌, ◌≢◌, ℕ, zero, suc, true, List, [], ◌∷◌, ◌++◌, Some, None, MatchOption, ◌⊎◌, All}
use Rattle.std.specs.Prelude.{AllPairs, Contains}
use Rattle.std.specs.Prelude.{IsSome, map, filter, is_some}
use Rattle.std.specs.List.{AllZip, range_with_len}
use Rattle.hp_base.specs.declared.answer.Answer.{Answer}
use Rattle.hp_base.specs.declared.event.Op.{Op}
use Rattle.hp_base.specs.declared.event.Event.TheVariants.{Begin, Step}
use Rattle.hp_machine.specs.declared.outcome.Outcome.{Outcome}
use Rattle.hp_machine.specs.declared.outcome.Outcome.TheVariants as outcome
use Rattle.hp_machine.specs.declared.outcome.Refusal.{Refusal}
use Rattle.hp_core.specs.Runs.{Row, WantsGrowth}
use Rattle.hp_core.specs.Readers.{phase_of, config_of}
use Rattle.hp_core.specs.State.{CoreState, as_state}
use Rattle.hp_client.specs.declared.fault.ClientFault.{ClientFault}
use Rattle.hp_client.specs.declared.fault.ClientFault.TheVariants as fault
use Rattle.hp_client.specs.declared.rounds.Asked.{Asked}

-- the calls begin, in the list's order
abbrev pub Begins : CoreState → List (ℕ × Op) → CoreState → Type 0
Begins s [] new = new ≡ s
Begins s (call ∷ calls) new = (mid : CoreState) × Row s (Begin call.0 call.1) outcome.Begun mid × Begins mid calls new

-- what a step leaves of the call: its answer, where it ended
abbrev pub Leaves : Outcome → Asked → Asked → Type 0
Leaves (outcome.Moved phase) asked next = next ≡ asked
Leaves (outcome.Blocked holder) asked next = next ≡ asked
Leaves (outcome.Ended answer) asked next = next ≡ record asked { answer = Some answer }
Leaves outcome.Begun asked next = ⊥
Leaves outcome.Marked asked next = ⊥
Leaves (outcome.Resized frames) asked next = ⊥
Leaves (outcome.Refused why) asked next = ⊥

-- one granted step of a call that hasn't ended
abbrev pub Advance : CoreState → Asked → CoreState → Asked → Type 0
Advance s asked new next =
    MatchOption asked.answer
    ((outcome : Outcome) × Row s (Step asked.task true) outcome new × Leaves outcome asked next)
    (λ answer. (new ≡ s) × (next ≡ asked))

-- one step of each in turn, in the list's order
abbrev pub Turn : CoreState → List Asked → CoreState → List Asked → Type 0
Turn s [] new next = (new ≡ s) × (next ≡ [])
Turn s (asked ∷ others) new next =
    (mid : CoreState) × (first : Asked) × (rest : List Asked) × Advance s asked mid first × Turn mid others new rest
    × (next ≡ first ∷ rest)

-- turn after turn
unfoldable pub Turns : (turns : ℕ) → CoreState → List Asked → CoreState → List Asked → Type 0
Turns zero s asked new last = (new ≡ s) × (last ≡ asked)
Turns (suc turns) s asked new last =
    (mid : CoreState) × (next : List Asked) × Turns turns s asked mid next × Turn mid next new last

-- the calls, as they are asked: none has ended
unfoldable pub asked_of : List (ℕ × Op) → List Asked
asked_of calls = map (λ call. record { task = call.0; answer = None }) calls

-- each call has ended, with its answer
abbrev pub AreEnded : List Asked → List Answer → Type 0
AreEnded asked answers = AllZip (λ call answer. call.answer ≡ Some answer) asked answers

-- The calls begin in the list's order; then, turn after turn, each call that hasn't ended makes one granted
-- step, in the list's order, until each has ended with its answer.
pub record Round (old : CoreState) (calls : List (ℕ × Op)) (answers : List Answer) (new : CoreState) : Type 0 where
  pub begun : CoreState
  pub turns : ℕ
  pub last : List Asked
  pub begins : Begins old calls begun
  pub steps : Turns turns begun (asked_of calls) new last
  pub ended : AreEnded last answers

-- a front of the calls began, and the core refused the next
abbrev pub BeginsRefused : Refusal → CoreState → List (ℕ × Op) → CoreState → Type 0
BeginsRefused why s [] new = ⊥
BeginsRefused why s (call ∷ calls) new =
    Row s (Begin call.0 call.1) (outcome.Refused why) new
    ⊎ ((mid : CoreState) × Row s (Begin call.0 call.1) outcome.Begun mid × BeginsRefused why mid calls new)

-- a front of the turn was made, and then a step whose row wants growth found no memory, and changed nothing
pub record TurnStops (s : CoreState) (asked : List Asked) (new : CoreState) : Type 0 where
  pub front : List Asked
  pub call : Asked
  pub back : List Asked
  pub next : List Asked
  pub parts : asked ≡ front ++ call ∷ back
  pub made : Turn s front new next
  pub wants : WantsGrowth new.parts new.task_states (Step call.task true)

-- every call that hasn't ended was blocked
abbrev pub AreBlocked : CoreState → List Asked → CoreState → Type 0
AreBlocked s [] new = new ≡ s
AreBlocked s (asked ∷ others) new =
    (mid : CoreState)
    × MatchOption asked.answer
    ((holder : ℕ) × Row s (Step asked.task true) (outcome.Blocked holder) mid)
    (λ answer. mid ≡ s)
    × AreBlocked mid others new

-- turns were made, and then one that want of memory stopped
pub record TurnsStop (s : CoreState) (asked : List Asked) (new : CoreState) : Type 0 where
  pub turns : ℕ
  pub mid : CoreState
  pub next : List Asked
  pub made : Turns turns s asked mid next
  pub stops : TurnStops mid next new

-- turns were made, and not all calls had ended; then one in which every call that hadn't was blocked
pub record TurnsBlocked (s : CoreState) (asked : List Asked) (new : CoreState) : Type 0 where
  pub turns : ℕ
  pub mid : CoreState
  pub next : List Asked
  pub made : Turns turns s asked mid next
  pub waits : ¬ (All (λ call. IsSome call.answer) next)
  pub blocked : AreBlocked mid next new

-- turns have no other fault than these
abbrev pub TurnsFail : ClientFault → CoreState → List Asked → CoreState → Type 0
TurnsFail fault.Memory s asked new = TurnsStop s asked new
TurnsFail fault.Stuck s asked new = TurnsBlocked s asked new
TurnsFail fault.Unaligned s asked new = ⊥
TurnsFail fault.NotSupported s asked new = ⊥
TurnsFail (fault.Refused why) s asked new = ⊥

-- some number of turns was made, and every call has ended
pub record TurnsEnd (s : CoreState) (asked : List Asked) (new : CoreState) (last : List Asked) : Type 0 where
  pub turns : ℕ
  pub made : Turns turns s asked new last
  pub ended : All (λ call. IsSome call.answer) last

-- A round without an end. No room was had and nothing happened, or the calls began and a step found no memory; the core
-- refused to begin a call; or the calls began and turns were made up to one in which all were blocked
abbrev pub RoundStops : ClientFault → CoreState → List (ℕ × Op) → CoreState → Type 0
RoundStops fault.Memory old calls new =
    (new ≡ old) ⊎ ((begun : CoreState) × Begins old calls begun × TurnsStop begun (asked_of calls) new)
RoundStops (fault.Refused why) old calls new = BeginsRefused why old calls new
RoundStops fault.Stuck old calls new = (begun : CoreState) × Begins old calls begun × TurnsBlocked begun (asked_of calls) new
RoundStops fault.Unaligned old calls new = ⊥
RoundStops fault.NotSupported old calls new = ⊥

-- the tasks with a call in flight, in order
unfoldable pub in_flight : CoreState → List Asked
in_flight s =
    map (λ t. record { task = t; answer = None }) (filter (λ t. is_some (phase_of s t)) (range_with_len 1 (config_of s).tasks))

-- turn after turn, these calls were taken to their ends
abbrev pub Ends : CoreState → List Asked → CoreState → Type 0
Ends old asked new = (last : List Asked) × TurnsEnd old asked new last

-- the calls in flight weren't taken to their ends: no room was had and nothing happened, or a step found no memory
abbrev pub FinishStops : ClientFault → CoreState → CoreState → Type 0
FinishStops fault.Memory old new = (new ≡ old) ⊎ TurnsStop old (in_flight old) new
FinishStops fault.Unaligned old new = ⊥
FinishStops fault.NotSupported old new = ⊥
FinishStops (fault.Refused why) old new = ⊥
FinishStops fault.Stuck old new = ⊥

-- the task has a call in flight
abbrev pub IsInFlight : CoreState → (task : ℕ) → Type 0
IsInFlight s t = IsSome ((as_state s).calls t)

-- no two of the calls are of one task
abbrev pub AreOfDistinctTasks : List Asked → Type 0
AreOfDistinctTasks asked = AllPairs (λ one other. one.task ≢ other.task) asked

-- each call of the list that hasn't ended is in flight
unfoldable pub AreInFlight : CoreState → List Asked → Type 0
AreInFlight s asked = All (λ call. call.answer ≡ None → IsInFlight s call.task) asked

-- every call in flight is one of the list that hasn't ended
unfoldable pub AreAll : CoreState → List Asked → Type 0
AreAll s asked = (t : ℕ) → IsInFlight s t → Contains asked (record { task = t; answer = None })
