-- What a seat's list gains by a call.
use Rattle.std.specs.Prelude.{◌≡◌, ℕ, List, [], ◌∷◌, ◌++◌, All, Bool, true, false, nat_lt, count_by}
use Rattle.hp_base.specs.declared.answer.Answer.{Answer}
use Rattle.hp_base.specs.declared.event.Op.{Op}
use Rattle.hp_base.specs.declared.event.Event.{Event}
use Rattle.hp_base.specs.declared.event.Event.TheVariants.{Begin, Step, Kill, Resize}
use Rattle.hp_machine.specs.Events.{first, is_begun, word_of}
use Rattle.hp_machine.specs.declared.outcome.Outcome.{Outcome}
use Rattle.hp_machine.specs.declared.outcome.Outcome.TheVariants.{Begun, Moved, Blocked, Ended, Marked, Resized, Refused}
use Rattle.hp_machine.specs.declared.phase.Phase.{Phase}
use Rattle.hp_machine.specs.declared.phase.Phase.TheVariants.{Start}
use Rattle.hp_shared.specs.declared.entry.Entry.{Entry}

-- a begin or a step is of this task
abbrev pub IsOwn : (task : ℕ) → Event → Type 0
IsOwn task (Begin t op) = t ≡ task
IsOwn task (Step t grant) = t ≡ task
IsOwn task (Kill t) = Unit {0}
IsOwn task (Resize frames) = Unit {0}

abbrev pub is_ended : Outcome → Bool
is_ended Begun = false
is_ended (Moved phase) = false
is_ended (Blocked holder) = false
is_ended (Ended answer) = true
is_ended Marked = false
is_ended (Resized frames) = false
is_ended (Refused why) = false

abbrev pub is_blocked : Outcome → Bool
is_blocked Begun = false
is_blocked (Moved phase) = false
is_blocked (Blocked holder) = true
is_blocked (Ended answer) = false
is_blocked Marked = false
is_blocked (Resized frames) = false
is_blocked (Refused why) = false

abbrev pub count_begun : List Entry → ℕ
count_begun entries = count_by (λ (e : Entry). is_begun e.outcome) entries

abbrev pub count_ended : List Entry → ℕ
count_ended entries = count_by (λ (e : Entry). is_ended e.outcome) entries

-- whether a call is in flight, by the list of its seat: more were begun than ended
abbrev pub in_call : List Entry → Bool
in_call entries = nat_lt (count_ended entries) (count_begun entries)

-- where the seat's call stands after this event, which found it in that phase
abbrev pub phase_after : Phase → Event → Outcome → Phase
phase_after phase (Begin task op) outcome = word_of (first op)
phase_after phase (Step task grant) (Moved new) = new
phase_after phase (Step task grant) other = phase
phase_after phase (Kill task) outcome = phase
phase_after phase (Resize frames) outcome = phase

-- where the seat's last call stands after these entries, which found it in that phase
abbrev pub phase_from : Phase → List Entry → Phase
phase_from phase [] = phase
phase_from phase (e ∷ es) = phase_from (phase_after phase e.event e.outcome) es

-- where the seat's last call stands, by the seat's list
abbrev pub phase_of : List Entry → Phase
phase_of entries = phase_from Start entries

abbrev pub StepMoved : (task : ℕ) → Event → Outcome → Type 0
StepMoved task (Step t grant) (Moved phase) = t ≡ task
StepMoved task event outcome = ⊥

abbrev pub StepEnded : (task : ℕ) → Answer → Event → Outcome → Type 0
StepEnded task answer (Step t grant) (Ended a) = (t ≡ task) × (a ≡ answer)
StepEnded task answer event outcome = ⊥

abbrev pub BeginBegun : (task : ℕ) → Op → Event → Outcome → Type 0
BeginBegun task op (Begin t o) Begun = (t ≡ task) × (o ≡ op)
BeginBegun task op event outcome = ⊥

-- steps of the task that moved
abbrev pub AllMoved : (task : ℕ) → List Entry → Type 0
AllMoved task entries = All (λ (e : Entry). StepMoved task e.event e.outcome) entries

-- steps of the task that moved, and last one that ended with the answer
abbrev pub MovedToEnd : (task : ℕ) → Answer → List Entry → Type 0
MovedToEnd task answer entries =
    (moves : List Entry) × (last : Entry) × (entries ≡ moves ++ last ∷ []) × AllMoved task moves
    × StepEnded task answer last.event last.outcome

-- a begin of the operation, and then what P says of the rest
abbrev pub BegunThen : (task : ℕ) → Op → (List Entry → Type 0) → List Entry → Type 0
BegunThen task op P entries =
    (first : Entry) × (rest : List Entry) × (entries ≡ first ∷ rest) × BeginBegun task op first.event first.outcome × P rest

-- the list became longer, by entries of which P holds
abbrev pub Gained : List Entry → List Entry → (List Entry → Type 0) → Type 0
Gained old new P = (entries : List Entry) × (new ≡ old ++ entries) × P entries

-- a step is granted or denied as the gate may have answered where the call stood
abbrev pub IsAnswered : (may : Phase → Bool → Bool) → Phase → Event → Type 0
IsAnswered may phase (Begin task op) = Unit {0}
IsAnswered may phase (Step task grant) = may phase grant ≡ true
IsAnswered may phase (Kill task) = Unit {0}
IsAnswered may phase (Resize frames) = Unit {0}

-- so is each step among the entries, the first of which found the call in that phase
abbrev pub AreAnswered : (may : Phase → Bool → Bool) → Phase → List Entry → Type 0
AreAnswered may phase [] = Unit {0}
AreAnswered may phase (e ∷ es) = IsAnswered may phase e.event × AreAnswered may (phase_after phase e.event e.outcome) es
