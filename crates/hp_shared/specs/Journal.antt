-- Journals: runs of the core, and interleavings of lists.
use Rattle.std.specs.Prelude.{◌≡◌, ℕ, ◌+◌, ◌<◌, ◌≤◌, Bool, true, false, List, [], ◌∷◌, length, take, drop, map}
use Rattle.std.specs.Prelude.{slice_index_or, slice_set, if◌then◌else◌}
use Rattle.hp_base.specs.declared.config.Config.{Config}
use Rattle.hp_base.specs.declared.event.Event.{Event}
use Rattle.hp_base.specs.declared.event.Event.TheVariants.{Begin, Step, Kill, Resize}
use Rattle.hp_machine.specs.declared.outcome.Outcome.{Outcome}
use Rattle.hp_machine.specs.declared.outcome.Outcome.TheVariants.{Begun, Moved, Blocked, Ended, Marked, Resized, Refused}
use Rattle.hp_machine.specs.declared.outcome.Refusal.{Refusal}
use Rattle.hp_machine.specs.declared.outcome.Refusal.TheVariants.{NotAlive, InCall, Idle, BadSize}
use Rattle.hp_core.specs.State.{CoreState}
use Rattle.hp_core.specs.Runs.{Row, Run, IsOpening}
use Rattle.hp_shared.specs.declared.entry.Entry.{Entry}

abbrev pub entry : ℕ → Event → Outcome → Entry
entry position event outcome = record { position = position; event = event; outcome = outcome }

-- something came of the event: it was neither blocked nor refused
abbrev pub is_made : Outcome → Bool
is_made Begun = true
is_made (Moved phase) = true
is_made (Blocked holder) = false
is_made (Ended answer) = true
is_made Marked = true
is_made (Resized frames) = true
is_made (Refused why) = false

-- what a list gains by an event with this outcome: one entry, or none where nothing came of it
abbrev pub gained : ℕ → Event → Outcome → List Entry
gained position event outcome = if is_made outcome then entry position event outcome ∷ [] else []

-- why an event may be refused
abbrev pub MayBeRefused : Event → Refusal → Type 0
MayBeRefused (Begin task op) NotAlive = Unit {0}
MayBeRefused (Begin task op) InCall = Unit {0}
MayBeRefused (Begin task op) Idle = ⊥
MayBeRefused (Begin task op) BadSize = ⊥
MayBeRefused (Step task grant) NotAlive = Unit {0}
MayBeRefused (Step task grant) InCall = ⊥
MayBeRefused (Step task grant) Idle = Unit {0}
MayBeRefused (Step task grant) BadSize = ⊥
MayBeRefused (Kill task) NotAlive = Unit {0}
MayBeRefused (Kill task) InCall = ⊥
MayBeRefused (Kill task) Idle = ⊥
MayBeRefused (Kill task) BadSize = ⊥
MayBeRefused (Resize frames) NotAlive = ⊥
MayBeRefused (Resize frames) InCall = ⊥
MayBeRefused (Resize frames) Idle = ⊥
MayBeRefused (Resize frames) BadSize = Unit {0}

-- an event has only outcomes of its own kind, and is refused only as it may be
abbrev pub IsOutcomeOf : Event → Outcome → Type 0
IsOutcomeOf (Begin task op) Begun = Unit {0}
IsOutcomeOf (Begin task op) (Refused why) = MayBeRefused (Begin task op) why
IsOutcomeOf (Begin task op) other = ⊥
IsOutcomeOf (Step task grant) (Moved phase) = Unit {0}
IsOutcomeOf (Step task grant) (Blocked holder) = Unit {0}
IsOutcomeOf (Step task grant) (Ended answer) = Unit {0}
IsOutcomeOf (Step task grant) (Refused why) = MayBeRefused (Step task grant) why
IsOutcomeOf (Step task grant) other = ⊥
IsOutcomeOf (Kill task) Marked = Unit {0}
IsOutcomeOf (Kill task) (Refused why) = MayBeRefused (Kill task) why
IsOutcomeOf (Kill task) other = ⊥
IsOutcomeOf (Resize frames) (Resized now) = Unit {0}
IsOutcomeOf (Resize frames) (Refused why) = MayBeRefused (Resize frames) why
IsOutcomeOf (Resize frames) other = ⊥

abbrev pub events_of : List Entry → List Event
events_of entries = map (λ (e : Entry). e.event) entries

abbrev pub outcomes_of : List Entry → List Outcome
outcomes_of entries = map (λ (e : Entry). e.outcome) entries

-- the entries' events, one after the other, have the entries' outcomes and lead from one state to the other
abbrev pub Follows : CoreState → List Entry → CoreState → Type 0
Follows old entries new = Run old (events_of entries) (outcomes_of entries) new

-- the entries lead there from the opening state of this config
abbrev pub IsFromOpeningOf : Config → List Entry → CoreState → Type 0
IsFromOpeningOf config entries new = (opened : CoreState) × IsOpening config opened × Follows opened entries new

-- or of some config
abbrev pub IsFromOpening : List Entry → CoreState → Type 0
IsFromOpening entries new = (config : Config) × (opened : CoreState) × IsOpening config opened × Follows opened entries new

-- a core that a pool came to: some entries led there
abbrev pub IsCameTo : CoreState → Type 0
IsCameTo core = (entries : List Entry) × IsFromOpening entries core

-- some core that a pool came to answers the event so
abbrev pub IsRowOf : Event → Outcome → Type 0
IsRowOf event outcome = (core : CoreState) × (new : CoreState) × IsCameTo core × Row core event outcome new

-- the next entry of the list is e
abbrev pub BeginsWith : Entry → List Entry → Type 0
BeginsWith e [] = ⊥
BeginsWith e (x ∷ xs) = x ≡ e

-- e is the next entry of the list in place i, and of no other list
abbrev pub IsNextOf : Entry → List (List Entry) → ℕ → Type 0
IsNextOf e lists i =
    (i < length lists)
    × BeginsWith e (slice_index_or lists i [])
    × ((j : ℕ) → j < length lists → BeginsWith e (slice_index_or lists j []) → j ≡ i)

-- the lists without the first entry of the one in place i
abbrev pub without_next : List (List Entry) → ℕ → List (List Entry)
without_next lists i = slice_set lists i (drop 1 (slice_index_or lists i []))

-- the entries bear the positions from p on, each is the next unused entry of exactly one list, and rest stays unused
abbrev pub Uses : ℕ → List Entry → List (List Entry) → List (List Entry) → Type 0
Uses p [] lists rest = lists ≡ rest
Uses p (e ∷ es) lists rest =
    (e.position ≡ p) × ((i : ℕ) × IsNextOf e lists i × Uses (p + 1) es (without_next lists i) rest)

-- no list has an entry left
abbrev pub AllUsed : List (List Entry) → Type 0
AllUsed rest = (i : ℕ) → i < length rest → slice_index_or rest i [] ≡ []

-- the journal, whose positions begin at p, is an interleaving of the lists
abbrev pub Interleaves : ℕ → List Entry → List (List Entry) → Type 0
Interleaves p journal lists = (rest : List (List Entry)) × Uses p journal lists rest × AllUsed rest

-- the first of these entries isn't the next unused entry of exactly one list at position p, or there is none and one is left
abbrev pub FailsNow : ℕ → List Entry → List (List Entry) → Type 0
FailsNow p [] rest = ¬ (AllUsed rest)
FailsNow p (e ∷ es) rest = e.position ≡ p → (i : ℕ) → ¬ (IsNextOf e rest i)

-- the places before position n are as they are to be, and the next isn't
abbrev pub FirstFailsAt : ℕ → List Entry → List (List Entry) → ℕ → Type 0
FirstFailsAt p journal lists n =
    (k : ℕ) × (n ≡ p + k) × (k ≤ length journal)
    × ((rest : List (List Entry)) × Uses p (take k journal) lists rest × FailsNow n (drop k journal) rest)
