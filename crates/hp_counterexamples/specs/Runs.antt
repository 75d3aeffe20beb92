-- A machine with other rows, and what it is for a list of events to break a law on it.
use Rattle.std.specs.Prelude.{◌≡◌, ℕ, zero, suc, ◌≤◌, true, false, Some, None, List, ◌∷◌}
use Rattle.hp_base.specs.Indices.{touches}
use Rattle.hp_base.specs.declared.event.Op.{Op}
use Rattle.hp_base.specs.declared.event.Event.{Event}
use Rattle.hp_base.specs.declared.event.Event.TheVariants.{Begin, Step}
use Rattle.hp_frames.specs.Bank.{IsWithinQuota}
use Rattle.hp_region.specs.Change.{Change}
use Rattle.hp_machine.specs.State.{Geometry, State, free_frames}
use Rattle.hp_machine.specs.Resizes.{ResizeRow}
use Rattle.hp_machine.specs.Events.{CallRows, ResizeRows, EventRows, StepBy, StepRow, Row, RowBy, RunBy, opening}
use Rattle.hp_machine.specs.Headline.{Headline, OnePlace, vacant_in, reserved_in}
use Rattle.hp_machine.specs.Standings.{Counts, standing_of}
use Rattle.hp_machine.specs.Views.{hand}
use Rattle.hp_machine.specs.declared.outcome.Outcome.{Outcome}
use Rattle.hp_laws.specs.Histories.{events_of}
use Rattle.hp_laws.specs.Protocol.{ChangesAreCalls, SparesSuffice}

-- the machine with each row as it is. Edits claim of it what is proved of the others, and are refused
abbrev pub as_it_is : EventRows
as_it_is = Row

-- the machine, but the steps of calls are by these rows
abbrev pub with_calls : CallRows → EventRows
with_calls rows = RowBy (StepBy rows) ResizeRow

-- the machine, but resizes are by these rows
abbrev pub with_resizes : ResizeRows → EventRows
with_resizes rows = RowBy StepRow rows

-- one file and one slot, of so many tasks and indices, and no quota
abbrev pub small : (tasks limit : ℕ) → Geometry
small tasks limit = record { files = 1; slots = 1; tasks = tasks; limit = limit; space = 4; quota = None }

-- the same, with a quota
abbrev pub bounded : (tasks limit quota : ℕ) → Geometry
bounded tasks limit quota = record (small tasks limit) { quota = Some quota }

-- so many granted steps of a task, and then the rest
abbrev pub steps : (task times : ℕ) → List Event → List Event
steps t zero rest = rest
steps t (suc n) rest = Step t true ∷ steps t n rest

-- one denied step of a task, and then the rest
abbrev pub deny : (task : ℕ) → List Event → List Event
deny t rest = Step t false ∷ rest

-- a call is begun and makes so many steps, and then the rest
abbrev pub calls : (task : ℕ) → Op → (times : ℕ) → List Event → List Event
calls t p n rest = Begin t p ∷ steps t n rest

-- by these rows the events lead from the opening state to one of which that is so
abbrev pub Leads : EventRows → Geometry → (frames : ℕ) → List Event → (State → Type 0) → Type 0
Leads rows g frames events end =
    (log : List (Event × Outcome)) × (s : State) × (events_of log ≡ events) × RunBy rows (opening g frames) log s × end s

-- to one that hasn't the law
abbrev pub Breaks : EventRows → Geometry → (frames : ℕ) → List Event → (law : State → Type 0) → Type 0
Breaks rows g frames events law = Leads rows g frames events (λ s. law s → ⊥)

-- no call is in flight
abbrev pub IsAtRest : State → Type 0
IsAtRest s = (t : ℕ) → t ≤ s.geometry.tasks → s.calls t ≡ None

-- to one at rest whose reserve count is this, while so many reserved indices have no page
abbrev pub Miscounts : EventRows → Geometry → (frames : ℕ) → List Event → (counted waiting : ℕ) → Type 0
Miscounts rows g frames events counted waiting =
    Leads rows g frames events (λ s. IsAtRest s × (s.resv ≡ counted) × (vacant_in s ≡ waiting) × (Headline s → ⊥))

-- to one at rest whose used count is this, while so many indices are reserved
abbrev pub Misuses : EventRows → Geometry → (frames : ℕ) → List Event → (counted reserved : ℕ) → Type 0
Misuses rows g frames events counted reserved =
    Leads rows g frames events (λ s. IsAtRest s × (s.used ≡ counted) × (reserved_in s ≡ reserved) × (Headline s → ⊥))

-- the task's call has a change to commit that begins a region of its own, and the file's map has no spare descriptor
abbrev pub LacksDescriptor : State → (task : ℕ) → Type 0
LacksDescriptor s t =
    (f : ℕ) × (change : Change) × ((standing_of (s.calls t)).change ≡ Counts f change)
    × (touches (s.reserved f) change.from change.to ≡ false) × (s.spare f ≡ 0)

-- to one where the task's call lacks a descriptor so
abbrev pub Lacks : EventRows → Geometry → (frames : ℕ) → List Event → (task : ℕ) → Type 0
Lacks rows g frames events t = Leads rows g frames events (λ s. LacksDescriptor s t × (SparesSuffice s → ⊥))

-- to one at rest where so many changes of the file's map are pending
abbrev pub Strands : EventRows → Geometry → (frames : ℕ) → List Event → (file pending : ℕ) → Type 0
Strands rows g frames events f pending =
    Leads rows g frames events (λ s. IsAtRest s × (s.pending f ≡ pending) × (ChangesAreCalls s → ⊥))

-- clauses of the headline, by names of their own
abbrev pub FramesAreInOnePlace : State → Type 0
FramesAreInOnePlace s = OnePlace s.frames s.frame (λ t. hand (s.calls t)) s.pages

abbrev pub FreeFramesSuffice : State → Type 0
FreeFramesSuffice s = s.resv ≤ free_frames s.frame s.frames

abbrev pub QuotaSuffices : State → Type 0
QuotaSuffices s = IsWithinQuota s.geometry.quota s.used
