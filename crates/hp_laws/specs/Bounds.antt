-- How many steps a call makes, and who stands in its way.
use Rattle.std.specs.Prelude.{Bool, ◌≡◌, ◌⊎◌, ℕ, ◌+◌, ◌*◌, ◌-◌, ◌==◌, Option, Some, None, List, [], ◌∷◌, max}
use Rattle.hp_base.specs.Numbers.{bit}
use Rattle.hp_base.specs.declared.event.Op.{Op}
use Rattle.hp_base.specs.declared.event.Op.TheVariants as op
use Rattle.hp_base.specs.declared.event.Event.{Event}
use Rattle.hp_base.specs.declared.event.Event.TheVariants.{Begin, Step}
use Rattle.hp_machine.specs.State.{Geometry, State, slot_of}
use Rattle.hp_base.specs.Pages.{IsPagesEnd}
use Rattle.hp_machine.specs.Events.{Row}
use Rattle.hp_machine.specs.Views.{wants_slot, wants_lock, slot_held, locked_file}
use Rattle.hp_machine.specs.declared.outcome.Outcome.{Outcome}
use Rattle.hp_machine.specs.declared.outcome.Outcome.TheVariants as outcome
use Rattle.hp_machine.specs.declared.truncate.TruncatePhase.TheVariants as truncate
use Rattle.hp_machine.specs.declared.call.Call.{Call}
use Rattle.hp_machine.specs.declared.call.Call.TheVariants as call
use Rattle.hp_laws.specs.Histories.{Moment}

-- n times p
unfoldable pub times : ℕ → ℕ → ℕ
times n p = n * p

-- how many steps of its own a call of the operation makes at most: with so many mappings of its task, and so high
-- a top where it sets the size
abbrev pub most_steps : Geometry → Op → (mappings top : ℕ) → ℕ
most_steps g (op.Map f from len) m top = 8
most_steps g (op.MapNoReserve f from len) m top = 8
most_steps g (op.Unmap base) m top = 3
most_steps g (op.Load v) m top = 10
most_steps g (op.Store v w) m top = 10
most_steps g (op.Alloc f from len keep) m top = times len 9 + 3
most_steps g (op.Punch f from len) m top = times len (6 + g.tasks) + 2
most_steps g (op.Truncate f new) m top = times (top - new) (5 + g.tasks) + 5
most_steps g op.Exit m top = 2 * m + 2

-- 1 for a step of the task that moved or ended its call
abbrev pub is_own : (task : ℕ) → Event → Outcome → ℕ
is_own t (Step u grant) (outcome.Moved p) = bit (u == t)
is_own t (Step u grant) (outcome.Ended a) = bit (u == t)
is_own t event o = 0

abbrev pub own_steps : (task : ℕ) → List (Event × Outcome) → ℕ
own_steps t [] = 0
own_steps t (e ∷ es) = is_own t e.0 e.1 + own_steps t es

-- 1 for a call of the task that began
abbrev pub is_begun : (task : ℕ) → Event → Outcome → ℕ
is_begun t (Begin u op) outcome.Begun = bit (u == t)
is_begun t event o = 0

abbrev pub calls_begun : (task : ℕ) → List (Event × Outcome) → ℕ
calls_begun t [] = 0
calls_begun t (e ∷ es) = is_begun t e.0 e.1 + calls_begun t es

-- the file whose size the call sets next
abbrev pub sizes : Option Call → Option ℕ
sizes (Some (call.Truncate (truncate.Size p))) = Some p.truncation.file
sizes other = None

-- the larger of the size and the end of the pages
abbrev pub IsTop : State → (file top : ℕ) → Type 0
IsTop s f top = (end : ℕ) × IsPagesEnd (s.pages f) end × (top ≡ max (s.size f) end)

-- the task's call sets that file's size
abbrev pub SetsSize : (task file : ℕ) → Moment → Type 0
SetsSize t f m = (grant : Bool) × (m.event ≡ Step t grant) × (sizes (m.before.calls t) ≡ Some f)

-- at the one of these moments where the task's call sets the size, if it is among them, that was the top
abbrev pub SweepsFrom : (task top : ℕ) → List Moment → Type 0
SweepsFrom t top [] = Unit {0}
SweepsFrom t top (m ∷ ms) = ((f : ℕ) → SetsSize t f m → IsTop m.before f top) × SweepsFrom t top ms

-- the call's next step waits for the task that holds the slot or the lock which it takes next
abbrev pub WaitsFor : State → Option Call → (holder : ℕ) → Type 0
WaitsFor s c u =
    ((k : ℕ × ℕ) × (wants_slot c ≡ Some k) × (s.slots (slot_of s.geometry k.0 k.1) ≡ Some u))
    ⊎ ((f : ℕ) × (wants_lock c ≡ Some f) × (s.locks f ≡ Some u))

-- task u's call in flight holds the slot or the lock that task t's call takes next
abbrev pub HoldsUp : State → (u t : ℕ) → Type 0
HoldsUp s u t =
    ((k j : ℕ × ℕ) × (wants_slot (s.calls t) ≡ Some k) × (slot_held (s.calls u) ≡ Some j)
    × (slot_of s.geometry j.0 j.1 ≡ slot_of s.geometry k.0 k.1))
    ⊎ ((f : ℕ) × (wants_lock (s.calls t) ≡ Some f) × (locked_file (s.calls u) ≡ Some f))

-- no step of the task is blocked
abbrev pub IsUnblocked : State → ℕ → Type 0
IsUnblocked s t = (grant : Bool) (u : ℕ) (after : State) → Row s (Step t grant) (outcome.Blocked u) after → ⊥
