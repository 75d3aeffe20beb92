-- A reserve count that is a whole number. Linux's is `resv` less `debt`, and one of the two is 0; so no row of the machine has to change.
use Rattle.std.specs.Prelude.{◌≡◌, ℕ, ◌+◌, ◌-◌, ◌==◌, Option, Some, None, List, [], ◌∷◌}
use Rattle.hp_base.specs.Numbers.{bit}
use Rattle.hp_base.specs.declared.event.Event.{Event}
use Rattle.hp_base.specs.declared.event.Event.TheVariants.{Begin, Step, Kill, Resize}
use Rattle.hp_machine.specs.State.{Geometry, State}
use Rattle.hp_machine.specs.Events.{EventRows, opening}
use Rattle.hp_machine.specs.Headline.{vacant_in}
use Rattle.hp_machine.specs.declared.touch.TouchPhase.{TouchPhase}
use Rattle.hp_machine.specs.declared.touch.TouchPhase.TheVariants as touch
use Rattle.hp_machine.specs.declared.map.MapPhase.{MapPhase}
use Rattle.hp_machine.specs.declared.map.MapPhase.TheVariants as map
use Rattle.hp_machine.specs.declared.alloc.AllocPhase.{AllocPhase}
use Rattle.hp_machine.specs.declared.alloc.AllocPhase.TheVariants as alloc
use Rattle.hp_machine.specs.declared.truncate.TruncatePhase.{TruncatePhase}
use Rattle.hp_machine.specs.declared.truncate.TruncatePhase.TheVariants as truncate
use Rattle.hp_machine.specs.declared.outcome.Outcome.{Outcome}
use Rattle.hp_machine.specs.declared.call.Call.{Call}
use Rattle.hp_machine.specs.declared.call.Call.TheVariants as call
use Rattle.hp_laws.specs.Histories.{events_of}
use Rattle.hp_counterexamples.specs.Runs.{IsAtRest}

-- a state, and by how much Linux's count is below the one that is in it
pub record Linux : Type 0 where
  pub state : State
  pub debt : ℕ

-- by how much the next step of a touch may lower the count; below, of each other operation
abbrev pub touch_lowers : TouchPhase → ℕ
touch_lowers (touch.Look p) = 0
touch_lowers (touch.Want p) = 0
touch_lowers (touch.Locked p) = 0
touch_lowers (touch.Missing p) = 0
touch_lowers (touch.Changed p) = bit (p.pending.missing == 0)
touch_lowers (touch.Abort p) = 0
touch_lowers (touch.Taken p) = 0
touch_lowers (touch.Settle p) = 1
touch_lowers (touch.Committed p) = 0
touch_lowers (touch.Restore p) = 0
touch_lowers (touch.Found p) = 0
touch_lowers (touch.Leave p) = 0

abbrev pub map_lowers : MapPhase → ℕ
map_lowers (map.Start p) = 0
map_lowers (map.Room p) = 0
map_lowers (map.Missing p) = 0
map_lowers (map.Changed p) = 0
map_lowers (map.Abort p) = 0
map_lowers (map.Accounted p) = 0
map_lowers (map.Settle p) = p.excess
map_lowers (map.Enter p) = 0
map_lowers (map.Leave p) = 0

abbrev pub alloc_lowers : AllocPhase → ℕ
alloc_lowers (alloc.Start p) = 0
alloc_lowers (alloc.Head p) = 0
alloc_lowers (alloc.Want p) = 0
alloc_lowers (alloc.Locked p) = 0
alloc_lowers (alloc.Missing p) = 0
alloc_lowers (alloc.Changed p) = bit (p.pending.missing == 0)
alloc_lowers (alloc.Abort p) = 0
alloc_lowers (alloc.Taken p) = 0
alloc_lowers (alloc.Settle p) = 1
alloc_lowers (alloc.Committed p) = 0
alloc_lowers (alloc.Restore p) = 0
alloc_lowers (alloc.Unslot p) = 0
alloc_lowers (alloc.Extend p) = 0
alloc_lowers (alloc.Leave p) = 0

abbrev pub truncate_lowers : TruncatePhase → ℕ
truncate_lowers (truncate.Start p) = 0
truncate_lowers (truncate.Size p) = 0
truncate_lowers (truncate.Want p) = 0
truncate_lowers (truncate.Locked p) = 1
truncate_lowers (truncate.Unmap p) = 0
truncate_lowers (truncate.Evict p) = 0
truncate_lowers (truncate.Free p) = 0
truncate_lowers (truncate.Unslot p) = 0
truncate_lowers (truncate.Tail p) = 0
truncate_lowers (truncate.Settle p) = p.excess
truncate_lowers (truncate.Leave p) = 0

-- a punch only raises it; an unmap and an exit leave it. (What is lent and not wanted is paid back at once.)
abbrev pub lowers : Option Call → ℕ
lowers None = 0
lowers (Some (call.Touch phase)) = touch_lowers phase
lowers (Some (call.Map phase)) = map_lowers phase
lowers (Some (call.Alloc phase)) = alloc_lowers phase
lowers (Some (call.Punch phase)) = 0
lowers (Some (call.Truncate phase)) = truncate_lowers phase
lowers (Some (call.Unmap phase)) = 0
lowers (Some (call.Exit phase)) = 0

-- how much the count lacks for that
abbrev pub lacks : State → Event → ℕ
lacks s (Begin t op) = 0
lacks s (Step t grant) = lowers (s.calls t) - s.resv
lacks s (Kill t) = 0
lacks s (Resize frames) = 0

-- so much is lent
abbrev pub lent : State → ℕ → State
lent s n = record s { pool = record s.pool { resv = s.resv + n } }

-- what is counted pays the debt
abbrev pub paid : State → (debt : ℕ) → Linux
paid s d = record { state = record s { pool = record s.pool { resv = s.resv - d } }; debt = d - s.resv }

-- what an event may do where the count may go below zero: what it lacks is lent, and paid behind it
abbrev pub WholeRow : EventRows → Linux → Event → Outcome → Linux → Type 0
WholeRow rows l e tells n =
    (mid : State) × rows (lent l.state (lacks l.state e)) e tells mid × (n ≡ paid mid (l.debt + lacks l.state e))

abbrev pub WholeRun : EventRows → Linux → List (Event × Outcome) → Linux → Type 0
WholeRun rows l [] new = new ≡ l
WholeRun rows l (e ∷ es) new = (mid : Linux) × WholeRow rows l e.0 e.1 mid × WholeRun rows mid es new

-- a pool that opens owes nothing
abbrev pub begins : Geometry → (frames : ℕ) → Linux
begins g frames = record { state = opening g frames; debt = 0 }

-- the events lead to rest, where the count is so far below zero while so many reserved indices have no page
abbrev pub Overdraws : EventRows → Geometry → (frames : ℕ) → List Event → (debt waiting : ℕ) → Type 0
Overdraws rows g frames events debt waiting =
    (log : List (Event × Outcome)) × (l : Linux) × (events_of log ≡ events) × WholeRun rows (begins g frames) log l
    × IsAtRest l.state × (l.state.resv ≡ 0) × (l.debt ≡ debt) × (vacant_in l.state ≡ waiting)
