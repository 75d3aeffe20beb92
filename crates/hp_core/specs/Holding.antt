-- What a task's call holds.
use Rattle.std.specs.Prelude.{ℕ, Option}
use Rattle.hp_machine.specs.Views.{slot_held, locked_file}
use Rattle.hp_machine.specs.declared.call.Call.{Call}
use Rattle.hp_core.specs.State.{CoreState, as_state}
use Rattle.hp_core.specs.declared.holding.Holding.{Holding}

-- the slot and the lock that a call in flight holds; without one nothing is held
abbrev pub held_by : Option Call → Holding
held_by c = record { slot = slot_held c; lock = locked_file c }

-- those that the task's call holds
unfoldable pub holding_of : CoreState → (task : ℕ) → Holding
holding_of s t = held_by ((as_state s).calls t)
