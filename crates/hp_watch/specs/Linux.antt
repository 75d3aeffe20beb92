-- What an event did in Linux.
use Rattle.std.specs.Prelude.{ℕ, ◌==◌, List, Option, None, Some, if◌then◌else◌}
use Rattle.hp_base.specs.declared.event.Op.{Op}
use Rattle.hp_base.specs.declared.event.Op.TheVariants as op
use Rattle.hp_core.specs.Holding.{holding_of}
use Rattle.hp_core.specs.State.{CoreState}
use Rattle.hp_machine.specs.declared.phase.Phase.{Phase}
use Rattle.hp_phases.specs.Linux.{linux_word}
use Rattle.hp_phases.specs.declared.linux.Kernel.TheVariants.{Linux6_18}
use Rattle.hp_phases.specs.declared.linux.Locks.{Locks}
use Rattle.hp_phases.specs.declared.linux.Locks.TheVariants.{Neither, Slot, File, Both}

-- the locks that a call holds
abbrev pub locks_held : (slot : Option (ℕ × ℕ)) → (lock : Option ℕ) → Locks
locks_held None None = Neither
locks_held (Some at) None = Slot
locks_held None (Some file) = File
locks_held (Some at) (Some file) = Both

-- those that the call of the task in that column holds
abbrev pub locks_in : CoreState → (column : ℕ) → Locks
locks_in core column = if column == 0 then Neither else locks_held (holding_of core column).slot (holding_of core column).lock

-- what a step did from that phase, which led to that core
abbrev pub linux_of_step : CoreState → (column : ℕ) → (from : Phase) → List ℕ
linux_of_step core column from = linux_word Linux6_18 from (locks_in core column)

-- the locks that a call takes
abbrev pub locks_taken : Op → Locks
locks_taken (op.Map file from len) = File
locks_taken (op.MapNoReserve file from len) = File
locks_taken (op.Unmap base) = Neither
locks_taken (op.Load vpn) = Slot
locks_taken (op.Store vpn word) = Slot
locks_taken (op.Alloc file from len keep) = Both
locks_taken (op.Punch file from len) = Both
locks_taken (op.Truncate file new) = Both
locks_taken op.Exit = Neither

-- what the next step of such a call does from that phase
abbrev pub linux_of_op : Op → Phase → List ℕ
linux_of_op o phase = linux_word Linux6_18 phase (locks_taken o)
