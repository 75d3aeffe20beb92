-- The outcome of a step's turn, with the call that it leaves in flight, and how its task lives on.
use Rattle.std.specs.Prelude.{◌≡◌, Bool, true, false, ◌&&◌, Option, Some, Result, Ok, Err, IsErr, if◌then◌else◌}
use Rattle.std.specs.declared.alloc.AllocError.{AllocError}
use Rattle.hp_base.specs.Numbers.{is_none}
use Rattle.hp_machine.specs.Events.{outcome_of, left}
use Rattle.hp_machine.specs.declared.call.Call.{Call}
use Rattle.hp_machine.specs.declared.call.Call.TheVariants as call
use Rattle.hp_machine.specs.declared.call.Stopped.{Stopped}
use Rattle.hp_machine.specs.declared.call.Turn.{Turn}
use Rattle.hp_machine.specs.declared.outcome.Life.{Life}
use Rattle.hp_machine.specs.declared.outcome.Life.TheVariants.{Dead}
use Rattle.hp_machine.specs.declared.outcome.Outcome.{Outcome}
use Rattle.hp_machine.specs.declared.outcome.Outcome.TheVariants as outcome

-- where an outcome is Blocked, that holds
abbrev pub IfOutcomeBlocked : Outcome → Type 0 → Type 0
IfOutcomeBlocked outcome.Begun Q = Unit {0}
IfOutcomeBlocked (outcome.Moved p) Q = Unit {0}
IfOutcomeBlocked (outcome.Blocked holder) Q = Q
IfOutcomeBlocked (outcome.Ended a) Q = Unit {0}
IfOutcomeBlocked outcome.Marked Q = Unit {0}
IfOutcomeBlocked (outcome.Resized frames) Q = Unit {0}
IfOutcomeBlocked (outcome.Refused why) Q = Unit {0}

-- a step has the outcome of its turn, and leaves that turn's call; without memory it leaves the call as it stood
abbrev pub Settles : {P : Type 0} → (P → Call) → Result (Turn P) (Stopped P) → Result Outcome AllocError → Option Call → Type 0
Settles call (Ok turn) result next = (result ≡ Ok (outcome_of call turn)) × (next ≡ left call turn)
Settles call (Err stopped) result next = IsErr result × (next ≡ Some (call stopped.phase))

abbrev pub is_exit_call : Call → Bool
is_exit_call (call.Exit phase) = true
is_exit_call other = false

-- how the task lives after a step of its call: an exit that is over leaves it dead
abbrev pub life_after : Life → Call → Option Call → Life
life_after life inflight next = if is_exit_call inflight && is_none next then Dead else life
