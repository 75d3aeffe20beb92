-- Which outcomes say that a call went on.
use Rattle.std.specs.Prelude.{Bool, true, false}
use Rattle.hp_machine.specs.declared.outcome.Outcome.{Outcome}
use Rattle.hp_machine.specs.declared.outcome.Outcome.TheVariants.{Begun, Moved, Blocked, Ended, Marked, Resized, Refused}

-- it began, moved or ended
abbrev pub is_of_a_call : Outcome → Bool
is_of_a_call Begun = true
is_of_a_call (Moved phase) = true
is_of_a_call (Blocked task) = false
is_of_a_call (Ended answer) = true
is_of_a_call Marked = false
is_of_a_call (Resized frames) = false
is_of_a_call (Refused refusal) = false
