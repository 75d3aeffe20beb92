use Rattle.std.proofs.Common.{◌≡◌}
use Rattle.std.specs.Prelude.{string_bytes}
use Rattle.hp_explain.specs.JsonCalls.{waits_objects}
use Rattle.hp_explain.proofs.json_calls.lay_waits.Given as goal

-- the objects of the waits of the tasks so far
abbrev pub invariant-loop-number : goal.invariant-loop-number
invariant-loop-number l = string_bytes l.waits ≡ waits_objects l.core l.before l.after l.number
