use Rattle.std.proofs.Common.{◌≡◌, ◌++◌}
use Rattle.std.specs.Prelude.{string_bytes}
use Rattle.hp_draw.specs.Lanes.{lanes_text}
use Rattle.hp_draw.proofs.lanes.push_lanes.Given as goal

-- the lanes of the columns so far
abbrev pub invariant-loop-column : goal.invariant-loop-column
invariant-loop-column l = string_bytes l.text ≡ string_bytes l.fn.text ++ lanes_text l.layout l.column
