use Rattle.std.proofs.Common.{◌≡◌, ◌++◌, take}
use Rattle.std.specs.Prelude.{string_bytes}
use Rattle.hp_draw.specs.Lanes.{phase_of}
use Rattle.hp_draw.specs.Shapes.{texts}
use Rattle.hp_draw.proofs.lanes.push_phases.Given as goal

abbrev pub invariant-loop-stay : goal.invariant-loop-stay
invariant-loop-stay l = string_bytes l.text ≡ string_bytes l.fn.text ++ texts (phase_of l.layout) (take l.stay-index l.stays)
