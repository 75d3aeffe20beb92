use Rattle.std.proofs.Common.{◌≡◌, ◌++◌, take}
use Rattle.std.specs.Prelude.{string_bytes}
use Rattle.hp_draw.specs.Hatches.{hatch_text}
use Rattle.hp_draw.specs.Shapes.{texts}
use Rattle.hp_draw.proofs.hatches.push_hatches.Given as goal

abbrev pub invariant-loop-wait : goal.invariant-loop-wait
invariant-loop-wait l = string_bytes l.text ≡ string_bytes l.fn.text ++ texts (hatch_text l.layout) (take l.wait-index l.waits)
