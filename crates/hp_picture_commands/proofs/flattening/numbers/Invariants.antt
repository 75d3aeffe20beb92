use Rattle.std.proofs.Common.{◌≡◌, take}
use Rattle.hp_picture_commands.proofs.flattening.numbers.Given as goal

abbrev pub invariant-loop-frame : goal.invariant-loop-frame
invariant-loop-frame l = l.numbers.items ≡ take l.frame-index l.frames
