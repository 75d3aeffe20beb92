use Rattle.std.proofs.Common.{map, take}
use Rattle.std.specs.Prelude.{string_bytes}
use Rattle.hp_picture.specs.declared.line.PictureLine.TheVariants as says
use Rattle.hp_picture.proofs.Laid.{Laid}
use Rattle.hp_picture.proofs.writing.push_free.Given as goal

abbrev pub invariant-loop-frame : goal.invariant-loop-frame
invariant-loop-frame l =
    Laid (string_bytes l.fn.text) (string_bytes l.text) (map says.Free (take l.frame-index l.places.free))
