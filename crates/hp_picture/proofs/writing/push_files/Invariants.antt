use Rattle.std.proofs.Common.{map, take}
use Rattle.std.specs.Prelude.{string_bytes}
use Rattle.hp_picture.specs.Text.{file_line}
use Rattle.hp_picture.proofs.Laid.{Laid}
use Rattle.hp_picture.proofs.writing.push_files.Given as goal

abbrev pub invariant-loop-size : goal.invariant-loop-size
invariant-loop-size l =
    Laid (string_bytes l.fn.text) (string_bytes l.text) (map file_line (take l.size-index l.places.files))
