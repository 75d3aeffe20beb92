use Rattle.std.proofs.Common.{map, take}
use Rattle.std.specs.Prelude.{string_bytes}
use Rattle.hp_picture.specs.Text.{page_line}
use Rattle.hp_picture.proofs.Laid.{Laid}
use Rattle.hp_picture.proofs.writing.push_pages.Given as goal

abbrev pub invariant-loop-file : goal.invariant-loop-file
invariant-loop-file l =
    Laid (string_bytes l.fn.text) (string_bytes l.text) (map page_line (take l.file-index l.places.pages))
