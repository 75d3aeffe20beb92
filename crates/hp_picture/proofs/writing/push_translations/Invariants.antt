use Rattle.std.proofs.Common.{map, take}
use Rattle.std.specs.Prelude.{string_bytes}
use Rattle.hp_picture.specs.Text.{translation_line}
use Rattle.hp_picture.proofs.Laid.{Laid}
use Rattle.hp_picture.proofs.writing.push_translations.Given as goal

abbrev pub invariant-loop-task : goal.invariant-loop-task
invariant-loop-task l =
    Laid (string_bytes l.fn.text) (string_bytes l.text) (map translation_line (take l.task-index l.places.tables))
