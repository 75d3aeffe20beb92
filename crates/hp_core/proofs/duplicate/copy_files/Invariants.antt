use Rattle.std.specs.Prelude.{take}
use Rattle.std.specs.List.{AllZip}
use Rattle.hp_core.specs.Duplicates.{IsSameFile}
use Rattle.hp_core.proofs.duplicate.copy_files.Given as goal

abbrev pub invariant-loop-file : goal.invariant-loop-file
invariant-loop-file l = AllZip IsSameFile (take l.file-index l.files) l.copies.items
