use Rattle.std.proofs.Common.{◌≡◌, ◌++◌}
use Rattle.std.specs.Prelude.{string_bytes}
use Rattle.hp_explain.specs.JsonObjects.{files_objects}
use Rattle.hp_explain.proofs.json_end.push_files.Given as goal

-- the objects of the files so far
abbrev pub invariant-loop-file : goal.invariant-loop-file
invariant-loop-file l = string_bytes l.text ≡ string_bytes l.fn.text ++ files_objects l.core l.file
