use Rattle.std.proofs.Common.{◌≡◌, ◌++◌}
use Rattle.std.specs.Prelude.{string_bytes}
use Rattle.hp_replay.specs.Outcomes.{files_text}
use Rattle.hp_replay.proofs.state.push_files.Given as goal

-- the lines of the files so far
abbrev pub invariant-loop-file : goal.invariant-loop-file
invariant-loop-file l = string_bytes l.text ≡ string_bytes l.fn.text ++ files_text l.core l.file
