use Rattle.std.proofs.Common.{◌≡◌, ◌++◌, ◌∷◌, length, take}
use Rattle.std.specs.List.{flat_map}
use Rattle.hp_key.specs.Key.{file_words}
use Rattle.hp_key.proofs.lists.push_files.Given as goal

abbrev pub invariant-loop-file : goal.invariant-loop-file
invariant-loop-file l =
    l.words.items ≡ l.fn.words.items ++ (length l.files ∷ flat_map (file_words l.bank.frames) (take l.file-index l.files))
