-- The status of the program where it can't read its words.
use Rattle.std.specs.Prelude.{ℕ}
use Rattle.hugepool.specs.declared.words.NoWords.{NoWords}
use Rattle.hugepool.specs.declared.words.NoWords.TheVariants.{Memory, NoText}

-- 1 where memory was refused, 2 where they ask for nothing
abbrev pub status_without : NoWords → ℕ
status_without Memory = 1
status_without NoText = 2
