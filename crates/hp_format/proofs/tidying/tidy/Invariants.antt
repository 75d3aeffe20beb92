use Rattle.std.proofs.Common.{drop}
use Rattle.hp_format.proofs.Tidied.{IsLaid}
use Rattle.hp_format.proofs.tidying.tidy.Given as goal

abbrev pub invariant-loop-byte : goal.invariant-loop-byte
invariant-loop-byte l = IsLaid l.line l.words.items l.is_behind (drop l.byte-index l.line)
