use Rattle.std.proofs.Common.{◌≡◌, ◌++◌, drop}
use Rattle.hp_paint.specs.Painting.{word_of, open_behind, painted}
use Rattle.hp_paint.proofs.painting.OpenWord.add_all.Given as goal

-- what was appended and what is to come are what comes of the whole piece
abbrev pub invariant-loop-byte : goal.invariant-loop-byte
invariant-loop-byte l = record {
  text : l.text.items ++ painted l.palette (word_of l.self) (drop l.byte-index l.piece)
      ≡ l.fn.text.items ++ painted l.fn.palette (word_of l.fn.self) l.fn.piece;
  held : open_behind (word_of l.self) (drop l.byte-index l.piece) ≡ open_behind (word_of l.fn.self) l.fn.piece;
}
