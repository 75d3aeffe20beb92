use Rattle.std.proofs.Common.{◌≡◌, ◌++◌, drop}
use Rattle.hp_objects.specs.Objects.{line_of, line_behind, objects}
use Rattle.hp_objects.proofs.objects.OpenLine.add_all.Given as goal

-- what was appended and what is to come are what comes of the whole piece
abbrev pub invariant-loop-byte : goal.invariant-loop-byte
invariant-loop-byte l = record {
  text : l.text.items ++ objects l.output (line_of l.self) (drop l.byte-index l.piece)
      ≡ l.fn.text.items ++ objects l.fn.output (line_of l.fn.self) l.fn.piece;
  line : line_behind l.output (line_of l.self) (drop l.byte-index l.piece) ≡ line_behind l.fn.output (line_of l.fn.self) l.fn.piece;
}
