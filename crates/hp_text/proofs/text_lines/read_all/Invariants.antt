use Rattle.std.proofs.Common.{◌≡◌}
use Rattle.std.specs.Io.KnownBytes.{Consumes}
use Rattle.hp_text.proofs.text_lines.read_all.Given as goal

abbrev pub invariant-loop : goal.invariant-loop
invariant-loop g l =
    Consumes (g.R.Source.remaining l.fn.reader) (g.R.Source.remaining l.reader) l.text.items
    × (g.R.Source.failures l.reader ≡ g.R.Source.failures l.fn.reader)
