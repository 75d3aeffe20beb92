use Rattle.std.proofs.Common.{◌≡◌, length}
use Rattle.hp_text.proofs.Writes.{Writing}
use Rattle.hp_text.proofs.writing.write_text.Given as goal

abbrev pub invariant-loop-rest : goal.invariant-loop-rest
invariant-loop-rest g l =
    Writing (g.W.Sink.contents l.fn.writer) (g.W.Sink.contents l.writer) l.text l.rest
    × (g.W.Sink.failures l.writer ≡ g.W.Sink.failures l.fn.writer)

abbrev pub decreases-loop-rest : goal.decreases-loop-rest
decreases-loop-rest g l = length l.rest
