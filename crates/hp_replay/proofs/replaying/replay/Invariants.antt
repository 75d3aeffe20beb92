use Rattle.std.proofs.Common.{◌≡◌}
use Rattle.hp_text.proofs.Bytes.{room}
use Rattle.hp_replay.proofs.Replays.{Going}
use Rattle.hp_replay.proofs.replaying.replay.Given as goal

abbrev pub invariant-loop-lines : goal.invariant-loop-lines
invariant-loop-lines g l =
    Going (g.R.Source.remaining l.fn.reader) (g.R.Source.remaining l.reader) l.feed l.core
    (g.W.Sink.contents l.fn.writer) (g.W.Sink.contents l.writer)
    × (g.R.Source.failures l.reader ≡ g.R.Source.failures l.fn.reader) × (g.W.Sink.failures l.writer ≡ g.W.Sink.failures l.fn.writer)

abbrev pub decreases-loop-lines : goal.decreases-loop-lines
decreases-loop-lines g l = room l.feed
