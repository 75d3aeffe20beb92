use Rattle.std.proofs.Common.{◌≡◌}
use Rattle.hp_text.proofs.Bytes.{room}
use Rattle.hp_text.proofs.Calls.{Checking}
use Rattle.hp_text.proofs.checking.check_trace.Given as goal

abbrev pub invariant-loop-n : goal.invariant-loop-n
invariant-loop-n g l =
    Checking (g.R.Source.remaining l.fn.reader) (g.R.Source.remaining l.reader) l.feed
    × (g.R.Source.failures l.reader ≡ g.R.Source.failures l.fn.reader)

abbrev pub decreases-loop-n : goal.decreases-loop-n
decreases-loop-n g l = room l.feed
