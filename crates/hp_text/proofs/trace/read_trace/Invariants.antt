use Rattle.std.proofs.Common.{◌≡◌}
use Rattle.hp_text.proofs.Bytes.{room}
use Rattle.hp_text.proofs.Drafts.{Drafting}
use Rattle.hp_text.proofs.trace.read_trace.Given as goal

abbrev pub invariant-loop-draft : goal.invariant-loop-draft
invariant-loop-draft g l =
    Drafting (g.R.Source.remaining l.fn.reader) (g.R.Source.remaining l.reader) l.feed l.draft
    × (g.R.Source.failures l.reader ≡ g.R.Source.failures l.fn.reader)

abbrev pub decreases-loop-draft : goal.decreases-loop-draft
decreases-loop-draft g l = room l.feed
