use Rattle.std.proofs.Common.{length}
use Rattle.hp_text.specs.Scripts.{AreCalls}
use Rattle.hp_text.proofs.Drafts.{Adding}
use Rattle.hp_text.proofs.script.add_calls.Given as goal

abbrev pub invariant-loop-rest : goal.invariant-loop-rest
invariant-loop-rest l = Adding l.fn.feed l.feed l.fn.draft l.draft l.piece l.rest × AreCalls l.draft

abbrev pub decreases-loop-rest : goal.decreases-loop-rest
decreases-loop-rest l = length l.rest
