use Rattle.std.proofs.Common.{refl}
use Rattle.hp_counterexamples.specs.Runs.{small, with_calls}
use Rattle.hp_counterexamples.specs.Cutting.{VisitsPagesOnly, pages_only_run}
use Rattle.hp_counterexamples.proofs.Running.{by_calls, machine}
use Rattle.hp_counterexamples.proofs.Breaking.{miscounts_so}
use Rattle.hp_counterexamples.proofs.Cutting.{try_VisitsPagesOnly}
use Rattle.hp_counterexamples.proofs.bare_indices_are_visited.Goals as goal

pub returns : goal.returns
unfolding machine VisitsPagesOnly
returns c =
    miscounts_so (with_calls VisitsPagesOnly) (by_calls VisitsPagesOnly try_VisitsPagesOnly)
    (small 2 1) 1 pages_only_run 0 1 refl
