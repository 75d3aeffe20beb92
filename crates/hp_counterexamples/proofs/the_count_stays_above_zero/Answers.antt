use Rattle.std.proofs.Common.{refl}
use Rattle.hp_laws.specs.Laws.{NeverShort}
use Rattle.hp_counterexamples.specs.Runs.{small, with_calls}
use Rattle.hp_counterexamples.specs.Cutting.{VisitsPagesOnly, short_run}
use Rattle.hp_counterexamples.proofs.Running.{by_calls, machine}
use Rattle.hp_counterexamples.proofs.Breaking.{breaks, shorts, shorted}
use Rattle.hp_counterexamples.proofs.Cutting.{try_VisitsPagesOnly}
use Rattle.hp_counterexamples.proofs.the_count_stays_above_zero.Goals as goal

pub returns : goal.returns
unfolding machine VisitsPagesOnly
returns c =
    breaks (with_calls VisitsPagesOnly) (by_calls VisitsPagesOnly try_VisitsPagesOnly)
    (small 2 1) 1 short_run NeverShort shorts shorted refl
