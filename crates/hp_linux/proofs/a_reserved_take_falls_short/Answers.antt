use Rattle.std.proofs.Common.{refl}
use Rattle.hp_laws.specs.Laws.{NeverShort}
use Rattle.hp_counterexamples.specs.Runs.{small, with_calls}
use Rattle.hp_counterexamples.specs.Cutting.{VisitsPagesOnly}
use Rattle.hp_counterexamples.proofs.Running.{by_calls, machine}
use Rattle.hp_counterexamples.proofs.Breaking.{breaks}
use Rattle.hp_counterexamples.proofs.Cutting.{try_VisitsPagesOnly}
use Rattle.hp_linux.specs.Recordings.{short_at_a_take}
use Rattle.hp_linux.proofs.Whole.{takes_short, took_short}
use Rattle.hp_linux.proofs.a_reserved_take_falls_short.Goals as goal

pub returns : goal.returns
unfolding machine VisitsPagesOnly
returns c =
    breaks (with_calls VisitsPagesOnly) (by_calls VisitsPagesOnly try_VisitsPagesOnly)
    (small 2 1) 1 short_at_a_take NeverShort takes_short took_short refl
