use Rattle.std.proofs.Common.{refl}
use Rattle.hp_counterexamples.specs.Runs.{small, with_calls}
use Rattle.hp_counterexamples.specs.Cutting.{SizesLast, late_touch_run}
use Rattle.hp_counterexamples.proofs.Running.{by_calls, machine}
use Rattle.hp_counterexamples.proofs.Breaking.{miscounts_so}
use Rattle.hp_counterexamples.proofs.Cutting.{try_SizesLast}
use Rattle.hp_counterexamples.proofs.the_size_is_set_first.Goals as goal

pub returns : goal.returns
unfolding machine SizesLast
returns c =
    miscounts_so (with_calls SizesLast) (by_calls SizesLast try_SizesLast)
    (small 2 1) 2 late_touch_run 0 1 refl
