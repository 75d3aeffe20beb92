use Rattle.std.proofs.Common.{refl}
use Rattle.hp_counterexamples.specs.Runs.{small, with_calls}
use Rattle.hp_counterexamples.specs.Cutting.{SweepsFromSize, low_top_run}
use Rattle.hp_counterexamples.proofs.Running.{by_calls, machine}
use Rattle.hp_counterexamples.proofs.Breaking.{miscounts_so}
use Rattle.hp_counterexamples.proofs.Cutting.{try_SweepsFromSize}
use Rattle.hp_counterexamples.proofs.pages_above_the_size_are_swept.Goals as goal

pub returns : goal.returns
unfolding machine SweepsFromSize
returns c =
    miscounts_so (with_calls SweepsFromSize) (by_calls SweepsFromSize try_SweepsFromSize)
    (small 1 2) 2 low_top_run 0 1 refl
