use Rattle.std.proofs.Common.{refl}
use Rattle.hp_counterexamples.specs.Runs.{small, with_calls}
use Rattle.hp_counterexamples.specs.Counting.{RestoresUncounted, restore_run}
use Rattle.hp_counterexamples.proofs.Running.{by_calls, machine}
use Rattle.hp_counterexamples.proofs.Breaking.{miscounts_so}
use Rattle.hp_counterexamples.proofs.Counting.{try_RestoresUncounted}
use Rattle.hp_counterexamples.proofs.a_touch_restores_the_count.Goals as goal

pub returns : goal.returns
unfolding machine RestoresUncounted
returns c =
    miscounts_so (with_calls RestoresUncounted) (by_calls RestoresUncounted try_RestoresUncounted)
    (small 1 1) 1 restore_run 0 1 refl
