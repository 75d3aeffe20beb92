use Rattle.std.proofs.Common.{refl}
use Rattle.hp_counterexamples.specs.Runs.{small, with_calls}
use Rattle.hp_counterexamples.specs.Counting.{RestoresUnmarked, restore_run}
use Rattle.hp_counterexamples.proofs.Running.{by_calls, machine}
use Rattle.hp_counterexamples.proofs.Breaking.{miscounts_so}
use Rattle.hp_counterexamples.proofs.Counting.{try_RestoresUnmarked}
use Rattle.hp_counterexamples.proofs.a_restored_index_stays_reserved.Goals as goal

pub returns : goal.returns
unfolding machine RestoresUnmarked
returns c =
    miscounts_so (with_calls RestoresUnmarked) (by_calls RestoresUnmarked try_RestoresUnmarked)
    (small 1 1) 1 restore_run 1 0 refl
