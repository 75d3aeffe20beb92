use Rattle.std.proofs.Common.{refl}
use Rattle.hp_counterexamples.specs.Runs.{small, with_calls}
use Rattle.hp_counterexamples.specs.Cutting.{LooksNoMore, late_touch_run}
use Rattle.hp_counterexamples.proofs.Running.{by_calls, machine}
use Rattle.hp_counterexamples.proofs.Breaking.{miscounts_so}
use Rattle.hp_counterexamples.proofs.Cutting.{try_LooksNoMore}
use Rattle.hp_counterexamples.proofs.the_size_is_looked_at_under_the_slot.Goals as goal

pub returns : goal.returns
unfolding machine LooksNoMore
returns c =
    miscounts_so (with_calls LooksNoMore) (by_calls LooksNoMore try_LooksNoMore)
    (small 2 1) 2 late_touch_run 0 1 refl
