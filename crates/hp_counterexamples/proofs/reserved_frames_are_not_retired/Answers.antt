use Rattle.std.proofs.Common.{refl}
use Rattle.hp_counterexamples.specs.Runs.{FreeFramesSuffice, small, with_resizes}
use Rattle.hp_counterexamples.specs.Promising.{RetiresReserved, resize_reserved_run}
use Rattle.hp_counterexamples.proofs.Running.{by_resizes, machine}
use Rattle.hp_counterexamples.proofs.Breaking.{breaks, overdraws, overdrawn}
use Rattle.hp_counterexamples.proofs.Promising.{try_RetiresReserved}
use Rattle.hp_counterexamples.proofs.reserved_frames_are_not_retired.Goals as goal

pub returns : goal.returns
unfolding machine RetiresReserved
returns c =
    breaks (with_resizes RetiresReserved) (by_resizes RetiresReserved try_RetiresReserved)
    (small 1 2) 2 resize_reserved_run FreeFramesSuffice overdraws overdrawn refl
