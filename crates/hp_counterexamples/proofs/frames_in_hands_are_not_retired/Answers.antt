use Rattle.std.proofs.Common.{refl}
use Rattle.hp_counterexamples.specs.Runs.{FramesAreInOnePlace, small, with_resizes}
use Rattle.hp_counterexamples.specs.Promising.{RetiresHands, resize_hand_run}
use Rattle.hp_counterexamples.proofs.Running.{by_resizes, machine}
use Rattle.hp_counterexamples.proofs.Breaking.{breaks, tears, torn}
use Rattle.hp_counterexamples.proofs.Promising.{try_RetiresHands}
use Rattle.hp_counterexamples.proofs.frames_in_hands_are_not_retired.Goals as goal

pub returns : goal.returns
unfolding machine RetiresHands
returns c =
    breaks (with_resizes RetiresHands) (by_resizes RetiresHands try_RetiresHands)
    (small 1 1) 2 resize_hand_run FramesAreInOnePlace tears torn refl
