use Rattle.std.proofs.Common.{refl}
use Rattle.hp_counterexamples.specs.Runs.{FreeFramesSuffice, small, with_calls}
use Rattle.hp_counterexamples.specs.Promising.{TakesAnyFrame, any_frame_run}
use Rattle.hp_counterexamples.proofs.Running.{by_calls, machine}
use Rattle.hp_counterexamples.proofs.Breaking.{breaks, overdraws, overdrawn}
use Rattle.hp_counterexamples.proofs.Promising.{try_TakesAnyFrame}
use Rattle.hp_counterexamples.proofs.promised_frames_are_left_alone.Goals as goal

pub returns : goal.returns
unfolding machine TakesAnyFrame
returns c =
    breaks (with_calls TakesAnyFrame) (by_calls TakesAnyFrame try_TakesAnyFrame)
    (small 1 2) 1 any_frame_run FreeFramesSuffice overdraws overdrawn refl
