use Rattle.std.proofs.Common.{refl}
use Rattle.hp_counterexamples.specs.Runs.{FreeFramesSuffice, small, with_calls}
use Rattle.hp_counterexamples.specs.Promising.{PromisesAnyFrame, any_promise_run}
use Rattle.hp_counterexamples.proofs.Running.{by_calls, machine}
use Rattle.hp_counterexamples.proofs.Breaking.{breaks, overdraws, overdrawn}
use Rattle.hp_counterexamples.proofs.Promising.{try_PromisesAnyFrame}
use Rattle.hp_counterexamples.proofs.promised_frames_are_not_promised_again.Goals as goal

pub returns : goal.returns
unfolding machine PromisesAnyFrame
returns c =
    breaks (with_calls PromisesAnyFrame) (by_calls PromisesAnyFrame try_PromisesAnyFrame)
    (small 1 2) 1 any_promise_run FreeFramesSuffice overdraws overdrawn refl
