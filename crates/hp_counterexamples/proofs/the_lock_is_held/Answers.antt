use Rattle.std.proofs.Common.{refl}
use Rattle.hp_machine.specs.Headline.{IsBelow}
use Rattle.hp_counterexamples.specs.Runs.{small, with_calls}
use Rattle.hp_counterexamples.specs.Locking.{UnlocksEarly, unlock_run}
use Rattle.hp_counterexamples.proofs.Running.{by_calls, machine}
use Rattle.hp_counterexamples.proofs.Breaking.{breaks, strays, strayed}
use Rattle.hp_counterexamples.proofs.Locking.{try_UnlocksEarly}
use Rattle.hp_counterexamples.proofs.the_lock_is_held.Goals as goal

pub returns : goal.returns
unfolding machine UnlocksEarly
returns c =
    breaks (with_calls UnlocksEarly) (by_calls UnlocksEarly try_UnlocksEarly)
    (small 1 1) 1 unlock_run IsBelow strays strayed refl
