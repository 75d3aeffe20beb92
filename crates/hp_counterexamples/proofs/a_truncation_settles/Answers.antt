use Rattle.std.proofs.Common.{refl}
use Rattle.hp_counterexamples.specs.Runs.{small, with_calls}
use Rattle.hp_counterexamples.specs.Counting.{GivesNothingBack, nothing_back_run}
use Rattle.hp_counterexamples.proofs.Running.{by_calls, machine}
use Rattle.hp_counterexamples.proofs.Breaking.{miscounts_so}
use Rattle.hp_counterexamples.proofs.Counting.{try_GivesNothingBack}
use Rattle.hp_counterexamples.proofs.a_truncation_settles.Goals as goal

pub returns : goal.returns
unfolding machine GivesNothingBack
returns c =
    miscounts_so (with_calls GivesNothingBack) (by_calls GivesNothingBack try_GivesNothingBack)
    (small 1 1) 1 nothing_back_run 1 0 refl
