use Rattle.std.proofs.Common.{refl}
use Rattle.hp_counterexamples.specs.Runs.{small, with_calls}
use Rattle.hp_counterexamples.proofs.Running.{by_calls, machine}
use Rattle.hp_linux.specs.Rows.{PassesAndPlaces}
use Rattle.hp_linux.specs.Recordings.{lost_at_a_commit}
use Rattle.hp_linux.proofs.Trying.{try_PassesAndPlaces}
use Rattle.hp_linux.proofs.Whole.{overdraws_so}
use Rattle.hp_linux.proofs.the_count_is_lost_at_a_commit.Goals as goal

pub returns : goal.returns
unfolding machine PassesAndPlaces
returns c =
    overdraws_so (with_calls PassesAndPlaces) (by_calls PassesAndPlaces try_PassesAndPlaces)
    (small 2 1) 1 lost_at_a_commit 1 0 refl
