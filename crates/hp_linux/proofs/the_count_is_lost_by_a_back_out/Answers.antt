use Rattle.std.proofs.Common.{refl}
use Rattle.hp_counterexamples.specs.Runs.{small, with_calls}
use Rattle.hp_counterexamples.proofs.Running.{by_calls, machine}
use Rattle.hp_counterexamples.proofs.Breaking.{miscounts_so}
use Rattle.hp_linux.specs.Rows.{BacksOut}
use Rattle.hp_linux.specs.Recordings.{lost_by_a_back_out}
use Rattle.hp_linux.proofs.Trying.{try_BacksOut}
use Rattle.hp_linux.proofs.the_count_is_lost_by_a_back_out.Goals as goal

pub returns : goal.returns
unfolding machine BacksOut
returns c =
    miscounts_so (with_calls BacksOut) (by_calls BacksOut try_BacksOut) (small 2 1) 2 lost_by_a_back_out 0 1 refl
