use Rattle.std.proofs.Common.{refl}
use Rattle.hp_counterexamples.specs.Runs.{small, with_calls}
use Rattle.hp_counterexamples.proofs.Running.{by_calls, machine}
use Rattle.hp_linux.specs.Rows.{LinuxRows}
use Rattle.hp_linux.specs.Recordings.{lost_at_a_commit}
use Rattle.hp_linux.proofs.Trying.{try_LinuxRows}
use Rattle.hp_linux.proofs.Whole.{overdraws_so}
use Rattle.hp_linux.proofs.the_count_is_lost_at_a_commit_by_all_rows.Goals as goal

pub returns : goal.returns
unfolding machine LinuxRows
returns c =
    overdraws_so (with_calls LinuxRows) (by_calls LinuxRows try_LinuxRows) (small 2 1) 1 lost_at_a_commit 1 0 refl
