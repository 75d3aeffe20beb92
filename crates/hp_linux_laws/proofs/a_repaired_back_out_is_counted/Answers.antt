use Rattle.std.proofs.Common.{refl}
use Rattle.hp_counterexamples.specs.Runs.{small, with_calls}
use Rattle.hp_counterexamples.proofs.Running.{by_calls, machine}
use Rattle.hp_linux.specs.Recordings.{lost_by_a_back_out}
use Rattle.hp_linux_laws.specs.RepairedRows.{RepairedRow}
use Rattle.hp_linux_laws.proofs.Trying.{ends_right_so, try_RepairedRow}
use Rattle.hp_linux_laws.proofs.a_repaired_back_out_is_counted.Goals as goal

pub returns : goal.returns
unfolding machine RepairedRow
returns c = ends_right_so (with_calls RepairedRow) (by_calls RepairedRow try_RepairedRow) (small 2 1) 2 lost_by_a_back_out 1 refl
