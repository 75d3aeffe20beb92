use Rattle.std.proofs.Common.{refl}
use Rattle.hp_counterexamples.specs.Runs.{small, with_calls}
use Rattle.hp_counterexamples.proofs.Running.{by_calls, machine}
use Rattle.hp_linux_laws.specs.RepairedRaces.{raced_at_a_commit}
use Rattle.hp_linux_laws.specs.RepairedRows.{RepairedRow}
use Rattle.hp_linux_laws.proofs.Trying.{ends_right_so, try_RepairedRow}
use Rattle.hp_linux_laws.proofs.a_repaired_truncation_waits.Goals as goal

pub returns : goal.returns
unfolding machine RepairedRow
returns c = ends_right_so (with_calls RepairedRow) (by_calls RepairedRow try_RepairedRow) (small 2 1) 1 raced_at_a_commit 0 refl
