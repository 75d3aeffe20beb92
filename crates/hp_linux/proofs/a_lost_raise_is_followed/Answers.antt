use Rattle.std.proofs.Common.{refl}
use Rattle.hp_counterexamples.specs.Runs.{small, with_calls}
use Rattle.hp_counterexamples.proofs.Running.{by_calls, machine}
use Rattle.hp_linux.specs.Rows.{FreesLate, LinuxRows}
use Rattle.hp_linux.specs.Lines.{raise_lines}
use Rattle.hp_linux.proofs.Trying.{try_FreesLate}
use Rattle.hp_linux.proofs.Following.{follows_so}
use Rattle.hp_linux.proofs.a_lost_raise_is_followed.Goals as goal

pub returns : goal.returns
unfolding machine FreesLate LinuxRows
returns c = follows_so (with_calls FreesLate) (by_calls FreesLate try_FreesLate) (small 2 1) 1 raise_lines refl
