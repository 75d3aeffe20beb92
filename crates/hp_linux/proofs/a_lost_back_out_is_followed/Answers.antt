use Rattle.std.proofs.Common.{refl}
use Rattle.hp_counterexamples.specs.Runs.{small, with_calls}
use Rattle.hp_counterexamples.proofs.Running.{by_calls, machine}
use Rattle.hp_linux.specs.Rows.{BacksOut}
use Rattle.hp_linux.specs.Lines.{back_out_lines}
use Rattle.hp_linux.proofs.Trying.{try_BacksOut}
use Rattle.hp_linux.proofs.Following.{follows_so}
use Rattle.hp_linux.proofs.a_lost_back_out_is_followed.Goals as goal

pub returns : goal.returns
unfolding machine BacksOut
returns c = follows_so (with_calls BacksOut) (by_calls BacksOut try_BacksOut) (small 2 1) 2 back_out_lines refl
