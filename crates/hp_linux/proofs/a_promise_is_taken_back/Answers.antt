use Rattle.std.proofs.Common.{refl}
use Rattle.hp_counterexamples.specs.Runs.{with_calls}
use Rattle.hp_counterexamples.proofs.Running.{by_calls, machine}
use Rattle.hp_linux.specs.Rows.{BacksOut}
use Rattle.hp_linux.specs.Recordings.{two_files, promise_made, promise_taken_back}
use Rattle.hp_linux.proofs.Trying.{try_BacksOut}
use Rattle.hp_linux.proofs.Promising.{found, take_back}
use Rattle.hp_linux.proofs.a_promise_is_taken_back.Goals as goal

pub returns : goal.returns
unfolding machine BacksOut
returns c =
    found (take_back (with_calls BacksOut) (by_calls BacksOut try_BacksOut) (two_files 2 1) 1 promise_made promise_taken_back 1) refl
