use Rattle.std.proofs.Common.{refl}
use Rattle.hp_counterexamples.specs.Runs.{with_calls}
use Rattle.hp_counterexamples.proofs.Running.{by_calls, machine}
use Rattle.hp_linux.specs.Rows.{BacksOut}
use Rattle.hp_linux.specs.Recordings.{two_files, promise_made, promise_taken_back, promise_touched}
use Rattle.hp_linux.proofs.Trying.{try_BacksOut}
use Rattle.hp_linux.proofs.Promising.{find_no_frame, found}
use Rattle.hp_linux.proofs.a_promised_touch_finds_no_frame.Goals as goal

pub returns : goal.returns
unfolding machine BacksOut
returns c =
    found (find_no_frame (with_calls BacksOut) (by_calls BacksOut try_BacksOut) (two_files 2 1) 1 promise_made promise_taken_back
    promise_touched 1) refl
