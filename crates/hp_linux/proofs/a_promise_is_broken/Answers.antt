use Rattle.std.proofs.Common.{refl}
use Rattle.hp_counterexamples.specs.Runs.{with_calls}
use Rattle.hp_counterexamples.proofs.Running.{by_calls, machine}
use Rattle.hp_linux.specs.Rows.{PassesAndPlaces}
use Rattle.hp_linux.specs.Recordings.{promise_lost, two_files}
use Rattle.hp_linux.proofs.Trying.{try_PassesAndPlaces}
use Rattle.hp_linux.proofs.Promising.{waits_so}
use Rattle.hp_linux.proofs.a_promise_is_broken.Goals as goal

pub returns : goal.returns
unfolding machine PassesAndPlaces
returns c =
    waits_so (with_calls PassesAndPlaces) (by_calls PassesAndPlaces try_PassesAndPlaces) (two_files 2 2) 2 promise_lost 0 1 refl
