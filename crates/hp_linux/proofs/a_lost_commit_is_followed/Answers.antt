use Rattle.std.proofs.Common.{refl}
use Rattle.hp_counterexamples.specs.Runs.{small, with_calls}
use Rattle.hp_counterexamples.proofs.Running.{by_calls, machine}
use Rattle.hp_linux.specs.Rows.{PassesAndPlaces}
use Rattle.hp_linux.specs.Lines.{commit_lines}
use Rattle.hp_linux.proofs.Trying.{try_PassesAndPlaces}
use Rattle.hp_linux.proofs.Following.{follows_so}
use Rattle.hp_linux.proofs.a_lost_commit_is_followed.Goals as goal

pub returns : goal.returns
unfolding machine PassesAndPlaces
returns c = follows_so (with_calls PassesAndPlaces) (by_calls PassesAndPlaces try_PassesAndPlaces) (small 2 1) 1 commit_lines refl
