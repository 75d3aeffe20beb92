use Rattle.std.proofs.Common.{refl}
use Rattle.hp_machine.specs.Headline.{IsBelow}
use Rattle.hp_counterexamples.specs.Runs.{small, with_calls}
use Rattle.hp_counterexamples.proofs.Running.{by_calls, machine}
use Rattle.hp_counterexamples.proofs.Breaking.{breaks, strays, strayed}
use Rattle.hp_linux.specs.Rows.{LooksForPagesFirst}
use Rattle.hp_linux.specs.Recordings.{above_the_size}
use Rattle.hp_linux.proofs.Trying.{try_LooksForPagesFirst}
use Rattle.hp_linux.proofs.pages_above_the_size_are_translated.Goals as goal

pub returns : goal.returns
unfolding machine LooksForPagesFirst
returns c =
    breaks (with_calls LooksForPagesFirst) (by_calls LooksForPagesFirst try_LooksForPagesFirst)
    (small 1 1) 1 above_the_size IsBelow strays strayed refl
