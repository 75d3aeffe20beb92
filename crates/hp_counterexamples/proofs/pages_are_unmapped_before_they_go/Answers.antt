use Rattle.std.proofs.Common.{refl}
use Rattle.hp_machine.specs.Headline.{Agrees}
use Rattle.hp_counterexamples.specs.Runs.{small, with_calls}
use Rattle.hp_counterexamples.specs.Locking.{TruncatesEarly, truncate_early_run}
use Rattle.hp_counterexamples.proofs.Running.{by_calls, machine}
use Rattle.hp_counterexamples.proofs.Breaking.{breaks, disagrees, disagreed}
use Rattle.hp_counterexamples.proofs.Locking.{try_TruncatesEarly}
use Rattle.hp_counterexamples.proofs.pages_are_unmapped_before_they_go.Goals as goal

pub returns : goal.returns
unfolding machine TruncatesEarly
returns c =
    breaks (with_calls TruncatesEarly) (by_calls TruncatesEarly try_TruncatesEarly)
    (small 2 1) 1 truncate_early_run Agrees disagrees disagreed refl
