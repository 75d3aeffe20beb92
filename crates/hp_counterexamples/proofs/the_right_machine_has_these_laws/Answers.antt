use Rattle.hp_counterexamples.proofs.Laws.{of_the_headline, of_the_others}
use Rattle.hp_counterexamples.proofs.the_right_machine_has_these_laws.Goals as goal

pub returns-clause-headline : goal.returns-clause-headline
returns-clause-headline c = of_the_headline

pub returns-clause-others : goal.returns-clause-others
returns-clause-others c = of_the_others
