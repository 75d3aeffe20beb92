use Rattle.std.proofs.Common.{subst}
use Rattle.hp_explore.specs.declared.line.Finish.{Finish}
use Rattle.hp_every.specs.Scheduled.{IsScheduled}
use Rattle.hp_every.proofs.Explored.{scheduled}
use Rattle.hp_every.proofs.Meets.{missed}
use Rattle.hp_every.proofs.laws.what_no_schedule_meets_explored_runs_miss.Goals as goal

pub returns : goal.returns
returns c =
    λ script seed deny kill run events line denials kills conditions none explored few_denials few_kills finished.
    missed script denials kills conditions events none
    (subst (λ (finish : Finish). IsScheduled script denials kills events finish) finished
    (scheduled script seed deny kill run events line denials kills explored few_denials few_kills))
