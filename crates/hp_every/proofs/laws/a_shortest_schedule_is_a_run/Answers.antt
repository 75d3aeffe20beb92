use Rattle.std.proofs.Common.{subst}
use Rattle.hp_explore.specs.declared.line.Finish.{Finish}
use Rattle.hp_every.specs.Scheduled.{IsScheduled}
use Rattle.hp_every.proofs.Explored.{scheduled}
use Rattle.hp_every.proofs.Meets.{missed_before}
use Rattle.hp_every.proofs.Runs.{one_length, shortest_meets}
use Rattle.hp_every.proofs.laws.a_shortest_schedule_is_a_run.Goals as goal

pub returns : goal.returns
returns c = record {
  meets = shortest_meets;
  length = one_length;
  fewer = λ script seed deny kill run events others line denials kills conditions h explored few_denials few_kills finished fewer.
      missed_before script denials kills conditions events others h
      (subst (λ (finish : Finish). IsScheduled script denials kills others finish) finished
      (scheduled script seed deny kill run others line denials kills explored few_denials few_kills))
      fewer;
}
