use Rattle.std.proofs.Common.{subst, inr}
use Rattle.std.proofs.lemmas.Result.{err_from_is_err_and}
use Rattle.hp_client.specs.Crew.{AllWork}
use Rattle.hp_client.proofs.pool_driver.PoolDriverDriver.round.Goals as goal

pub returns-in_err-tell_answers-clause-stopped : goal.returns-in_err-tell_answers-clause-stopped
returns-in_err-tell_answers-clause-stopped g c =
    let made =
    subst (λ members. AllWork members (g.C.Team.members c.run.new.arg2)) c.in_default.ensures.ok
    ((c.requires.rests _ _ _).1 _ c.run.ensures) in
    let p = err_from_is_err_and c.from_residual-in_err-tell_answers.result c.from_residual-in_err-tell_answers.ensures.1 in
    rw (p.1, p.2) (inr (inr (made, c.in_err-tell_answers.ensures.err)))

pub returns-clause-round : goal.returns-clause-round
returns-clause-round g c = record {
  seated = c.in_default.ensures.seated;
  made =
      subst (λ members. AllWork members (g.C.Team.members c.run.new.arg2)) c.in_default.ensures.ok
      ((c.requires.rests _ _ _).1 _ c.run.ensures);
  answered = c.in_ok-tell_answers.ensures.ok;
}
