use Rattle.std.proofs.Common.{subst}
use Rattle.std.proofs.lemmas.Result.{on_ok_weaker, IfErr-weaker}
use Rattle.hp_client.specs.Crew.{AllWork}
use Rattle.hp_client.specs.PoolRounds.{FirstUnended, FinishFails}
use Rattle.hp_client.proofs.pool_driver.PoolDriverDriver.finish.Goals as goal

pub returns-clause-ended : goal.returns-clause-ended
returns-clause-ended g c =
    let made =
    subst (λ members. AllWork members (g.C.Team.members c.run.new.arg2)) c.resume_all.ensures
    ((c.requires.rests _ _ _).1 _ c.run.ensures) in
    on_ok_weaker c.finished.result (λ ended. (made, ended)) c.finished.ensures.ok

pub returns-clause-stopped : goal.returns-clause-stopped
returns-clause-stopped g c =
    let made =
    subst (λ members. AllWork members (g.C.Team.members c.run.new.arg2)) c.resume_all.ensures
    ((c.requires.rests _ _ _).1 _ c.run.ensures) in
    IfErr-weaker c.finished.result (λ why. FirstUnended (g.C.Team.members c.run.new.arg2) why)
    (λ why. FinishFails why (g.C.Team.members c.args.self.now.crew) (g.C.Team.members c.run.new.arg2)) (λ why first. (made, first))
    c.finished.ensures.err
