use Rattle.std.proofs.Common.{ap, ◌∙◌}
use Rattle.hp_base.specs.Text.{Sizes}
use Rattle.hp_client.specs.Crew.{members_of, new_seats}
use Rattle.hp_client.specs.Driving.{IsHeard, IsUnheard}
use Rattle.hp_client.specs.PoolRounds.{PoolRound, PoolRoundStops}
use Rattle.hp_client.proofs.Carrying.{over_pool, stopped_over_pool}
use Rattle.hp_pool_commands.proofs.carrying.run_on_pool.Goals as goal

pub returns-clause-ok : goal.returns-clause-ok
returns-clause-ok g c = over_pool c.new-driver.result c.run_workload.new.driver
    (λ d. record { members = d.crew.members.items; heard = d.heard.items })
    (IsHeard (λ d. d.heard.items) (λ old calls answers new. PoolRound old.crew.members.items calls answers new.crew.members.items))
    (λ old calls answers new made. made)
    c.args.workload (
      ap (λ crew. crew.members.items) c.new-driver.ensures.crew ∙ c.in_ok-crew.ensures.members
          ∙ ap (λ (s : Sizes). members_of (new_seats s.tasks)) c.requires.config,
      c.new-driver.ensures.heard,
    )
    c.run_workload.result c.run_workload.ensures.report c.run_workload.ensures.tally

pub returns-clause-err : goal.returns-clause-err
returns-clause-err g c = stopped_over_pool c.new-driver.result c.run_workload.new.driver
    (λ d. record { members = d.crew.members.items; heard = d.heard.items })
    (IsHeard (λ d. d.heard.items) (λ old calls answers new. PoolRound old.crew.members.items calls answers new.crew.members.items))
    (λ old calls answers new made. made)
    c.args.workload (
      ap (λ crew. crew.members.items) c.new-driver.ensures.crew ∙ c.in_ok-crew.ensures.members
          ∙ ap (λ (s : Sizes). members_of (new_seats s.tasks)) c.requires.config,
      c.new-driver.ensures.heard,
    )
    (IsUnheard (λ d. d.heard.items) (λ fault old calls new. PoolRoundStops fault old.crew.members.items calls new.crew.members.items))
    (λ fault old calls new stops. stops)
    c.run_workload.result c.run_workload.ensures.stopped
