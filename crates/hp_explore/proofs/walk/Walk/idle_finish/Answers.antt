use Rattle.std.proofs.Common.{◌≡◌, length}
use Rattle.hp_core.specs.Readers.{config_of}
use Rattle.hp_core.specs.Runs.{IsOfConfig}
use Rattle.hp_machine.specs.Events.{IsReached}
use Rattle.hp_core.specs.State.{as_state}
use Rattle.std.proofs.Common.{subst}
use Rattle.hp_explore.specs.Schedule.{World}
use Rattle.hp_explore.proofs.Runnable.{idle_ends}
use Rattle.hp_explore.proofs.walk.Walk.idle_finish.Goals as goal

pub returns-clause-finish : goal.returns-clause-finish
returns-clause-finish c =
    let seen = c.self.view_is in
    idle_ends c.args.plan.now c.args.self.now c.requires.planned
    (subst (λ (v : World). IsReached (as_state v.core)) seen c.is_reached.ensures)
    (subst (λ (v : World). IsOfConfig v.core) seen c.always.ensures.config)
    (subst (λ (v : World). (config_of v.core).tasks ≡ length v.made) seen c.self.invariant.tasks)
    c.requires.idle
