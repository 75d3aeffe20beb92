use Rattle.std.proofs.Common.{◌∙◌, ap}
use Rattle.hp_explore.specs.Explored.{last_finish, line_of}
use Rattle.hp_explore.specs.SoFar.{RunState}
use Rattle.hp_explore.specs.declared.line.Finish.{Finish}
use Rattle.hp_explore.proofs.SoFar.{ends_as}
use Rattle.hp_explore.proofs.scheduled_run.ScheduledRun.line.Goals as goal

pub returns-clause-line : goal.returns-clause-line
returns-clause-line c =
    let plan = c.args.plan.now in
    ends_as plan c.args.self.now c.args.run c.line.result c.requires.between.runnable c.requires.over
    (c.line.ensures ∙ ap (λ (f : Finish). line_of c.args.run f c.self.inside.walk) c.last_finish-finish.ensures.finish
    ∙ ap (λ (r : RunState). line_of c.args.run (last_finish plan r.world r.tasks) r.world) c.self.view_is)
