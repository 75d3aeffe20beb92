use Rattle.std.proofs.Common.{ℕ, ◌+◌, ◌%◌, ◌^◌, ap, length}
use Rattle.hp_explore.proofs.SoFar.{starts}
use Rattle.hp_explore.proofs.Awaiting.{is_planned, start_long}
use Rattle.hp_explore.proofs.scheduled_run.ScheduledRun.begin.Goals as goal

pub returns-clause-so_far : goal.returns-clause-so_far
returns-clause-so_far c =
    let plan = c.args.plan.now in
    starts c.args.script.now c.args.seed plan.deny plan.kill c.args.run _
    (record { world = c.in_ok-walk.walk; tasks = c.list_runnable.new.tasks }) (ap (λ (n : ℕ). (c.args.seed + n) % 2 ^ 64) c.from.ensures)
    c.in_ok-walk.ensures

pub returns-clause-between : goal.returns-clause-between
returns-clause-between c = record {
  runnable = c.list_runnable.ensures.tasks;
  in_range = c.list_runnable.ensures.in_range;
  planned =
      is_planned c.args.plan.now c.args.script.now (length c.in_ok-walk.walk.made) c.requires
      (start_long c.args.script.now _ c.in_ok-walk.walk c.in_ok-walk.ensures);
}
