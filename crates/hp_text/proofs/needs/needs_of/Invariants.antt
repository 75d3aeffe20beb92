use Rattle.std.proofs.Common.{◌≡◌, ◌-◌, map}
use Rattle.std.specs.List.{range_with_len}
use Rattle.hp_text.specs.Needs.{task_needs}
use Rattle.hp_text.proofs.needs.needs_of.Given as goal

abbrev pub invariant-loop-task : goal.invariant-loop-task
invariant-loop-task l =
    map (λ queue. map (λ needs. needs.items) queue.items) l.needs.items
    ≡ map (task_needs l.script.calls.items l.script.waits.items l.script.config.tasks) (range_with_len 1 (l.task - 1))
