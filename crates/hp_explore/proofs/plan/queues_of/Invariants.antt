use Rattle.std.proofs.Common.{◌≡◌, ◌-◌, map}
use Rattle.std.specs.List.{range_with_len}
use Rattle.hp_text.specs.Scripts.{calls_of}
use Rattle.hp_explore.proofs.plan.queues_of.Given as goal

abbrev pub invariant-loop-task : goal.invariant-loop-task
invariant-loop-task l = map (λ v. v.items) l.queues.items ≡ map (calls_of l.script.calls.items) (range_with_len 1 (l.task - 1))
