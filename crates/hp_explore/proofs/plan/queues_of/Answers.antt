-- One more queue is one more task of the range.
use Rattle.std.proofs.Common.{◌≡◌, ◌+◌, ◌-◌, ◌≤◌, sym, arith}
use Rattle.std.proofs.lemmas.List.{map-append}
use Rattle.std.proofs.lemmas.List.FromFn.{map-range_with_len_more}
use Rattle.hp_text.specs.Scripts.{calls_of}
use Rattle.hp_explore.proofs.plan.queues_of.Goals as goal

pub loop-task-preserved : goal.loop-task-preserved
loop-task-preserved c =
    let t = c.loop-task.task in
    let from : 1 ≤ t = omega arith in
    let before : t - 1 + 1 ≡ t + 1 - 1 = omega arith in
    rw (c.in_ok-push.ensures.items, map-append, c.in_ok-calls_of.ensures, c.new.ensures, c.loop-task.invariant, ← before)
    (sym (map-range_with_len_more (calls_of c.args.script.now.calls.items) 1 (t - 1) t (omega arith)))
