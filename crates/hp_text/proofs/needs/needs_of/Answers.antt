-- One task more is one more of the range.
use Rattle.std.proofs.Common.{◌-◌, ◌≤◌, ℕ, [], ◌∷◌, ◌++◌, map, sym, ap, ◌∙◌, arith}
use Rattle.std.specs.List.{range_with_len}
use Rattle.std.proofs.lemmas.List.{map_push}
use Rattle.std.proofs.lemmas.List.FromFn.{map-range_with_len_more}
use Rattle.hp_text.specs.Needs.{task_needs}
use Rattle.hp_text.proofs.needs.needs_of.Goals as goal

pub loop-task-preserved : goal.loop-task-preserved
loop-task-preserved c =
    let script = c.args.script.now in
    let f = task_needs script.calls.items script.waits.items script.config.tasks in
    let t = c.loop-task.task in
    let from : 1 ≤ t = omega (arith, c.loop-task.auto.task) in
    ap (map (λ q. map (λ n. n.items) q.items)) c.in_ok-push.ensures.items
    ∙ (map_push (λ q. map (λ n. n.items) q.items) c.loop-task.needs.items c.in_ok-task_needs.field-0
    ∙ ((λ i. c.loop-task.invariant i ++ c.in_ok-task_needs.ensures i ∷ [])
    ∙ (ap (λ (n : ℕ). map f (range_with_len 1 (t - 1)) ++ f n ∷ []) c.new.ensures
    ∙ (sym (map-range_with_len_more f 1 (t - 1) t (omega (arith, from)))
    ∙ ap (λ (n : ℕ). map f (range_with_len 1 n)) (omega (arith, from))))))
