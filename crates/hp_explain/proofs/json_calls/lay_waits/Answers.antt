use Rattle.std.proofs.Common.{ap, arith, ◌∙◌}
use Rattle.std.specs.Prelude.{None}
use Rattle.std.proofs.lemmas.List.{get_or_read}
use Rattle.hp_base.specs.Text.{Sizes}
use Rattle.hp_explain.proofs.JsonLaying.{no_wait, one_wait}
use Rattle.hp_explain.proofs.json_calls.lay_waits.Goals as goal

pub loop-number-init : goal.loop-number-init
loop-number-init c = c.clear.ensures.bytes ∙ no_wait c.args.core.now c.args.before.now c.args.after.now

pub loop-number-preserved : goal.loop-number-preserved
loop-number-preserved c =
    let tasks = ap (λ (s : Sizes). s.tasks) c.config-config.ensures in
    let there = c.loop-number-test.true in
    let read_before = get_or_read c.args.before.now c.loop-number.number c.index-before-place.result
    (omega (arith, there, tasks, c.requires.before)) c.index-before-place.is None in
    let read_after = get_or_read c.args.after.now c.loop-number.number c.index-after-place.result
    (omega (arith, there, tasks, c.requires.after)) c.index-after-place.is None in
    one_wait c.args.core.now c.args.before.now c.args.after.now c.loop-number.number c.new.result
    c.index-before-place.result
    c.index-after-place.result _ _ c.new.ensures read_before read_after c.loop-number.invariant c.in_ok-push_change.ensures
