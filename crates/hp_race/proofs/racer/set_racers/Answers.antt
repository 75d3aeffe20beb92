use Rattle.std.proofs.Common.{◌∷◌, [], ap, ◌∙◌, length, length-append, arith}
use Rattle.std.specs.Prelude.{false}
use Rattle.hp_text.specs.Scripts.{calls_of}
use Rattle.hp_race.specs.Racers.{HasMadeIn, IsNew, IsSet}
use Rattle.hp_race.proofs.Making.{idle_made, one_longer, one_more, taken_apart}
use Rattle.hp_race.proofs.racer.set_racers.Goals as goal

pub loop-seat-preserved-then-len-call_range : goal.loop-seat-preserved-then-len-call_range
loop-seat-preserved-then-len-call_range g c =
    let at = c.loop-seat in
    let inv = at.invariant in
    let apart = taken_apart IsNew _ _ c.in-Some.seat c.in-Some.ensures.steps.0 inv.2 in
    let items = c.in_ok-push.ensures.items in
    let short = ap length c.in-Some.ensures.steps.0 in (
      tt,
      tt,
      apart.1,
      inv.3,
      λ mortal.
          one_more (HasMadeIn mortal false c.args.script.now c.args.call_range) _ _ c.in-Some.seat items (inv.4 mortal)
          (idle_made mortal c.args.script.now c.args.call_range c.in-Some.seat c.in_ok-calls.calls.items
          (c.in_ok-calls.ensures ∙ ap (calls_of c.args.script.now.calls.items) c.task.ensures)
          (omega (arith, c.if-len-call_range.true, c.in_ok-calls.calls.ok)) apart.0),
      omega (arith, inv.5, ap length items, length-append at.idle.items (c.in-Some.seat ∷ []), short),
      omega (arith, inv.6, c.in-Some.ensures.steps.1, short),
    )

pub loop-seat-preserved : goal.loop-seat-preserved
loop-seat-preserved g c =
    let at = c.loop-seat in
    let inv = at.invariant in
    let apart = taken_apart IsNew _ _ c.in-Some.seat c.in-Some.ensures.steps.0 inv.2 in
    let items = c.in_ok-push-2.ensures.items in
    let short = ap length c.in-Some.ensures.steps.0 in (
      tt,
      tt,
      apart.1,
      one_more (λ d. IsSet c.args.script.now d.calls.items d.seat) _ _ _ items inv.3
          (c.in_ok-calls.ensures ∙ ap (calls_of c.args.script.now.calls.items) c.task.ensures, apart.0),
      inv.4,
      omega (arith, inv.5, one_longer at.racers.items _ _ items, short),
      omega (arith, inv.6, c.in-Some.ensures.steps.1, short),
    )
