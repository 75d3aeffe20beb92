use Rattle.std.proofs.Common.{ap, arith, ◌+◌, ◌∙◌}
use Rattle.std.specs.Prelude.{None, Some}
use Rattle.hp_draw.specs.declared.layout.TheConstants.{TOP}
use Rattle.hp_draw.proofs.Placing.{none_below, one_below, one_column}
use Rattle.hp_draw.proofs.layout.place_lanes.Goals.{then-is_seen+in_ok-push, else-is_seen+in_ok-push-2}
use Rattle.hp_draw.proofs.layout.place_lanes.Goals as goal

pub loop-is_seen-preserved : goal.loop-is_seen-preserved
loop-is_seen-preserved c =
    elim c.if-is_seen.branch [
      | then-is_seen+in_ok-push w ↦ (
          let tops = ap (λ v. v.items) w.tops-is ∙ w.in_ok-push.ensures.items in
          let same = w.from.ensures in
          let low = c.loop-is_seen.invariant.2 in (
            one_column c.loop-is_seen.tops.items c.if-is_seen.tops.items c.args.seen.now c.loop-is_seen.is_seen-index
                (Some (c.loop-is_seen.foot + 18)) tops c.loop-is_seen-test.true w.if-is_seen.true c.loop-is_seen.invariant.0,
            one_below c.args.tall TOP c.loop-is_seen.foot (c.loop-is_seen.foot + 18) c.if-is_seen.foot c.loop-is_seen.tops.items
                c.if-is_seen.tops.items tops (omega arith) (omega (arith, same, w.foot-is)) c.loop-is_seen.invariant.1,
            omega (arith, same, low, w.foot-is, c.requires.tall),
          )
          )
      | else-is_seen+in_ok-push-2 w ↦ (
          let tops = ap (λ v. v.items) w.tops-is ∙ w.in_ok-push-2.ensures.items in
          let low = c.loop-is_seen.invariant.2 in (
            one_column c.loop-is_seen.tops.items c.if-is_seen.tops.items c.args.seen.now c.loop-is_seen.is_seen-index None tops
                c.loop-is_seen-test.true w.if-is_seen.false c.loop-is_seen.invariant.0,
            none_below c.args.tall TOP c.loop-is_seen.foot c.if-is_seen.foot c.loop-is_seen.tops.items c.if-is_seen.tops.items
                tops w.foot-is
                c.loop-is_seen.invariant.1,
            omega (arith, low, w.foot-is),
          )
          )
    ]
