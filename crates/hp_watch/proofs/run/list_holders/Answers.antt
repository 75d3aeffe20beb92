use Rattle.std.proofs.Common.{◌≡◌, ℕ, List, ap, arith, length, length-append, refl, subst, sym, ◌∙◌}
use Rattle.std.specs.Prelude.{Option}
use Rattle.hp_watch.specs.Holders.{AreHoldersOf}
use Rattle.hp_watch.proofs.Holders.{no_holder, one_holder}
use Rattle.hp_watch.proofs.run.list_holders.Goals as goal

pub loop-number-init : goal.loop-number-init
loop-number-init c =
    subst (λ (items : List (Option ℕ)). (length items ≡ 0) × AreHoldersOf c.args.core.now items) (sym c.clear.ensures.items)
    (refl, no_holder c.args.core.now)

pub loop-number-preserved : goal.loop-number-preserved
loop-number-preserved c =
    let more = c.in_ok-push.ensures.items in
    let long = ap length more ∙ length-append c.loop-number.holders.items _ in (
      omega (arith, long, c.loop-number.invariant.0),
      one_holder c.args.core.now c.loop-number.number c.new.result c.loop-number.holders.items c.push.new.self.items
          c.waits_for.result c.loop-number.invariant.0 c.new.ensures c.waits_for.ensures more c.loop-number.invariant.1,
    )
