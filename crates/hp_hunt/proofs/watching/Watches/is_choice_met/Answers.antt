use Rattle.std.proofs.Common.{◌<◌, length, arith}
use Rattle.hp_hunt.proofs.Watched.{choice_missed, knows_at, none_met}
use Rattle.hp_hunt.proofs.watching.Watches.is_choice_met.Goals as goal
use Rattle.hp_hunt.proofs.watching.Watches.is_choice_met.Goals.{else-watch-choice-via-then-watch-choice+else-is_met, else-watch-choice-via-else-watch-choice}

pub loop-watch-preserved : goal.loop-watch-preserved
loop-watch-preserved c =
    let there : c.loop-watch.watch-index < length c.args.self.now.watches.items =
    omega (arith, c.loop-watch-test.true, c.deref-watch-items.ensures.len) in
    let is = rw c.deref-watch-items.ensures.value at c.watch-item.is in
    λ conditions first moments last know. none_met c.args.self.now.watches.items c.args.choice c.loop-watch.watch-index c.watch-item.result first
    moments is there
    (λ same meets. elim c.else-watch-choice.branch [
      | else-watch-choice-via-then-watch-choice+else-is_met w ↦ (
          let knows = knows_at c.args.self.now.watches.items moments c.loop-watch.watch-index c.watch-item.result know.each there is in
          let told = (w.is_met.ensures first moments last knows).1 meets in
          let no_more = w.if-is_met.false in
          let bad : ⊥ = cc in
          bad)
      | else-watch-choice-via-else-watch-choice w ↦ absurd (w.if-watch-choice.false same)
    ])
    (c.loop-watch.invariant conditions first moments last know)

pub returns : goal.returns
returns c =
    λ conditions first moments last know. (
      λ h. let bad : ⊥ = cc in absurd bad,
      λ h. absurd (choice_missed conditions _ first moments know c.args.choice
          (λ k d within. c.loop-watch.invariant conditions first moments last know k d
          (omega (arith, within, c.loop-watch-test.false, c.deref-watch-items.ensures.len))) h),
    )
