use Rattle.std.proofs.Common.{arith}
use Rattle.hp_hunt.proofs.Watched.{all_met, one_missed}
use Rattle.hp_hunt.proofs.watching.Watches.are_met.Goals as goal

pub returns-then-not-is_choice_met-clause-missed : goal.returns-then-not-is_choice_met-clause-missed
returns-then-not-is_choice_met-clause-missed c =
    λ is conditions first moments last know. one_missed conditions _ first moments know c.loop-watch.watch-index c.watch-item.result
    (omega (arith, c.loop-watch-test.true, c.deref-watch-items.ensures.len)) (rw c.deref-watch-items.ensures.value at c.watch-item.is)
    (λ meets. let told = (c.is_choice_met.ensures conditions first moments last know).1 meets in let bad : ⊥ = cc in bad)

pub returns-clause-met : goal.returns-clause-met
returns-clause-met c =
    λ is conditions first moments last know. all_met conditions _ first moments know
    (λ k d within. c.loop-watch.invariant conditions first moments last know k d
    (omega (arith, within, c.loop-watch-test.false, c.deref-watch-items.ensures.len)))
