use Rattle.std.proofs.Common.{arith, inl, inr}
use Rattle.hp_summary.proofs.Noted.{one_waiting, same_waiting}
use Rattle.hp_summary.proofs.noting.mark_held.Goals as goal
use Rattle.hp_summary.proofs.noting.mark_held.Goals.{then-not-held-place+then-is_waiting, else-not-held-place, else-not-held-place-via-then-not-held-place+else-is_waiting, else-not-held-place-via-else-not-held-place}

pub loop-place-preserved : goal.loop-place-preserved
loop-place-preserved c = elim c.if-not-held-place.branch [
  | then-not-held-place+then-is_waiting w ↦ rw w.held-is (one_waiting c.args.core.now c.args.held.now c.loop-place.held
      c.args.tasks c.loop-place.place c.loop-place-test.true (w.is_waiting.ensures.0 w.if-is_waiting.true) c.loop-place.invariant)
  | else-not-held-place w ↦ rw w.held-is (same_waiting c.args.core.now c.args.held.now c.loop-place.held
      c.args.tasks c.loop-place.place (elim w.else-not-held-place.branch [
        | else-not-held-place-via-then-not-held-place+else-is_waiting v ↦ inr (λ held. let told = v.is_waiting.ensures.1 held in
            let bad : ⊥ = cc (told, v.if-is_waiting.false) in bad)
        | else-not-held-place-via-else-not-held-place v ↦ inl v.if-not-held-place.false
      ]) c.loop-place.invariant)
]

pub returns-clause-marked : goal.returns-clause-marked
returns-clause-marked c = λ k lt. c.loop-place.invariant.below k (omega (arith, lt, c.loop-place-test.false))
