use Rattle.std.proofs.Common.{◌∙◌, ap, arith, length, subst, sym, List, ℕ}
use Rattle.hp_frames.specs.Records.{AreWithin}
use Rattle.hp_frames.proofs.Chains.{chained_next}
use Rattle.hp_frames.proofs.bank.resize.RetiredIterator.next.Goals as goal

pub invariant_of-self : goal.invariant_of-self
invariant_of-self c =
    let taken = c.take.ensures in
    let further = chained_next c.self.inside.records.now _ _ _ _ _ taken.first taken.rest taken.count in
    let below = subst (λ (xs : List ℕ). AreWithin (length c.self.inside.records.now) xs) further c.self.invariant.within in
    record {
      within = below.1;
      counted = omega (arith, ap length further, c.self.invariant.counted, taken.count);
    }

pub returns-clause-steps : goal.returns-clause-steps
returns-clause-steps c =
    let taken = c.take.ensures in
    sym c.self.view_is ∙ chained_next c.self.inside.records.now _ _ _ _ _ taken.first taken.rest taken.count

pub returns-clause-goes : goal.returns-clause-goes
returns-clause-goes c =
    let taken = c.take.ensures in
    let further = chained_next c.self.inside.records.now _ _ _ _ _ taken.first taken.rest taken.count in
    let less = ap length (sym c.self.view_is ∙ further) in
    record {
      on = λ _. (tt, tt, omega (arith, less));
      keeps = tt;
      rests = λ _. tt;
    }
