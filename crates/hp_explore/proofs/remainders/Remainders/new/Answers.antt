use Rattle.std.proofs.Common.{◌+◌, ◌∙◌, ℕ, ap, sym, arith, inl, inr, slice_index, slice_set}
use Rattle.std.proofs.lemmas.List.{get_or-set_other, get_or-set_same, length-set}
use Rattle.std.proofs.Math.Arith.{lt_of_le-ne}
use Rattle.hp_base.proofs.Puts.{same_or_other}
use Rattle.hp_explore.specs.Inverses.{inverse_of}
use Rattle.hp_explore.proofs.remainders.Remainders.new.Goals as goal

pub loop-place-preserved : goal.loop-place-preserved
loop-place-preserved c =
    let old = c.loop-place.inverses in
    let place = c.loop-place.place in
    record {
      long = length-set old place c.inverse.result ∙ c.loop-place.invariant.long;
      made = λ k within. elim (same_or_other k place) [
        | inl e ↦ ap (λ (i : ℕ). slice_index (slice_set old place c.inverse.result) i) e
            ∙ get_or-set_same old place c.inverse.result 0 (omega (arith, c.loop-place.invariant.long, c.loop-place-test.true))
            ∙ c.inverse.ensures ∙ ap (λ (i : ℕ). inverse_of (i + 1)) (sym e)
        | inr other ↦ get_or-set_other old place k c.inverse.result 0 other
            ∙ c.loop-place.invariant.made k (lt_of_le-ne (omega (arith, within)) other)
      ];
    }

pub invariant_of-result : goal.invariant_of-result
invariant_of-result c =
    λ i within. c.loop-place.invariant.made i (omega (arith, within, c.loop-place.invariant.long, c.loop-place-test.false))
