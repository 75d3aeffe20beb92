-- How many indices a list of regions holds.
use Rattle.std.proofs.Common.{◌≡◌, ℕ, ◌+◌, ◌<◌, ◌≤◌, max, false, ◌&&◌, ◌||◌, List, [], ◌∷◌, refl, sym, ◌∙◌, arith}
use Rattle.std.specs.Prelude.{nat_le}
use Rattle.std.proofs.lemmas.Bool.Decides.{nat_tests}
use Rattle.hp_base.specs.Indices.{is_within, count_within}
use Rattle.hp_base.proofs.Counting.{count_below-sum, count_below-ext, count_below_none, count_below-is_within, count_below_le}
use Rattle.hp_region.specs.declared.region.Region.{Region}
use Rattle.hp_region.specs.Regions.{is_member, IsApartFrom}
use Rattle.hp_region.proofs.Lists.{overlap_of, held_within}

-- nothing lies below the regions
pub is_member_below : (low : ℕ) (rs : List Region) (k : ℕ) → IsApartFrom low rs → k < low → is_member rs k ≡ false
is_member_below low [] k apart below = refl
is_member_below low (r ∷ rs) k apart below =
    let rest = is_member_below (r.to + 1) rs k apart.3 (omega arith) in
    grind (arith, nat_tests, rest)

-- the one region's share of [from, to)
overlap_of-count : (from to : ℕ) (r : Region) → count_within (is_within r.from r.to) from to ≡ overlap_of from to r
unfolding count_within
overlap_of-count from to r =
    count_below-ext (λ k. nat_le from k && is_within r.from r.to k) (is_within (max r.from from) r.to) to
    (λ k below. grind (arith, nat_tests))
    ∙ count_below-is_within (max r.from from) r.to to

-- the walk counts the members
pub held_within-count : (low : ℕ) (rs : List Region) (from to : ℕ) → IsApartFrom low rs
    → held_within rs from to ≡ count_within (is_member rs) from to
unfolding count_within
held_within-count low [] from to apart = sym (count_below_none (λ k. nat_le from k && false) to (λ k below. grind (arith, nat_tests)))
held_within-count low (r ∷ rs) from to apart =
    let rest = held_within-count (r.to + 1) rs from to apart.3 in
    let one = overlap_of-count from to r in
    let both = count_below-sum (λ k. nat_le from k && is_within r.from r.to k) (λ k. nat_le from k && is_member rs k)
    (λ k. nat_le from k && (is_within r.from r.to k || is_member rs k)) to
    (λ k below. let out = is_member_below (r.to + 1) rs k apart.3 in grind (arith, nat_tests, out)) in
    omega (arith, rest, one, both)

pub held_within_le : (rs : List Region) (from to : ℕ) → IsApartFrom 0 rs → held_within rs from to ≤ to
unfolding count_within
held_within_le rs from to apart =
    let counted = held_within-count 0 rs from to apart in
    let bound = count_below_le (λ k. nat_le from k && is_member rs k) to in
    omega (arith, counted, bound)
