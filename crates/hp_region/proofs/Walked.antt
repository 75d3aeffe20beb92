-- What a walk over the regions makes of the set.
use Rattle.std.proofs.Common.{◌≡◌, ℕ, zero, suc, ◌+◌, ◌<◌, ◌≤◌, min, max, false, ◌||◌, List, [], ◌∷◌, length, get_or, drop, refl, arith}
use Rattle.std.specs.Prelude.{nat_le, nat_lt}
use Rattle.std.proofs.lemmas.Bool.{cond_both, ltb-true, ltb-false, leb-false, lt-leb}
use Rattle.std.proofs.lemmas.Bool.Decides.{nat_tests}
use Rattle.hp_base.specs.Indices.{is_within}
use Rattle.hp_base.specs.declared.limits.TheConstants.{LIMIT}
use Rattle.hp_region.specs.declared.region.Region.{Region}
use Rattle.hp_region.specs.Regions.{is_member, IsApartFrom}
use Rattle.hp_region.proofs.Lists.{meets, absorb, with_range}

-- the first region, if there is one, does not end below `from`
abbrev pub EndsAtOrAbove : ℕ → List Region → Type 0
EndsAtOrAbove from [] = Unit {0}
EndsAtOrAbove from (r ∷ rs) = from ≤ r.to

next_ends_above : (low from : ℕ) (rs : List Region) → IsApartFrom low rs → from ≤ low → EndsAtOrAbove from rs
next_ends_above low from [] apart below = tt
next_ends_above low from (r ∷ rs) apart below = omega (arith, apart.0, apart.1)

pub is_member-absorb : (low : ℕ) (rs : List Region) (from to k : ℕ) → IsApartFrom low rs → from < to → EndsAtOrAbove from rs
    → is_member (absorb rs from to) k ≡ (is_within from to k || is_member rs k)
is_member-absorb low [] from to k apart order above = refl
is_member-absorb low (r ∷ rs) from to k apart order above =
    let rest = is_member-absorb (r.to + 1) rs (min from r.from) (max to r.to) k apart.3 (omega arith)
    (next_ends_above (r.to + 1) (min from r.from) rs apart.3 (omega arith)) in
    grind (arith, nat_tests, rest)

pub IsApartFrom_lower : (low high : ℕ) (rs : List Region) → IsApartFrom high rs → low ≤ high → IsApartFrom low rs
IsApartFrom_lower low high [] apart le = tt
IsApartFrom_lower low high (r ∷ rs) apart le = (omega (arith, apart.0), apart.1, apart.2, apart.3)

pub IsApartFrom-absorb : (low : ℕ) (rs : List Region) (from to : ℕ) → IsApartFrom low rs → low ≤ from → from < to → to ≤ LIMIT
    → IsApartFrom low (absorb rs from to)
IsApartFrom-absorb low [] from to apart above order limit = (above, order, limit, tt)
IsApartFrom-absorb low (r ∷ rs) from to apart above order limit =
    cond_both (nat_le r.from to) _ _ (IsApartFrom low)
    (λ e. IsApartFrom-absorb low rs (min from r.from) (max to r.to)
    (IsApartFrom_lower low (r.to + 1) rs apart.3 (omega (arith, apart.0, apart.1))) (omega (arith, apart.0))
    (omega (arith, apart.1)) (omega (arith, apart.2)))
    (λ e. (above, order, limit, (omega (arith, leb-false _ _ e), apart.1, apart.2, apart.3)))

-- the range is added, and nothing else
pub is_member-with_range : (low : ℕ) (rs : List Region) (from to k : ℕ) → IsApartFrom low rs → from < to
    → is_member (with_range rs from to) k ≡ (is_within from to k || is_member rs k)
is_member-with_range low [] from to k apart order = refl
is_member-with_range low (r ∷ rs) from to k apart order =
    let rest = is_member-with_range (r.to + 1) rs from to k apart.3 order in
    cond_both (nat_lt r.to from) _ _ (λ new. is_member new k ≡ (is_within from to k || (is_within r.from r.to k || is_member rs k)))
    (λ e. grind (arith, nat_tests, rest))
    (λ e. is_member-absorb low (r ∷ rs) from to k apart order (ltb-false _ _ e))

pub IsApartFrom-with_range : (low : ℕ) (rs : List Region) (from to : ℕ) → IsApartFrom low rs → low ≤ from → from < to → to ≤ LIMIT
    → IsApartFrom low (with_range rs from to)
IsApartFrom-with_range low [] from to apart above order limit = (above, order, limit, tt)
IsApartFrom-with_range low (r ∷ rs) from to apart above order limit =
    cond_both (nat_lt r.to from) _ _ (IsApartFrom low)
    (λ e. (apart.0, apart.1, apart.2, IsApartFrom-with_range (r.to + 1) rs from to apart.3 (omega (arith, ltb-true _ _ e)) order limit))
    (λ e. IsApartFrom-absorb low (r ∷ rs) from to apart above order limit)

-- past a range that ends below the regions nothing meets it
pub meets_none : (low : ℕ) (rs : List Region) (from to : ℕ) → IsApartFrom low rs → to < low → meets rs from to ≡ false
meets_none low [] from to apart below = refl
meets_none low (r ∷ rs) from to apart below =
    let rest = meets_none (r.to + 1) rs from to apart.3 (omega (arith, apart.0, apart.1)) in
    grind (arith, nat_tests, rest, apart.0)

-- where the region at a place begins past the range, none from there on meets it
pub meets_past : (low : ℕ) (rs : List Region) (at from to : ℕ) (d : Region) → IsApartFrom low rs
    → (at < length rs → to < (get_or rs at d).from) → meets (drop at rs) from to ≡ false
meets_past low [] zero from to d apart past = refl
meets_past low [] (suc at) from to d apart past = refl
meets_past low (r ∷ rs) zero from to d apart past =
    let beyond = past (omega arith) in
    let rest = meets_none (r.to + 1) rs from to apart.3 (omega (arith, apart.1)) in
    grind (arith, nat_tests, rest, beyond)
meets_past low (r ∷ rs) (suc at) from to d apart past = meets_past (r.to + 1) rs at from to d apart.3 (λ within. past (omega arith))

-- where the region at a place begins past [m.from, m.to), none from there on is merged with it
pub absorb_past : (rs : List Region) (at : ℕ) (m : Region) → (at < length rs → m.to < (get_or rs at m).from)
    → absorb (drop at rs) m.from m.to ≡ m ∷ drop at rs
absorb_past [] zero m past = refl
absorb_past [] (suc at) m past = refl
absorb_past (r ∷ rs) zero m past = rw (lt-leb r.from m.to (past (omega arith))) refl
absorb_past (r ∷ rs) (suc at) m past = absorb_past rs at m (λ within. past (omega arith))
