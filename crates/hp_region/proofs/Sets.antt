-- What is said of a list of regions, said of the set.
use Rattle.std.proofs.Common.{◌≡◌, ℕ, ◌+◌, ◌-◌, ◌<◌, ◌≤◌, Bool, true, false, cond, not, ◌&&◌, ◌||◌, List, [], ◌∷◌, length, get_or}
use Rattle.std.proofs.Common.{refl, sym, ap, ◌∙◌, true≢false, subst, arith}
use Rattle.std.specs.Prelude.{nat_lt, nat_eq}
use Rattle.std.proofs.Math.Path.{fun_ext}
use Rattle.std.proofs.lemmas.Bool.Decides.{nat_tests}
use Rattle.hp_base.specs.Indices.{is_within, add_range, cut_tail, touches, splits, region_count}
use Rattle.hp_base.specs.Numbers.{put}
use Rattle.hp_base.specs.declared.limits.TheConstants.{LIMIT}
use Rattle.hp_base.proofs.Counting.{count_below-sum, count_below_none, count_below-is_within}
use Rattle.hp_base.proofs.Puts.{put_self}
use Rattle.hp_region.specs.declared.region.Region.{Region}
use Rattle.hp_region.specs.Regions.{is_member, IsApartFrom}
use Rattle.hp_region.proofs.Lists.{meets, falls_apart, held_within, ended_by, with_range, without, below}
use Rattle.hp_region.proofs.Held.{is_member_below, held_within-count}
use Rattle.hp_region.proofs.Walked.{is_member-with_range, IsApartFrom-with_range}
use Rattle.hp_region.proofs.Sought.{is_member-without, is_member-below, IsApartFrom-without, IsApartFrom-below}
use Rattle.hp_region.proofs.Sought.{falls_apart_none_outside, falls_apart_is, held_place}

-- a region falls apart without i where i and both its neighbours are in the set
pub falls_apart-splits : (low : ℕ) (rs : List Region) (i : ℕ) → IsApartFrom low rs → falls_apart rs i ≡ splits (is_member rs) i
falls_apart-splits low [] i apart = grind (arith, nat_tests)
falls_apart-splits low (r ∷ rs) i apart =
    let rest = falls_apart-splits (r.to + 1) rs i apart.3 in
    let none = falls_apart_none_outside rs i in
    let before = is_member_below (r.to + 1) rs (i - 1) apart.3 in
    let here = is_member_below (r.to + 1) rs i apart.3 in
    let after = is_member_below (r.to + 1) rs (i + 1) apart.3 in
    grind (arith, nat_tests, rest, none, before, here, after)

-- a region meets a range exactly where it has an index of the range or beside it
meets-held : (low : ℕ) (rs : List Region) (from to : ℕ) → IsApartFrom low rs → from < to
    → meets rs from to ≡ nat_lt 0 (held_within rs (from - 1) (to + 1))
meets-held low [] from to apart order = grind (arith, nat_tests)
meets-held low (r ∷ rs) from to apart order =
    let rest = meets-held (r.to + 1) rs from to apart.3 order in
    let some = apart.1 in
    grind (arith, nat_tests, rest, some)

pub meets-touches : (rs : List Region) (from to : ℕ) → IsApartFrom 0 rs → from < to → meets rs from to ≡ touches (is_member rs) from to
unfolding touches
meets-touches rs from to apart order =
    meets-held 0 rs from to apart order ∙ ap (nat_lt 0) (held_within-count 0 rs (from - 1) (to + 1) apart)

-- each region ends once
region_count-length : (low : ℕ) (rs : List Region) → IsApartFrom low rs → region_count LIMIT (is_member rs) ≡ length rs
unfolding region_count
region_count-length low [] apart = count_below_none (λ k. false) LIMIT (λ k below. refl)
region_count-length low (r ∷ rs) apart =
    let rest = region_count-length (r.to + 1) rs apart.3 in
    let last : ℕ → Bool = is_within (r.to - 1) r.to in
    let parts = count_below-sum last (λ k. is_member rs k && not (is_member rs (k + 1)))
    (λ k. (is_within r.from r.to k || is_member rs k) && not (is_within r.from r.to (k + 1) || is_member rs (k + 1))) LIMIT
    (λ k below.
    let here = is_member_below (r.to + 1) rs k apart.3 in
    let after = is_member_below (r.to + 1) rs (k + 1) apart.3 in
    let some = apart.1 in
    grind (arith, nat_tests, here, after, some)) in
    let one = count_below-is_within (r.to - 1) r.to LIMIT in
    omega (arith, rest, parts, one, apart.1, apart.2)

pub regions_are : (rs : List Region) → IsApartFrom 0 rs → length rs ≡ region_count LIMIT (is_member rs)
regions_are rs apart = sym (region_count-length 0 rs apart)

pub with_range-add_range : (rs : List Region) (from to : ℕ) → IsApartFrom 0 rs → from < to
    → is_member (with_range rs from to) ≡ add_range (is_member rs) from to
unfolding add_range
with_range-add_range rs from to apart order = fun_ext (λ k. is_member-with_range 0 rs from to k apart order)

pub below-cut_tail : (rs : List Region) (i : ℕ) → IsApartFrom 0 rs → is_member (below rs i) ≡ cut_tail (is_member rs) i
unfolding cut_tail
below-cut_tail rs i apart = fun_ext (λ k. is_member-below 0 rs i k apart)

one_less : (k i : ℕ) (b : Bool) → (not (nat_eq k i) && b) ≡ cond (nat_eq k i) false b
one_less k i b = grind (arith, nat_tests)

pub without-put : (rs : List Region) (i : ℕ) → IsApartFrom 0 rs → is_member (without rs i) ≡ put (is_member rs) i false
unfolding put
without-put rs i apart = fun_ext (λ k. is_member-without 0 rs i k apart ∙ one_less k i (is_member rs k))

-- an index that isn't there leaves the set as it is
pub absent-put : (set : ℕ → Bool) (i : ℕ) → set i ≡ false → set ≡ put set i false
absent-put set i out = sym (put_self set i) ∙ ap (put set i) out

pub member_below_limit : (low : ℕ) (rs : List Region) (i : ℕ) → IsApartFrom low rs → is_member rs i ≡ true → i < LIMIT
member_below_limit low [] i apart there = absurd (true≢false (sym there))
member_below_limit low (r ∷ rs) i apart there =
    elim (is_within r.from r.to i) as (λ b. is_within r.from r.to i ≡ b → (b || is_member rs i) ≡ true → i < LIMIT) [
      | true ↦ λ e h. omega (arith, within_below r.from r.to i e, apart.2)
      | false ↦ λ e h. member_below_limit (r.to + 1) rs i apart.3 h
    ] refl there
  where
    within_below : (from to i : ℕ) → is_within from to i ≡ true → i < to
    within_below from to i e = grind (arith, nat_tests)

-- what the lists that a walk makes are, as sets
pub with_range_is : (rs new : List Region) (from to : ℕ) → IsApartFrom 0 rs → from < to → to ≤ LIMIT → new ≡ with_range rs from to
    → (IsApartFrom 0 new) × (is_member new ≡ add_range (is_member rs) from to)
with_range_is rs new from to apart order limit is = (
  let P : List Region → Type 0 = IsApartFrom 0 in
      subst P (sym is) (IsApartFrom-with_range 0 rs from to apart (omega arith) order limit),
  ap is_member is ∙ with_range-add_range rs from to apart order,
)

pub without_is : (rs new : List Region) (i : ℕ) → IsApartFrom 0 rs → new ≡ without rs i
    → (IsApartFrom 0 new) × (is_member new ≡ put (is_member rs) i false)
without_is rs new i apart is = (
  let P : List Region → Type 0 = IsApartFrom 0 in
      subst P (sym is) (IsApartFrom-without 0 rs i apart),
  ap is_member is ∙ without-put rs i apart,
)

pub below_is : (rs new : List Region) (i : ℕ) → IsApartFrom 0 rs → new ≡ below rs i
    → (IsApartFrom 0 new) × (is_member new ≡ cut_tail (is_member rs) i)
below_is rs new i apart is = (
  let P : List Region → Type 0 = IsApartFrom 0 in
      subst P (sym is) (IsApartFrom-below 0 rs i apart),
  ap is_member is ∙ below-cut_tail rs i apart,
)

inside : (from to i : ℕ) → is_within from to i ≡ true → (from ≤ i) × (i < to)
inside from to i e = (grind (arith, nat_tests), grind (arith, nat_tests))

-- the region r at a place holds i
pub record HoldsThere (rs : List Region) (at i : ℕ) (r : Region) : Type 0 where
  pub sought : at ≡ ended_by rs i
  pub begins : r.from ≤ i
  pub ends : i < r.to
  pub split : splits (is_member rs) i ≡ (nat_lt r.from i && nat_lt (i + 1) r.to)

pub holds_there : (rs : List Region) (at i : ℕ) (r : Region) → IsApartFrom 0 rs → at < length rs → r ≡ get_or rs at r
    → is_within (get_or rs at r).from (get_or rs at r).to i ≡ true → HoldsThere rs at i r
holds_there rs at i r apart within read holds =
    let sought = held_place 0 rs at i r apart within holds in
    let there = inside (get_or rs at r).from (get_or rs at r).to i holds in
    let begins : r.from ≤ i = omega (arith, there, ap (λ (x : Region). x.from) read) in
    record {
      sought = sought;
      begins = begins;
      ends = omega (arith, there, ap (λ (x : Region). x.to) read);
      split = sym (falls_apart-splits 0 rs i apart) ∙ falls_apart_is rs at i r apart sought within read begins;
    }
