-- What the place that `seek` finds says of the regions.
use Rattle.std.proofs.Common.{◌≡◌, ℕ, zero, suc, ◌+◌, ◌-◌, ◌/◌, ◌*◌, ◌^◌, ◌<◌, ◌≤◌, Bool, true, false, cond, not, ◌&&◌, ◌||◌}
use Rattle.std.proofs.Common.{List, [], ◌∷◌, ◌++◌, length, get_or, set, take, drop, refl, sym, ap, ◌∙◌, arith, add-one}
use Rattle.std.specs.Prelude.{nat_le, nat_lt, nat_eq, count_by}
use Rattle.std.proofs.Math.Nat.{pow-suc, div-lt_iff_lt-mul}
use Rattle.std.specs.List.{insert, remove}
use Rattle.std.proofs.lemmas.List.{take_more_set, append-nil}
use Rattle.std.proofs.lemmas.Bool.{cond_both, ltb-true, ltb-false, leb-true, leb-false, le-ltb, lt-ltb, le-leb, lt-leb}
use Rattle.std.proofs.lemmas.Bool.Decides.{nat_tests}
use Rattle.std.proofs.lemmas.Grind.{common_steps}
use Rattle.std.proofs.lemmas.List.Folds.{list_any-append}
use Rattle.hp_base.specs.Indices.{is_within}
use Rattle.hp_base.specs.declared.limits.TheConstants.{LIMIT}
use Rattle.hp_region.specs.declared.region.Region.{Region}
use Rattle.hp_region.specs.Regions.{is_member, IsApartFrom}
use Rattle.hp_region.proofs.Lists.{meets, falls_apart, absorb, with_range, held_within, ended_by, around, without, below}
use Rattle.hp_region.proofs.Held.{is_member_below}
use Rattle.hp_region.proofs.Walked.{IsApartFrom_lower}

-- none of the regions above i ends by i
pub ended_by_none : (low : ℕ) (rs : List Region) (i : ℕ) → IsApartFrom low rs → i ≤ low → ended_by rs i ≡ 0
ended_by_none low [] i apart above = refl
ended_by_none low (r ∷ rs) i apart above =
    let rest = ended_by_none (r.to + 1) rs i apart.3 (omega (arith, apart.0, apart.1)) in
    grind (arith, nat_tests, rest, apart.0, apart.1)

-- i is a member exactly where the region at that place begins at or below it
pub is_member-sought : (low : ℕ) (rs : List Region) (i : ℕ) (d : Region) → IsApartFrom low rs
    → is_member rs i ≡ (nat_lt (ended_by rs i) (length rs) && nat_le (get_or rs (ended_by rs i) d).from i)
is_member-sought low [] i d apart = refl
is_member-sought low (r ∷ rs) i d apart =
    let rest = is_member-sought (r.to + 1) rs i d apart.3 in
    cond_both (nat_le r.to i) (suc (ended_by rs i)) (ended_by rs i)
    (λ n. (is_within r.from r.to i || is_member rs i) ≡ (nat_lt n (suc (length rs)) && nat_le (get_or (r ∷ rs) n d).from i))
    (λ e. grind (arith, nat_tests, rest))
    (λ e.
    let inside = leb-false _ _ e in
    let none = ended_by_none (r.to + 1) rs i apart.3 (omega arith) in
    let out = is_member_below (r.to + 1) rs i apart.3 (omega arith) in
    rw none (grind (arith, nat_tests, out)))

-- a region that is there or not
is_member_when : (b : Bool) (r : Region) (k : ℕ) → is_member (cond b (r ∷ []) []) k ≡ (b && is_within r.from r.to k)
is_member_when true r k = grind (arith, nat_tests)
is_member_when false r k = refl

is_member-around : (r : Region) (i k : ℕ) → r.from ≤ i → i < r.to → is_member (around r i) k ≡ (not (nat_eq k i) && is_within r.from r.to k)
is_member-around r i k above inside =
    let left : Region = record { from = r.from; to = i } in
    let right : Region = record { from = i + 1; to = r.to } in
    let parts = list_any-append (λ (s : Region). is_within s.from s.to k) (cond (nat_lt r.from i) (left ∷ []) [])
    (cond (nat_lt (i + 1) r.to) (right ∷ []) []) in
    let first = is_member_when (nat_lt r.from i) left k in
    let second = is_member_when (nat_lt (i + 1) r.to) right k in
    parts ∙ rw (first, second) (grind (arith, nat_tests))

-- without i, and nothing else
pub is_member-without : (low : ℕ) (rs : List Region) (i k : ℕ) → IsApartFrom low rs
    → is_member (without rs i) k ≡ (not (nat_eq k i) && is_member rs k)
is_member-without low [] i k apart = grind (arith, nat_tests)
is_member-without low (r ∷ rs) i k apart =
    let rest = is_member-without (r.to + 1) rs i k apart.3 in
    let out = λ (h : k < r.to + 1). is_member_below (r.to + 1) rs k apart.3 h in
    cond_both (nat_le r.to i) _ _ (λ new. is_member new k ≡ (not (nat_eq k i) && (is_within r.from r.to k || is_member rs k)))
    (λ e. grind (arith, nat_tests, rest))
    (λ e. cond_both (nat_lt i r.from) _ _ (λ new. is_member new k ≡ (not (nat_eq k i) && (is_within r.from r.to k || is_member rs k)))
    (λ f. grind (arith, nat_tests, out, apart.1))
    (λ f.
    let parts = list_any-append (λ (s : Region). is_within s.from s.to k) (around r i) rs in
    let left = is_member-around r i k (ltb-false _ _ f) (leb-false _ _ e) in
    parts ∙ rw left (grind (arith, nat_tests, out))))

pub is_member-below : (low : ℕ) (rs : List Region) (i k : ℕ) → IsApartFrom low rs
    → is_member (below rs i) k ≡ (nat_lt k i && is_member rs k)
is_member-below low [] i k apart = grind (arith, nat_tests)
is_member-below low (r ∷ rs) i k apart =
    let rest = is_member-below (r.to + 1) rs i k apart.3 in
    cond_both (nat_le r.to i) _ _ (λ new. is_member new k ≡ (nat_lt k i && (is_within r.from r.to k || is_member rs k)))
    (λ e. grind (arith, nat_tests, rest))
    (λ e. let out = λ (h : k < r.to + 1). is_member_below (r.to + 1) rs k apart.3 h in
    cond_both (nat_lt r.from i) _ _ (λ new. is_member new k ≡ (nat_lt k i && (is_within r.from r.to k || is_member rs k)))
    (λ f. grind (arith, nat_tests, out))
    (λ f. grind (arith, nat_tests, out)))

pub IsApartFrom-below : (low : ℕ) (rs : List Region) (i : ℕ) → IsApartFrom low rs → IsApartFrom low (below rs i)
IsApartFrom-below low [] i apart = tt
IsApartFrom-below low (r ∷ rs) i apart =
    cond_both (nat_le r.to i) _ _ (IsApartFrom low)
    (λ e. (apart.0, apart.1, apart.2, IsApartFrom-below (r.to + 1) rs i apart.3))
    (λ e. cond_both (nat_lt r.from i) _ _ (IsApartFrom low)
    (λ f. (apart.0, ltb-true _ _ f, omega (arith, apart.2, leb-false _ _ e), tt))
    (λ f. tt))

pub IsApartFrom-without : (low : ℕ) (rs : List Region) (i : ℕ) → IsApartFrom low rs → IsApartFrom low (without rs i)
IsApartFrom-without low [] i apart = tt
IsApartFrom-without low (r ∷ rs) i apart =
    cond_both (nat_le r.to i) _ _ (IsApartFrom low)
    (λ e. (apart.0, apart.1, apart.2, IsApartFrom-without (r.to + 1) rs i apart.3))
    (λ e. cond_both (nat_lt i r.from) _ _ (IsApartFrom low) (λ f. apart)
    (λ f.
    let above = ltb-false _ _ f in
    let inside = leb-false _ _ e in
    let left : Region = record { from = r.from; to = i } in
    let right : Region = record { from = i + 1; to = r.to } in
    let second = cond (nat_lt (i + 1) r.to) (right ∷ []) [] in
    let high : (from : ℕ) → from ≤ i + 1 → IsApartFrom from (second ++ rs) = λ from le.
    cond_both (nat_lt (i + 1) r.to) (right ∷ []) [] (λ xs. IsApartFrom from (xs ++ rs))
    (λ g. (le, ltb-true _ _ g, apart.2, apart.3))
    (λ g. IsApartFrom_lower from (r.to + 1) rs apart.3 (omega arith)) in
    cond_both (nat_lt r.from i) (left ∷ []) [] (λ xs. IsApartFrom low ((xs ++ second) ++ rs))
    (λ g. (apart.0, ltb-true _ _ g, omega (arith, apart.2), high (i + 1) (omega arith)))
    (λ g. high low (omega (arith, apart.0)))))

-- nothing below the regions falls_apart one
splits_none : (low : ℕ) (rs : List Region) (i : ℕ) → IsApartFrom low rs → i < low → falls_apart rs i ≡ false
splits_none low [] i apart above = refl
splits_none low (r ∷ rs) i apart above =
    let rest = splits_none (r.to + 1) rs i apart.3 (omega (arith, apart.0, apart.1)) in
    grind (arith, nat_tests, rest, apart.0, apart.1)

-- only the region at that place can be split
pub falls_apart-sought : (low : ℕ) (rs : List Region) (i : ℕ) (d : Region) → IsApartFrom low rs
    → falls_apart rs i ≡ (nat_lt (ended_by rs i) (length rs)
    && (nat_lt (get_or rs (ended_by rs i) d).from i && nat_lt (i + 1) (get_or rs (ended_by rs i) d).to))
falls_apart-sought low [] i d apart = refl
falls_apart-sought low (r ∷ rs) i d apart =
    let rest = falls_apart-sought (r.to + 1) rs i d apart.3 in
    cond_both (nat_le r.to i) (suc (ended_by rs i)) (ended_by rs i)
    (λ n. ((nat_lt r.from i && nat_lt (i + 1) r.to) || falls_apart rs i) ≡ (nat_lt n (suc (length rs))
    && (nat_lt (get_or (r ∷ rs) n d).from i && nat_lt (i + 1) (get_or (r ∷ rs) n d).to)))
    (λ e. grind (arith, nat_tests, rest))
    (λ e.
    let inside = leb-false _ _ e in
    let none = ended_by_none (r.to + 1) rs i apart.3 (omega arith) in
    let out = splits_none (r.to + 1) rs i apart.3 (omega arith) in
    rw none (grind (arith, nat_tests, out)))

-- the region at that place ends above i
pub sought_above : (low : ℕ) (rs : List Region) (i : ℕ) (d : Region) → IsApartFrom low rs → ended_by rs i < length rs
    → i < (get_or rs (ended_by rs i) d).to
sought_above low [] i d apart = λ within. absurd (omega arith)
sought_above low (r ∷ rs) i d apart =
    let rest = sought_above (r.to + 1) rs i d apart.3 in
    cond_both (nat_le r.to i) (suc (ended_by rs i)) (ended_by rs i) (λ n. n < suc (length rs) → i < (get_or (r ∷ rs) n d).to)
    (λ e within. rest (omega arith))
    (λ e within.
    let inside = leb-false _ _ e in
    let none = ended_by_none (r.to + 1) rs i apart.3 (omega arith) in
    rw none inside)

-- a region at any place ends above the bound from which the regions are apart
starts_above : (low : ℕ) (rs : List Region) (k : ℕ) (d : Region) → IsApartFrom low rs → k < length rs → low ≤ (get_or rs k d).to
starts_above low [] k d apart within = absurd (omega arith)
starts_above low (r ∷ rs) zero d apart within = omega (arith, apart.0, apart.1)
starts_above low (r ∷ rs) (suc k) d apart within = omega (arith, starts_above (r.to + 1) rs k d apart.3 (omega arith), apart.0, apart.1)

from_above : (low : ℕ) (rs : List Region) (k : ℕ) (d : Region) → IsApartFrom low rs → k < length rs → low ≤ (get_or rs k d).from
from_above low [] k d apart within = absurd (omega arith)
from_above low (r ∷ rs) zero d apart within = apart.0
from_above low (r ∷ rs) (suc k) d apart within = omega (arith, from_above (r.to + 1) rs k d apart.3 (omega arith), apart.0, apart.1)

-- a region that ends by i stands before that place, and one that does not stands at or past it
pub ended_before : (low : ℕ) (rs : List Region) (i k : ℕ) (d : Region) → IsApartFrom low rs → k < length rs
    → (get_or rs k d).to ≤ i → k < ended_by rs i
ended_before low [] i k d apart = λ within ends. absurd (omega arith)
ended_before low (r ∷ rs) i zero d apart = λ within ends. rw (le-leb r.to i ends) (omega arith)
ended_before low (r ∷ rs) i (suc k) d apart = λ within ends.
    let rest = ended_before (r.to + 1) rs i k d apart.3 (omega arith) ends in
    let over = starts_above (r.to + 1) rs k d apart.3 (omega arith) in
    rw (le-leb r.to i (omega (arith, over))) (omega (arith, rest))

pub ended_past : (low : ℕ) (rs : List Region) (i k : ℕ) (d : Region) → IsApartFrom low rs → k < length rs → i < (get_or rs k d).to
    → ended_by rs i ≤ k
ended_past low [] i k d apart = λ within over. absurd (omega arith)
ended_past low (r ∷ rs) i zero d apart =
    λ within over. rw (lt-leb r.to i over, ended_by_none (r.to + 1) rs i apart.3 (omega arith)) (omega arith)
ended_past low (r ∷ rs) i (suc k) d apart = λ within over.
    let rest = ended_past (r.to + 1) rs i k d apart.3 (omega arith) over in
    grind (arith, rest)

pub ended_by-le-length : (rs : List Region) (i : ℕ) → ended_by rs i ≤ length rs
ended_by-le-length [] i = omega arith
ended_by-le-length (r ∷ rs) i = let rest = ended_by-le-length rs i in grind (arith, rest)

-- the count of the regions that end by i
pub ended_by-count_by : (rs : List Region) (i : ℕ) → ended_by rs i ≡ count_by (λ r. nat_le r.to i) rs
ended_by-count_by [] i = refl
ended_by-count_by (r ∷ rs) i = let rest = ended_by-count_by rs i in grind (arith, common_steps, rest)

nat_lt-suc : (m n : ℕ) → nat_lt (suc m) (suc n) ≡ nat_lt m n
nat_lt-suc m n = grind (arith, nat_tests)

zero_lt : (n : ℕ) → nat_lt 0 (suc n) ≡ true
zero_lt n = grind (arith, nat_tests)

-- the cut, by the place
pub below-sought : (low : ℕ) (rs : List Region) (i : ℕ) (d : Region) → IsApartFrom low rs
    → below rs i ≡ take (ended_by rs i) rs
    ++ cond (nat_lt (ended_by rs i) (length rs) && nat_lt (get_or rs (ended_by rs i) d).from i)
    (record { from = (get_or rs (ended_by rs i) d).from; to = i } ∷ []) []
below-sought low [] i d apart = refl
below-sought low (r ∷ rs) i d apart =
    let rest = below-sought (r.to + 1) rs i d apart.3 in
    elim (nat_le r.to i) as
    (λ b. nat_le r.to i ≡ b
    → cond b (r ∷ below rs i) (cond (nat_lt r.from i) (record { from = r.from; to = i } ∷ []) []) ≡ take
    (cond b (suc (ended_by rs i)) (ended_by rs i)) (r ∷ rs)
    ++ cond (nat_lt (cond b (suc (ended_by rs i)) (ended_by rs i)) (suc (length rs))
    && nat_lt (get_or (r ∷ rs) (cond b (suc (ended_by rs i)) (ended_by rs i)) d).from i)
    (record { from = (get_or (r ∷ rs) (cond b (suc (ended_by rs i)) (ended_by rs i)) d).from; to = i } ∷ []) []) [
      | true ↦ λ e. rw (nat_lt-suc (ended_by rs i) (length rs)) (ap (λ xs. r ∷ xs) rest)
      | false ↦ λ e. rw (ended_by_none (r.to + 1) rs i apart.3 (omega (arith, leb-false _ _ e)), zero_lt (length rs)) refl
    ] refl

-- the regions without i, by the place
pub without-sought : (low : ℕ) (rs : List Region) (i : ℕ) (d : Region) → IsApartFrom low rs → ended_by rs i < length rs
    → (get_or rs (ended_by rs i) d).from ≤ i
    → without rs i ≡ take (ended_by rs i) rs ++ (around (get_or rs (ended_by rs i) d) i ++ drop (suc (ended_by rs i)) rs)
without-sought low [] i d apart = λ within above. absurd (omega arith)
without-sought low (r ∷ rs) i d apart =
    let rest = without-sought (r.to + 1) rs i d apart.3 in
    elim (nat_le r.to i) as
    (λ b. nat_le r.to i ≡ b → cond b (suc (ended_by rs i)) (ended_by rs i) < suc (length rs)
    → (get_or (r ∷ rs) (cond b (suc (ended_by rs i)) (ended_by rs i)) d).from ≤ i
    → cond b (r ∷ without rs i) (cond (nat_lt i r.from) (r ∷ rs) (around r i ++ rs)) ≡ take
    (cond b (suc (ended_by rs i)) (ended_by rs i)) (r ∷ rs)
    ++ (around (get_or (r ∷ rs) (cond b (suc (ended_by rs i)) (ended_by rs i)) d) i
    ++ drop (suc (cond b (suc (ended_by rs i)) (ended_by rs i))) (r ∷ rs))) [
      | true ↦ λ e within above. ap (λ xs. r ∷ xs) (rest (omega arith) above)
      | false ↦ λ e. rw (ended_by_none (r.to + 1) rs i apart.3 (omega (arith, leb-false _ _ e)))
          (λ within above. rw (le-ltb i r.from above) refl)
    ] refl

set-split : {X : Type 0} (xs : List X) (i : ℕ) (y : X) → i < length xs → set xs i y ≡ take i xs ++ (y ∷ drop (suc i) xs)
set-split [] i y within = absurd (omega arith)
set-split (x ∷ xs) zero y within = refl
set-split (x ∷ xs) (suc i) y within = ap (λ zs. x ∷ zs) (set-split xs i y (omega arith))

insert-set : {X : Type 0} (xs : List X) (i : ℕ) (y z : X) → i < length xs
    → insert (set xs i y) (suc i) z ≡ take i xs ++ (y ∷ z ∷ drop (suc i) xs)
insert-set [] i y z within = absurd (omega arith)
insert-set (x ∷ xs) zero y z within = refl
insert-set (x ∷ xs) (suc i) y z within = ap (λ zs. x ∷ zs) (insert-set xs i y z (omega arith))

-- a region that i would split holds it
pub falls_apart_none_outside : (rs : List Region) (i : ℕ) → is_member rs i ≡ false → falls_apart rs i ≡ false
falls_apart_none_outside [] i out = refl
falls_apart_none_outside (r ∷ rs) i out =
    let rest = falls_apart_none_outside rs i in
    grind (arith, nat_tests, rest)

-- the edits at that place which take i out of the region r there
module _ (rs : List Region) (at i : ℕ) (r : Region) (apart : IsApartFrom 0 rs) (sought : at ≡ ended_by rs i)
    (within : at < length rs) (read : r ≡ get_or rs at r) (above : r.from ≤ i) where
  without_at : without rs i ≡ take at rs ++ (around r i ++ drop (suc at) rs)
  without_at =
      let here : ended_by rs i < length rs = omega arith in
      let same : get_or rs (ended_by rs i) r ≡ r = rw (← sought) (sym read) in
      rw (without-sought 0 rs i r apart here (rw same above), same, ← sought) refl

  pub removed_is : nat_lt r.from i ≡ false → nat_lt (i + 1) r.to ≡ false → remove rs at ≡ without rs i
  removed_is first second = sym (without_at ∙ rw (first, second) refl)

  pub raised_is : nat_lt r.from i ≡ false → nat_lt (i + 1) r.to ≡ true → set rs at (record { from = i + 1; to = r.to }) ≡ without rs i
  raised_is first second = set-split rs at (record { from = i + 1; to = r.to }) within ∙ sym (without_at ∙ rw (first, second) refl)

  pub lowered_is : nat_lt r.from i ≡ true → nat_lt (i + 1) r.to ≡ false → set rs at (record { from = r.from; to = i }) ≡ without rs i
  lowered_is first second = set-split rs at (record { from = r.from; to = i }) within ∙ sym (without_at ∙ rw (first, second) refl)

  pub split_is : nat_lt r.from i ≡ true → nat_lt (i + 1) r.to ≡ true
      → insert (set rs at (record { from = r.from; to = i })) (at + 1) (record { from = i + 1; to = r.to }) ≡ without rs i
  split_is first second =
      rw add-one (insert-set rs at (record { from = r.from; to = i }) (record { from = i + 1; to = r.to }) within
      ∙ sym (without_at ∙ rw (first, second) refl))

  pub falls_apart_is : falls_apart rs i ≡ (nat_lt r.from i && nat_lt (i + 1) r.to)
  falls_apart_is =
      let same : get_or rs (ended_by rs i) r ≡ r = rw (← sought) (sym read) in
      falls_apart-sought 0 rs i r apart ∙ rw (same, ← sought, lt-ltb at (length rs) within) refl

-- every region ends within the limit
pub limit_at : (low : ℕ) (rs : List Region) (k : ℕ) (d : Region) → IsApartFrom low rs → k < length rs → (get_or rs k d).to ≤ LIMIT
limit_at low [] k d apart within = absurd (omega arith)
limit_at low (r ∷ rs) zero d apart within = apart.2
limit_at low (r ∷ rs) (suc k) d apart within = limit_at (r.to + 1) rs k d apart.3 (omega arith)

-- the cut at that place, where the region there begins below i, and where none does
pub cut_through : (rs : List Region) (at i : ℕ) (r : Region) → IsApartFrom 0 rs → at ≡ ended_by rs i → at < length rs
    → r ≡ get_or rs at r → r.from < i → take (at + 1) (set rs at (record { from = r.from; to = i })) ≡ below rs i
cut_through rs at i r apart sought within read under =
    let same : get_or rs (ended_by rs i) r ≡ r = rw (← sought) (sym read) in
    take_more_set rs at (record { from = r.from; to = i }) within
    ∙ sym (below-sought 0 rs i r apart ∙ rw (same, ← sought, lt-ltb at (length rs) within, lt-ltb r.from i under) refl)

pub cut_beside : (rs : List Region) (at i : ℕ) (d : Region) → IsApartFrom 0 rs → at ≡ ended_by rs i
    → (at < length rs → i ≤ (get_or rs at d).from) → take at rs ≡ below rs i
cut_beside rs at i d apart sought over =
    let none : (nat_lt at (length rs) && nat_lt (get_or rs at d).from i) ≡ false = grind (arith, nat_tests, over) in
    sym (below-sought 0 rs i d apart ∙ rw (← sought, none) (append-nil (take at rs)))

-- half of fewer than 2 ^ k is fewer than 2 ^ (k - 1)
pub halved : (n m k : ℕ) → 0 < n → n < 2 ^ k → m ≤ n / 2 → (0 < k) × (m < 2 ^ (k - 1))
halved n m zero some below half = absurd (omega arith)
halved n m (suc k) some below half =
    let double : n < 2 ^ k * 2 = rw (← pow-suc 2 k) below in
    let two : 0 < 2 = omega arith in
    let under : n / 2 < 2 ^ k = (div-lt_iff_lt-mul two).1 double in
    let one : suc k - 1 ≡ k = omega arith in
    (omega arith, rw one (omega arith))

-- the regions with a range, by the place of the first that it meets
pub with_range-sought : (low : ℕ) (rs : List Region) (from to : ℕ) → IsApartFrom low rs
    → with_range rs from to ≡ take (ended_by rs (from - 1)) rs ++ absorb (drop (ended_by rs (from - 1)) rs) from to
with_range-sought low [] from to apart = refl
with_range-sought low (r ∷ rs) from to apart =
    let rest = with_range-sought (r.to + 1) rs from to apart.3 in
    elim (nat_lt r.to from) as
    (λ b. nat_lt r.to from ≡ b
    → cond b (r ∷ with_range rs from to) (absorb (r ∷ rs) from to) ≡ take (ended_by (r ∷ rs) (from - 1)) (r ∷ rs)
    ++ absorb (drop (ended_by (r ∷ rs) (from - 1)) (r ∷ rs)) from to) [
      | true ↦ λ e. let before = ltb-true r.to from e in rw (le-leb r.to (from - 1) (omega arith)) (ap (λ xs. r ∷ xs) rest)
      | false ↦ λ e.
          let past = ltb-false r.to from e in
          let over : from - 1 < r.to = omega (arith, apart.1) in
          rw (lt-leb r.to (from - 1) over, ended_by_none (r.to + 1) rs (from - 1) apart.3 (omega arith)) refl
    ] refl

-- nothing before that place meets the range
pub meets-sought : (low : ℕ) (rs : List Region) (from to : ℕ) → IsApartFrom low rs
    → meets rs from to ≡ meets (drop (ended_by rs (from - 1)) rs) from to
meets-sought low [] from to apart = refl
meets-sought low (r ∷ rs) from to apart =
    let rest = meets-sought (r.to + 1) rs from to apart.3 in
    elim (nat_lt r.to from) as
    (λ b. nat_lt r.to from ≡ b
    → ((nat_le from r.to && nat_le r.from to) || meets rs from to) ≡ meets
    (drop (ended_by (r ∷ rs) (from - 1)) (r ∷ rs)) from to) [
      | true ↦ λ e. let before = ltb-true r.to from e in rw (le-leb r.to (from - 1) (omega arith), lt-leb from r.to before) rest
      | false ↦ λ e.
          let past = ltb-false r.to from e in
          let over : from - 1 < r.to = omega (arith, apart.1) in
          rw (lt-leb r.to (from - 1) over, ended_by_none (r.to + 1) rs (from - 1) apart.3 (omega arith)) refl
    ] refl

-- nothing before that place lies in the range
pub held_within-sought : (low : ℕ) (rs : List Region) (from to : ℕ) → IsApartFrom low rs
    → held_within (drop (ended_by rs from) rs) from to ≡ held_within rs from to
held_within-sought low [] from to apart = refl
held_within-sought low (r ∷ rs) from to apart =
    let rest = held_within-sought (r.to + 1) rs from to apart.3 in
    elim (nat_le r.to from) as
    (λ b. nat_le r.to from ≡ b
    → held_within (drop (cond b (suc (ended_by rs from)) (ended_by rs from)) (r ∷ rs)) from to ≡ held_within (r ∷ rs) from to) [
      | true ↦ λ e. let before = leb-true r.to from e in omega (arith, rest)
      | false ↦ λ e. let past = leb-false r.to from e in rw (ended_by_none (r.to + 1) rs from apart.3 (omega arith)) refl
    ] refl

held_within_none : (low : ℕ) (rs : List Region) (from to : ℕ) → IsApartFrom low rs → to ≤ low → held_within rs from to ≡ 0
held_within_none low [] from to apart past = refl
held_within_none low (r ∷ rs) from to apart past =
    let rest = held_within_none (r.to + 1) rs from to apart.3 (omega (arith, apart.0, apart.1)) in
    omega (arith, rest, apart.0)

-- where the region at a place begins past the range, none from there on has an index of it
pub held_within_past : (low : ℕ) (rs : List Region) (at from to : ℕ) (d : Region) → IsApartFrom low rs
    → (at < length rs → to ≤ (get_or rs at d).from) → held_within (drop at rs) from to ≡ 0
held_within_past low [] zero from to d apart past = refl
held_within_past low [] (suc at) from to d apart past = refl
held_within_past low (r ∷ rs) zero from to d apart past =
    let beyond = past (omega arith) in
    let rest = held_within_none (r.to + 1) rs from to apart.3 (omega (arith, apart.1)) in
    omega (arith, rest)
held_within_past low (r ∷ rs) (suc at) from to d apart past =
    held_within_past (r.to + 1) rs at from to d apart.3 (λ within. past (omega arith))

-- a region that holds i stands at that place
pub held_place : (low : ℕ) (rs : List Region) (k i : ℕ) (d : Region) → IsApartFrom low rs → k < length rs
    → is_within (get_or rs k d).from (get_or rs k d).to i ≡ true → k ≡ ended_by rs i
held_place low [] k i d apart within holds = absurd (omega arith)
held_place low (r ∷ rs) zero i d apart within holds =
    let under : i < r.to = grind (arith, nat_tests) in
    rw (lt-leb r.to i under, ended_by_none (r.to + 1) rs i apart.3 (omega arith)) refl
held_place low (r ∷ rs) (suc k) i d apart within holds =
    let rest = held_place (r.to + 1) rs k i d apart.3 (omega arith) holds in
    let begins = from_above (r.to + 1) rs k d apart.3 (omega arith) in
    let over : (get_or rs k d).from ≤ i = grind (arith, nat_tests) in
    rw (le-leb r.to i (omega (arith, begins, over))) (ap suc rest)
