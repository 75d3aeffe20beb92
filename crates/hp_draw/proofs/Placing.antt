-- Lanes that are placed, column by column, and columns that are found.
use Rattle.std.proofs.Common.{◌≡◌, ℕ, zero, suc, ◌+◌, ◌<◌, ◌≤◌, Bool, true, false, List, [], ◌∷◌, ◌++◌, length, take, drop}
use Rattle.std.proofs.Common.{get_or, set, Option, All, refl}
use Rattle.std.proofs.Common.{arith, sym, ap, subst, true≢false, ◌∙◌}
use Rattle.std.specs.Prelude.{Some, None, IsSome, IsTrue, is_some, map}
use Rattle.std.proofs.lemmas.Grind.{common_steps}
use Rattle.std.proofs.lemmas.List.{map-append, take_all, take_more}
use Rattle.std.proofs.lemmas.List.Elements.{All-weaker, All-more}
use Rattle.hp_draw.specs.Places.{StandBelow, HaveRoom}
use Rattle.hp_draw.specs.declared.following.Numbers.{Numbers}

-- lanes, and one more behind them, which begins no higher than the last ended
below_more : (tall from foot top new : ℕ) (tops : List (Option ℕ)) → foot ≤ top → top + tall ≤ new → StandBelow tall from tops foot
    → StandBelow tall from (tops ++ (Some top ∷ [])) new
below_more tall from foot top new [] low high stand = (omega (arith, low, stand), high)
below_more tall from foot top new (None ∷ more) low high stand = below_more tall from foot top new more low high stand
below_more tall from foot top new (Some t ∷ more) low high stand =
    (stand.0, below_more tall (t + tall) foot top new more low high stand.1)

-- a column without one behind them
below_none : (tall from foot : ℕ) (tops : List (Option ℕ)) → StandBelow tall from tops foot
    → StandBelow tall from (tops ++ (None ∷ [])) foot
below_none tall from foot [] stand = stand
below_none tall from foot (None ∷ more) stand = below_none tall from foot more stand
below_none tall from foot (Some t ∷ more) stand = (stand.0, below_none tall (t + tall) foot more stand.1)

-- the same of a list that is told apart
pub one_below : (tall from foot top new : ℕ) (tops now : List (Option ℕ)) → now ≡ tops ++ (Some top ∷ []) → foot ≤ top → top + tall ≤ new
    → StandBelow tall from tops foot → StandBelow tall from now new
one_below tall from foot top new tops now e low high stand =
    subst (λ (x : List (Option ℕ)). StandBelow tall from x new) (sym e) (below_more tall from foot top new tops low high stand)

pub none_below : (tall from foot new : ℕ) (tops now : List (Option ℕ)) → now ≡ tops ++ (None ∷ []) → new ≡ foot
    → StandBelow tall from tops foot → StandBelow tall from now new
none_below tall from foot new tops now e same stand =
    subst (λ (x : List (Option ℕ)). StandBelow tall from x new) (sym e)
    (below_none tall from new tops (subst (StandBelow tall from tops) (sym same) stand))

-- a column more has a lane if it is found
pub one_column : (tops now : List (Option ℕ)) (found : List Bool) (n : ℕ) (top : Option ℕ) → now ≡ tops ++ (top ∷ [])
    → n < length found → get_or found n false ≡ is_some top → map is_some tops ≡ take n found → map is_some now ≡ take (n + 1) found
one_column tops now found n top e lt is same =
    ap (map is_some) e ∙ map-append is_some tops (top ∷ []) ∙ ap (λ (x : List Bool). x ++ (is_some top ∷ [])) same
    ∙ ap (λ (b : Bool). take n found ++ (b ∷ [])) (sym is) ∙ sym (take_more found n false lt)

-- a column with a lane was found
lane_found : (tops : List (Option ℕ)) (k : ℕ) → IsSome (get_or tops k None) → IsTrue (get_or (map is_some tops) k false)
lane_found [] k there = absurd (true≢false (sym there))
lane_found (None ∷ tops) zero there = absurd (true≢false (sym there))
lane_found (Some top ∷ tops) zero there = refl
lane_found (top ∷ tops) (suc k) there = lane_found tops k there

pub was_found : (tops : List (Option ℕ)) (found : List Bool) (k : ℕ) → map is_some tops ≡ found → IsSome (get_or tops k None)
    → IsTrue (get_or found k false)
was_found tops found k same there = subst (λ (bs : List Bool). IsTrue (get_or bs k false)) same (lane_found tops k there)

-- and one that was found has a lane
found_lane : (tops : List (Option ℕ)) (k : ℕ) → IsTrue (get_or (map is_some tops) k false) → IsSome (get_or tops k None)
found_lane [] k there = absurd (true≢false (sym there))
found_lane (None ∷ tops) zero there = absurd (true≢false (sym there))
found_lane (Some top ∷ tops) zero there = refl
found_lane (top ∷ tops) (suc k) there = found_lane tops k there

pub have_lanes : {A : Type 0} (column : A → ℕ) (xs : List A) (tops : List (Option ℕ)) (found : List Bool) → map is_some tops ≡ found
    → All (λ x. IsTrue (get_or found (column x) false)) xs → All (λ x. IsSome (get_or tops (column x) None)) xs
have_lanes column xs tops found same has =
    All-weaker (λ x. IsTrue (get_or found (column x) false)) (λ x. IsSome (get_or tops (column x) None))
    (λ x there. found_lane tops (column x) (subst (λ (bs : List Bool). IsTrue (get_or bs (column x) false)) (sym same) there)) xs has

-- a column that was found stays so
still_found : (found : List Bool) (i k : ℕ) → IsTrue (get_or found k false) → IsTrue (get_or (set found i true) k false)
still_found [] i k there = there
still_found (x ∷ found) zero zero there = refl
still_found (x ∷ found) zero (suc k) there = there
still_found (x ∷ found) (suc i) zero there = there
still_found (x ∷ found) (suc i) (suc k) there = still_found found i k there

now_found : (found : List Bool) (i : ℕ) → i < length found → IsTrue (get_or (set found i true) i false)
now_found [] i lt = absurd (omega (arith, lt))
now_found (x ∷ found) zero lt = refl
now_found (x ∷ found) (suc i) lt = now_found found i (omega (arith, lt))

-- what was written over all of a list is what it holds then
pub written : (n i : ℕ) (old slice new : List Bool) → slice ≡ old → n ≡ length old → new ≡ set slice i true
    → take n (new ++ drop (length new) old) ≡ set old i true
written n i old slice new same is e = grind (arith, common_steps, same, is, e)

pub all_still : {A : Type 0} (column : A → ℕ) (xs : List A) (found : List Bool) (i : ℕ)
    → All (λ x. IsTrue (get_or found (column x) false)) xs → All (λ x. IsTrue (get_or (set found i true) (column x) false)) xs
all_still column xs found i has =
    All-weaker (λ x. IsTrue (get_or found (column x) false)) (λ x. IsTrue (get_or (set found i true) (column x) false))
    (λ x there. still_found found i (column x) there) xs has

-- that of one more is
pub one_found : {A : Type 0} (column : A → ℕ) (xs slice : List A) (n : ℕ) (x : A) (found : List Bool) → slice ≡ xs → n < length slice
    → x ≡ get_or slice n x → All (λ y. column y < length found) xs
    → All (λ y. IsTrue (get_or found (column y) false)) (take n xs)
    → All (λ y. IsTrue (get_or (set found (column x) true) (column y) false)) (take (n + 1) xs)
one_found {A} column xs slice n x found same lt is inside has =
    All-more (λ y. IsTrue (get_or (set found (column x) true) (column y) false)) xs n x there
    (all_still column (take n xs) found (column x) has)
    (subst (λ (y : A). IsTrue (get_or (set found (column x) true) (column y) false)) here
    (now_found found (column x) (subst (λ (y : A). column y < length found) (sym here) (inside n x there))))
  where
    there : n < length xs
    there = subst (λ (ys : List A). n < length ys) same lt

    here : x ≡ get_or xs n x
    here = subst (λ (ys : List A). x ≡ get_or ys n x) same is

-- all are
pub all_found : {A : Type 0} (P : A → Type 0) (xs slice : List A) (n : ℕ) → slice ≡ xs → length slice ≤ n → All P (take n xs) → All P xs
all_found {A} P xs slice n same le has =
    subst (All P) (take_all n xs (subst (λ (ys : List A). length ys ≤ n) same le)) has

-- counts more have room where the most is no less
pub one_room : (numbers : List Numbers) (n : ℕ) (x : Numbers) (free resv most_free most_resv : ℕ) → n < length numbers
    → x ≡ get_or numbers n x → free ≤ most_free → resv ≤ most_resv → HaveRoom most_free most_resv x
    → All (HaveRoom free resv) (take n numbers) → All (HaveRoom most_free most_resv) (take (n + 1) numbers)
one_room numbers n x free resv most_free most_resv lt is upper lower room has =
    All-more (HaveRoom most_free most_resv) numbers n x lt
    (All-weaker (HaveRoom free resv) (HaveRoom most_free most_resv)
    (λ y h. (
      omega (arith, h.0, upper),
      omega (arith, h.1, upper),
      omega (arith, h.2, upper),
      omega (arith, h.3, lower),
      omega (arith, h.4, lower),
    ))
    (take n numbers) has)
    (subst (HaveRoom most_free most_resv) is room)
