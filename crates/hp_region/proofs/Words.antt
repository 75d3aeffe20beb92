-- What a word of bits says of the set.
use Rattle.std.proofs.Common.{◌≡◌, ◌≢◌, ℕ, zero, suc, ◌+◌, ◌-◌, ◌*◌, ◌/◌, ◌%◌, ◌^◌, ◌<◌, ◌≤◌, min, max, Bool, true, false, cond, not}
use Rattle.std.proofs.Common.{◌&&◌, ◌||◌, List, length, get_or, set, replicate, refl, sym, ap, ◌∙◌, arith, inl, inr}
use Rattle.std.proofs.Common.{bit_and, bit_or, count_ones}
use Rattle.std.specs.Prelude.{◌==◌, nat_lt}
use Rattle.std.specs.Int.{bit_at, w64}
use Rattle.std.proofs.Math.Nat.{pow-suc, div-lt_iff_lt-mul}
use Rattle.std.proofs.Math.Path.{fun_ext}
use Rattle.std.proofs.lemmas.Bool.{cases_eq, cases_lt}
use Rattle.std.proofs.lemmas.Bool.Decides.{nat_tests}
use Rattle.std.proofs.lemmas.List.{get_or_past, get_or-set_same, get_or-set_other, get_or-replicate, length-replicate}
use Rattle.std.proofs.lemmas.Nat.{div-add-mod', ones-le, ones_cat, ones_le_self, zero_from_ones, and_mask, mod_below, one_shl, pow_pos}
use Rattle.std.proofs.lemmas.Nat.Bits.{bit_at-lt, bit_at-zero, bit_at_and, bit_at_or, bit_at_not, bit_at_cat_low, shr_and_one, ones_shl, ones_shr}
use Rattle.std.proofs.lemmas.Nat.Bits.{bit_at_ones, bit_at_ones_above, bit_at_mask_inside, bit_at_mask_below}
use Rattle.hp_base.specs.Indices.{is_within, count_below, count_within, add_range, cut_tail}
use Rattle.hp_base.specs.Numbers.{put}
use Rattle.hp_base.proofs.Counting.{count_below-ext, count_below_past, count_below-cut_tail}
use Rattle.hp_region.specs.Bits.{is_on, has_bit, put_range}

-- ---- sets

-- a range beside one that was put is put to it
pub put_range-next : (old : ℕ → Bool) (a b c : ℕ) (value : Bool) → a ≤ b → b ≤ c
    → put_range (put_range old a b value) b c value ≡ put_range old a c value
unfolding put_range
put_range-next old a b c value low high = fun_ext (λ k. grind (arith, nat_tests))

pub put_range_none : (old : ℕ → Bool) (a : ℕ) (value : Bool) → old ≡ put_range old a a value
unfolding put_range
put_range_none old a value = fun_ext (λ k. grind (arith, nat_tests))

pub put_range-add_range : (old : ℕ → Bool) (from to : ℕ) → put_range old from to true ≡ add_range old from to
unfolding put_range add_range
put_range-add_range old from to = fun_ext (λ k. grind (arith, nat_tests))

pub put_range-put : (old : ℕ → Bool) (i : ℕ) → put_range old i (i + 1) false ≡ put old i false
unfolding put_range put
put_range-put old i = fun_ext (λ k. grind (arith, nat_tests))

pub put_range-cut_tail : (old : ℕ → Bool) (from limit : ℕ) → ((k : ℕ) → limit ≤ k → old k ≡ false)
    → put_range old from limit false ≡ cut_tail old from
unfolding put_range cut_tail
put_range-cut_tail old from limit none = fun_ext (λ k. let past = none k in grind (arith, nat_tests, past))

pub cut_tail_past : (old : ℕ → Bool) (from limit : ℕ) → ((k : ℕ) → limit ≤ k → old k ≡ false) → limit ≤ from → old ≡ cut_tail old from
unfolding cut_tail
cut_tail_past old from limit none past = fun_ext (λ k. let out = none k in grind (arith, nat_tests, out))

-- how many there are further on
pub count_below-plus : (p : ℕ → Bool) (m n : ℕ) → count_below p (m + n) ≡ count_below p m + count_below (λ i. p (m + i)) n
unfolding count_below
count_below-plus p m zero = let e : m + 0 ≡ m = omega arith in rw e (omega arith)
count_below-plus p m (suc n) =
    let rest = count_below-plus p m n in
    let e : m + suc n ≡ suc (m + n) = omega arith in
    rw e (omega (arith, rest))

-- those below a bound and those from there on
pub count_below-within_from : (p : ℕ → Bool) (from to : ℕ) → from ≤ to → count_below p to ≡ count_below p from + count_within p from to
unfolding cut_tail
count_below-within_from p from to order =
    let parts = count_below-cut_tail p from to in
    let short = count_below_past (λ k. nat_lt k from && p k) from to order (λ k past. grind (arith, nat_tests)) in
    let same = count_below-ext (λ k. nat_lt k from && p k) p from (λ k below. grind (arith, nat_tests)) in
    omega (arith, parts, short, same)

-- ---- the bits of a number

same_low : (n w i : ℕ) → i < w → is_on (n % 2 ^ w) i ≡ is_on n i
same_low n w i below =
    ap (λ (b : ℕ). b == 1) (sym (bit_at_cat_low (n / 2 ^ w) w (n % 2 ^ w) i below) ∙ ap (λ (m : ℕ). bit_at m i) (div-add-mod' n (2 ^ w)))

one_bit : (a : ℕ) → a < 2 → count_ones a ≡ a
one_bit a small =
    elim (cases_eq (count_ones a) 0) [
      | inl none ↦ omega (arith, zero_from_ones a none, none)
      | inr some ↦ omega (arith, some, ones_le_self a)
    ]

bit_weight : (a : ℕ) → a < 2 → cond (a % 2 == 1) 1 0 ≡ a
bit_weight a small = grind (arith, nat_tests)

-- a number of so many bits has as many ones as bits that are on
pub ones_on : (w n : ℕ) → n < 2 ^ w → count_ones n ≡ count_below (is_on n) w
unfolding count_below
ones_on zero n small = omega (arith, ones-le 0 n small)
ones_on (suc w) n small =
    let low = n % 2 ^ w in
    let high = n / 2 ^ w in
    let fits : low < 2 ^ w = mod_below n (2 ^ w) (pow_pos w) in
    let double : n < 2 * 2 ^ w = omega (arith, small, pow-suc 2 w) in
    let two : high < 2 = (div-lt_iff_lt-mul (pow_pos w)).1 double in
    let cat = ap count_ones (sym (div-add-mod' n (2 ^ w))) ∙ ones_cat w high low fits in
    let rest = ones_on w low fits in
    let same = count_below-ext (is_on low) (is_on n) w (λ i below. same_low n w i below) in
    let last = bit_weight high two in
    let top = one_bit high two in
    omega (arith, cat, rest, same, last, top)

-- of the lowest r bits of a word
pub low_ones : (n r : ℕ) → count_ones (n % 2 ^ r) ≡ count_below (is_on n) r
low_ones n r =
    ones_on r (n % 2 ^ r) (mod_below n (2 ^ r) (pow_pos r)) ∙ count_below-ext (is_on (n % 2 ^ r)) (is_on n) r (λ i below. same_low n r i below)

either : (a b : ℕ) → a < 2 → b < 2 → (max a b == 1) ≡ ((b == 1) || (a == 1))
either a b small less = grind (arith, nat_tests)

one_alone : (a b : ℕ) → a < 2 → b < 2 → (min a (1 - b) == 1) ≡ (not (b == 1) && (a == 1))
one_alone a b small less = grind (arith, nat_tests)

with_on : (here x : Bool) → (here || x) ≡ cond here true x
with_on true x = refl
with_on false x = refl

with_off : (here x : Bool) → (not here && x) ≡ cond here false x
with_off true x = refl
with_off false x = refl

-- bits that are added to a word, and taken from it
is_on-or : (word mask i : ℕ) → is_on (bit_or word mask) i ≡ cond (is_on mask i) true (is_on word i)
is_on-or word mask i =
    ap (λ (b : ℕ). b == 1) (bit_at_or word mask i) ∙ either (bit_at word i) (bit_at mask i) (bit_at-lt word i) (bit_at-lt mask i)
    ∙ with_on (is_on mask i) (is_on word i)

is_on-and_not : (word mask i : ℕ) → mask < 2 ^ 64 → i < 64 → is_on (bit_and word (2 ^ 64 - 1 - mask)) i ≡ cond (is_on mask i) false (is_on word i)
is_on-and_not word mask i fits below =
    ap (λ (b : ℕ). b == 1) (bit_at_and word (2 ^ 64 - 1 - mask) i ∙ ap (min (bit_at word i)) (bit_at_not w64 mask i fits below))
    ∙ one_alone (bit_at word i) (bit_at mask i) (bit_at-lt word i) (bit_at-lt mask i) ∙ with_off (is_on mask i) (is_on word i)

-- ---- the words

pub none_past : (words : List ℕ) (limit : ℕ) → length words * 64 ≤ limit → (k : ℕ) → limit ≤ k → has_bit words k ≡ false
unfolding has_bit
none_past words limit whole k past = rw (get_or_past words (k / 64) 0 (omega arith), bit_at-zero (k % 64)) refl

pub none_fresh : (n : ℕ) → has_bit (replicate {A = ℕ} n 0) ≡ (λ (k : ℕ). false)
unfolding has_bit
none_fresh n = fun_ext (λ k. rw (zero_at (k / 64), bit_at-zero (k % 64)) refl)
  where
    zero_at : (w : ℕ) → get_or (replicate {A = ℕ} n 0) w 0 ≡ 0
    zero_at w =
        elim (cases_lt w n) [
          | inl within ↦ get_or-replicate {A = ℕ} n w 0 0 within
          | inr past ↦ get_or_past (replicate {A = ℕ} n 0) w 0 (omega (arith, past, length-replicate {A = ℕ} n 0))
        ]

-- the test of one bit
pub bit_there : (words : List ℕ) (k : ℕ) → (bit_and (get_or words (k / 64) 0 / 2 ^ (k % 64)) 1 == 1) ≡ has_bit words k
unfolding has_bit
bit_there words k = ap (λ (b : ℕ). b == 1) (shr_and_one (get_or words (k / 64) 0) (k % 64))

bit_in_word : (words : List ℕ) (w i : ℕ) → i < 64 → has_bit words (w * 64 + i) ≡ is_on (get_or words w 0) i
unfolding has_bit
bit_in_word words w i below =
    let word : (w * 64 + i) / 64 ≡ w = omega arith in
    let bit : (w * 64 + i) % 64 ≡ i = omega arith in
    rw (word, bit) refl

-- the members up to a place in a word
count_in_word : (words : List ℕ) (w r : ℕ) → r ≤ 64
    → count_below (has_bit words) (w * 64 + r) ≡ count_below (has_bit words) (w * 64) + count_below (is_on (get_or words w 0)) r
count_in_word words w r short =
    let more = count_below-plus (has_bit words) (w * 64) r in
    let same = count_below-ext (λ i. has_bit words (w * 64 + i)) (is_on (get_or words w 0)) r (λ i below. bit_in_word words w i (omega arith)) in
    omega (arith, more, same)

pub count_word : (words : List ℕ) (w : ℕ) → get_or words w 0 < 2 ^ 64
    → count_below (has_bit words) ((w + 1) * 64) ≡ count_below (has_bit words) (w * 64) + count_ones (get_or words w 0)
count_word words w fits =
    let e : (w + 1) * 64 ≡ w * 64 + 64 = omega arith in
    ap (count_below (has_bit words)) e ∙ omega (arith, count_in_word words w 64 (omega arith), ones_on 64 (get_or words w 0) fits)

pub count_before : (words : List ℕ) (k : ℕ)
    → count_below (has_bit words) k
    ≡ count_below (has_bit words) (k / 64 * 64) + count_ones (bit_and (get_or words (k / 64) 0) (1 * 2 ^ (k % 64) % 2 ^ 64 - 1))
count_before words k =
    let word = get_or words (k / 64) 0 in
    let e : k ≡ k / 64 * 64 + k % 64 = omega arith in
    let within : k % 64 < 64 = omega arith in
    let mask = ap (λ (m : ℕ). bit_and word (m - 1)) (one_shl (k % 64) 64 within) ∙ and_mask word (k % 64) in
    let part = count_in_word words (k / 64) (k % 64) (omega arith) in
    let ones = ap count_ones mask ∙ low_ones word (k % 64) in
    ap (count_below (has_bit words)) e ∙ omega (arith, part, ones)

-- the words up to the one of the end, and what is before it there
pub counted_to : (words : List ℕ) (first last from to count word late : ℕ) → first ≡ from → last ≡ to → word ≡ last / 64
    → count + count_below (has_bit words) (first / 64 * 64) ≡ count_below (has_bit words) (word * 64)
    → count_below (has_bit words) to ≡ count_below (has_bit words) (to / 64 * 64) + late
    → count_below (has_bit words) to ≡ count_below (has_bit words) (from / 64 * 64) + (count + late)
counted_to words first last from to count word late begin end there so_far rest =
    let low = ap (λ (n : ℕ). count_below (has_bit words) (n / 64 * 64)) begin in
    let high = ap (λ (n : ℕ). count_below (has_bit words) (n * 64)) (there ∙ ap (λ (n : ℕ). n / 64) end) in
    omega (arith, low, high, so_far, rest)

bounds : (from to k : ℕ) → is_within from to k ≡ true → (from ≤ k) × (k < to)
bounds from to k e = (grind (arith, nat_tests), grind (arith, nat_tests))

shifted : (low from to i : ℕ) → low ≤ from → is_within (from - low) (to - low) i ≡ is_within from to (low + i)
shifted low from to i le = grind (arith, nat_tests)

-- no index of another word lies in a range of this one
outside : (w from to k : ℕ) → w * 64 ≤ from → to ≤ w * 64 + 64 → k / 64 ≢ w → is_within from to k ≡ false
outside w from to k low high other =
    elim (is_within from to k) as (λ b. is_within from to k ≡ b → b ≡ false) [
      | true ↦ λ e. absurd (other (omega (arith, bounds from to k e, low, high)))
      | false ↦ λ e. refl
    ] refl

-- a word is written so that it puts a range of its own
pub put_word : (words : List ℕ) (w from to new : ℕ) (value : Bool) → w < length words → w * 64 ≤ from → to ≤ w * 64 + 64
    → ((i : ℕ) → i < 64 → is_on new i ≡ cond (is_within (from - w * 64) (to - w * 64) i) value (is_on (get_or words w 0) i))
    → has_bit (set words w new) ≡ put_range (has_bit words) from to value
unfolding has_bit put_range
put_word words w from to new value within low high each = fun_ext at
  where
    at : (k : ℕ) → is_on (get_or (set words w new) (k / 64) 0) (k % 64) ≡ cond (is_within from to k) value (is_on (get_or words (k / 64) 0) (k % 64))
    at k =
        elim (cases_eq (k / 64) w) [
          | inl same ↦
              let whole : w * 64 + k % 64 ≡ k = omega (arith, same) in
              let here = shifted (w * 64) from to (k % 64) low ∙ ap (is_within from to) whole in
              rw (same, get_or-set_same words w new 0 within)
              (each (k % 64) (omega arith) ∙ ap (λ (b : Bool). cond b value (is_on (get_or words w 0) (k % 64))) here)
          | inr other ↦
              ap (λ (word : ℕ). is_on word (k % 64)) (get_or-set_other words w (k / 64) new 0 other)
              ∙ sym (ap (λ (b : Bool). cond b value (is_on (get_or words (k / 64) 0) (k % 64))) (outside w from to k low high other))
        ]

-- the mask of a range within a word
module _ (words : List ℕ) (from to mask : ℕ) (within : from / 64 < length words) (order : from < to) (one : from / 64 ≡ (to - 1) / 64)
    (fits : mask < 2 ^ 64) (each : (i : ℕ) → i < 64 → is_on mask i ≡ is_within (from % 64) ((to - 1) % 64 + 1) i) where
  masked : (i : ℕ) → i < 64 → is_on mask i ≡ is_within (from - from / 64 * 64) (to - from / 64 * 64) i
  masked i below =
      let low : from % 64 ≡ from - from / 64 * 64 = omega arith in
      let high : (to - 1) % 64 + 1 ≡ to - from / 64 * 64 = omega arith in
      each i below ∙ ap (λ (a : ℕ). is_within a ((to - 1) % 64 + 1) i) low ∙ ap (λ (b : ℕ). is_within (from - from / 64 * 64) b i) high

  pub set_in_word : has_bit (set words (from / 64) (bit_or (get_or words (from / 64) 0) mask)) ≡ put_range (has_bit words) from to true
  set_in_word =
      put_word words (from / 64) from to (bit_or (get_or words (from / 64) 0) mask) true within (omega arith) (omega arith)
      (λ i below. is_on-or (get_or words (from / 64) 0) mask i
      ∙ ap (λ (b : Bool). cond b true (is_on (get_or words (from / 64) 0) i)) (masked i below))

  pub clear_in_word : has_bit (set words (from / 64) (bit_and (get_or words (from / 64) 0) (2 ^ 64 - 1 - mask)))
      ≡ put_range (has_bit words) from to false
  clear_in_word =
      put_word words (from / 64) from to (bit_and (get_or words (from / 64) 0) (2 ^ 64 - 1 - mask)) false within (omega arith) (omega arith)
      (λ i below. is_on-and_not (get_or words (from / 64) 0) mask i fits below
      ∙ ap (λ (b : Bool). cond b false (is_on (get_or words (from / 64) 0) i)) (masked i below))

inside_word : (w i : ℕ) → i < 64 → is_within (w * 64 - w * 64) ((w + 1) * 64 - w * 64) i ≡ true
inside_word w i below = grind (arith, nat_tests)

-- one whole word more
pub put_next : (old : ℕ → Bool) (words : List ℕ) (first w word : ℕ) (value : Bool) → w < length words → first ≤ w
    → ((i : ℕ) → i < 64 → is_on word i ≡ value) → has_bit words ≡ put_range old (first * 64) (w * 64) value
    → has_bit (set words w word) ≡ put_range old (first * 64) ((w + 1) * 64) value
put_next old words first w word value within order each far =
    put_word words w (w * 64) ((w + 1) * 64) word value within (omega arith) (omega arith)
    (λ i below. each i below ∙ sym (ap (λ (b : Bool). cond b value (is_on (get_or words w 0) i)) (inside_word w i below)))
    ∙ ap (λ (s : ℕ → Bool). put_range s (w * 64) ((w + 1) * 64) value) far
    ∙ put_range-next old (first * 64) (w * 64) ((w + 1) * 64) value (omega arith) (omega arith)

-- ---- masks

on_within : (x low high i : ℕ) → x ≡ 1 → low ≤ i → i < high → (x == 1) ≡ is_within low high i
on_within x low high i one from below = grind (arith, nat_tests)

off_below : (x low high i : ℕ) → x ≡ 0 → i < low → (x == 1) ≡ is_within low high i
off_below x low high i none below = grind (arith, nat_tests)

off_above : (x low high i : ℕ) → x ≡ 0 → high ≤ i → (x == 1) ≡ is_within low high i
off_above x low high i none past = grind (arith, nat_tests)

pub mask_bits : (low high i : ℕ) → low < high → high ≤ 64 → i < 64
    → is_on (bit_and ((2 ^ 64 - 1) * 2 ^ low % 2 ^ 64) ((2 ^ 64 - 1) / 2 ^ (64 - high))) i ≡ is_within low high i
mask_bits low high i order short below =
    ap (λ (b : ℕ). b == 1) (ap (λ (m : ℕ). bit_at m i) both ∙ bit_at_and (2 ^ 64 - 2 ^ low) (2 ^ high - 1) i) ∙ test
  where
    high_is : 64 - (64 - high) ≡ high
    high_is = omega arith

    both : bit_and ((2 ^ 64 - 1) * 2 ^ low % 2 ^ 64) ((2 ^ 64 - 1) / 2 ^ (64 - high)) ≡ bit_and (2 ^ 64 - 2 ^ low) (2 ^ high - 1)
    both =
        ap (λ (m : ℕ). bit_and m ((2 ^ 64 - 1) / 2 ^ (64 - high))) (ones_shl 64 low (omega arith))
        ∙ ap (bit_and (2 ^ 64 - 2 ^ low)) (ones_shr 64 (64 - high) (omega arith) ∙ ap (λ (w : ℕ). 2 ^ w - 1) high_is)

    test : (min (bit_at (2 ^ 64 - 2 ^ low) i) (bit_at (2 ^ high - 1) i) == 1) ≡ is_within low high i
    test =
        elim (cases_lt i low) [
          | inl before ↦ off_below _ low high i (omega (arith, bit_at_mask_below low 64 i before)) before
          | inr after ↦ elim (cases_lt i high) [
            | inl inner ↦
                on_within _ low high i (omega (arith, bit_at_mask_inside low 64 i after below, bit_at_ones high i inner)) after inner
            | inr past ↦ off_above _ low high i (omega (arith, bit_at_ones_above high i past)) past
          ]
        ]

pub all_on : (i : ℕ) → i < 64 → is_on (2 ^ 64 - 1) i ≡ true
all_on i below = ap (λ (b : ℕ). b == 1) (bit_at_ones 64 i below)

pub none_on : (i : ℕ) → is_on 0 i ≡ false
none_on i = ap (λ (b : ℕ). b == 1) (bit_at-zero i)
