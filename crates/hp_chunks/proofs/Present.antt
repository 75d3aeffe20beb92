-- The frames of the places whose bits are 1.
use Rattle.std.proofs.Common.{◌≡◌, ◌≢◌, ℕ, zero, suc, ◌+◌, ◌*◌, ◌/◌, ◌%◌, ◌^◌, ◌<◌, ◌≤◌, List, [], ◌∷◌, Option, None, Some}
use Rattle.std.proofs.Common.{pow-add, length, get_or, set, replicate, refl, sym, ap, ◌∙◌, arith, inl, inr}
use Rattle.std.specs.Bool.{then_some}
use Rattle.std.specs.Prelude.{Bool, true, false, ◌-◌, ◌==◌, is_some, count_by}
use Rattle.std.specs.Int.{bit_at, trailing_zeros, w64}
use Rattle.std.proofs.Math.Nat.{div-div-eq-div-mul, div-le_self, pow-suc}
use Rattle.std.proofs.lemmas.Bool.{cases_eq, cases_lt}
use Rattle.std.proofs.lemmas.Bool.Decides.{nat_tests}
use Rattle.std.proofs.lemmas.List.{same_lists, get_or_past, get_or_default, get_or-set_same, get_or-set_other}
use Rattle.std.proofs.lemmas.List.{get_or-replicate, length-set, length-replicate}
use Rattle.std.proofs.lemmas.Nat.{div-mul-add}
use Rattle.std.proofs.lemmas.Nat.Bits.{bit_at_lowest, bit_at-suc, bit_at-zero, bit_at-lt, bit_at_above, bit_at-trailing_zeros}
use Rattle.std.proofs.lemmas.Nat.Bits.{same_from_bits_below}
use Rattle.hp_chunks.specs.Chunks.{Places, frame_by, where_present}
use Rattle.hp_chunks.specs.Framed.{IsFirstWithin}
use Rattle.hp_chunks.proofs.Chunks.{none_there, none_counted}

length_present : (present : ℕ) (frames : List ℕ) → length (where_present present frames) ≡ length frames
unfolding where_present
length_present present [] = refl
length_present present (frame ∷ frames) = ap suc (length_present (present / 2) frames)

-- a place has its frame where its bit is 1
pub at_place : (present : ℕ) (frames : List ℕ) (place d : ℕ) → place < length frames
    → get_or (where_present present frames) place None ≡ frame_by (bit_at present place) (get_or frames place d)
unfolding where_present
at_place present [] place d within = absurd (omega arith)
at_place present (frame ∷ frames) zero d within = ap (λ bit. frame_by bit frame) (sym (bit_at_lowest present))
at_place present (frame ∷ frames) (suc place) d within =
    at_place (present / 2) frames place d (omega arith)
    ∙ ap (λ bit. frame_by bit (get_or frames place d)) (sym (bit_at-suc present place))

pub none_at : (present : ℕ) (frames : List ℕ) (place : ℕ) → bit_at present place ≡ 0 → get_or (where_present present frames) place None ≡ None
none_at present frames place off =
    elim (cases_lt place (length frames)) [
      | inl within ↦ at_place present frames place 0 within ∙ ap (λ bit. frame_by bit (get_or frames place 0)) off
      | inr past ↦ get_or_past (where_present present frames) place None (omega (arith, length_present present frames))
    ]

pub some_at : (present : ℕ) (frames : List ℕ) (place d : ℕ) → place < length frames → bit_at present place ≡ 1
    → get_or (where_present present frames) place None ≡ Some (get_or frames place d)
some_at present frames place d within on =
    at_place present frames place d within ∙ ap (λ bit. frame_by bit (get_or frames place d)) on

-- a bit tells whether its place has a frame
pub bit_of : (present : ℕ) (frames : List ℕ) (place : ℕ) → place < length frames
    → is_some (get_or (where_present present frames) place None) ≡ (bit_at present place == 1)
bit_of present frames place within =
    ap is_some (at_place present frames place 0 within) ∙ told (bit_at present place == 1) (get_or frames place 0)
  where
    told : (on : Bool) (frame : ℕ) → is_some (then_some on frame) ≡ on
    told true frame = refl
    told false frame = refl

-- what is written into one place
pub written : (before after : ℕ) (frames afters : List ℕ) (place : ℕ) (frame : Option ℕ) → length afters ≡ length frames
    → place < length frames → frame_by (bit_at after place) (get_or afters place 0) ≡ frame
    → ((k : ℕ) → k < length frames → k ≢ place
    → frame_by (bit_at after k) (get_or afters k 0) ≡ frame_by (bit_at before k) (get_or frames k 0))
    → where_present after afters ≡ set (where_present before frames) place frame
written before after frames afters place frame long within here others =
    same_lists (where_present after afters) places
    (length_present after afters ∙ long ∙ sym (length_present before frames)
    ∙ sym (length-set (where_present before frames) place frame)) (λ k d below.
    let inside : k < length frames = omega (arith, below, length_present after afters, long) in
    let listed : k < length places =
    omega (arith, inside, length-set (where_present before frames) place frame, length_present before frames) in
    get_or_default (where_present after afters) k d None below ∙ each k inside ∙ get_or_default places k None d listed)
  where
    places : Places
    places = set (where_present before frames) place frame

    each : (k : ℕ) → k < length frames → get_or (where_present after afters) k None ≡ get_or places k None
    each k below =
        at_place after afters k 0 (omega (arith, long, below)) ∙ elim (cases_eq k place) [
          | inl same ↦
              rw (same) (here ∙ sym (get_or-set_same (where_present before frames) place frame None
              (omega (arith, within, length_present before frames))))
          | inr other ↦
              others k below other ∙ sym (at_place before frames k 0 below)
              ∙ sym (get_or-set_other (where_present before frames) place k frame None other)
        ]

-- bits that are all 0
pub no_bits : (frames : List ℕ) → count_by is_some (where_present 0 frames) ≡ 0
no_bits frames = none_there (where_present 0 frames) (λ k. none_at 0 frames k (bit_at-zero k))

pub all_off : (present : ℕ) (frames : List ℕ) → length frames ≡ 64 → present < 2 ^ 64
    → count_by is_some (where_present present frames) ≡ 0 → present ≡ 0
all_off present frames whole small none =
    same_from_bits_below 64 present 0 small (omega arith) (λ k below. off k below ∙ sym (bit_at-zero k))
  where
    off : (k : ℕ) → k < 64 → bit_at present k ≡ 0
    off k below =
        let empty = none_counted (where_present present frames) none k in
        let bit = bit_of present frames k (omega (arith, whole, below)) in
        let low = bit_at-lt present k in
        grind (arith, nat_tests)

pub none_of_no_bits : (n : ℕ) → where_present 0 (replicate n 0) ≡ replicate n None
none_of_no_bits n =
    same_lists (where_present 0 (replicate n 0)) (replicate n None)
    (length_present 0 (replicate n 0) ∙ length-replicate {A = ℕ} n 0 ∙ sym (length-replicate {A = Option ℕ} n None)) (λ k d below.
    let within : k < n = omega (arith, below, length_present 0 (replicate n 0), length-replicate {A = ℕ} n 0) in
    get_or_default (where_present 0 (replicate n 0)) k d None below ∙ none_at 0 (replicate n 0) k (bit_at-zero k)
    ∙ sym (get_or-replicate {A = Option ℕ} n k None d within))

-- the bits of a number from one on
later_bit : (present from k : ℕ) → bit_at (present / 2 ^ from) k ≡ bit_at present (from + k)
later_bit present from k =
    ap (λ n. n % 2) (div-div-eq-div-mul present (2 ^ from) (2 ^ k) ∙ ap (λ n. present / n) (sym (pow-add 2 from k)))

-- the highest that is 1
module _ (present highest : ℕ) (least : 2 ^ highest ≤ present) (most : present < 2 * 2 ^ highest) where
  pub highest_on : bit_at present highest ≡ 1
  highest_on =
      let rest : present ≡ 1 * 2 ^ highest + (present - 2 ^ highest) = omega (arith, least) in
      let one : present / 2 ^ highest ≡ 1 =
      ap (λ n. n / 2 ^ highest) rest ∙ div-mul-add 1 (2 ^ highest) (present - 2 ^ highest) (omega (arith, least, most)) in
      ap (λ n. n % 2) one

  pub above_highest : (k : ℕ) → highest < k → bit_at present k ≡ 0
  above_highest k above =
      bit_at_above present (suc highest) k (omega (arith, most, pow-suc 2 highest)) (omega arith)

-- the first from one on that is 1, where it is so many places later
first_on : (present : ℕ) (frames : List ℕ) (from next d : ℕ) → length frames ≡ 64 → present < 2 ^ 64
    → bit_at (present / 2 ^ from) next ≡ 1 → ((k : ℕ) → k < next → bit_at (present / 2 ^ from) k ≡ 0)
    → IsFirstWithin (λ k. get_or (where_present present frames) k None) from 64 (Some (from + next, get_or frames (from + next) d))
first_on present frames from next d whole small on off = (
  omega arith,
  within,
  some_at present frames (from + next) d (omega (arith, whole, within)) here,
  λ k above below.
      let at : from + (k - from) ≡ k = omega (arith, above) in
      none_at present frames k (ap (bit_at present) (sym at) ∙ sym (later_bit present from (k - from)) ∙ off (k - from) (omega (arith, above, below))),
)
  where
    here : bit_at present (from + next) ≡ 1
    here = sym (later_bit present from next) ∙ on

    within : from + next < 64
    within =
        elim (cases_lt (from + next) 64) [
          | inl below ↦ below
          | inr past ↦ absurd (omega (arith, here, bit_at_above present 64 (from + next) small past))
        ]

-- where some come later, it is the lowest of their bits
pub first_later : (present : ℕ) (frames : List ℕ) (from d : ℕ) → length frames ≡ 64 → present < 2 ^ 64 → present / 2 ^ from ≢ 0
    → IsFirstWithin (λ k. get_or (where_present present frames) k None) from 64
    (Some (from + trailing_zeros w64 (present / 2 ^ from), get_or frames (from + trailing_zeros w64 (present / 2 ^ from)) d))
first_later present frames from d whole small some =
    let lowest = bit_at-trailing_zeros w64 (present / 2 ^ from) (omega (arith, some)) (omega (arith, small, div-le_self present (2 ^ from))) in
    first_on present frames from (trailing_zeros w64 (present / 2 ^ from)) d whole small lowest.1 lowest.2

-- where none comes later, none has a frame
pub none_on : (present : ℕ) (frames : List ℕ) (from : ℕ) → present / 2 ^ from ≡ 0
    → (k : ℕ) → from ≤ k → get_or (where_present present frames) k None ≡ None
none_on present frames from none k above =
    let at : from + (k - from) ≡ k = omega (arith, above) in
    none_at present frames k
    (ap (bit_at present) (sym at) ∙ sym (later_bit present from (k - from)) ∙ ap (λ n. bit_at n (k - from)) none ∙ bit_at-zero (k - from))
