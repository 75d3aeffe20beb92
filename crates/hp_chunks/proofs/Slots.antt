-- The frame of each number, as the chunks keep it.
use Rattle.std.proofs.Common.{◌≡◌, ◌≢◌, ℕ, ◌+◌, ◌*◌, ◌/◌, ◌%◌, ◌<◌, ◌≤◌, true, false, List, Option, None, Some, length, get_or, set}
use Rattle.std.proofs.Common.{refl, sym, ap, ◌∙◌, arith, inl, inr, true≢false}
use Rattle.std.specs.Bool.{then_some}
use Rattle.std.specs.Prelude.{Bool, is_some, nat_lt}
use Rattle.std.proofs.lemmas.Bool.{cases_eq, cases_lt, ltb-true, ltb-false}
use Rattle.std.proofs.lemmas.Bool.Decides.{nat_tests}
use Rattle.std.proofs.lemmas.List.{get_or_past, get_or_default, get_or-set_same, get_or-set_other}
use Rattle.std.proofs.lemmas.Nat.{div-mul-add, mod-mul-add}
use Rattle.hp_base.specs.Indices.{count_below}
use Rattle.hp_base.specs.Numbers.{put}
use Rattle.hp_base.specs.Pages.{IsPagesEnd}
use Rattle.hp_base.proofs.Counting.{count_below_one}
use Rattle.hp_chunks.specs.Chunks.{Slot, frame_in, frame_of}
use Rattle.hp_chunks.specs.Framed.{IsFirstWithin}
use Rattle.hp_chunks.proofs.Tables.{EndsBy}

-- the chunk of a number
abbrev pub slot_at : List Slot → ℕ → Slot
slot_at chunks at = get_or chunks at None

pub frame_of-at : (chunks : List Slot) (at place : ℕ) → place < 64
    → frame_of chunks (at * 64 + place) ≡ frame_in (slot_at chunks at) place
unfolding frame_of
frame_of-at chunks at place within = rw (div-mul-add at 64 place within, mod-mul-add at 64 place within) refl

pub frame_of-is : (chunks : List Slot) (number : ℕ) → frame_of chunks number ≡ frame_in (slot_at chunks (number / 64)) (number % 64)
unfolding frame_of
frame_of-is chunks number = refl

pub frame_of_slot : (chunks : List Slot) (number : ℕ) (slot : Slot) → slot_at chunks (number / 64) ≡ slot
    → frame_of chunks number ≡ frame_in slot (number % 64)
frame_of_slot chunks number slot is = frame_of-is chunks number ∙ ap (λ (s : Slot). frame_in s (number % 64)) is

-- no chunk, no frame
pub frame_of_no_chunk : (chunks : List Slot) (number : ℕ) → slot_at chunks (number / 64) ≡ None → frame_of chunks number ≡ None
frame_of_no_chunk chunks number none = frame_of-is chunks number ∙ ap (λ (slot : Slot). frame_in slot (number % 64)) none

-- where chunks end of which there are at most n
pub chunks_end : (n : ℕ) (chunks : List Slot) → length chunks ≤ n → EndsBy (frame_of chunks) (n * 64)
chunks_end n chunks few number past = frame_of_no_chunk chunks number (get_or_past chunks (number / 64) None (omega arith))

-- where one place of one chunk differs, one frame does
pub frame_of-one : (before after : List Slot) (number : ℕ) (frame : Option ℕ)
    → ((at : ℕ) → at ≢ number / 64 → slot_at after at ≡ slot_at before at)
    → ((place : ℕ) → place < 64
    → frame_in (slot_at after (number / 64)) place ≡ put (frame_in (slot_at before (number / 64))) (number % 64) frame place)
    → (q : ℕ) → frame_of after q ≡ put (frame_of before) number frame q
unfolding frame_of put
frame_of-one before after number frame others here q =
    elim (cases_eq (q / 64) (number / 64)) [
      | inl same ↦ rw same (here (q % 64) (omega arith) ∙ grind (arith, nat_tests))
      | inr other ↦ rw (others (q / 64) other) (grind (arith, nat_tests))
    ]

-- so a chunk is written in which one place differs
pub frame_of-set : (chunks : List Slot) (number : ℕ) (slot d : Slot) (frame : Option ℕ) → number / 64 < length chunks
    → ((place : ℕ) → place < 64 → frame_in slot place ≡ put (frame_in (get_or chunks (number / 64) d)) (number % 64) frame place)
    → (q : ℕ) → frame_of (set chunks (number / 64) slot) q ≡ put (frame_of chunks) number frame q
frame_of-set chunks number slot d frame listed differs =
    frame_of-one chunks (set chunks (number / 64) slot) number frame
    (λ at other. get_or-set_other chunks (number / 64) at slot None other)
    (rw (get_or-set_same chunks (number / 64) slot None listed, ← get_or_default chunks (number / 64) d None listed) differs)

-- one frame more
pub count_of-more : (before after : ℕ → Option ℕ) (number frame limit : ℕ) → number < limit → before number ≡ None
    → ((q : ℕ) → after q ≡ put before number (Some frame) q)
    → count_below (λ i. is_some (after i)) limit ≡ count_below (λ i. is_some (before i)) limit + 1
unfolding put
count_of-more before after number frame limit below none same =
    count_below_one (λ i. is_some (after i)) (λ i. is_some (before i)) number limit below
    (ap is_some (same number) ∙ grind (arith, nat_tests)) (ap is_some none)
    (λ k other. ap is_some (same k) ∙ grind (arith, nat_tests))

-- one frame less
pub count_of-less : (before after : ℕ → Option ℕ) (number limit : ℕ) → number < limit → is_some (before number) ≡ true
    → ((q : ℕ) → after q ≡ put before number None q)
    → count_below (λ i. is_some (before i)) limit ≡ count_below (λ i. is_some (after i)) limit + 1
unfolding put
count_of-less before after number limit below there same =
    count_below_one (λ i. is_some (before i)) (λ i. is_some (after i)) number limit below there
    (ap is_some (same number) ∙ grind (arith, nat_tests))
    (λ k other. sym (ap is_some (same k) ∙ grind (arith, nat_tests)))

-- the highest place of the highest chunk ends them
pub end_at : (chunks : List Slot) (at place : ℕ) → place < 64 → ((k : ℕ) → at + 1 ≤ k → slot_at chunks k ≡ None)
    → is_some (frame_in (slot_at chunks at) place) ≡ true → ((k : ℕ) → place < k → frame_in (slot_at chunks at) k ≡ None)
    → IsPagesEnd (frame_of chunks) (at * 64 + place + 1)
end_at chunks at place within none_above there highest = (λ i above. none i above, λ other past. least other past)
  where
    none : (i : ℕ) → at * 64 + place + 1 ≤ i → frame_of chunks i ≡ None
    none i above =
        elim (cases_eq (i / 64) at) [
          | inl same ↦
              let later : place < i % 64 = omega arith in
              frame_of-is chunks i ∙ rw same (highest (i % 64) later)
          | inr other ↦
              let higher : at + 1 ≤ i / 64 = omega arith in
              frame_of_no_chunk chunks i (none_above (i / 64) higher)
        ]

    least : (other : ℕ) → ((i : ℕ) → other ≤ i → frame_of chunks i ≡ None) → at * 64 + place + 1 ≤ other
    least other past =
        elim (cases_lt (at * 64 + place) other) [
          | inl less ↦ omega arith
          | inr le ↦
              absurd (true≢false (sym there ∙ ap is_some (sym (frame_of-at chunks at place within) ∙ past (at * 64 + place) le)))
        ]

-- and where there is no chunk, there is no frame
pub end_of_none : (chunks : List Slot) → ((k : ℕ) → slot_at chunks k ≡ None) → IsPagesEnd (frame_of chunks) 0
end_of_none chunks none = (λ i above. frame_of_no_chunk chunks i (none (i / 64)), λ other past. omega arith)

-- the first frame of a chunk, where none stands before the place from which on it was looked for
module _ (chunks : List Slot) (number at place : ℕ) (within : place < 64) (before : number ≤ at * 64 + place)
    (none : (k : ℕ) → number ≤ k → k < at * 64 + place → frame_of chunks k ≡ None) where
  none_between : (end : ℕ) → end ≤ 64 → ((k : ℕ) → place ≤ k → k < end → frame_in (slot_at chunks at) k ≡ None)
      → (k : ℕ) → number ≤ k → k < at * 64 + end → frame_of chunks k ≡ None
  none_between end in_chunk first k above below =
      elim (cases_lt k (at * 64 + place)) [
        | inl early ↦ none k above early
        | inr late ↦
            let here : k / 64 ≡ at = omega arith in
            frame_of-is chunks k ∙ rw here (first (k % 64) (omega arith) (omega arith))
      ]

  pub none_of_chunk : IsFirstWithin (frame_in (slot_at chunks at)) place 64 None
      → (k : ℕ) → number ≤ k → k < (at + 1) * 64 → frame_of chunks k ≡ None
  none_of_chunk first k above below = none_between 64 (omega arith) first k above (omega arith)

  -- it is the first of all, where it stands before the end
  pub first_of_chunk : (to : ℕ) (found : ℕ × ℕ) → IsFirstWithin (frame_in (slot_at chunks at)) place 64 (Some found)
      → IsFirstWithin (frame_of chunks) number to (then_some (nat_lt (at * 64 + found.0) to) (at * 64 + found.0, found.1))
  first_of_chunk to found first = here (nat_lt (at * 64 + found.0) to) refl
    where
      here : (b : Bool) → nat_lt (at * 64 + found.0) to ≡ b
          → IsFirstWithin (frame_of chunks) number to (then_some b (at * 64 + found.0, found.1))
      here true e = (
        omega (arith, first.0),
        ltb-true (at * 64 + found.0) to e,
        frame_of-at chunks at found.0 first.1 ∙ first.2,
        none_between found.0 (omega (arith, first.1)) first.3,
      )
      here false e = λ k above below.
          let past = ltb-false (at * 64 + found.0) to e in
          none_between found.0 (omega (arith, first.1)) first.3 k above (omega arith)
