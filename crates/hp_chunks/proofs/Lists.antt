-- What is listed behind chunks: some that aren't there, and then one.
use Rattle.std.proofs.Common.{◌≡◌, ◌≢◌, ℕ, ◌+◌, ◌*◌, ◌/◌, ◌%◌, ◌<◌, List, Option, None, length, replicate}
use Rattle.std.proofs.Common.{refl, sym, ap, ◌∙◌, arith, inl, inr}
use Rattle.std.specs.Prelude.{[], ◌∷◌, ◌++◌, All}
use Rattle.std.proofs.Math.Seq.{get_or-append_seam}
use Rattle.std.proofs.lemmas.Bool.{cases_eq, cases_lt}
use Rattle.std.proofs.lemmas.List.{get_or_default, get_or_past, get_or_append_left, get_or-append_right, append_assoc, length-append}
use Rattle.std.proofs.lemmas.List.{length-replicate, replicate-append-replicate}
use Rattle.std.proofs.lemmas.Nat.{div-mul-add, mod-mul-add}
use Rattle.hp_base.specs.Numbers.{put}
use Rattle.hp_chunks.specs.Chunks.{Slot, IsKept, frame_in, frame_of}
use Rattle.hp_chunks.proofs.Chunks.{get_or_none}
use Rattle.hp_chunks.proofs.Slots.{slot_at, frame_of-one}

-- chunks, and behind them some that aren't there
abbrev pub longer : List Slot → ℕ → List Slot
longer old n = old ++ replicate n None

pub long : (old : List Slot) (n : ℕ) → length (longer old n) ≡ length old + n
long old n = length-append old (replicate {A = Slot} n None) ∙ omega (arith, length-replicate {A = Slot} n None)

-- and one more
pub one_more : (old : List Slot) (n : ℕ) → longer old n ++ None ∷ [] ≡ longer old (n + 1)
one_more old n = append_assoc old (replicate n None) (None ∷ []) ∙ ap (λ (nones : List Slot). old ++ nones) (replicate-append-replicate n 1 None)

module _ (old : List Slot) (n at : ℕ) (slot : Slot) (behind : length old + n ≡ at) where
  abbrev listed : List Slot
  listed = longer old n ++ slot ∷ []

  slot_before : (k : ℕ) → slot_at (longer old n) k ≡ slot_at old k
  slot_before k =
      elim (cases_lt k (length old)) [
        | inl below ↦ get_or_append_left old (replicate n None) None k below
        | inr past ↦
            get_or-append_right old (replicate n None) (length old) k None refl past
            ∙ get_or_none n _ ∙ sym (get_or_past old k None past)
      ]

  slot_here : slot_at listed at ≡ slot
  slot_here = ap (λ (k : ℕ). slot_at listed k) (sym (long old n ∙ behind)) ∙ get_or-append_seam (longer old n) slot [] None

  slot_other : (k : ℕ) → k ≢ at → slot_at listed k ≡ slot_at old k
  slot_other k other =
      elim (cases_lt k at) [
        | inl below ↦ get_or_append_left (longer old n) (slot ∷ []) None k (omega (arith, long old n, behind)) ∙ slot_before k
        | inr past ↦
            get_or_past listed k None (omega (arith, long old n, behind, length-append (longer old n) (slot ∷ []), other, past))
            ∙ sym (get_or_past old k None (omega (arith, behind, past)))
      ]

  pub listed_kept : IsKept slot → All IsKept old → All IsKept listed
  listed_kept kept all k d within =
      rw (get_or_default listed k d None within)
      (elim (cases_eq k at) [
        | inl same ↦ rw (same, slot_here) kept
        | inr other ↦ rw (slot_other k other) (by k)
      ])
    where
      by : (k : ℕ) → IsKept (slot_at old k)
      by k =
          elim (cases_lt k (length old)) [
            | inl below ↦ all k None below
            | inr past ↦ rw (get_or_past old k None past) tt
          ]

  pub frames_listed : (place : ℕ) (frame : Option ℕ) → place < 64
      → ((k : ℕ) → k < 64 → frame_in slot k ≡ put (frame_in None) place frame k)
      → (k : ℕ) → frame_of listed k ≡ put (frame_of old) (at * 64 + place) frame k
  frames_listed place frame within writes =
      let quotient : (at * 64 + place) / 64 ≡ at = div-mul-add at 64 place within in
      let remainder : (at * 64 + place) % 64 ≡ place = mod-mul-add at 64 place within in
      let bare : slot_at old at ≡ None = get_or_past old at None (omega (arith, behind)) in
      frame_of-one old listed (at * 64 + place) frame (rw quotient slot_other) (rw (quotient, remainder, slot_here, bare) writes)
