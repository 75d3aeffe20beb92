-- Chunks that have the same places, in memory of their own.
use Rattle.std.proofs.Common.{◌≡◌, ℕ, ◌+◌, ◌*◌, ◌/◌, ◌%◌, ◌<◌, ◌≤◌, List, Option, None, Some, length, take, map, get_or}
use Rattle.std.proofs.Common.{refl, sym, ap, ◌∙◌}
use Rattle.std.proofs.Common.{arith}
use Rattle.std.specs.Prelude.{[], ◌∷◌, ◌++◌, All, is_some}
use Rattle.std.proofs.Math.ListN.{get_or-map}
use Rattle.std.proofs.lemmas.List.{get_or_default, length-map, map-append, take_more}
use Rattle.hp_base.proofs.Counting.{count_below-ext}
use Rattle.hp_chunks.specs.Chunks.{Places, Slot, IsKept, AreCopies, places_of, frame_in, frame_of, map_below}
use Rattle.hp_chunks.proofs.Slots.{slot_at, frame_of-is, chunks_end}
use Rattle.hp_chunks.proofs.Tables.{map_below-ext}
use Rattle.hp_chunks.proofs.Views.{frame_count}

same_frame : (one other : Slot) (place : ℕ) → places_of one ≡ places_of other → frame_in one place ≡ frame_in other place
same_frame None None place same = refl
same_frame None (Some other) place same = absurd (cc)
same_frame (Some one) None place same = absurd (cc)
same_frame (Some one) (Some other) place same = let e : one.value ≡ other.value = cc in rw e refl

same_kept : (one other : Slot) → places_of one ≡ places_of other → IsKept other → IsKept one
same_kept None other same kept = tt
same_kept (Some one) None same kept = absurd (cc)
same_kept (Some one) (Some other) same kept = let e : one.value ≡ other.value = cc in rw e kept

module _ (n : ℕ) (copies chunks : List Slot) (copied : AreCopies copies chunks) (few : length chunks ≤ n) where
  pub copies_few : length copies ≤ n
  copies_few = omega (arith, few, sym (length-map copies places_of) ∙ (ap length copied ∙ length-map chunks places_of))

  same_slot : (k : ℕ) → places_of (slot_at copies k) ≡ places_of (slot_at chunks k)
  same_slot k =
      sym (get_or-map places_of copies k None) ∙ ap (λ (all : List (Option Places)). get_or all k None) copied
      ∙ get_or-map places_of chunks k None

  same_frames : (number : ℕ) → frame_of copies number ≡ frame_of chunks number
  same_frames number =
      frame_of-is copies number
      ∙ same_frame (slot_at copies (number / 64)) (slot_at chunks (number / 64)) (number % 64) (same_slot (number / 64))
      ∙ sym (frame_of-is chunks number)

  pub copies_kept : All IsKept chunks → All IsKept copies
  copies_kept kept k d within =
      let same : length copies ≡ length chunks = sym (length-map copies places_of) ∙ (ap length copied ∙ length-map chunks places_of) in
      rw (get_or_default copies k d None within)
      (same_kept (slot_at copies k) (slot_at chunks k) (same_slot k) (kept k None (omega (arith, same, within))))

  pub copies_count : frame_count n copies ≡ frame_count n chunks
  copies_count =
      count_below-ext (λ i. is_some (frame_of copies i)) (λ i. is_some (frame_of chunks i)) (n * 64) (λ i below. ap is_some (same_frames i))

  pub copies_frames : map_below (frame_of copies) (n * 64) ≡ map_below (frame_of chunks) (n * 64)
  copies_frames = map_below-ext (frame_of chunks) (frame_of copies) (n * 64) (chunks_end n chunks few) same_frames

-- one chunk more is copied
pub copy_more : (copies chunks : List Slot) (at : ℕ) (copy d : Slot) → at < length chunks → AreCopies copies (take at chunks)
    → places_of copy ≡ places_of (get_or chunks at d) → AreCopies (copies ++ copy ∷ []) (take (at + 1) chunks)
copy_more copies chunks at copy d within copied same =
    map-append places_of copies (copy ∷ []) ∙ (λ i. copied i ++ same i ∷ [])
    ∙ (sym (map-append places_of (take at chunks) (get_or chunks at d ∷ [])) ∙ ap (map places_of) (sym (take_more chunks at d within)))
