-- What a map is seen as, by its chunks: where it is read, and where one place of a chunk is written.
use Rattle.std.proofs.Common.{◌≡◌, ℕ, ◌+◌, ◌*◌, ◌/◌, ◌%◌, ◌<◌, ◌≤◌, true, List, Option, None, Some, length, get_or}
use Rattle.std.proofs.Common.{refl, sym, ap, ◌∙◌, inl, inr, true≢false}
use Rattle.std.proofs.lemmas.Bool.{cases_lt}
use Rattle.std.specs.Prelude.{is_some}
use Rattle.std.specs.FinMap as map
use Rattle.std.specs.Ordering.{nat_cmp}
use Rattle.std.proofs.lemmas.List.{get_or_default, get_or_past}
use Rattle.hp_base.specs.Indices.{count_below}
use Rattle.hp_base.specs.Numbers.{put}
use Rattle.hp_base.specs.Pages.{IsPagesEnd}
use Rattle.hp_base.proofs.Counting.{count_below_le}
use Rattle.hp_chunks.specs.Framed.{Framed, listed, IsFirstWithin}
use Rattle.hp_chunks.specs.Chunks.{Slot, frame_in, frame_of, map_below, seen_as}
use Rattle.hp_chunks.proofs.Slots.{slot_at, frame_of_slot, chunks_end, count_of-more, count_of-less}
use Rattle.hp_chunks.proofs.Listing.{entries-map_below}
use Rattle.hp_chunks.proofs.Tables.{same_as, get-seen, end_seen, map_below-insert, map_below-remove}

-- how many frames chunks have of which there are at most n
abbrev pub frame_count : ℕ → List Slot → ℕ
frame_count n chunks = count_below (λ k. is_some (frame_of chunks k)) (n * 64)

pub frame_count_le : (n : ℕ) (chunks : List Slot) → frame_count n chunks ≤ n * 64
frame_count_le n chunks = count_below_le (λ k. is_some (frame_of chunks k)) (n * 64)

-- at most n chunks, and what they are seen as
pub record Shows (n : ℕ) (chunks : List Slot) (framed : Framed) : Type 0 where
  pub capacity : ℕ
  pub is : seen_as n chunks capacity ≡ framed
  pub few : length chunks ≤ n

module _ {n : ℕ} {chunks : List Slot} {framed : Framed} (shows : Shows n chunks framed) where
  same_frames : map_below (frame_of chunks) (n * 64) ≡ framed.frames
  same_frames = ap (λ (v : Framed). v.frames) shows.is

  pub get_frame : (number : ℕ) → map.get framed.frames number ≡ frame_of chunks number
  get_frame = get-seen (frame_of chunks) (n * 64) framed.frames same_frames (chunks_end n chunks shows.few)

  pub get_slot : (number : ℕ) (slot : Slot) → slot_at chunks (number / 64) ≡ slot
      → map.get framed.frames number ≡ frame_in slot (number % 64)
  get_slot number slot at = get_frame number ∙ frame_of_slot chunks number slot at

  -- a number that has a frame has a chunk that is listed
  pub present_listed : (number : ℕ) → is_some (map.get framed.frames number) ≡ true → number / 64 < length chunks
  present_listed number there =
      elim (cases_lt (number / 64) (length chunks)) [
        | inl within ↦ within
        | inr past ↦ absurd (true≢false (sym there ∙ ap is_some (get_slot number None (get_or_past chunks (number / 64) None past))))
      ]

  pub end_of : (end : ℕ) → IsPagesEnd (frame_of chunks) end → IsPagesEnd (map.get framed.frames) end
  end_of = end_seen (frame_of chunks) (n * 64) framed.frames same_frames (chunks_end n chunks shows.few)

  pub first_seen : (from to : ℕ) (found : Option (ℕ × ℕ)) → IsFirstWithin (frame_of chunks) from to found
      → IsFirstWithin (map.get framed.frames) from to found
  first_seen from to None none = λ k above below. get_frame k ∙ none k above below
  first_seen from to (Some e) first =
      (first.0, first.1, get_frame e.0 ∙ first.2, λ k above below. get_frame k ∙ first.3 k above below)

  -- its entries, in order
  pub entries_listed : listed (map.get framed.frames) 0 (n * 64) ≡ map.entries framed.frames
  entries_listed =
      let all = same_as (map.get framed.frames) (n * 64) framed.frames
      (λ q past. get_frame q ∙ chunks_end n chunks shows.few q past) (λ q. refl) in
      sym (entries-map_below (map.get framed.frames) (n * 64)) ∙ ap (λ (m : map.FinMap nat_cmp ℕ). map.entries m) all

  -- what the slot of a number has at its place
  pub slot_read : (number : ℕ) (d : Slot) → number / 64 < length chunks
      → frame_in (get_or chunks (number / 64) d) (number % 64) ≡ map.get framed.frames number
  slot_read number d listed =
      sym (get_slot number (get_or chunks (number / 64) d) (get_or_default chunks (number / 64) None d listed))

  -- other chunks, in which the frame of one number differs
  module _ (others : List Slot) (number : ℕ) (below : number < n * 64) where
    abbrev Differs : Option ℕ → Type 0
    Differs frame = (k : ℕ) → frame_of others k ≡ put (frame_of chunks) number frame k

    -- a frame was put there
    pub written_more : (frame : ℕ) → map.get framed.frames number ≡ None → Differs (Some frame)
        → (frame_count n others ≡ frame_count n chunks + 1) × (map_below (frame_of others) (n * 64) ≡ map.insert framed.frames number frame)
    written_more frame none differs = (
      count_of-more (frame_of chunks) (frame_of others) number frame (n * 64) below (sym (get_frame number) ∙ none) differs,
      map_below-insert (frame_of chunks) (n * 64) framed.frames same_frames (chunks_end n chunks shows.few) (frame_of others) number frame
          below differs,
    )

    -- the frame was taken from there
    pub written_less : is_some (map.get framed.frames number) ≡ true → Differs None
        → (frame_count n chunks ≡ frame_count n others + 1) × (map_below (frame_of others) (n * 64) ≡ map.remove framed.frames number)
    written_less there differs = (
      count_of-less (frame_of chunks) (frame_of others) number (n * 64) below (ap is_some (sym (get_frame number)) ∙ there) differs,
      map_below-remove (frame_of chunks) (n * 64) framed.frames same_frames (chunks_end n chunks shows.few) (frame_of others) number
          below differs,
    )
