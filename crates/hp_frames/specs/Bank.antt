-- The frames of a pool and its count of reserved pages, however the bank keeps them.
use Rattle.std.specs.Prelude.{◌≡◌, ◌≤◌, ◌<◌, ◌+◌, ◌-◌, ◌^◌, ◌==◌, ◌⊎◌, ℕ, Bool, true, false, not, max, List, [], ◌∷◌, length, slice_get, slice_set}
use Rattle.std.specs.Prelude.{Option, Some, None, IfSome, nat_lt}
use Rattle.std.specs.Prelude.{slice_index_or, nat_eq}
use Rattle.std.specs.List.{list_any}
use Rattle.hp_base.specs.Indices.{count_below}
use Rattle.hp_frames.specs.declared.frame.FrameState.{FrameState}
use Rattle.hp_frames.specs.declared.frame.FrameState.TheVariants.{Free, Hand, Placed, Retired}

-- where each frame is; how many pages are reserved; how many are used: the reserved indices, and what calls count
-- on besides; how many may be used, where that is limited; and for how many frames the bank has taken memory
pub record BankState : Type 0 where
  pub frames : List FrameState
  pub resv : ℕ
  pub used : ℕ
  pub quota : Option ℕ
  pub capacity : ℕ

abbrev pub is_free : FrameState → Bool
is_free Free = true
is_free Hand = false
is_free (Placed word) = false
is_free Retired = false

abbrev pub is_in_hand : FrameState → Bool
is_in_hand Free = false
is_in_hand Hand = true
is_in_hand (Placed word) = false
is_in_hand Retired = false

abbrev pub is_retired : FrameState → Bool
is_retired Free = false
is_retired Hand = false
is_retired (Placed word) = false
is_retired Retired = true

abbrev pub is_active : FrameState → Bool
is_active s = not (is_retired s)

-- where the frame is; one that isn't there is never free
unfoldable pub frame_at : List FrameState → ℕ → FrameState
frame_at frames x = slice_index_or frames x Hand

-- of how many of the frames it holds
unfoldable pub count_of : (holds : FrameState → Bool) → List FrameState → ℕ
count_of holds frames = count_below (λ x. holds (frame_at frames x)) (length frames)

-- how many of the frames are free
abbrev pub free_frames : List FrameState → ℕ
free_frames frames = count_of is_free frames

-- how many of the frames are retired
abbrev pub retired_frames : List FrameState → ℕ
retired_frames frames = count_of is_retired frames

-- how many of the frames aren't retired (Linux: `nr_huge_pages`)
abbrev pub active_frames : List FrameState → ℕ
active_frames frames = count_of is_active frames

-- how many frames of the bank are free (Linux: `free_huge_pages`)
abbrev pub free_count : BankState → ℕ
free_count b = free_frames b.frames

-- how many frames of the bank are in hands
abbrev pub hand_count : BankState → ℕ
hand_count b = count_of is_in_hand b.frames

abbrev pub IsFree : BankState → ℕ → Type 0
IsFree b x = slice_get b.frames x ≡ Some Free

-- the frame was taken or evicted, and isn't placed or given back yet
abbrev pub InHands : BankState → ℕ → Type 0
InHands b x = slice_get b.frames x ≡ Some Hand

abbrev pub HasWord : BankState → ℕ → ℕ → Type 0
HasWord b x word = slice_get b.frames x ≡ Some (Placed word)

abbrev pub IsPlaced : BankState → ℕ → Type 0
IsPlaced b x = (word : ℕ) × HasWord b x word

-- the bank with one frame elsewhere
abbrev pub with_frame : BankState → ℕ → FrameState → BankState
with_frame b x state = record b { frames = slice_set b.frames x state }

-- the bank with another count of reserved pages
abbrev pub with_resv : BankState → ℕ → BankState
with_resv b n = record b { resv = n }

-- the bank with another count of used pages
abbrev pub with_used : BankState → ℕ → BankState
with_used b n = record b { used = n }

-- n more pages are more than the quota has left (Linux: `hugepage_subpool_get_pages`)
abbrev pub exceeds : (quota : Option ℕ) → (used n : ℕ) → Bool
exceeds None used n = false
exceeds (Some most) used n = nat_lt (most - used) n

-- the quota has nothing left
abbrev pub is_used_up : (quota : Option ℕ) → (used : ℕ) → Bool
is_used_up None used = false
is_used_up (Some most) used = used == most

-- so many pages are used as the quota allows, or fewer
abbrev pub IsWithinQuota : (quota : Option ℕ) → (used : ℕ) → Type 0
IsWithinQuota quota used = IfSome quota (λ most. used ≤ most)

-- so many more pages can be counted
abbrev pub CanCount : BankState → ℕ → Type 0
CanCount b n = b.used + n < 2 ^ 32

-- the numbers of these are different, and each is that of a frame of which it holds
abbrev pub AreThose : (holds : FrameState → Bool) → List FrameState → List ℕ → Type 0
AreThose holds frames [] = Unit {0}
AreThose holds frames (x ∷ xs) =
    (x < length frames) × (holds (frame_at frames x) ≡ true) × (list_any (nat_eq x) xs ≡ false) × AreThose holds frames xs

-- k free frames more: retired ones come in first, and then new numbers
abbrev pub HasGrown : (old new : List FrameState) → (k : ℕ) → Type 0
HasGrown old new k = record {
  wide : length new ≡ max (length old) (active_frames old + k);
  count : active_frames new ≡ active_frames old + k;
  each : (x : ℕ) → x < length old
      → (frame_at new x ≡ frame_at old x) ⊎ ((frame_at old x ≡ Retired) × (frame_at new x ≡ Free));
  fresh : (x : ℕ) → length old ≤ x → x < length new → frame_at new x ≡ Free;
}

-- k free frames fewer, which are retired
abbrev pub HasShrunk : (old new : List FrameState) → (k : ℕ) → Type 0
HasShrunk old new k = record {
  wide : length new ≡ length old;
  count : active_frames new + k ≡ active_frames old;
  each : (x : ℕ) → x < length old
      → (frame_at new x ≡ frame_at old x) ⊎ ((frame_at old x ≡ Free) × (frame_at new x ≡ Retired));
}
