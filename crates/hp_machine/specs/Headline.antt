-- The headline: what holds in every state that a run reaches.
use Rattle.std.specs.Prelude.{◌≡◌, ℕ, ◌+◌, ◌≤◌, ◌<◌, Option, Some, None, is_some}
use Rattle.hp_base.specs.Numbers.{total}
use Rattle.hp_base.specs.Indices.{vacant, count_below}
use Rattle.hp_base.specs.Mappings.{find}
use Rattle.hp_frames.specs.Bank.{IsWithinQuota}
use Rattle.hp_frames.specs.declared.frame.FrameState.{FrameState}
use Rattle.hp_frames.specs.declared.frame.FrameState.TheVariants as frame
use Rattle.hp_machine.specs.State.{State, free_frames}
use Rattle.hp_machine.specs.Views.{behind, ahead, used_ahead, hand}

-- each table entry lies in a mapping of its task, and the file's page at its index is the entry's frame
abbrev pub Agrees : State → Type 0
Agrees s =
    (t v x : ℕ) → s.entries t v ≡ Some x
    → (place : ℕ × ℕ) × (find (s.mappings t) v ≡ Some place) × (s.pages place.0 place.1 ≡ Some x)

-- where a frame can be
pub data Place : Type 0 where
  Free : Place
  Hand : (task : ℕ) → Place
  Page : (file index : ℕ) → Place
  Retired : Place

abbrev pub IsAt : (ℕ → FrameState) → (hands : ℕ → Option ℕ) → (pages : ℕ → ℕ → Option ℕ) → ℕ → Place → Type 0
IsAt states hands pages x Free = states x ≡ frame.Free
IsAt states hands pages x (Hand t) = hands t ≡ Some x
IsAt states hands pages x (Page f i) = pages f i ≡ Some x
IsAt states hands pages x Retired = states x ≡ frame.Retired

-- each frame is at exactly one place, and what is at a place is a frame
pub record OnePlace (frames : ℕ) (frame : ℕ → FrameState) (hands : ℕ → Option ℕ) (pages : ℕ → ℕ → Option ℕ) : Type 0 where
  pub one : (x : ℕ) → x < frames → (p : Place) × IsAt frame hands pages x p × ((q : Place) → IsAt frame hands pages x q → q ≡ p)
  pub real : (x : ℕ) (p : Place) → IsAt frame hands pages x p → x < frames

-- an index of a file with no holder of its lock that some task translates is below the size
abbrev pub IsBelow : State → Type 0
IsBelow s = (t v x f i : ℕ) → s.entries t v ≡ Some x → find (s.mappings t) v ≡ Some (f, i) → s.locks f ≡ None → i < s.size f

-- how many indices of all files are reserved and have no page
abbrev pub vacant_in : State → ℕ
vacant_in s = total s.geometry.files (λ f. vacant s.geometry.limit (s.reserved f) (s.pages f))

-- what the calls in flight owe, both ways; tasks are counted from 1
abbrev pub all_behind : State → ℕ
all_behind s = total (s.geometry.tasks + 1) (λ t. behind (s.calls t))

abbrev pub all_ahead : State → ℕ
all_ahead s = total (s.geometry.tasks + 1) (λ t. ahead (s.calls t))

-- how many indices of all files are reserved
abbrev pub reserved_in : State → ℕ
reserved_in s = total s.geometry.files (λ f. count_below (s.reserved f) s.geometry.limit)

-- what the calls in flight owe to the used count
abbrev pub all_used_ahead : State → ℕ
all_used_ahead s = total (s.geometry.tasks + 1) (λ t. used_ahead (s.calls t))

-- how many calls are in flight
abbrev pub all_calls : State → ℕ
all_calls s = count_below (λ t. is_some (s.calls t)) (s.geometry.tasks + 1)

-- Translations of one file index name one frame; each frame is in one place; no translation lies beyond the
-- size of an unlocked file; the reserve count is the number of reserved indices without a page, plus what the
-- calls in flight owe, and at most the free frames; it is exactly that number where no call owes anything. The used
-- count is the number of reserved indices, plus what the calls in flight owe to it, and at most the quota.
pub record Headline (s : State) : Type 0 where
  pub agree : Agrees s
  pub place : OnePlace s.frames s.frame (λ t. hand (s.calls t)) s.pages
  pub below : IsBelow s
  pub count : s.resv + all_behind s ≡ vacant_in s + all_ahead s
  pub enough : s.resv ≤ free_frames s.frame s.frames
  pub settled : ((t : ℕ) → (behind (s.calls t) ≡ 0) × (ahead (s.calls t) ≡ 0)) → s.resv ≡ vacant_in s
  pub used : s.used ≡ reserved_in s + all_used_ahead s
  pub within : IsWithinQuota s.geometry.quota s.used
