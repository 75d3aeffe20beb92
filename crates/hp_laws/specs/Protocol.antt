-- Facts of the protocol on which the rest stands.
use Rattle.std.specs.Prelude.{◌≡◌, ◌≢◌, ◌⊎◌, ℕ, ◌+◌, ◌≤◌, ◌<◌, ◌==◌, ◌&&◌, ◌||◌, Bool, true, false, Option, Some, None}
use Rattle.hp_base.specs.Numbers.{total}
use Rattle.hp_base.specs.Indices.{is_within}
use Rattle.hp_base.specs.Mappings.{find, is_there}
use Rattle.hp_base.specs.declared.event.Event.{Event}
use Rattle.hp_base.specs.declared.event.Event.TheVariants.{Step}
use Rattle.hp_frames.specs.Bank.{is_in_hand, is_retired}
use Rattle.hp_machine.specs.State.{Pool, State}
use Rattle.hp_machine.specs.Events.{word_of}
use Rattle.hp_machine.specs.Standings.{Progress, NoChange, Counts, GivesUp, Work, NoWork, Makes, Uses, Removes, Removed, standing_of}
use Rattle.hp_machine.specs.Views.{hand, opens, slot_held}
use Rattle.hp_machine.specs.declared.phase.Phase.TheVariants as word
use Rattle.hp_machine.specs.declared.truncate.Truncation.{Truncation}
use Rattle.hp_machine.specs.declared.truncate.TruncatePhase.{TruncatePhase}
use Rattle.hp_machine.specs.declared.truncate.TruncatePhase.TheVariants as truncate
use Rattle.hp_machine.specs.declared.call.Call.{Call}
use Rattle.hp_laws.specs.Sweep.{made_at, passed}

-- the pending changes of a file's map are the calls that have one open: at changed, abort, taken or accounted
abbrev pub ChangesAreCalls : State → Type 0
ChangesAreCalls s = (f : ℕ) → s.pending f ≡ total (s.geometry.tasks + 1) (λ u. opens f (s.calls u))

-- there is a spare for each pending change
abbrev pub SparesSuffice : State → Type 0
SparesSuffice s = (f : ℕ) → s.pending f ≤ s.spare f

-- a page lies only at a reserved index
abbrev pub PagesAreReserved : State → Type 0
PagesAreReserved s = (f i x : ℕ) → s.pages f i ≡ Some x → s.reserved f i ≡ true

-- what is reserved or has a page lies below the limit of a file that is there
abbrev pub LiesWithin : State → Type 0
LiesWithin s = record {
  reserved : (f i : ℕ) → s.reserved f i ≡ true → (f < s.geometry.files) × (i < s.geometry.limit);
  cached : (f i x : ℕ) → s.pages f i ≡ Some x → (f < s.geometry.files) × (i < s.geometry.limit);
}

-- the frames have the same numbers, and the same of them are retired
abbrev pub KeepsItsFrames : (old new : Pool) → Type 0
KeepsItsFrames s new = (new.frames ≡ s.frames) × ((x : ℕ) → is_retired (new.frame x) ≡ is_retired (s.frame x))

abbrev pub is_bare_at : Work → Bool
is_bare_at NoWork = false
is_bare_at Makes = true
is_bare_at Uses = false
is_bare_at Removes = false
is_bare_at Removed = true

-- the call makes a page at the index whose slot it holds, or took it away, or found none to take away
abbrev pub is_bare : Option Call → Bool
is_bare c = is_bare_at (standing_of c).work

-- two calls that hold a frame stand at different indices
abbrev pub HandsApart : State → Type 0
HandsApart s =
    (t u x y : ℕ) → t ≢ u → hand (s.calls t) ≡ Some x → hand (s.calls u) ≡ Some y
    → (k j : ℕ × ℕ) × (slot_held (s.calls t) ≡ Some k) × (slot_held (s.calls u) ≡ Some j) × (k ≢ j)

-- and where a call makes a page there is none
abbrev pub BareWhereMade : State → Type 0
BareWhereMade s = (t : ℕ) (k : ℕ × ℕ) → is_bare (s.calls t) ≡ true → slot_held (s.calls t) ≡ Some k → s.pages k.0 k.1 ≡ None

-- a change in progress that isn't to be aborted covers that index
abbrev pub is_covered : Progress → (file index : ℕ) → Bool
is_covered NoChange f i = false
is_covered (Counts file change) f i = (file == f) && is_within change.from change.to i
is_covered (GivesUp file) f i = false

-- a frame in a hand is to be the page of that index
abbrev pub is_frame_for : (hand : Option ℕ) → (makes_page_at : Option (ℕ × ℕ)) → (file index : ℕ) → Bool
is_frame_for None place f i = false
is_frame_for (Some x) place f i = is_there place f i

-- a call counts on an index where it has a change in progress that covers it, or a frame in its hand for its page
abbrev pub counts_on : Option Call → (file index : ℕ) → Bool
counts_on c f i =
    is_covered (standing_of c).change f i
    || is_frame_for (standing_of c).hand (made_at (standing_of c).work (standing_of c).slot) f i

-- a reserved index goes only at a delete or a tail, under the file lock, and no other call counts on it
abbrev pub GoesUnderLock : State → Event → (file index : ℕ) → Type 0
GoesUnderLock s event f i = (t : ℕ) × (grant : Bool) × (c : Call) × (event ≡ Step t grant) × (s.calls t ≡ Some c) × (s.locks f ≡ Some t)
    × ((word_of c ≡ word.Delete) ⊎ (word_of c ≡ word.Tail)) × ((u : ℕ) → u ≢ t → counts_on (s.calls u) f i ≡ false)

abbrev pub used_at : Work → Option (ℕ × ℕ) → Option (ℕ × ℕ)
used_at NoWork place = None
used_at Makes place = place
used_at Uses place = place
used_at Removes place = None
used_at Removed place = None

-- the one index for which a touch or an allocation makes a page, or found one
abbrev pub works_at : Option Call → Option (ℕ × ℕ)
works_at c = used_at (standing_of c).work (standing_of c).slot

-- an index that a truncation has passed, or at which it took the page away, has no page, and no other call
-- works there
abbrev pub PassedIsBare : State → Type 0
PassedIsBare s = (t f j : ℕ) → (passed (s.calls t) f j ≡ true) ⊎ ((is_bare (s.calls t) ≡ true) × (slot_held (s.calls t) ≡ Some (f, j)))
    → (s.pages f j ≡ None) × ((u : ℕ) → u ≢ t → works_at (s.calls u) ≡ Some (f, j) → ⊥)

-- what a truncation was asked for
abbrev pub truncation_of : TruncatePhase → Truncation
truncation_of (truncate.Start p) = p.truncation
truncation_of (truncate.Size p) = p.truncation
truncation_of (truncate.Want p) = p.truncation
truncation_of (truncate.Locked p) = p.truncation
truncation_of (truncate.Unmap p) = p.truncation
truncation_of (truncate.Evict p) = p.truncation
truncation_of (truncate.Free p) = p.truncation
truncation_of (truncate.Unslot p) = p.truncation
truncation_of (truncate.Tail p) = p.truncation
truncation_of (truncate.Settle p) = p.truncation
truncation_of (truncate.Leave p) = p.truncation

-- nothing of the file at or above the size is translated, cached or reserved
abbrev pub IsCut : State → (file new : ℕ) → Type 0
IsCut s f new = record {
  translated : (t v x j : ℕ) → s.entries t v ≡ Some x → find (s.mappings t) v ≡ Some (f, j) → j < new;
  cached : (j : ℕ) → new ≤ j → s.pages f j ≡ None;
  reserved : (j : ℕ) → new ≤ j → s.reserved f j ≡ false;
}

-- no call is in flight
abbrev pub IsAtRest : State → Type 0
IsAtRest s = (t : ℕ) → s.calls t ≡ None

-- no change of a reserve map is in progress, no frame is in a hand, and nobody holds a slot or a lock
abbrev pub HoldsNothing : State → Type 0
HoldsNothing s = record {
  changes : (f : ℕ) → s.pending f ≡ 0;
  hands : (x : ℕ) → x < s.frames → is_in_hand (s.frame x) ≡ false;
  slots : (k : ℕ) → s.slots k ≡ None;
  locks : (f : ℕ) → s.locks f ≡ None;
}
