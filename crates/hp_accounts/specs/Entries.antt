-- What code may do, one entry in the books after the other: what each wants, and what it leaves.
use Rattle.std.specs.Prelude.{◌≡◌, ℕ, ◌+◌, ◌-◌, ◌<◌, ◌≤◌, ◌⊎◌, Bool, true, false, Some, None, List, [], ◌∷◌, if◌then◌else◌}
use Rattle.hp_base.specs.Indices.{missing, add_range, count_within, cut_tail}
use Rattle.hp_base.specs.Mappings.{find, fits, entered, without, without_index, in_mapping}
use Rattle.hp_base.specs.Numbers.{put, put2, bit}
use Rattle.hp_base.specs.declared.mapping.Mapping.{Mapping}
use Rattle.hp_frames.specs.declared.frame.FrameState.{FrameState}
use Rattle.hp_frames.specs.declared.frame.FrameState.TheVariants.{Free, Hand, Placed, Retired}
use Rattle.hp_machine.specs.State.{slot_of}
use Rattle.hp_accounts.specs.Books.{Books, Away, At, Bare, Entered, Clearing, place_of, bare_of, lowered, raised}

-- One entry. `holder` does it; numbers called `owed` and `promised` are by how much that account of the books changes, and what is
-- `ignored` is a number that a function returned and that nobody accounts.
pub data Entry : Type 0 where
  TakesSlot : (holder file index : ℕ) → Entry
  LeavesSlot : (holder file index : ℕ) → Entry
  Looks : (holder file index : ℕ) → Entry
  Finds : (holder file index : ℕ) → Entry
  Turns : (holder file index : ℕ) → Entry
  ClearsIndex : (holder file index task : ℕ) → Entry
  Evicts : (holder file index task frame : ℕ) → Entry
  Places : (holder file index frame : ℕ) → Entry
  Translates : (holder file index task vpn frame : ℕ) → Entry
  Takes : (holder frame : ℕ) → Entry
  HandsOver : (holder other frame : ℕ) → Entry
  Frees : (holder frame : ℕ) → Entry
  Writes : (frame old new : ℕ) → Entry
  ClearsSome : (task : ℕ) → (out : ℕ → Bool) → Entry
  EntersArea : (task : ℕ) → Mapping → Entry
  LeavesArea : (task base : ℕ) → Entry
  Resizes : (frames : ℕ) → (frame : ℕ → FrameState) → Entry
  Accounts : (number : ℕ) → Entry
  Settles : (number : ℕ) → Entry
  Spends : (number : ℕ) → Entry
  GivesBack : (number : ℕ) → Entry
  Ignores : (number : ℕ) → Entry
  Commits : (file from to promised owed ignored : ℕ) → Entry
  Deletes : (holder file index promised owed : ℕ) → Entry
  CutsTail : (file from promised owed : ℕ) → Entry

-- what a resize may do to a frame that is there: nothing, retire a free one, or free a retired one; and new ones are free
abbrev pub IsShifted : (was is : FrameState) → Type 0
IsShifted was is = (is ≡ was) ⊎ (((was ≡ Free) × (is ≡ Retired)) ⊎ ((was ≡ Retired) × (is ≡ Free)))

pub record IsResized (b : Books) (frames : ℕ) (frame : ℕ → FrameState) : Type 0 where
  pub wide : b.frames ≤ frames
  pub each : (x : ℕ) → x < b.frames → IsShifted (b.frame x) (frame x)
  pub fresh : (x : ℕ) → b.frames ≤ x → x < frames → frame x ≡ Free
  pub beyond : (x : ℕ) → frames ≤ x → frame x ≡ b.frame x

-- what an entry wants, a line each
abbrev pub May : Books → Entry → Type 0
-- a slot is taken where it is free, for an index that is there, by a holder that has none
May b (TakesSlot h f i) = (f < b.geometry.files) × (i < b.geometry.limit) × (b.slots (slot_of b.geometry f i) ≡ None) × (b.marks h ≡ Away)
May b (LeavesSlot h f i) = place_of (b.marks h) ≡ Some (f, i)
-- under it a holder looks for the page, for the index in the map where there is no page, and turns to what it has yet to clear
May b (Looks h f i) = (place_of (b.marks h) ≡ Some (f, i)) × (b.pages f i ≡ None)
May b (Finds h f i) = (bare_of (b.marks h) ≡ Some (f, i)) × (b.reserved f i ≡ true)
May b (Turns h f i) = place_of (b.marks h) ≡ Some (f, i)
May b (ClearsIndex h f i n) = b.marks h ≡ Clearing f i n
-- a page goes into an empty hand once no task has a translation of it; and comes from a hand where there is none
May b (Evicts h f i n x) = (b.marks h ≡ Clearing f i n) × (b.geometry.tasks < n) × (b.pages f i ≡ Some x) × (b.hands h ≡ None)
May b (Places h f i x) = (bare_of (b.marks h) ≡ Some (f, i)) × (b.hands h ≡ Some x) × (1 ≤ b.owed)
-- what is translated is there, in a mapping, and its slot is held
May b (Translates h f i t v x) =
    (b.marks h ≡ At f i) × (1 ≤ t) × (t ≤ b.geometry.tasks) × (find (b.mappings t) v ≡ Some (f, i)) × (b.pages f i ≡ Some x)
-- frames go into empty hands, from there to others, and are freed, whenever that is
May b (Takes h x) = (b.frame x ≡ Free) × (b.hands h ≡ None)
May b (HandsOver h k x) = (b.hands h ≡ Some x) × (b.hands k ≡ None)
May b (Frees h x) = b.hands h ≡ Some x
May b (Writes x old new) = b.frame x ≡ Placed old
-- translations may go whenever somebody likes; a mapping comes where there is room, and goes without translations
May b (ClearsSome t out) = Unit {0}
May b (EntersArea t a) = fits b.geometry.space (b.mappings t) a.base a.len ≡ true
May b (LeavesArea t base) = (v x : ℕ) → b.entries t v ≡ Some x → in_mapping (b.mappings t) base v ≡ false
May b (Resizes n frame) = IsResized b n frame
-- what is counted is promised, until it is settled; what is spent of the count is owed, until it is given back, or ignored
May b (Accounts n) = Unit {0}
May b (Settles n) = n ≤ b.promised
May b (Spends n) = Unit {0}
May b (GivesBack n) = n ≤ b.owed
May b (Ignores n) = n ≤ b.owed
-- an index that joins the map was promised, or is owed from now on, or nobody accounts it; one that leaves it, if it was in it, was owed,
-- or has to be given back
May b (Commits f from to p o l) =
    (f < b.geometry.files) × (to ≤ b.geometry.limit) × (p ≤ b.promised) × (p + o + l ≡ missing (b.reserved f) from to)
May b (Deletes h f i p o) = (bare_of (b.marks h) ≡ Some (f, i)) × (o ≤ b.owed) × (p + o ≡ bit (b.reserved f i))
May b (CutsTail f from p o) = (f < b.geometry.files) × (o ≤ b.owed) × (p + o ≡ count_within (b.reserved f) from b.geometry.limit)

-- and what it leaves
abbrev pub after : Books → Entry → Books
after b (TakesSlot h f i) = record b { slots = put b.slots (slot_of b.geometry f i) (Some h); marks = put b.marks h (At f i) }
after b (LeavesSlot h f i) = record b { slots = put b.slots (slot_of b.geometry f i) None; marks = put b.marks h Away }
after b (Looks h f i) = record b { marks = put b.marks h (Bare f i) }
after b (Finds h f i) = record b { marks = put b.marks h (Entered f i) }
after b (Turns h f i) = record b { marks = put b.marks h (Clearing f i 1) }
after b (ClearsIndex h f i n) = record b {
  entries = put b.entries n (without_index (b.mappings n) (b.entries n) f i);
  marks = put b.marks h (Clearing f i (n + 1));
}
after b (Evicts h f i n x) = record b {
  pages = put2 b.pages f i None;
  frame = put b.frame x Hand;
  hands = put b.hands h (Some x);
  marks = put b.marks h (Bare f i);
  owed = b.owed + 1;
}
after b (Places h f i x) = record b {
  pages = put2 b.pages f i (Some x);
  frame = put b.frame x (Placed 0);
  hands = put b.hands h None;
  marks = put b.marks h (At f i);
  owed = b.owed - 1;
}
after b (Translates h f i t v x) = record b { entries = put2 b.entries t v (Some x) }
after b (Takes h x) = record b { frame = put b.frame x Hand; hands = put b.hands h (Some x) }
after b (HandsOver h k x) = record b { hands = put (put b.hands h None) k (Some x) }
after b (Frees h x) = record b { frame = put b.frame x Free; hands = put b.hands h None }
after b (Writes x old new) = record b { frame = put b.frame x (Placed new) }
after b (ClearsSome t out) = record b { entries = put b.entries t (λ v. if out v then None else b.entries t v) }
after b (EntersArea t a) = record b { mappings = put b.mappings t (entered (b.mappings t) a) }
after b (LeavesArea t base) = record b { mappings = put b.mappings t (without (b.mappings t) base) }
after b (Resizes n frame) = record b { frames = n; frame = frame }
after b (Accounts n) = record (raised b n) { promised = b.promised + n }
after b (Settles n) = record (lowered b n) { promised = b.promised - n }
after b (Spends n) = record (lowered b n) { owed = b.owed + n }
after b (GivesBack n) = record (raised b n) { owed = b.owed - n }
after b (Ignores n) = record b { owed = b.owed - n }
after b (Commits f from to p o l) = record b {
  reserved = put b.reserved f (add_range (b.reserved f) from to);
  promised = b.promised - p;
  owed = b.owed + o;
}
after b (Deletes h f i p o) = record b {
  reserved = put2 b.reserved f i false;
  marks = put b.marks h (Bare f i);
  promised = b.promised + p;
  owed = b.owed - o;
}
after b (CutsTail f from p o) = record b {
  reserved = put b.reserved f (cut_tail (b.reserved f) from);
  promised = b.promised + p;
  owed = b.owed - o;
}

-- what an entry ignores of what it was returned
abbrev pub ignored_by : Entry → ℕ
ignored_by (TakesSlot h f i) = 0
ignored_by (LeavesSlot h f i) = 0
ignored_by (Looks h f i) = 0
ignored_by (Finds h f i) = 0
ignored_by (Turns h f i) = 0
ignored_by (ClearsIndex h f i n) = 0
ignored_by (Evicts h f i n x) = 0
ignored_by (Places h f i x) = 0
ignored_by (Translates h f i t v x) = 0
ignored_by (Takes h x) = 0
ignored_by (HandsOver h k x) = 0
ignored_by (Frees h x) = 0
ignored_by (Writes x old new) = 0
ignored_by (ClearsSome t out) = 0
ignored_by (EntersArea t a) = 0
ignored_by (LeavesArea t base) = 0
ignored_by (Resizes n frame) = 0
ignored_by (Accounts n) = 0
ignored_by (Settles n) = 0
ignored_by (Spends n) = 0
ignored_by (GivesBack n) = 0
ignored_by (Ignores n) = n
ignored_by (Commits f from to p o l) = l
ignored_by (Deletes h f i p o) = 0
ignored_by (CutsTail f from p o) = 0

-- ---- lists of entries

-- each entry has what it wants
abbrev pub AllMay : Books → List Entry → Type 0
AllMay b [] = Unit {0}
AllMay b (e ∷ es) = May b e × AllMay (after b e) es

-- the books behind them
abbrev pub ends : Books → List Entry → Books
ends b [] = b
ends b (e ∷ es) = ends (after b e) es

-- all that they ignore
abbrev pub ignored_in : List Entry → ℕ
ignored_in [] = 0
ignored_in (e ∷ es) = ignored_by e + ignored_in es
