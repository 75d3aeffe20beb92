-- What a bank keeps of its frames: a record of each, and the free and the retired ones linked through their records.
use Rattle.std.specs.Prelude.{◌≡◌, ◌<◌, ◌^◌, ℕ, zero, suc, Bool, List, [], ◌∷◌, length, map, slice_index_or}
use Rattle.std.specs.Prelude.{Option, None, Some, IsSomeAnd}
use Rattle.hp_frames.specs.declared.frame.FrameState.{FrameState}
use Rattle.hp_frames.specs.declared.frame.FrameState.TheVariants as state
use Rattle.hp_frames.specs.declared.record.Chain.{Chain}
use Rattle.hp_frames.specs.declared.record.Record.{Record}
use Rattle.hp_frames.specs.declared.record.Record.TheVariants.{Free, Hand, Placed, Retired}
use Rattle.hp_frames.specs.Bank.{count_of, is_free, is_in_hand, is_retired, AreThose}

-- where a frame is, as its record tells
abbrev pub state_of : Record → FrameState
state_of (Free next) = state.Free
state_of Hand = state.Hand
state_of (Placed word) = state.Placed word
state_of (Retired next) = state.Retired

-- where each frame is
abbrev pub states : List Record → List FrameState
states records = map state_of records

-- the next frame that a record names, if any
abbrev pub next_of : Record → Option ℕ
next_of (Free next) = next
next_of Hand = None
next_of (Placed word) = None
next_of (Retired next) = next

-- the record of a frame
abbrev pub record_at : List Record → ℕ → Record
record_at records x = slice_index_or records x Hand

-- whoever follows the records from the first frame on meets these, one after the other, and no more
abbrev pub AreLinked : List Record → (first : Option ℕ) → List ℕ → Type 0
AreLinked records first [] = first ≡ None
AreLinked records first (x ∷ xs) = (first ≡ Some x) × AreLinked records (next_of (record_at records x)) xs

-- a chain links the frames of which it holds, each of them once, and counts them
pub record IsThreaded (holds : FrameState → Bool) (records : List Record) (chain : Chain) : Type 0 where
  pub listed : List ℕ
  pub linked : AreLinked records chain.first listed
  pub those : AreThose holds (states records) listed
  pub all : length listed ≡ count_of holds (states records)
  pub counted : chain.count ≡ count_of holds (states records)

-- what a bank keeps of its frames is right: the two chains, and how many frames are in hands
abbrev pub IsKept : List Record → (free retired : Chain) → (hands : ℕ) → Type 0
IsKept records free retired hands = record {
  free : IsThreaded is_free records free;
  retired : IsThreaded is_retired records retired;
  in_hands : hands ≡ count_of is_in_hand (states records);
  numbered : length records < 2 ^ 32;
}

-- a chain has a first frame, whose record is one of so many
abbrev pub HasFirst : Chain → ℕ → Type 0
HasFirst chain many = (0 < chain.count) × IsSomeAnd chain.first (λ x. x < many)

-- the frames that one meets, so many at most, who follows the records from the first on
abbrev pub chained : List Record → (many : ℕ) → (first : Option ℕ) → List ℕ
chained records zero first = []
chained records (suc n) None = []
chained records (suc n) (Some x) = x ∷ chained records n (next_of (record_at records x))

-- each of these is one of so many
abbrev pub AreWithin : ℕ → List ℕ → Type 0
AreWithin many [] = Unit {0}
AreWithin many (x ∷ xs) = (x < many) × AreWithin many xs
