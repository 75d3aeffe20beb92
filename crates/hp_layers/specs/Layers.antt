-- Layers of states: those that are reached in exactly so many turns, up to states that are as good.
use Rattle.std.specs.Prelude.{◌≡◌, ◌<◌, ◌≤◌, ◌+◌, ◌++◌, ◌∷◌, ◌⊎◌, [], ℕ, zero, suc, Bool, true, List, Contains, length, slice_index_or, Option, Some}
use Rattle.std.specs.List.{IsDistinct, list_any}
use Rattle.std.specs.Global.{Vec}
use Rattle.hp_layers.specs.declared.limits.Limits.{Limits}
use Rattle.hp_layers.specs.declared.verdict.Verdict.{Verdict}
use Rattle.hp_layers.specs.declared.verdict.Verdict.TheVariants.{Never, Met, Cut}

-- the state is reached in exactly so many turns
unfoldable pub IsReached : {S : Type 0} → (turn : S → S → Type 0) → (first : S) → (turns : ℕ) → S → Type 0
IsReached turn first zero s = s ≡ first
IsReached {S} turn first (suc n) s = (before : S) × IsReached turn first n before × turn before s

-- one of these states is as good
unfoldable pub IsCovered : {S : Type 0} → (alike : S → S → Type 0) → List S → S → Type 0
IsCovered {S} alike states s = (t : S) × Contains states t × alike s t

-- these come after the state, and cover all that do
pub record AreAllAfter {S : Type 0} (turn alike : S → S → Type 0) (s : S) (next : List S) : Type 0 where
  pub some : (t : S) → Contains next t → turn s t
  pub all : (t : S) → turn s t → IsCovered alike next t

-- A turn leads to states of the system. A state that is as good has the same future, and meets what the other meets.
pub record IsAsGood {S : Type 0} (valid : S → Type 0) (turn : S → S → Type 0) (meets : S → Type 0) (alike : S → S → Type 0)
    : Type 0 where
  pub stays : (s t : S) → valid s → turn s t → valid t
  pub itself : (s : S) → valid s → alike s s
  pub onward : (s t u : S) → alike s t → alike t u → alike s u
  pub follows : (s t after : S) → alike s t → turn s after → (there : S) × turn t there × alike after there
  pub meets_too : (s t : S) → alike s t → meets s → meets t

-- all of them are states of the system
unfoldable pub AreValid : {S : Type 0} → (valid : S → Type 0) → List S → Type 0
AreValid {S} valid states = (s : S) → Contains states s → valid s

-- each key that is there is that of one of these states
unfoldable pub KeysStand : {S K : Type 0} → (eq : K → K → Bool) → (key_of : S → K) → (has : K → Bool) → List S → Type 0
KeysStand {S} {K} eq key_of has states = (k : K) → has k ≡ true → (t : S) × Contains states t × (eq (key_of t) k ≡ true)

-- no two of the keys are equal, and there are as many as states
pub record AreCounted {S K : Type 0} (eq : K → K → Bool) (keys : List K) (states : List S) : Type 0 where
  pub distinct : IsDistinct eq keys
  pub count : length keys ≡ length states

-- and each of them is that of one of the states
pub record AreKeysOf {S K : Type 0} (eq : K → K → Bool) (key_of : S → K) (keys : List K) (states : List S) : Type 0 where
  pub counted : AreCounted eq keys states
  pub stand : KeysStand eq key_of (λ k. list_any (eq k) keys) states

-- the state was added at the end, or nothing was
abbrev pub AddsSome : {S : Type 0} → (old : List S) → S → (new : List S) → Type 0
AddsSome old s new = (new ≡ old) ⊎ (new ≡ old ++ s ∷ [])

-- These are those that were there, and some of the states; each of the states is covered, and so is what was.
pub record AddsAll {S : Type 0} (alike : S → S → Type 0) (old states new : List S) : Type 0 where
  pub some : (t : S) → Contains new t → Contains old t ⊎ Contains states t
  pub kept : (s : S) → IsCovered alike old s → IsCovered alike new s
  pub all : (s : S) → Contains states s → IsCovered alike new s

-- the next states come after one of those, and cover whatever does
pub record AreNext {S : Type 0} (turn alike : S → S → Type 0) (states next : List S) : Type 0 where
  pub some : (t : S) → Contains next t → (s : S) × Contains states s × turn s t
  pub all : (s t : S) → Contains states s → turn s t → IsCovered alike next t

-- There are more keys than there is room for, no two of which are equal, each of a state that comes after one of those.
pub record LacksRoom {S K : Type 0} (eq : K → K → Bool) (key_of : S → K) (turn : S → S → Type 0) (states : List S) (room : ℕ) : Type 0 where
  pub keys : List K
  pub distinct : IsDistinct eq keys
  pub many : room < length keys
  pub each : (k : K) → list_any (eq k) keys ≡ true → (s t : S) × Contains states s × turn s t × (eq (key_of t) k ≡ true)

-- how many bytes the states take together
abbrev pub bytes_in : {S : Type 0} → (bytes_of : S → ℕ) → List S → ℕ
bytes_in bytes_of [] = 0
bytes_in bytes_of (s ∷ states) = bytes_of s + bytes_in bytes_of states

-- That many bytes do the states take together. The largest number of 64 bits stands for as many or more.
pub record AreBytes {S : Type 0} (bytes_of : S → ℕ) (states : List S) (bytes : ℕ) : Type 0 where
  pub at_most : bytes ≤ bytes_in bytes_of states
  pub exact : bytes < 18446744073709551615 → bytes ≡ bytes_in bytes_of states

-- the number is over the limit, if there is one
abbrev pub IsOver : ℕ → (limit : Option ℕ) → Type 0
IsOver n limit = (most : ℕ) × (limit ≡ Some most) × (most < n)

-- there is room for so many states, and for so many bytes
abbrev pub Fits : (states bytes room : ℕ) → (space : Option ℕ) → Type 0
Fits states bytes room space = (states ≤ room) × ((most : ℕ) → space ≡ Some most → bytes ≤ most)

-- States that come after one of those, no two of which have equal keys, take more bytes than there is room for, if that is limited.
pub record LacksBytes {S K : Type 0} (eq : K → K → Bool) (key_of : S → K) (turn : S → S → Type 0) (bytes_of : S → ℕ) (states : List S)
    (room : Option ℕ) : Type 0 where
  pub others : List S
  pub keys : List K
  pub apart : AreKeysOf eq key_of keys others
  pub many : IsOver (bytes_in bytes_of others) room
  pub each : (t : S) → Contains others t → (s : S) × Contains states s × turn s t

-- What was gathered behind some states so far: what comes next of them, states of the system, each with a key of its own. Their bytes are
-- counted, and there is room for them.
pub record IsGathered {S K : Type 0} (eq : K → K → Bool) (key_of : S → K) (valid : S → Type 0) (turn alike : S → S → Type 0) (bytes_of : S → ℕ)
    (room : ℕ) (space : Option ℕ) (states : List S) (has : K → Bool) (keys : List K) (next : List S) (bytes : ℕ) : Type 0 where
  pub stand : KeysStand eq key_of has next
  pub next_of : AreNext turn alike states next
  pub are_valid : AreValid valid next
  pub counted : AreCounted eq keys next
  pub fits : Fits (length next) bytes room space
  pub are_bytes : AreBytes bytes_of next bytes

-- these are reached in so many turns, and cover all that are
pub record IsLayer {S : Type 0} (turn alike : S → S → Type 0) (first : S) (turns : ℕ) (layer : List S) : Type 0 where
  pub reached : (t : S) → Contains layer t → IsReached turn first turns t
  pub covers : (s : S) → IsReached turn first turns s → IsCovered alike layer s

-- it holds of what stands at that place, whatever is read where nothing does
abbrev pub HoldsAt : {S : Type 0} → (P : S → Type 0) → List S → (place : ℕ) → Type 0
HoldsAt {S} P states place = (d : S) → P (slice_index_or states place d)

-- they come after what stands that many places behind the begin of a part
abbrev pub IsBehind : {S : Type 0} → (turn alike : S → S → Type 0) → (layer : List S) → (begin place : ℕ) → (after : Vec S) → Type 0
IsBehind turn alike layer begin place after = HoldsAt (λ s. AreAllAfter turn alike s after.items) layer (begin + place)

-- the state at that place meets it
pub record MeetsAt {S : Type 0} (meets : S → Type 0) (states : List S) (place : ℕ) : Type 0 where
  pub there : place < length states
  pub is : (d : S) → meets (slice_index_or states place d)

-- none of the states meets it
unfoldable pub NoneIsMet : {S : Type 0} → (meets : S → Type 0) → List S → Type 0
NoneIsMet {S} meets states = (s : S) → Contains states s → meets s → ⊥

-- nothing that is reached in exactly so many turns meets it
unfoldable pub NoneMeets : {S : Type 0} → (turn : S → S → Type 0) → (meets : S → Type 0) → (first : S) → (turns : ℕ) → Type 0
NoneMeets {S} turn meets first n = (s : S) → IsReached turn first n s → meets s → ⊥

-- nothing that is reached in fewer turns meets it
unfoldable pub NoneBefore : {S : Type 0} → (turn : S → S → Type 0) → (meets : S → Type 0) → (first : S) → (turns : ℕ) → Type 0
NoneBefore turn meets first n = (m : ℕ) → m < n → NoneMeets turn meets first m

-- the state is reached in exactly so many turns and meets it, and nothing does that is reached in fewer
pub record IsShortest {S : Type 0} (turn : S → S → Type 0) (meets : S → Type 0) (first s : S) (turns : ℕ) : Type 0 where
  pub reached : IsReached turn first turns s
  pub meets_it : meets s
  pub shortest : NoneBefore turn meets first turns

-- what a search says
unfoldable pub IsRight : {S : Type 0} → (turn : S → S → Type 0) → (meets : S → Type 0) → (first : S) → Verdict S → Type 0
IsRight turn meets first Never = (turns : ℕ) → NoneMeets turn meets first turns
IsRight turn meets first (Met s turns) = IsShortest turn meets first s turns
IsRight turn meets first (Cut turns) = NoneBefore turn meets first turns

-- no two of these keys are equal, and each is that of a state that is reached in exactly so many turns
pub record AreReached {S K : Type 0} (eq : K → K → Bool) (key_of : S → K) (turn : S → S → Type 0) (first : S) (turns : ℕ) (keys : List K)
    : Type 0 where
  pub distinct : IsDistinct eq keys
  pub each : (k : K) → list_any (eq k) keys ≡ true → (s : S) × IsReached turn first turns s × (eq (key_of s) k ≡ true)

-- of the states that are reached in exactly so many turns, and in one turn fewer, there are more keys than the limit
pub record IsCrowded {S K : Type 0} (eq : K → K → Bool) (key_of : S → K) (turn : S → S → Type 0) (first : S)
    (limit turns : ℕ) : Type 0 where
  pub before : ℕ
  pub next : turns ≡ before + 1
  pub some : List K
  pub others : List K
  pub here : AreReached eq key_of turn first before some
  pub behind : AreReached eq key_of turn first turns others
  pub many : limit < length some + length others

-- These states are reached in exactly so many turns, and no two of them have equal keys.
pub record AreReachedApart {S K : Type 0} (eq : K → K → Bool) (key_of : S → K) (turn : S → S → Type 0) (first : S) (turns : ℕ)
    (states : List S) : Type 0 where
  pub keys : List K
  pub apart : AreKeysOf eq key_of keys states
  pub each : (s : S) → Contains states s → IsReached turn first turns s

-- states that are reached in exactly so many turns, and in one turn fewer, take more bytes than the limit, if there is one
pub record IsHeavy {S K : Type 0} (eq : K → K → Bool) (key_of : S → K) (turn : S → S → Type 0) (bytes_of : S → ℕ) (first : S)
    (limit : Option ℕ) (turns : ℕ) : Type 0 where
  pub before : ℕ
  pub next : turns ≡ before + 1
  pub some : List S
  pub others : List S
  pub here : AreReachedApart eq key_of turn first before some
  pub behind : AreReachedApart eq key_of turn first turns others
  pub many : IsOver (bytes_in bytes_of some + bytes_in bytes_of others) limit

-- something is reached in each number of turns below that
unfoldable pub IsLong : {S : Type 0} → (turn : S → S → Type 0) → (first : S) → (turns : ℕ) → Type 0
IsLong {S} turn first n = (m : ℕ) → m < n → (s : S) × IsReached turn first m s

-- A search is cut where it has made as many turns as the limit, and what it searches didn't end before, where there are too many states, or
-- where they take too many bytes. What it finds is found in fewer turns.
unfoldable pub IsCutAtLimits : {S K : Type 0} → (eq : K → K → Bool) → (key_of : S → K) → (turn : S → S → Type 0) → (bytes_of : S → ℕ)
    → (first : S) → Limits → Verdict S → Type 0
IsCutAtLimits eq key_of turn bytes_of first limits Never = Unit {0}
IsCutAtLimits eq key_of turn bytes_of first limits (Met s turns) = turns < limits.turns
IsCutAtLimits eq key_of turn bytes_of first limits (Cut turns) =
    ((turns ≡ limits.turns) × IsLong turn first turns) ⊎ IsCrowded eq key_of turn first limits.states turns
    ⊎ IsHeavy eq key_of turn bytes_of first limits.bytes turns
