-- The endings of runs.
use Rattle.std.specs.Prelude.{◌≡◌, ◌<◌, ◌≤◌, ◌⊎◌, ℕ, Bool, true, false, List, Contains, Option, Some, is_some}
use Rattle.hp_layers.specs.declared.ending.EndingTable.{EndingTable}
use Rattle.hp_layers.specs.declared.ending.EndingTable.TheVariants.{Whole, Cut}
use Rattle.hp_layers.specs.declared.limits.Limits.{Limits}
use Rattle.hp_layers.specs.Layers.{IsCrowded, IsHeavy, IsLong, IsReached}

-- what is alike ends alike, and endings that are equal are one
pub record EndsAlike {S E : Type 0} (eq : E → E → Bool) (alike : S → S → Type 0) (ending : S → Option E) : Type 0 where
  pub alike_ends : (s t : S) → alike s t → ending t ≡ ending s
  pub one : (d e : E) → eq d e ≡ true → d ≡ e

-- each ending that is there is that of one of the states
unfoldable pub EndingsStand : {S E : Type 0} → (ending : S → Option E) → (has : E → Bool) → List S → Type 0
EndingsStand {S} {E} ending has table = (e : E) → has e ≡ true → (s : S) × Contains table s × (ending s ≡ Some e)

-- The state's ending is there now, if it has one. The state may be in the table now, if its ending wasn't there.
pub record TakesOne {S E : Type 0} (ending : S → Option E) (has more : E → Bool) (old : List S) (s : S) (new : List S) : Type 0 where
  pub kept : (e : E) → has e ≡ true → more e ≡ true
  pub own : (e : E) → ending s ≡ Some e → more e ≡ true
  pub some : (t : S) → Contains new t → Contains old t ⊎ ((e : E) × (t ≡ s) × (ending s ≡ Some e) × (has e ≡ false))

-- the states were looked through: the ending of each is there, and those whose ending wasn't may be in the table
pub record AreTaken {S E : Type 0} (ending : S → Option E) (has more : E → Bool) (old states new : List S) : Type 0 where
  pub kept : (e : E) → has e ≡ true → more e ≡ true
  pub all : (s : S) (e : E) → Contains states s → ending s ≡ Some e → more e ≡ true
  pub some : (s : S) → Contains new s → Contains old s ⊎ ((e : E) × Contains states s × (ending s ≡ Some e) × (has e ≡ false))

-- the state ends so, and nothing that is reached in fewer turns does
pub record IsShortestEnding {S E : Type 0} (turn : S → S → Type 0) (ending : S → Option E) (first s : S) : Type 0 where
  pub turns : ℕ
  pub how : E
  pub reached : IsReached turn first turns s
  pub ends : ending s ≡ Some how
  pub shortest : (m : ℕ) (t : S) → m < turns → IsReached turn first m t → ending t ≡ Some how → ⊥

-- each state that is reached in so many turns and has an ending has that of one in the table
unfoldable pub HasEndings : {S E : Type 0} → (turn : S → S → Type 0) → (ending : S → Option E) → (first : S) → (table : List S)
    → (turns : ℕ) → Type 0
HasEndings {S} {E} turn ending first table n =
    (s : S) (e : E) → IsReached turn first n s → ending s ≡ Some e → (t : S) × Contains table t × (ending t ≡ Some e)

-- each state in the table is reached by a shortest run to its ending
unfoldable pub AreShortest : {S E : Type 0} → (turn : S → S → Type 0) → (ending : S → Option E) → (first : S) → List S → Type 0
AreShortest {S} turn ending first table = (s : S) → Contains table s → IsShortestEnding turn ending first s

-- what the endings say
unfoldable pub AreRight : {S E : Type 0} → (turn : S → S → Type 0) → (ending : S → Option E) → (first : S) → EndingTable S → Type 0
AreRight turn ending first (Whole counts) =
    ((n : ℕ) → HasEndings turn ending first counts.states.items n) × AreShortest turn ending first counts.states.items
AreRight turn ending first (Cut counts turns) =
    ((n : ℕ) → n < turns → HasEndings turn ending first counts.states.items n) × AreShortest turn ending first counts.states.items

-- Endings are cut where so many turns are made as the limit, and runs didn't end before, where there are too many states, or where these take
-- too many bytes. Where they are whole, nothing is reached in as many turns.
unfoldable pub AreCutAtLimits : {S K : Type 0} → (eq : K → K → Bool) → (key_of : S → K) → (turn : S → S → Type 0)
    → (bytes_of : S → ℕ) → (first : S) → Limits → EndingTable S → Type 0
AreCutAtLimits {S} eq key_of turn bytes_of first limits (Whole counts) = (n : ℕ) (s : S) → limits.turns ≤ n → IsReached turn first n s → ⊥
AreCutAtLimits eq key_of turn bytes_of first limits (Cut counts turns) =
    ((turns ≡ limits.turns) × IsLong turn first turns) ⊎ IsCrowded eq key_of turn first limits.states turns
    ⊎ IsHeavy eq key_of turn bytes_of first limits.bytes turns

-- whether the ending has a place
abbrev pub has_place : {E : Type 0} → (place : E → Option ℕ) → E → Bool
has_place place e = is_some (place e)
