-- Runs by the names of their turns, and how many of them end in each way.
use Rattle.std.specs.Prelude.{◌≡◌, ◌<◌, ◌≤◌, ◌+◌, ◌*◌, ◌==◌, ◌++◌, ◌∷◌, ◌⊎◌, [], ℕ, zero, suc, Bool, true, if◌then◌else◌, List, Contains}
use Rattle.std.specs.Prelude.{Option, None, Some, map, length, slice_index_or}
use Rattle.std.specs.List.{AllZip, count_by}
use Rattle.std.specs.Global.{Vec}
use Rattle.hp_layers.specs.declared.counting.RunCounts.{RunCounts}
use Rattle.hp_layers.specs.Layers.{AreBytes, AreNext, AreValid, Fits, HoldsAt}
use Rattle.hp_layers.specs.declared.ending.EndingTable.{EndingTable}
use Rattle.hp_layers.specs.declared.ending.EndingTable.TheVariants.{Whole, Cut}
use Rattle.hp_layers.specs.Weighed.{IsAsMany, weigh}

-- no two of them are the same
unfoldable pub AreApart : {X : Type 0} → List X → Type 0
AreApart [] = Unit {0}
AreApart (x ∷ xs) = (Contains xs x → ⊥) × AreApart xs

-- exactly so many turns of these names, in this order, lead there
unfoldable pub LeadsBy : {S L : Type 0} → (step : S → L → S → Type 0) → (first : S) → (turns : ℕ) → (names : List L) → S → Type 0
LeadsBy step first zero names t = (names ≡ []) × (t ≡ first)
LeadsBy {S} {L} step first (suc n) names t =
    (before : List L) × (s : S) × (name : L) × LeadsBy step first n before s × step s name t × (names ≡ before ++ name ∷ [])

-- Each turn has a name, and is one. A state that is as good follows by the same name, and one name leads to states that are as good.
pub record AreNamed {S L : Type 0} (turn alike : S → S → Type 0) (step : S → L → S → Type 0) : Type 0 where
  pub is_turn : (s t : S) (name : L) → step s name t → turn s t
  pub named : (s t : S) → turn s t → (name : L) × step s name t
  pub back : (s t : S) → alike s t → alike t s
  pub follows : (s t after : S) (name : L) → alike s t → step s name after → (there : S) × step t name there × alike after there
  pub one : (s t a b : S) (name : L) → alike s t → step s name a → step t name b → alike a b

-- these come after the state: one for each name of a turn from there
pub record AreEach {S L : Type 0} (step : S → L → S → Type 0) (s : S) (next : List S) : Type 0 where
  pub names : List L
  pub apart : AreApart names
  pub each : AllZip (step s) names next
  pub all : (name : L) (t : S) → step s name t → Contains names name

-- at each place stands a state of the key, and each state stands at the place of its key
pub record IsIndexed {S K : Type 0} (eq : K → K → Bool) (has : S → K → Type 0) (place : K → Option ℕ) (states : List S) : Type 0 where
  pub stands : (k : K) (j : ℕ) → place k ≡ Some j
      → (j < length states) × ((d : S) → (h : K) × has (slice_index_or states j d) h × (eq h k ≡ true))
  pub own : (j : ℕ) (d : S) (h : K) → j < length states → has (slice_index_or states j d) h → place h ≡ Some j

-- what comes of a state that is added: nothing, as one of its key is there, or it stands at the end, and its key has that place
unfoldable pub PutsAtEnd : {S K : Type 0} → (eq : K → K → Bool) → (before after : K → Option ℕ) → (key : K)
    → (old : List S) → S → (new : List S) → Type 0
PutsAtEnd {S} {K} eq before after key old s new =
    ((new ≡ old) × ((k : K) → after k ≡ before k))
    ⊎ ((new ≡ old ++ s ∷ []) × (before key ≡ None) × (after key ≡ Some (length old))
    × ((k : K) → after k ≡ (if eq key k then Some (length old) else before k)))

-- the state stands at the place of the key now, if it didn't, and so many ways more are there
pub record AddsWays {S K : Type 0} (eq : K → K → Bool) (before after : K → Option ℕ) (key : K) (s : S) (more : ℕ) (old new : RunCounts S)
    : Type 0 where
  pub at : ℕ
  pub is : after key ≡ Some at
  pub puts : PutsAtEnd eq before after key old.states.items s new.states.items
  pub ways : (j : ℕ) → IsAsMany (slice_index_or new.ways.items j 0) (slice_index_or old.ways.items j 0 + (if at == j then more else 0))

-- a place that keys have stays theirs
unfoldable pub KeepsPlaces : {K : Type 0} → (before after : K → Option ℕ) → Type 0
KeepsPlaces {K} before after = (k : K) (j : ℕ) → before k ≡ Some j → after k ≡ Some j

-- each of the states stands at the place of its key, and so many ways more are at each of these places
pub record AddsEach {S K : Type 0} (key_of : S → K) (after : K → Option ℕ) (states : List S) (more : ℕ) (old new : List ℕ) : Type 0 where
  pub places : List ℕ
  pub at : AllZip (λ s j. after (key_of s) ≡ Some j) states places
  pub ways : (j : ℕ) → IsAsMany (slice_index_or new j 0) (slice_index_or old j 0 + more * count_by (λ k. k == j) places)

-- the turns from a state by their names, each with the place of the key of the state that it leads to
pub record KeyMoves {S L K : Type 0} (step : S → L → S → Type 0) (key_of : S → K) (place : K → Option ℕ) (s : S) (moves : List (L × ℕ))
    : Type 0 where
  pub apart : AreApart (map (λ m. m.0) moves)
  pub each : (name : L) (j : ℕ) → Contains moves (name, j) → (t : S) × step s name t × (place (key_of t) ≡ Some j)
  pub all : (name : L) (t : S) → step s name t → (j : ℕ) × Contains moves (name, j)

-- the turns from the states so far, which are there in so many ways, lead in so many ways to each place
pub record MoveSo {S L K : Type 0} (step : S → L → S → Type 0) (key_of : S → K) (place : K → Option ℕ) (states : List S) (ways new : List ℕ)
    : Type 0 where
  pub moves : List (List (L × ℕ))
  pub each : AllZip (KeyMoves step key_of place) states moves
  pub many : (j : ℕ) → IsAsMany (slice_index_or new j 0) (weigh ways moves (λ ms. count_by (λ m. m.1 == j) ms))

-- they come, one for each turn, after what stands that many places behind the begin of a part
abbrev pub IsEachBehind : {S L : Type 0} → (step : S → L → S → Type 0) → (layer : List S) → (begin place : ℕ) → (after : Vec S) → Type 0
IsEachBehind step layer begin place after = HoldsAt (λ s. AreEach step s after.items) layer (begin + place)

-- What was gathered behind some states so far, in whose ways: what comes next of them, states of the system at the places of their keys, and
-- in how many ways their turns lead there. Their bytes are counted, and there is room for them.
pub record IsTallied {S L K : Type 0} (step : S → L → S → Type 0) (eq : K → K → Bool) (key_of : S → K) (valid : S → Type 0)
    (turn alike : S → S → Type 0) (bytes_of : S → ℕ) (room : ℕ) (space : Option ℕ) (states : List S) (ways : List ℕ) (place : K → Option ℕ)
    (next : RunCounts S) (bytes : ℕ) : Type 0 where
  pub are_valid : AreValid valid next.states.items
  pub long : length next.ways.items ≡ length next.states.items
  pub indexed : IsIndexed eq (λ s k. key_of s ≡ k) place next.states.items
  pub next_of : AreNext turn alike states next.states.items
  pub moves : MoveSo step key_of place states ways next.ways.items
  pub fits : Fits (length next.states.items) bytes room space
  pub are_bytes : AreBytes bytes_of next.states.items bytes

-- the turns from a state by their names, each with the place of a state that is as good as the one to which it leads
pub record AreMoves {S L : Type 0} (step : S → L → S → Type 0) (alike : S → S → Type 0) (next : List S) (s : S) (moves : List (L × ℕ))
    : Type 0 where
  pub apart : AreApart (map (λ m. m.0) moves)
  pub each : (name : L) (j : ℕ) → Contains moves (name, j)
      → (t : S) × step s name t × (j < length next) × ((d : S) → alike t (slice_index_or next j d))
  pub all : (name : L) (t : S) → step s name t → (j : ℕ) × Contains moves (name, j)

-- the turns from each state of a layer, and how many ways they lead to each state of the next
pub record GoOn {S L : Type 0} (step : S → L → S → Type 0) (alike : S → S → Type 0) (layer next : RunCounts S) : Type 0 where
  pub moves : List (List (L × ℕ))
  pub each : AllZip (AreMoves step alike next.states.items) layer.states.items moves
  pub ways : (j : ℕ) → IsAsMany (slice_index_or next.ways.items j 0)
      (weigh layer.ways.items moves (λ ms. count_by (λ m. m.1 == j) ms))

-- the first states are those that were there
unfoldable pub Grows : {S : Type 0} → (old new : List S) → Type 0
Grows {S} old new = (rest : List S) × (new ≡ old ++ rest)

-- the places of a state's ending: none if it has none, else its one
unfoldable pub IsSeat : {E : Type 0} → (place : E → Option ℕ) → Option E → (seats : List ℕ) → Type 0
IsSeat place None seats = seats ≡ []
IsSeat place (Some e) seats = (j : ℕ) × (place e ≡ Some j) × (seats ≡ j ∷ [])

-- so many ways more are at the place of the ending, if it is one
pub record AddsSeat {S E : Type 0} (ending : Option E) (before after : E → Option ℕ) (more : ℕ) (old new : RunCounts S) : Type 0 where
  pub seats : List ℕ
  pub is : IsSeat after ending seats
  pub kept : KeepsPlaces before after
  pub grows : Grows old.states.items new.states.items
  pub ways : (j : ℕ) → IsAsMany (slice_index_or new.ways.items j 0) (slice_index_or old.ways.items j 0 + more * count_by (λ k. k == j) seats)

-- the states of a layer that end have their ways at the places of their endings
pub record TakesWays {S E : Type 0} (ending : S → Option E) (before after : E → Option ℕ) (layer old new : RunCounts S) : Type 0 where
  pub seats : List (List ℕ)
  pub each : AllZip (λ s js. IsSeat after (ending s) js) layer.states.items seats
  pub kept : KeepsPlaces before after
  pub grows : Grows old.states.items new.states.items
  pub ways : (j : ℕ) → IsAsMany (slice_index_or new.ways.items j 0)
      (slice_index_or old.ways.items j 0 + weigh layer.ways.items seats (λ js. count_by (λ k. k == j) js))

-- the state ends as the one at that place does
pub record EndsAt {S E : Type 0} (ending : S → Option E) (states : List S) (s : S) (place : ℕ) : Type 0 where
  pub how : E
  pub ends : ending s ≡ Some how
  pub there : place < length states
  pub same : (d : S) → ending (slice_index_or states place d) ≡ Some how

-- Of each run of fewer than so many turns that ends, the names of its turns and the place of its ending, each run once. No two places have
-- one ending, and at each stands of how many runs it is the ending.
pub record AreTold {S L E : Type 0} (step : S → L → S → Type 0) (ending : S → Option E) (first : S) (turns : ℕ) (counts : RunCounts S)
    : Type 0 where
  pub runs : List (List L × ℕ)
  pub apart : AreApart (map (λ r. r.0) runs)
  pub each : (names : List L) (place : ℕ) → Contains runs (names, place)
      → (n : ℕ) × (t : S) × (n < turns) × LeadsBy step first n names t × EndsAt ending counts.states.items t place
  pub all : (n : ℕ) (names : List L) (t : S) (e : E) → n < turns → LeadsBy step first n names t → ending t ≡ Some e
      → (place : ℕ) × Contains runs (names, place)
  pub rows : (j k : ℕ) (d : S) (e : E) → j < length counts.states.items → k < length counts.states.items
      → ending (slice_index_or counts.states.items j d) ≡ Some e → ending (slice_index_or counts.states.items k d) ≡ Some e → j ≡ k
  pub long : length counts.ways.items ≡ length counts.states.items
  pub many : (place : ℕ) → IsAsMany (slice_index_or counts.ways.items place 0) (count_by (λ r. r.1 == place) runs)

-- so many runs end in each way: where the table is whole, of all runs
unfoldable pub AreAllTold : {S L E : Type 0} → (step : S → L → S → Type 0) → (ending : S → Option E) → (first : S) → EndingTable S → Type 0
AreAllTold {S} {L} step ending first (Whole counts) =
    (turns : ℕ) × AreTold step ending first turns counts
    × ((n : ℕ) (names : List L) (t : S) → turns ≤ n → LeadsBy step first n names t → ⊥)
AreAllTold step ending first (Cut counts turns) = AreTold step ending first turns counts
