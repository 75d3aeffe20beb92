-- From layer to layer.
use Rattle.std.proofs.Common.{arith, inl, inr, ◌≡◌, sym, ◌<◌, ◌≤◌, ◌+◌, ◌∷◌, ◌⊎◌, [], ℕ, zero, suc, Bool, List, refl, subst, length, below_more}
use Rattle.std.specs.Prelude.{slice_index_or}
use Rattle.std.specs.List.{AllWithin}
use Rattle.std.proofs.Math.Nat.{eq-or-lt_of_le}
use Rattle.std.proofs.lemmas.Bool.{cases_lt}
use Rattle.std.proofs.lemmas.List.Elements.{Contains-get_or, Contains-push_cases, Contains-push}
use Rattle.hp_layers.specs.Layers.{AreKeysOf, AreNext, AreReached, AreValid, IsAsGood, IsCovered, IsCrowded, IsLayer, IsLong, IsReached}
use Rattle.hp_layers.specs.Layers.{IsShortest, MeetsAt, NoneBefore}
use Rattle.hp_layers.specs.Layers.{KeysStand, LacksRoom, NoneIsMet, NoneMeets}

-- at none of the places a state meets it
pub none_met : {S : Type 0} (meets : S → Type 0) (layer : List S) (n : ℕ) → length layer ≤ n → AllWithin (λ s. meets s → ⊥) layer 0 n
    → NoneIsMet meets layer
unfolding NoneIsMet
none_met meets layer n all none s c m =
    none c.0 s (omega arith) (omega (arith, c.1, all)) (subst meets (sym c.2) m)

-- the first state is reached in no turn, and nothing else is
pub first_layer : {S : Type 0} (turn alike : S → S → Type 0) (first : S) → alike first first → IsLayer turn alike first 0 (first ∷ [])
unfolding IsReached IsCovered
first_layer {S} turn alike first itself = record {
  reached = λ t c. elim (Contains-push_cases [] first t c) [ inl d ↦ absurd (omega (arith, d.1)) | inr d ↦ sym d ];
  covers = λ s e. (first, Contains-push [] first, subst (λ (t : S). alike t first) (sym e) itself);
}

-- the next states of a layer are the layer of one turn more
pub next_is_layer : {S : Type 0} (valid : S → Type 0) (turn alike : S → S → Type 0) (meets : S → Type 0) (first : S) (n : ℕ)
    (layer next : List S) → IsAsGood valid turn meets alike → IsLayer turn alike first n layer → AreNext turn alike layer next
    → IsLayer turn alike first (suc n) next
unfolding IsReached IsCovered
next_is_layer {S} valid turn alike meets first n layer next good l a = record {
  reached = λ t c. (let z = a.some t c in (z.0, l.reached z.0 z.1, z.2));
  covers = λ s r. (
      let old = l.covers r.0 r.1 in
      let there = good.follows r.0 old.0 s old.2 r.2 in
      let new = a.all old.0 there.0 old.1 there.1 in
      (new.0, new.1, good.onward s there.0 new.0 there.2 new.2));
}

-- a layer none of whose states meets it
pub layer_misses : {S : Type 0} (valid : S → Type 0) (turn alike : S → S → Type 0) (meets : S → Type 0) (first : S) (n : ℕ) (layer : List S)
    → IsAsGood valid turn meets alike → IsLayer turn alike first n layer → NoneIsMet meets layer → NoneMeets turn meets first n
unfolding NoneIsMet NoneMeets IsCovered
layer_misses valid turn alike meets first n layer good l none s r m =
    let z = l.covers s r in none z.0 z.1 (good.meets_too s z.0 z.2 m)

-- in fewer turns than none nothing is reached
pub none_before_first : {S : Type 0} (turn : S → S → Type 0) (meets : S → Type 0) (first : S) → NoneBefore turn meets first 0
unfolding NoneBefore
none_before_first turn meets first m lt = absurd (omega (arith, lt))

-- nor in fewer than one more, where none of this layer is met
pub none_before_next : {S : Type 0} (turn : S → S → Type 0) (meets : S → Type 0) (first : S) (n : ℕ) → NoneBefore turn meets first n
    → NoneMeets turn meets first n → NoneBefore turn meets first (n + 1)
unfolding NoneBefore
none_before_next turn meets first n before now = below_more (NoneMeets turn meets first) n before now

-- no number of turns is below none
pub long_first : {S : Type 0} (turn : S → S → Type 0) (first : S) → IsLong turn first 0
unfolding IsLong
long_first turn first m lt = absurd (omega (arith, lt))

-- a layer that has a state is one number of turns more in which something is reached
pub long_next : {S : Type 0} (turn alike : S → S → Type 0) (first : S) (n : ℕ) (layer : List S) → IsLayer turn alike first n layer
    → 0 < length layer → IsLong turn first n → IsLong turn first (n + 1)
unfolding IsLong
long_next {S} turn alike first n layer l some long =
    below_more (λ (m : ℕ). (s : S) × IsReached turn first m s) n long
    (slice_index_or layer 0 first, l.reached _ (Contains-get_or layer 0 first some))

-- behind a layer of no states nothing is reached
pub ends : {S : Type 0} (turn alike : S → S → Type 0) (first : S) (n : ℕ) → IsLayer turn alike first n [] → (m : ℕ) → n ≤ m → (s : S)
    → IsReached turn first m s → ⊥
unfolding IsReached IsCovered
ends {S} turn alike first n l zero le s r =
    let z = l.covers s (subst (λ (k : ℕ). IsReached turn first k s) (let e : zero ≡ n = omega (arith, le) in e) r) in omega (arith, z.1.1)
ends {S} turn alike first n l (suc m) le s r =
    elim (split n m le) [
      | inl f ↦ ends turn alike first n l m f r.0 r.1
      | inr e ↦ (let z = l.covers s (subst (λ (k : ℕ). IsReached turn first k s) (sym e) r) in omega (arith, z.1.1))
    ]
  where
    split : (n m : ℕ) → n ≤ suc m → (n ≤ m) ⊎ (n ≡ suc m)
    split n m le = elim (eq-or-lt_of_le le) [ inl e ↦ inr e | inr f ↦ inl (omega (arith, f)) ]

-- so where a layer is empty, none is ever met
pub never : {S : Type 0} (turn alike : S → S → Type 0) (meets : S → Type 0) (first : S) (n : ℕ) → IsLayer turn alike first n []
    → NoneBefore turn meets first n → (m : ℕ) → NoneMeets turn meets first m
unfolding NoneBefore NoneMeets
never turn alike meets first n l before m s r met =
    elim (cases_lt m n) [
      | inl f ↦ before m f s r met
      | inr f ↦ ends turn alike first n l m f s r
    ]

-- and what is met first is met by a shortest run
pub shortest : {S : Type 0} (turn alike : S → S → Type 0) (meets : S → Type 0) (first : S) (n : ℕ) (layer : List S) (place : ℕ) (s : S)
    → IsLayer turn alike first n layer → NoneBefore turn meets first n → MeetsAt meets layer place → s ≡ slice_index_or layer place s
    → IsShortest turn meets first s n
shortest {S} turn alike meets first n layer place s l before at e = record {
  reached = subst (IsReached turn first n) (sym e) (l.reached _ (Contains-get_or layer place s at.there));
  meets_it = subst meets (sym e) (at.is s);
  shortest = before;
}

-- what is reached is valid
reached_valid : {S : Type 0} (valid : S → Type 0) (turn : S → S → Type 0) (first : S) → ((x y : S) → valid x → turn x y → valid y)
    → valid first → (n : ℕ) (s : S) → IsReached turn first n s → valid s
unfolding IsReached
reached_valid valid turn first keeps v zero s r = subst valid (sym r) v
reached_valid valid turn first keeps v (suc n) s r = keeps r.0 s (reached_valid valid turn first keeps v n r.0 r.1) r.2

-- so are the states of a layer
pub layer_valid : {S : Type 0} (valid : S → Type 0) (turn alike : S → S → Type 0) (first : S) (n : ℕ) (layer : List S)
    → ((x y : S) → valid x → turn x y → valid y) → valid first → IsLayer turn alike first n layer → AreValid valid layer
unfolding AreValid
layer_valid valid turn alike first n layer keeps v l s c = reached_valid valid turn first keeps v n s (l.reached s c)

-- the keys of a layer are of states that are reached
pub keys_reached : {S K : Type 0} (eq : K → K → Bool) (key_of : S → K) (turn alike : S → S → Type 0) (first : S) (n : ℕ) (keys : List K)
    (layer : List S) → AreKeysOf eq key_of keys layer → IsLayer turn alike first n layer → AreReached eq key_of turn first n keys
unfolding KeysStand
keys_reached eq key_of turn alike first n keys layer k l = record {
  distinct = k.counted.distinct;
  each = λ key h. (let z = k.stand key h in (z.0, l.reached z.0 z.1, z.2));
}

-- so a layer and what lacks room behind it are too many
pub crowded : {S K : Type 0} (eq : K → K → Bool) (key_of : S → K) (turn alike : S → S → Type 0) (first : S) (limit room n : ℕ)
    (keys : List K) (layer : List S) → AreKeysOf eq key_of keys layer → IsLayer turn alike first n layer
    → LacksRoom eq key_of turn layer room → limit ≤ length layer + room → IsCrowded eq key_of turn first limit (n + 1)
unfolding IsReached
crowded {S} eq key_of turn alike first limit room n keys layer k l more wide = record {
  before = n;
  next = refl;
  some = keys;
  others = more.keys;
  here = keys_reached eq key_of turn alike first n keys layer k l;
  behind = record {
    distinct = more.distinct;
    each = λ key h. (let z = more.each key h in (z.1, next z.1 (z.0, l.reached z.0 z.2, z.3), z.4));
  };
  many = (let c = k.counted.count in let m = more.many in omega (arith, c, m, wide));
}
  where
    next : (t : S) → (before : S) × IsReached turn first n before × turn before t → IsReached turn first (n + 1) t
    next t r = (let e : n + 1 ≡ suc n = omega arith in subst (λ (m : ℕ). IsReached turn first m t) (sym e) r)
