-- How many bytes states take together.
use Rattle.std.proofs.Common.{arith, ◌≡◌, ◌∙◌, sym, ap, ◌++◌, ◌∷◌, ◌⊎◌, [], ℕ, suc, ◌+◌, ◌-◌, ◌<◌, ◌≤◌, inl, inr, refl, subst, Bool, true, false, List, length}
use Rattle.std.specs.Prelude.{◌↔◌, Contains, None, Option, Some, min}
use Rattle.std.specs.List.{list_any}
use Rattle.std.proofs.lemmas.Bool.{cases_lt}
use Rattle.std.specs.Option.{option_map}
use Rattle.std.proofs.lemmas.List.{length_push}
use Rattle.hp_layers.specs.declared.limits.Limits.{Limits}
use Rattle.hp_layers.specs.Layers.{AddsSome, AreBytes, AreCounted, AreKeysOf, Fits, IsCrowded, IsHeavy, IsLayer, IsReached, KeysStand, LacksBytes}
use Rattle.hp_layers.specs.Layers.{IsOver, LacksRoom, bytes_in}
use Rattle.hp_layers.proofs.Covering.{lacks_room}
use Rattle.hp_layers.proofs.Layering.{crowded}

-- one state more
bytes_push : {S : Type 0} (bytes_of : S → ℕ) (states : List S) (s : S) → bytes_in bytes_of (states ++ s ∷ []) ≡ bytes_in bytes_of states + bytes_of s
bytes_push bytes_of [] s = omega arith
bytes_push bytes_of (t ∷ states) s = (let e = bytes_push bytes_of states s in omega (arith, e))

-- no state takes none
pub no_bytes : {S : Type 0} (bytes_of : S → ℕ) (states : List S) (bytes : ℕ) → states ≡ [] → bytes ≡ 0 → AreBytes bytes_of states bytes
no_bytes bytes_of states bytes e is = record {
  at_most = omega (arith, is);
  exact = λ few. is ∙ sym (ap (λ l. bytes_in bytes_of l) e);
}

-- one takes its own
pub own_bytes : {S : Type 0} (bytes_of : S → ℕ) (s : S) (states : List S) (bytes : ℕ) → states ≡ s ∷ [] → bytes ≡ bytes_of s
    → AreBytes bytes_of states bytes
own_bytes bytes_of s states bytes e is = (
    let all : bytes_in bytes_of states ≡ bytes_of s + 0 = ap (λ l. bytes_in bytes_of l) e in
    record { at_most = omega (arith, is, all); exact = λ few. omega (arith, is, all) })

-- one more is added
pub bytes_on : {S : Type 0} (bytes_of : S → ℕ) (old new : List S) (s : S) (bytes more : ℕ) → AreBytes bytes_of old bytes → new ≡ old ++ s ∷ []
    → more ≡ min (bytes + bytes_of s) 18446744073709551615 → AreBytes bytes_of new more
bytes_on bytes_of old new s bytes more was e is = (
    let all : bytes_in bytes_of new ≡ bytes_in bytes_of old + bytes_of s = ap (λ l. bytes_in bytes_of l) e ∙ bytes_push bytes_of old s in
    let at_most = was.at_most in
    record {
      at_most = omega (arith, is, all, at_most);
      exact = λ few. (let exact = was.exact (omega (arith, is, few)) in omega (arith, is, all, exact, few));
    })

-- one more is added, or none
pub bytes_with_some : {S : Type 0} (bytes_of : S → ℕ) (old new : List S) (s : S) (bytes more : ℕ) → AreBytes bytes_of old bytes → AddsSome old s new
    → (length old ≡ length new → more ≡ bytes) → ((length old ≡ length new → ⊥) → more ≡ min (bytes + bytes_of s) 18446744073709551615)
    → AreBytes bytes_of new more
bytes_with_some {S} bytes_of old new s bytes more was grows same one = elim grows [
  | inl e ↦ subst (λ (l : List S). AreBytes bytes_of l more) (sym e)
      (subst (λ (n : ℕ). AreBytes bytes_of old n) (sym (same (ap (λ l. length l) (sym e)))) was)
  | inr e ↦ bytes_on bytes_of old new s bytes more was e (one (λ k. (
      let l : length new ≡ length old + 1 = ap (λ l. length l) e ∙ length_push old s in omega (arith, k, l))))
]

-- what comes after states and is more than there is room for
pub lacks : {S K : Type 0} (eq : K → K → Bool) (key_of : S → K) (turn : S → S → Type 0) (bytes_of : S → ℕ) (states more : List S)
    (keys : List K) (room : ℕ) (space : Option ℕ) (n bytes : ℕ) → AreCounted eq keys more → KeysStand eq key_of (λ k. list_any (eq k) keys) more
    → AreBytes bytes_of more bytes → n ≡ length more → (room < n) ⊎ IsOver bytes space
    → ((t : S) → Contains more t → (r : S) × Contains states r × turn r t)
    → LacksRoom eq key_of turn states room ⊎ LacksBytes eq key_of turn bytes_of states space
lacks eq key_of turn bytes_of states more keys room space n bytes counted stand are long many after = elim many [
  | inl wide ↦ inl (lacks_room eq key_of turn states more keys room counted stand (omega (arith, wide, long)) after)
  | inr large ↦ inr (record {
    others = more;
    keys = keys;
    apart = record { counted = counted; stand = stand };
    many = (let most = are.at_most in let l = large.2 in (large.0, large.1, omega (arith, l, most)));
    each = after;
  })
]

-- what isn't more than there is room for fits
pub fits : (exceeds : Bool) (room : ℕ) (space : Option ℕ) (n many bytes : ℕ) → (exceeds ≡ true ↔ (room < n) ⊎ IsOver bytes space)
    → exceeds ≡ false → n ≡ many → Fits many bytes room space
fits exceeds room space n many bytes says less long = (
  elim (cases_lt room n) [
    | inl over ↦ absurd (let z : true ≡ false = sym (says.1 (inl over)) ∙ less in cc)
    | inr within ↦ omega (arith, within, long)
  ],
  λ most is. elim (cases_lt most bytes) [
    | inl over ↦ absurd (let z : true ≡ false = sym (says.1 (inr (most, is, over))) ∙ less in cc)
    | inr within ↦ within
  ],
)

-- no state fits anywhere
pub nothing_fits : {S : Type 0} (states : List S) (bytes room : ℕ) (space : Option ℕ) → states ≡ [] → bytes ≡ 0
    → Fits (length states) bytes room space
nothing_fits states bytes room space e is = (
    let none : length states ≡ 0 = ap (λ l. length l) e in
    (omega (arith, none), λ most at. omega (arith, is)))

-- the limit of which so much is left
was_limit : (limit : Option ℕ) (bytes left : ℕ) → option_map (λ most. most - bytes) limit ≡ Some left
    → (most : ℕ) × (limit ≡ Some most) × (left ≡ most - bytes)
was_limit None bytes left e = absurd cc
was_limit (Some most) bytes left e = (most, refl, cc)

-- so a layer and what lacks room behind it are too many, or take too many bytes
pub over : {S K : Type 0} (eq : K → K → Bool) (key_of : S → K) (turn alike : S → S → Type 0) (bytes_of : S → ℕ) (first : S)
    (limits : Limits) (room : ℕ) (space : Option ℕ) (n bytes : ℕ) (keys : List K) (layer : List S) → AreKeysOf eq key_of keys layer
    → IsLayer turn alike first n layer → AreBytes bytes_of layer bytes
    → LacksRoom eq key_of turn layer room ⊎ LacksBytes eq key_of turn bytes_of layer space
    → limits.states ≤ length layer + room → space ≡ option_map (λ most. most - bytes) limits.bytes
    → IsCrowded eq key_of turn first limits.states (n + 1) ⊎ IsHeavy eq key_of turn bytes_of first limits.bytes (n + 1)
unfolding IsReached
over {S} eq key_of turn alike bytes_of first limits room space n bytes keys layer k l are lack wide large = elim lack [
  | inl more ↦ inl (crowded eq key_of turn alike first limits.states room n keys layer k l more wide)
  | inr more ↦ inr (record {
    before = n;
    next = refl;
    some = layer;
    others = more.others;
    here = record { keys = keys; apart = k; each = l.reached };
    behind = record {
      keys = more.keys;
      apart = more.apart;
      each = λ t c. (let z = more.each t c in next t (z.0, l.reached z.0 z.1, z.2));
    };
    many = (
        let was = was_limit limits.bytes bytes more.many.0 (sym large ∙ more.many.1) in
        let most = are.at_most in
        let m = more.many.2 in
        let left = was.2 in
        (was.0, was.1, omega (arith, most, m, left)));
  })
]
  where
    next : (t : S) → (before : S) × IsReached turn first n before × turn before t → IsReached turn first (n + 1) t
    next t r = (let e : n + 1 ≡ suc n = omega arith in subst (λ (m : ℕ). IsReached turn first m t) (sym e) r)
