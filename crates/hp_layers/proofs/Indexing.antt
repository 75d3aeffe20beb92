-- Which state stands at the place of a key, and what comes of it as one is added.
use Rattle.std.proofs.Common.{◌≡◌, ◌∙◌, ℕ, suc, ◌+◌, ◌<◌, ◌≤◌, ◌++◌, ◌∷◌, [], List, length, get_or, set, refl, sym, ap, subst}
use Rattle.std.proofs.Common.{arith, inl, inr}
use Rattle.std.specs.Prelude.{◌==◌, ◌||◌, Bool, true, false, cond, Contains, Option, None, Some, map, min}
use Rattle.std.specs.List.{AllByRecursion, IsDistinct, list_any}
use Rattle.std.specs.Map.{lookup}
use Rattle.std.proofs.lemmas.Bool.{cases_eq, cases_lt}
use Rattle.std.proofs.lemmas.Bool.Decides.{nat_tests}
use Rattle.std.proofs.lemmas.List.{get_or_append_left, get_or_past, get_or_push, get_or-set_other, get_or-set_same, length-map, length_push}
use Rattle.std.proofs.lemmas.List.Elements.{Contains-get_or}
use Rattle.hp_layers.specs.Layers.{AddsSome, AreKeysOf, AreValid, KeysStand}
use Rattle.hp_layers.specs.Named.{IsIndexed, KeepsPlaces, PutsAtEnd}
use Rattle.hp_layers.specs.Weighed.{AreWithin, IsAsMany, most}
use Rattle.hp_layers.proofs.Naming.{here, there}

-- equal keys have one place
unfoldable pub HaveOnePlace : {K : Type 0} → (eq : K → K → Bool) → (place : K → Option ℕ) → Type 0
HaveOnePlace {K} eq place = (h k : K) → eq h k ≡ true → place h ≡ place k

-- as the entries of a map have
lookup_same : {K X : Type 0} (eq : K → K → Bool) (h k : K) (entries : List (K × X)) → ((x : K) → eq h x ≡ eq k x)
    → lookup (eq h) entries ≡ lookup (eq k) entries
lookup_same eq h k [] same = refl
lookup_same eq h k (e ∷ entries) same = λ i. cond (same e.0 i) (Some e.1) (lookup_same eq h k entries same i)

pub have_one_place : {K : Type 0} (eq : K → K → Bool) (entries : List (K × ℕ)) → ((x y z : K) → eq x y ≡ true → eq x z ≡ eq y z)
    → HaveOnePlace eq (λ k. lookup (eq k) entries)
unfolding HaveOnePlace
have_one_place eq entries congr h k e = lookup_same eq h k entries (λ x. congr h k x e)

pub some_one : (j k : ℕ) → ◌≡◌ {A = Option ℕ} (Some j) (Some k) → j ≡ k
some_one j k e = cc

pub none_some : (j : ℕ) → ◌≡◌ {A = Option ℕ} None (Some j) → ⊥
none_some j e = cc

-- so many ways more at one place
at_its_own : (at more : ℕ) → cond (at == at) more 0 ≡ more
at_its_own at more = grind (arith, nat_tests)

not_at : (at j more : ℕ) → (at ≡ j → ⊥) → cond (at == j) more 0 ≡ 0
not_at at j more other = grind (arith, nat_tests)

pub set_way : (ns : List ℕ) (at more v : ℕ) → at < length ns → v ≡ min (get_or ns at 0 + more) most → (j : ℕ)
    → IsAsMany (get_or (set ns at v) j 0) (get_or ns j 0 + cond (at == j) more 0)
set_way ns at more v lt is j = elim (cases_eq at j) [
  | inl e ↦ subst (λ (k : ℕ). IsAsMany (get_or (set ns at v) k 0) (get_or ns k 0 + cond (at == k) more 0)) e (
      let one = get_or-set_same ns at v 0 lt in
      let own = at_its_own at more in
      omega (arith, one, own, is))
  | inr other ↦ (
      let one = get_or-set_other ns at j v 0 (λ e. other (sym e)) in
      let none = not_at at j more other in
      omega (arith, one, none))
]

pub push_way : (ns : List ℕ) (at more : ℕ) → length ns ≡ at → (j : ℕ)
    → IsAsMany (get_or (ns ++ more ∷ []) j 0) (get_or ns j 0 + cond (at == j) more 0)
push_way ns at more is j = elim (cases_eq at j) [
  | inl e ↦ subst (λ (k : ℕ). IsAsMany (get_or (ns ++ more ∷ []) k 0) (get_or ns k 0 + cond (at == k) more 0)) e (
      let one = get_or_push ns more 0 at is in
      let none = get_or_past ns at 0 (omega (arith, is)) in
      let own = at_its_own at more in
      omega (arith, one, own, none))
  | inr other ↦ elim (cases_lt j at) [
    | inl before ↦ (
        let one = get_or_append_left ns (more ∷ []) 0 j (omega (arith, is, before)) in
        let none = not_at at j more other in
        omega (arith, one, none))
    | inr behind ↦ (
        let long = length_push ns more in
        let past : length (ns ++ more ∷ []) ≤ j = behind_it j at other behind (length ns) (length (ns ++ more ∷ [])) is long in
        let one = get_or_past (ns ++ more ∷ []) j 0 past in
        let two = get_or_past ns j 0 (omega (arith, past, long)) in
        let none = not_at at j more other in
        omega (arith, one, two, none))
  ]
]
  where
    behind_it : (j at : ℕ) → (at ≡ j → ⊥) → at ≤ j → (n m : ℕ) → n ≡ at → m ≡ n + 1 → m ≤ j
    behind_it j at other le n m is long = elim (cases_lt at j) [
      | inl lt ↦ omega (arith, lt, is, long)
      | inr ge ↦ absurd (other (omega (arith, le, ge)))
    ]

module _ {S K : Type 0} (eq : K → K → Bool) (before after : K → Option ℕ) where
  pub puts_some : (key : K) (old new : List S) (s : S) → PutsAtEnd eq before after key old s new → AddsSome old s new
  unfolding PutsAtEnd
  puts_some key old new s puts = elim puts [ inl same ↦ inl same.0 | inr put ↦ inr put.0 ]

  -- a place that a key has stays its place
  pub puts_keep : (key : K) (old new : List S) (s : S) → HaveOnePlace eq before → PutsAtEnd eq before after key old s new
      → KeepsPlaces before after
  unfolding HaveOnePlace PutsAtEnd KeepsPlaces
  puts_keep key old new s one puts q j is = elim puts [
    | inl same ↦ same.1 q ∙ is
    | inr put ↦ by put.1 (eq key q) refl (put.3 q)
  ]
    where
      by : before key ≡ None → (b : Bool) → eq key q ≡ b → after q ≡ cond b (Some (length old)) (before q) → after q ≡ Some j
      by none true e u = absurd (none_some j (sym none ∙ (one key q e ∙ is)))
      by none false e u = u ∙ is

  module _ (has : S → K → Type 0) (key : K) (old : List S) (s : S) (one : HaveOnePlace eq before) (own : has s key)
      (only : (h : K) → has s h → h ≡ key) (x : IsIndexed eq has before old) where
    long : length (old ++ s ∷ []) ≡ length old + 1
    long = length_push old s

    stands_then : (k : K) (j : ℕ) (b : Bool) → eq key k ≡ b → after k ≡ cond b (Some (length old)) (before k) → after k ≡ Some j
        → (j < length (old ++ s ∷ [])) × ((d : S) → (h : K) × has (get_or (old ++ s ∷ []) j d) h × (eq h k ≡ true))
    stands_then k j true e u is =
        let at_end : length old ≡ j = some_one (length old) j (sym u ∙ is) in (
          omega (arith, at_end, long),
          λ d. (key, subst (λ (t : S). has t key) (sym (get_or_push old s d j at_end)) own, e),
        )
    stands_then k j false e u is =
        let z = x.stands k j (sym u ∙ is) in (
          (let lt = z.0 in omega (arith, lt, long)),
          λ d. (let y = z.1 d in (y.0, subst (λ (t : S). has t y.0) (sym (get_or_append_left old (s ∷ []) d j z.0)) y.1, y.2)),
        )

    kept : before key ≡ None → (h : K) (j : ℕ) (b : Bool) → eq key h ≡ b → after h ≡ cond b (Some (length old)) (before h)
        → before h ≡ Some j → after h ≡ Some j
    unfolding HaveOnePlace
    kept none h j true e u is = absurd (none_some j (sym none ∙ (one key h e ∙ is)))
    kept none h j false e u is = u ∙ is

    own_then : before key ≡ None → after key ≡ Some (length old) → (j : ℕ) (d : S) (h : K) → j < length (old ++ s ∷ [])
        → has (get_or (old ++ s ∷ []) j d) h → after h ≡ cond (eq key h) (Some (length old)) (before h) → after h ≡ Some j
    own_then none is j d h lt q u = elim (cases_lt j (length old)) [
      | inl in_old ↦ kept none h j (eq key h) refl u
          (x.own j d h in_old (subst (λ (t : S). has t h) (get_or_append_left old (s ∷ []) d j in_old) q))
      | inr at_end ↦ (
          let e : length old ≡ j = omega (arith, at_end, lt, long) in
          let same : h ≡ key = only h (subst (λ (t : S). has t h) (get_or_push old s d j e) q) in
          ap after same ∙ (is ∙ ap (λ (n : ℕ). Some n) e))
    ]

    -- what is put has the place of its key, as all others have
    pub indexed_more : (new : List S) → PutsAtEnd eq before after key old s new → IsIndexed eq has after new
    unfolding PutsAtEnd
    indexed_more new puts = elim puts [
      | inl same ↦ record {
        stands = λ k j e. subst (λ (l : List S). (j < length l) × ((d : S) → (h : K) × has (get_or l j d) h × (eq h k ≡ true)))
            (sym same.0) (x.stands k j (sym (same.1 k) ∙ e));
        own = λ j d h lt q. same.1 h ∙ x.own j d h (subst (λ (l : List S). j < length l) same.0 lt)
            (subst (λ (l : List S). has (get_or l j d) h) same.0 q);
      }
      | inr put ↦ record {
        stands = λ k j e. subst (λ (l : List S). (j < length l) × ((d : S) → (h : K) × has (get_or l j d) h × (eq h k ≡ true)))
            (sym put.0) (stands_then k j (eq key k) refl (put.3 k) e);
        own = λ j d h lt q. own_then put.1 put.2 j d h (subst (λ (l : List S). j < length l) put.0 lt)
            (subst (λ (l : List S). has (get_or l j d) h) put.0 q) (put.3 h);
      }
    ]

pub indexed_within : {S K : Type 0} (eq : K → K → Bool) (has : S → K → Type 0) (place : K → Option ℕ) (states : List S)
    → IsIndexed eq has place states → AreWithin place (length states)
unfolding AreWithin
indexed_within eq has place states x k j e = (x.stands k j e).0

pub none_indexed : {S K : Type 0} (eq : K → K → Bool) (has : S → K → Type 0) (place : K → Option ℕ) (states : List S)
    → ((k : K) → place k ≡ None) → states ≡ [] → IsIndexed eq has place states
none_indexed eq has place states none empty = record {
  stands = λ k j e. absurd (none_some j (sym (none k) ∙ e));
  own = λ j d h lt q. absurd (let z = ap (λ (l : List _). length l) empty in omega (arith, lt, z));
}

pub keeps_none : {K : Type 0} (place : K → Option ℕ) → KeepsPlaces place place
unfolding KeepsPlaces
keeps_none place k j e = e

pub keeps_on : {K : Type 0} (a b c : K → Option ℕ) → KeepsPlaces a b → KeepsPlaces b c → KeepsPlaces a c
unfolding KeepsPlaces
keeps_on a b c f g k j e = g k j (f k j e)

pub kept_place : {K : Type 0} (a b : K → Option ℕ) (k : K) (j : ℕ) → KeepsPlaces a b → a k ≡ Some j → b k ≡ Some j
unfolding KeepsPlaces
kept_place a b k j f e = f k j e

-- ---- the states of a layer, by their keys

module _ {S K : Type 0} (eq : K → K → Bool) (key_of : S → K) where
  -- the state at the place of a state's key is as good
  pub placed : (valid : S → Type 0) (alike : S → S → Type 0) (place : K → Option ℕ) (states : List S) (s : S) (j : ℕ) (d : S)
      → ((x y : S) → valid x → valid y → eq (key_of y) (key_of x) ≡ true → alike x y) → valid s → AreValid valid states
      → IsIndexed eq (λ t k. key_of t ≡ k) place states → place (key_of s) ≡ Some j → alike s (get_or states j d)
  unfolding AreValid
  placed valid alike place states s j d same v are x e =
      let z = x.stands (key_of s) j e in
      let y = z.1 d in
      same s (get_or states j d) v (are (get_or states j d) (Contains-get_or states j d z.0))
      (subst (λ (h : K). eq h (key_of s) ≡ true) (sym y.1) y.2)

  -- no two of the keys are equal
  apart_from : (place : K → Option ℕ) (s : S) (states : List S) (base : ℕ) → HaveOnePlace eq place → place (key_of s) ≡ Some base
      → (first : ℕ) → base < first → ((j : ℕ) (d : S) → j < length states → place (key_of (get_or states j d)) ≡ Some (first + j))
      → AllByRecursion (λ k. eq (key_of s) k ≡ false) (map key_of states)
  unfolding HaveOnePlace
  apart_from place s [] base one is first lt own = tt
  apart_from place s (t ∷ states) base one is first lt own = (
    by (eq (key_of s) (key_of t)) refl,
    apart_from place s states base one is (first + 1) (omega (arith, lt))
        (λ j d within. own (suc j) d (omega (arith, within)) ∙ ap (λ (n : ℕ). Some n) (omega arith)),
  )
    where
      by : (b : Bool) → eq (key_of s) (key_of t) ≡ b → eq (key_of s) (key_of t) ≡ false
      by true e = absurd (let z = some_one base (first + 0) (sym is ∙ (one (key_of s) (key_of t) e ∙ own 0 t (omega arith))) in omega (arith, z, lt))
      by false e = e

  distinct_keys : (place : K → Option ℕ) (states : List S) (first : ℕ) → HaveOnePlace eq place
      → ((j : ℕ) (d : S) → j < length states → place (key_of (get_or states j d)) ≡ Some (first + j)) → IsDistinct eq (map key_of states)
  unfolding IsDistinct
  distinct_keys place [] first one own = tt
  distinct_keys place (s ∷ states) first one own = (
    apart_from place s states first one (own 0 s (omega arith) ∙ ap (λ (n : ℕ). Some n) (omega arith)) (first + 1) (omega arith)
        (λ j d within. own (suc j) d (omega (arith, within)) ∙ ap (λ (n : ℕ). Some n) (omega arith)),
    distinct_keys place states (first + 1) one
        (λ j d within. own (suc j) d (omega (arith, within)) ∙ ap (λ (n : ℕ). Some n) (omega arith)),
  )

  any_key : ((x y : K) → eq x y ≡ eq y x) → (states : List S) (k : K) → list_any (eq k) (map key_of states) ≡ true
      → (t : S) × Contains states t × (eq (key_of t) k ≡ true)
  any_key symm [] k h = absurd (let z : false ≡ true = h in cc)
  any_key symm (s ∷ states) k h = by (eq k (key_of s)) refl h (any_key symm states k)
    where
      by : (b : Bool) → eq k (key_of s) ≡ b → (b || list_any (eq k) (map key_of states)) ≡ true
          → (list_any (eq k) (map key_of states) ≡ true → (t : S) × Contains states t × (eq (key_of t) k ≡ true))
          → (t : S) × Contains (s ∷ states) t × (eq (key_of t) k ≡ true)
      by true e q rest = (s, here s states, symm (key_of s) k ∙ e)
      by false e q rest = (let z = rest q in (z.0, there s states z.0 z.1, z.2))

  pub indexed_keys : ((x y : K) → eq x y ≡ eq y x) → (place : K → Option ℕ) (states : List S) → HaveOnePlace eq place
      → IsIndexed eq (λ t k. key_of t ≡ k) place states → AreKeysOf eq key_of (map key_of states) states
  unfolding KeysStand
  indexed_keys symm place states one x = record {
    counted = record {
      distinct = distinct_keys place states 0 one
          (λ j d within. x.own j d (key_of (get_or states j d)) within refl ∙ ap (λ (n : ℕ). Some n) (omega arith));
      count = length-map states key_of;
    };
    stand = λ k h. any_key symm states k h;
  }
