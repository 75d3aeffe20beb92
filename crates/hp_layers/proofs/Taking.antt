-- Endings that are taken from layers.
use Rattle.std.proofs.Common.{arith, inl, inr, ◌≡◌, ◌∙◌, sym, ap, ◌<◌, ◌+◌, ◌++◌, ◌∷◌, ◌⊎◌, [], ℕ, Bool, true, false, cond, List}
use Rattle.std.proofs.Common.{refl, subst, below_more}
use Rattle.std.specs.Prelude.{Contains, Option, Some, not}
use Rattle.std.proofs.lemmas.Bool.{cases_lt}
use Rattle.std.proofs.lemmas.List.Elements.{Contains-append_left, Contains-push, Contains-push_cases}
use Rattle.hp_layers.specs.Ended.{AreShortest, AreTaken, EndingsStand, EndsAlike, HasEndings, IsShortestEnding, TakesOne}
use Rattle.hp_layers.specs.Layers.{IsCovered, IsLayer, IsReached}
use Rattle.hp_layers.proofs.Layering.{ends}
use Rattle.hp_layers.proofs.Covering.{nothing_in}

-- a state is put into the table, and its ending to the others
pub stand_more : {S E : Type 0} (eq : E → E → Bool) (ending : S → Option E) (has more : E → Bool) (table : List S) (s : S) (how : E)
    → ((d e : E) → eq d e ≡ true → d ≡ e) → ending s ≡ Some how → EndingsStand ending has table
    → ((q : E) → more q ≡ cond (eq how q) true (has q)) → EndingsStand ending more (table ++ s ∷ [])
unfolding EndingsStand
stand_more {S} {E} eq ending has more table s how one is stand updates e h = by (eq how e) refl (updates e)
  where
    by : (b : Bool) → eq how e ≡ b → more e ≡ cond b true (has e) → (t : S) × Contains (table ++ s ∷ []) t × (ending t ≡ Some e)
    by true q u = (s, Contains-push table s, is ∙ (λ i. Some (one how e q i)))
    by false q u = (let z = stand e (sym u ∙ h) in (z.0, Contains-append_left table (s ∷ []) z.0 z.1, z.2))

false_from_not : (b c : Bool) → b ≡ true → b ≡ not c → c ≡ false
false_from_not b true is e = (let z : true ≡ false = sym is ∙ e in absurd (cc))
false_from_not b false is e = refl

-- what that takes
pub takes_it : {S E : Type 0} (eq : E → E → Bool) (ending : S → Option E) (has more : E → Bool) (table : List S) (s : S) (how : E)
    (added : Bool) → ending s ≡ Some how → more how ≡ true → ((q : E) → more q ≡ cond (eq how q) true (has q)) → added ≡ true
    → added ≡ not (has how) → TakesOne ending has more table s (table ++ s ∷ [])
takes_it {S} {E} eq ending has more table s how added is there updates was new = record {
  kept = λ e h. by e (eq how e) (updates e) h;
  own = λ e q. (let same : how ≡ e = (let z : Some how ≡ Some e = sym is ∙ q in cc) in subst (λ (d : E). more d ≡ true) same there);
  some = λ t c. elim (Contains-push_cases table s t c) [
    | inl d ↦ inl d
    | inr d ↦ inr (how, sym d, is, false_from_not added (has how) was new)
  ];
}
  where
    by : (e : E) (b : Bool) → more e ≡ cond b true (has e) → has e ≡ true → more e ≡ true
    by e true u h = u
    by e false u h = u ∙ h

-- Some of the states are still left to be looked at.
pub record TakesMost {S E : Type 0} (ending : S → Option E) (has more : E → Bool) (old states left new : List S) : Type 0 where
  pub kept : (e : E) → has e ≡ true → more e ≡ true
  pub some : (t : S) → Contains new t → Contains old t ⊎ ((e : E) × Contains states t × (ending t ≡ Some e) × (has e ≡ false))
  pub of : (t : S) → Contains left t → Contains states t
  pub rest : (t : S) (e : E) → Contains states t → ending t ≡ Some e → Contains left t ⊎ (more e ≡ true)

-- none is looked at yet
pub takes_none : {S E : Type 0} (ending : S → Option E) (has : E → Bool) (old states : List S)
    → TakesMost ending has has old states states old
takes_none ending has old states = record { kept = λ e h. h; some = λ t c. inl c; of = λ t c. c; rest = λ t e c q. inl c }

not_before : (b c : Bool) → (b ≡ true → c ≡ true) → c ≡ false → b ≡ false
not_before true c up is = (let z : true ≡ false = sym (up refl) ∙ is in absurd (cc))
not_before false c up is = refl

-- one more is
pub takes_more : {S E : Type 0} (ending : S → Option E) (has mid more : E → Bool) (old states left less new newer : List S) (s : S)
    → TakesMost ending has mid old states left new → left ≡ less ++ s ∷ [] → TakesOne ending mid more new s newer
    → TakesMost ending has more old states less newer
takes_more {S} {E} ending has mid more old states left less new newer s m e o = record {
  kept = λ d h. o.kept d (m.kept d h);
  some = λ t c. elim (o.some t c) [
    | inl d ↦ m.some t d
    | inr d ↦ inr (
      d.0,
      m.of t (subst (λ (l : List S). Contains l t) (sym e) (subst (Contains (less ++ s ∷ [])) (sym d.1) (Contains-push less s))),
      ap ending d.1 ∙ d.2,
      not_before (has d.0) (mid d.0) (m.kept d.0) d.3,
    )
  ];
  of = λ t c. m.of t (subst (λ (l : List S). Contains l t) (sym e) (Contains-append_left less (s ∷ []) t c));
  rest = λ t d c q. elim (m.rest t d c q) [
    | inl f ↦ elim (Contains-push_cases less s t (subst (λ (l : List S). Contains l t) e f)) [
      | inl k ↦ inl k
      | inr k ↦ inr (o.own d (ap ending k ∙ q))
    ]
    | inr f ↦ inr (o.kept d f)
  ];
}

-- all are
pub takes_all : {S E : Type 0} (ending : S → Option E) (has more : E → Bool) (old states left new : List S) → left ≡ []
    → TakesMost ending has more old states left new → AreTaken ending has more old states new
takes_all {S} ending has more old states left new none m = record {
  kept = m.kept;
  all = λ t e c q. elim (m.rest t e c q) [
    | inl d ↦ nothing_in t (more e ≡ true) (subst (λ (l : List S). Contains l t) none d)
    | inr d ↦ d
  ];
  some = m.some;
}

-- each ending that comes in fewer turns is there
unfoldable pub HasBefore : {S E : Type 0} → (turn : S → S → Type 0) → (ending : S → Option E) → (first : S) → (has : E → Bool) → (turns : ℕ)
    → Type 0
HasBefore {S} {E} turn ending first has n = (m : ℕ) → m < n → (s : S) (e : E) → IsReached turn first m s → ending s ≡ Some e → has e ≡ true

-- no ending comes in fewer turns than none
pub has_before_first : {S E : Type 0} (turn : S → S → Type 0) (ending : S → Option E) (first : S) (has : E → Bool)
    → HasBefore turn ending first has 0
unfolding HasBefore
has_before_first turn ending first has m lt s e r q = absurd (omega (arith, lt))

-- an empty table has no state
pub none_shortest : {S E : Type 0} (turn : S → S → Type 0) (ending : S → Option E) (first : S) (table : List S) → table ≡ []
    → AreShortest turn ending first table
unfolding AreShortest
none_shortest {S} turn ending first table e s c =
    nothing_in s (IsShortestEnding turn ending first s) (subst (λ (l : List S). Contains l s) e c)

-- and none of its states has an ending
pub none_end : {S E : Type 0} (ending : S → Option E) (has : E → Bool) (table : List S) → ((e : E) → has e ≡ false)
    → EndingsStand ending has table
unfolding EndingsStand
none_end ending has table none e h = absurd (let z : true ≡ false = sym h ∙ none e in cc)

-- the endings of one layer more are there
pub has_before_next : {S E : Type 0} (eq : E → E → Bool) (turn alike : S → S → Type 0) (ending : S → Option E) (first : S)
    (has more : E → Bool) (n : ℕ) (layer old new : List S) → EndsAlike eq alike ending → IsLayer turn alike first n layer
    → AreTaken ending has more old layer new → HasBefore turn ending first has n → HasBefore turn ending first more (n + 1)
unfolding HasBefore IsCovered
has_before_next {S} {E} eq turn alike ending first has more n layer old new a l t before =
    below_more (λ m. (s : S) (e : E) → IsReached turn first m s → ending s ≡ Some e → more e ≡ true) n
    (λ m lt s e r q. t.kept e (before m lt s e r q))
    (λ s e r q. (let z = l.covers s r in t.all z.0 e z.1 (a.alike_ends s z.0 z.2 ∙ q)))

-- and the states that were taken of it end so first
pub shortest_next : {S E : Type 0} (turn alike : S → S → Type 0) (ending : S → Option E) (first : S) (has more : E → Bool) (n : ℕ)
    (layer old new : List S) → IsLayer turn alike first n layer → AreTaken ending has more old layer new → HasBefore turn ending first has n
    → AreShortest turn ending first old → AreShortest turn ending first new
unfolding HasBefore AreShortest
shortest_next {S} {E} turn alike ending first has more n layer old new l t before right s c =
    elim (t.some s c) [
      | inl d ↦ right s d
      | inr d ↦ record {
        turns = n;
        how = d.0;
        reached = l.reached s d.1;
        ends = d.2;
        shortest = λ m u lt r q. (let z : true ≡ false = sym (before m lt u d.0 r q) ∙ d.3 in cc);
      }
    ]

-- the table has each ending that comes in fewer turns
pub ended_before : {S E : Type 0} (turn : S → S → Type 0) (ending : S → Option E) (first : S) (has : E → Bool) (n : ℕ) (table : List S)
    → HasBefore turn ending first has n → EndingsStand ending has table → (m : ℕ) → m < n → HasEndings turn ending first table m
unfolding HasBefore EndingsStand HasEndings
ended_before turn ending first has n table before stand m lt s e r q = stand e (before m lt s e r q)

-- and every ending, where the layer is empty
pub all_ended : {S E : Type 0} (turn alike : S → S → Type 0) (ending : S → Option E) (first : S) (has : E → Bool) (n : ℕ) (table : List S)
    → IsLayer turn alike first n [] → HasBefore turn ending first has n → EndingsStand ending has table
    → (m : ℕ) → HasEndings turn ending first table m
unfolding HasBefore EndingsStand HasEndings
all_ended {S} {E} turn alike ending first has n table l before stand m s e r q = elim (cases_lt m n) [
  | inl f ↦ stand e (before m f s e r q)
  | inr f ↦ absurd (ends turn alike first n l m f s r)
]
