-- The endings of states, at their places in a table.
use Rattle.std.proofs.Common.{◌≡◌, ◌∙◌, ℕ, ◌+◌, ◌*◌, ◌++◌, ◌∷◌, [], List, get_or, refl, sym, ap, subst}
use Rattle.std.proofs.Common.{arith, inl, inr}
use Rattle.std.specs.Prelude.{◌==◌, Bool, true, false, cond, Contains, Option, None, Some, is_some, min}
use Rattle.std.specs.List.{AllZip, count_by}
use Rattle.std.proofs.lemmas.List.{append-nil, append_assoc}
use Rattle.std.proofs.lemmas.List.Elements.{Contains-get_or, Contains-push_cases}
use Rattle.std.proofs.lemmas.List.Sums.{sum_by-cons}
use Rattle.hp_layers.specs.Ended.{EndingsStand, TakesOne, has_place}
use Rattle.hp_layers.specs.Named.{AddsSeat, AddsWays, Grows, IsIndexed, IsSeat, KeepsPlaces, PutsAtEnd, TakesWays}
use Rattle.hp_layers.specs.Weighed.{IsAsMany, most, weigh}
use Rattle.hp_layers.specs.declared.counting.RunCounts.{RunCounts}
use Rattle.hp_layers.proofs.Indexing.{HaveOnePlace, kept_place, keeps_none, keeps_on, puts_keep}
use Rattle.hp_layers.proofs.Naming.{zip_on}
use Rattle.hp_layers.proofs.Spreading.{more_at}

grows_none : {S : Type 0} (states : List S) → Grows states states
unfolding Grows
grows_none states = ([], sym (append-nil states))

grows_on : {S : Type 0} (a b c : List S) → Grows a b → Grows b c → Grows a c
unfolding Grows
grows_on a b c f g = (f.0 ++ g.0, g.1 ∙ ((λ i. f.1 i ++ g.0) ∙ append_assoc a f.0 g.0))

-- whoever has a place still has one
places_kept : {E : Type 0} (before after : E → Option ℕ) → KeepsPlaces before after → (e : E) → has_place before e ≡ true
    → has_place after e ≡ true
unfolding KeepsPlaces
places_kept {E} before after kept e h = by (before e) refl h
  where
    by : (o : Option ℕ) → before e ≡ o → is_some o ≡ true → is_some (after e) ≡ true
    by None is q = absurd (let z : false ≡ true = q in cc)
    by (Some j) is q = ap (λ (o : Option ℕ). is_some o) (kept e j is)

pub takes_none_of : {S E : Type 0} (ending : S → Option E) (place : E → Option ℕ) (table : List S) (s : S) → ending s ≡ None
    → TakesOne ending (has_place place) (has_place place) table s table
takes_none_of {S} {E} ending place table s none = record {
  kept = λ e h. h;
  own = λ e is. absurd (let z : ◌≡◌ {A = Option E} None (Some e) = sym none ∙ is in cc);
  some = λ t c. inl c;
}

pub adds_no_seat : {S E : Type 0} (o : Option E) (place : E → Option ℕ) (more : ℕ) (table : RunCounts S) → o ≡ None
    → AddsSeat o place place more table table
unfolding IsSeat
adds_no_seat {S} {E} o place more table none = record {
  seats = [];
  is = subst (λ (x : Option E). IsSeat place x []) (sym none) refl;
  kept = keeps_none place;
  grows = grows_none table.states.items;
  ways = λ j. (let zero : more * 0 ≡ 0 = omega arith in ap (λ (n : ℕ). min n most) (omega (arith, zero)));
}

module _ {S E : Type 0} (eq : E → E → Bool) where
  pub takes_put : (ending : S → Option E) (before after : E → Option ℕ) (how : E) (more : ℕ) (old new : RunCounts S) (s : S)
      → HaveOnePlace eq before → ending s ≡ Some how → AddsWays eq before after how s more old new
      → TakesOne ending (has_place before) (has_place after) old.states.items s new.states.items
  unfolding PutsAtEnd
  takes_put ending before after how more old new s one is a = record {
    kept = places_kept before after (puts_keep eq before after how old.states.items new.states.items s one a.puts);
    own = λ e q. (
        let same : how ≡ e = (let z : ◌≡◌ {A = Option E} (Some how) (Some e) = sym is ∙ q in cc) in
        ap (λ (o : Option ℕ). is_some o) (ap after (sym same) ∙ a.is));
    some = λ t c. elim a.puts [
      | inl same ↦ inl (subst (λ (l : List S). Contains l t) same.0 c)
      | inr put ↦ elim (Contains-push_cases old.states.items s t (subst (λ (l : List S). Contains l t) put.0 c)) [
        | inl d ↦ inl d
        | inr d ↦ inr (how, sym d, is, ap (λ (o : Option ℕ). is_some o) put.1)
      ]
    ];
  }

  pub adds_one_seat : (o : Option E) (before after : E → Option ℕ) (how : E) (more : ℕ) (old new : RunCounts S) (s : S)
      → HaveOnePlace eq before → o ≡ Some how → AddsWays eq before after how s more old new → AddsSeat o before after more old new
  unfolding IsSeat Grows PutsAtEnd
  adds_one_seat o before after how more old new s one is a = record {
    seats = a.at ∷ [];
    is = subst (λ (x : Option E). IsSeat after x (a.at ∷ [])) (sym is) (a.at, a.is, refl);
    kept = puts_keep eq before after how old.states.items new.states.items s one a.puts;
    grows = elim a.puts [
      | inl same ↦ ([], same.0 ∙ sym (append-nil old.states.items))
      | inr put ↦ (s ∷ [], put.0)
    ];
    ways = λ j. (
        let now = a.ways j in
        let all = more_at a.at more j 0 in
        let count = sum_by-cons (λ (k : ℕ). cond (k == j) 1 0) a.at [] in
        let same : more * count_by (λ k. k == j) (a.at ∷ []) ≡ more * (cond (a.at == j) 1 0 + 0) = ap (λ (n : ℕ). more * n) count in
        let zero : more * 0 ≡ 0 = omega arith in
        omega (arith, now, all, same, zero));
  }

-- ---- a layer, state by state

-- some of the states are still left to be looked at
pub record TakesRest {S E : Type 0} (ending : S → Option E) (before after : E → Option ℕ) (states left : List S) (ways rest : List ℕ)
    (old new : RunCounts S) : Type 0 where
  pub done : List S
  pub counted : List ℕ
  pub whole : states ≡ left ++ done
  pub all : ways ≡ rest ++ counted
  pub seats : List (List ℕ)
  pub each : AllZip (λ s js. IsSeat after (ending s) js) done seats
  pub kept : KeepsPlaces before after
  pub grows : Grows old.states.items new.states.items
  pub more : (j : ℕ) → IsAsMany (get_or new.ways.items j 0)
      (get_or old.ways.items j 0 + weigh counted seats (λ js. count_by (λ k. k == j) js))

pub takes_rest_none : {S E : Type 0} (ending : S → Option E) (place : E → Option ℕ) (states : List S) (ways : List ℕ) (table : RunCounts S)
    → TakesRest ending place place states states ways ways table table
takes_rest_none ending place states ways table = record {
  done = [];
  counted = [];
  whole = sym (append-nil states);
  all = sym (append-nil ways);
  seats = [];
  each = tt;
  kept = keeps_none place;
  grows = grows_none table.states.items;
  more = λ j. ap (λ (n : ℕ). min n most) (omega arith);
}

seat_kept : {E : Type 0} (before after : E → Option ℕ) → KeepsPlaces before after → (o : Option E) (js : List ℕ) → IsSeat before o js
    → IsSeat after o js
unfolding IsSeat
seat_kept before after kept None js h = h
seat_kept before after kept (Some e) js h = (h.0, kept_place before after e h.0 kept h.1, h.2)

pub takes_rest_more : {S E : Type 0} (ending : S → Option E) (before mid after : E → Option ℕ) (states left less : List S)
    (ways rest fewer : List ℕ) (old new newer : RunCounts S) (s : S) (n : ℕ) → TakesRest ending before mid states left ways rest old new
    → left ≡ less ++ s ∷ [] → rest ≡ fewer ++ n ∷ [] → AddsSeat (ending s) mid after n new newer
    → TakesRest ending before after states less ways fewer old newer
takes_rest_more ending before mid after states left less ways rest fewer old new newer s n t is are a = record {
  done = s ∷ t.done;
  counted = n ∷ t.counted;
  whole = t.whole ∙ ((λ i. is i ++ t.done) ∙ append_assoc less (s ∷ []) t.done);
  all = t.all ∙ ((λ i. are i ++ t.counted) ∙ append_assoc fewer (n ∷ []) t.counted);
  seats = a.seats ∷ t.seats;
  each = (
    a.is,
    zip_on (λ u js. IsSeat mid (ending u) js) (λ u js. IsSeat after (ending u) js) t.done t.seats
        (λ u js h. seat_kept mid after a.kept (ending u) js h) t.each,
  );
  kept = keeps_on before mid after t.kept a.kept;
  grows = grows_on old.states.items new.states.items newer.states.items t.grows a.grows;
  more = λ j. (
      let now = a.ways j in
      let was = t.more j in
      omega (arith, now, was));
}

pub takes_rest_all : {S E : Type 0} (ending : S → Option E) (before after : E → Option ℕ) (layer : RunCounts S) (left : List S)
    (rest : List ℕ) (old new : RunCounts S) → TakesRest ending before after layer.states.items left layer.ways.items rest old new
    → left ≡ [] → rest ≡ [] → TakesWays ending before after layer old new
takes_rest_all {S} ending before after layer left rest old new t none empty = record {
  seats = t.seats;
  each = subst (λ (l : List S). AllZip (λ s js. IsSeat after (ending s) js) l t.seats) (sym (t.whole ∙ (λ i. none i ++ t.done))) t.each;
  kept = t.kept;
  grows = t.grows;
  ways = λ j. subst (λ (l : List ℕ). IsAsMany (get_or new.ways.items j 0)
      (get_or old.ways.items j 0 + weigh l t.seats (λ js. count_by (λ k. k == j) js))) (sym (t.all ∙ (λ i. empty i ++ t.counted))) (t.more j);
}

-- an ending that has a place is that of a state in the table
pub places_stand : {S E : Type 0} (eq : E → E → Bool) (ending : S → Option E) (place : E → Option ℕ) (states : List S)
    → ((d e : E) → eq d e ≡ true → d ≡ e) → (d : S) → IsIndexed eq (λ s e. ending s ≡ Some e) place states
    → EndingsStand ending (has_place place) states
unfolding EndingsStand
places_stand {S} {E} eq ending place states one d x e h = by (place e) refl h
  where
    by : (o : Option ℕ) → place e ≡ o → is_some o ≡ true → (s : S) × Contains states s × (ending s ≡ Some e)
    by None is q = absurd (let z : false ≡ true = q in cc)
    by (Some j) is q = (
        let z = x.stands e j is in
        let y = z.1 d in (
          get_or states j d,
          Contains-get_or states j d z.0,
          y.1 ∙ ap (λ (k : E). Some k) (one y.0 e y.2),
        ))
