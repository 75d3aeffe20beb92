-- Where runs lead, layer by layer, each with the place of a state that is as good; and where they end.
use Rattle.std.proofs.Common.{◌≡◌, ◌∙◌, ℕ, zero, suc, ◌+◌, ◌*◌, ◌<◌, ◌≤◌, ◌++◌, ◌∷◌, ◌⊎◌, [], List, length, get_or, refl, sym, ap, subst}
use Rattle.std.proofs.Common.{arith, inl, inr}
use Rattle.std.specs.Prelude.{◌==◌, Bool, true, false, cond, Contains, Option, None, Some, map, min}
use Rattle.std.specs.List.{AllZip, count_by}
use Rattle.std.proofs.Math.Nat.{mul-add}
use Rattle.std.proofs.lemmas.Bool.{cases_lt}
use Rattle.std.proofs.lemmas.List.{append-nil, append_assoc, get_or_append_left, get_or_past, length_push, length-append, map-append, same_from_push}
use Rattle.std.proofs.lemmas.List.Elements.{Contains-append_cases, Contains-append_left, Contains-append_right}
use Rattle.std.proofs.lemmas.List.Sums.{sum_by-append, sum_by-cons}
use Rattle.hp_layers.specs.Ended.{EndsAlike}
use Rattle.hp_layers.specs.Layers.{AreAllAfter, AreValid, IsLayer, IsReached}
use Rattle.hp_layers.specs.Named.{AddsEach, AddsWays, AreApart, AreEach, AreMoves, AreNamed, AreTold, EndsAt, GoOn, Grows}
use Rattle.hp_layers.specs.Named.{IsIndexed, IsSeat, KeepsPlaces, KeyMoves, LeadsBy, MoveSo, TakesWays}
use Rattle.hp_layers.specs.Weighed.{IsAsMany, most}
use Rattle.hp_layers.specs.declared.counting.RunCounts.{RunCounts}
use Rattle.hp_layers.proofs.Covering.{covered_by, nothing_in}
use Rattle.hp_layers.proofs.Indexing.{kept_place, placed, some_one}
use Rattle.hp_layers.proofs.Layering.{ends}
use Rattle.hp_layers.proofs.Naming.{apart_append, apart_ended, apart_next, apart_none, apart_one, came_from, count_ended, count_next, ended_from, ended_runs}
use Rattle.hp_layers.proofs.Naming.{ends_at, first_or, goes_to, here, in_map, is_at, name_of, names_of, next_runs, no_zero, there, weigh_runs, zip_at, zip_long}
use Rattle.hp_layers.proofs.Naming.{zip_on}
use Rattle.hp_layers.proofs.Weighing.{weigh_push}

pub zip_push : {X Y : Type 0} (R : X → Y → Type 0) (xs : List X) (ys : List Y) (x : X) (y : Y) → AllZip R xs ys → R x y
    → AllZip R (xs ++ x ∷ []) (ys ++ y ∷ [])
zip_push R [] [] x y h r = (r, h)
zip_push R [] (z ∷ ys) x y h r = absurd h
zip_push R (z ∷ xs) [] x y h r = absurd h
zip_push R (z ∷ xs) (w ∷ ys) x y h r = (h.0, zip_push R xs ys x y h.1 r)

pub zip_right : {X Y : Type 0} (R : X → Y → Type 0) (xs : List X) (ys : List Y) (y : Y) → AllZip R xs ys → Contains ys y
    → (x : X) × Contains xs x × R x y
zip_right {X} R xs [] y h c = nothing_in y ((x : X) × Contains xs x × R x y) c
zip_right R [] (z ∷ ys) y h c = absurd h
zip_right R (x ∷ xs) (z ∷ ys) y h c = elim (first_or z ys y c) [
  | inl e ↦ (x, here x xs, subst (R x) e h.0)
  | inr d ↦ (let w = zip_right R xs ys y h.1 d in (w.0, there x xs w.0 w.1, w.2))
]

pub zip_left : {X Y : Type 0} (R : X → Y → Type 0) (xs : List X) (ys : List Y) (x : X) → AllZip R xs ys → Contains xs x
    → (y : Y) × Contains ys y × R x y
zip_left {X} {Y} R [] ys x h c = nothing_in x ((y : Y) × Contains ys y × R x y) c
zip_left R (z ∷ xs) [] x h c = absurd h
zip_left {X} R (z ∷ xs) (y ∷ ys) x h c = elim (first_or z xs x c) [
  | inl e ↦ (y, here y ys, subst (λ (k : X). R k y) e h.0)
  | inr d ↦ (let w = zip_left R xs ys x h.1 d in (w.0, there y ys w.0 w.1, w.2))
]

-- ---- the states behind one

-- some of the states are still left to be added
pub record AddsRest {S K : Type 0} (key_of : S → K) (after : K → Option ℕ) (states left : List S) (more : ℕ) (old new : List ℕ) : Type 0 where
  pub done : List S
  pub whole : states ≡ left ++ done
  pub places : List ℕ
  pub at : AllZip (λ s j. after (key_of s) ≡ Some j) done places
  pub ways : (j : ℕ) → IsAsMany (get_or new j 0) (get_or old j 0 + more * count_by (λ k. k == j) places)

pub adds_rest_none : {S K : Type 0} (key_of : S → K) (after : K → Option ℕ) (states : List S) (more : ℕ) (old : List ℕ)
    → AddsRest key_of after states states more old old
adds_rest_none key_of after states more old = record {
  done = [];
  whole = sym (append-nil states);
  places = [];
  at = tt;
  ways = λ j. (let zero : more * 0 ≡ 0 = omega arith in ap (λ (n : ℕ). min n most) (omega (arith, zero)));
}

times_cond : (more : ℕ) (b : Bool) → more * cond b 1 0 ≡ cond b more 0
times_cond more true = omega arith
times_cond more false = omega arith

-- one place more
pub more_at : (at more j n : ℕ) → cond (at == j) more 0 + more * n ≡ more * (cond (at == j) 1 0 + n)
more_at at more j n =
    let all : more * (cond (at == j) 1 0 + n) ≡ more * cond (at == j) 1 0 + more * n = mul-add more (cond (at == j) 1 0) n in
    let one = times_cond more (at == j) in
    omega (arith, all, one)

pub adds_rest_more : {S K : Type 0} (eq : K → K → Bool) (key_of : S → K) (before after : K → Option ℕ) (states left less : List S) (more : ℕ)
    (old : List ℕ) (mid new : RunCounts S) (key : K) (s : S) → AddsRest key_of before states left more old mid.ways.items
    → left ≡ less ++ s ∷ [] → AddsWays eq before after key s more mid new → key ≡ key_of s → KeepsPlaces before after
    → AddsRest key_of after states less more old new.ways.items
adds_rest_more eq key_of before after states left less more old mid new key s r is a own kept = record {
  done = s ∷ r.done;
  whole = r.whole ∙ ((λ i. is i ++ r.done) ∙ append_assoc less (s ∷ []) r.done);
  places = a.at ∷ r.places;
  at = (
    sym (ap after own) ∙ a.is,
    zip_on (λ t j. before (key_of t) ≡ Some j) (λ t j. after (key_of t) ≡ Some j) r.done r.places
        (λ t j e. kept_place before after (key_of t) j kept e) r.at,
  );
  ways = λ j. (
      let one = a.ways j in
      let two = r.ways j in
      let count = sum_by-cons (λ (k : ℕ). cond (k == j) 1 0) a.at r.places in
      let all = more_at a.at more j (count_by (λ k. k == j) r.places) in
      let same : more * count_by (λ k. k == j) (a.at ∷ r.places) ≡ more * (cond (a.at == j) 1 0 + count_by (λ k. k == j) r.places) =
      ap (λ (n : ℕ). more * n) count in
      omega (arith, one, two, all, same));
}

pub adds_rest_all : {S K : Type 0} (key_of : S → K) (after : K → Option ℕ) (states left : List S) (more : ℕ) (old new : List ℕ)
    → AddsRest key_of after states left more old new → left ≡ [] → AddsEach key_of after states more old new
adds_rest_all {S} key_of after states left more old new r none = record {
  places = r.places;
  at = subst (λ (l : List S). AllZip (λ s j. after (key_of s) ≡ Some j) l r.places) (sym (r.whole ∙ (λ i. none i ++ r.done))) r.at;
  ways = r.ways;
}

-- ---- a layer's turns

abbrev zipped : {L : Type 0} → List L → List ℕ → List (L × ℕ)
zipped [] js = []
zipped (name ∷ names) [] = []
zipped (name ∷ names) (j ∷ js) = (name, j) ∷ zipped names js

zipped_names : {L : Type 0} (names : List L) (js : List ℕ) → length js ≡ length names → map name_of (zipped names js) ≡ names
zipped_names [] js long = refl
zipped_names (name ∷ names) [] long = absurd (omega (arith, long))
zipped_names (name ∷ names) (j ∷ js) long = λ i. name ∷ zipped_names names js (omega (arith, long)) i

count_zipped : {L : Type 0} (j : ℕ) (names : List L) (js : List ℕ) → length js ≡ length names
    → count_by (is_at j) (zipped names js) ≡ count_by (λ k. k == j) js
count_zipped j [] [] long = refl
count_zipped j [] (k ∷ js) long = absurd (omega (arith, long))
count_zipped j (name ∷ names) [] long = absurd (omega (arith, long))
count_zipped {L} j (name ∷ names) (k ∷ js) long =
    sum_by-cons (λ (x : L × ℕ). cond (is_at j x) 1 0) (name, k) (zipped names js)
    ∙ (ap (λ (n : ℕ). cond (k == j) 1 0 + n) (count_zipped j names js (omega (arith, long)))
    ∙ sym (sum_by-cons (λ (i : ℕ). cond (i == j) 1 0) k js))

zipped_each : {S L : Type 0} (R : L → S → Type 0) (P : S → ℕ → Type 0) (names : List L) (states : List S) (js : List ℕ)
    → AllZip R names states → AllZip P states js → (name : L) (j : ℕ) → Contains (zipped names js) (name, j) → (t : S) × R name t × P t j
zipped_each {S} R P [] states js r p name j c = nothing_in (name, j) ((t : S) × R name t × P t j) c
zipped_each {S} R P (l ∷ names) [] js r p name j c = absurd r
zipped_each {S} R P (l ∷ names) (s ∷ states) [] r p name j c = absurd p
zipped_each {S} {L} R P (l ∷ names) (s ∷ states) (k ∷ js) r p name j c = elim (first_or (l, k) (zipped names js) (name, j) c) [
  | inl e ↦ (
      let one : l ≡ name = ap name_of e in
      let two : k ≡ j = ap (λ (m : L × ℕ). m.1) e in
      (s, subst (λ (x : L). R x s) one r.0, subst (P s) two p.0))
  | inr d ↦ zipped_each R P names states js r.1 p.1 name j d
]

zipped_all : {L : Type 0} (names : List L) (js : List ℕ) → length js ≡ length names → (name : L) → Contains names name
    → (j : ℕ) × Contains (zipped names js) (name, j)
zipped_all [] js long name c = nothing_in name ((j : ℕ) × Contains (zipped [] js) (name, j)) c
zipped_all (l ∷ names) [] long name c = absurd (omega (arith, long))
zipped_all {L} (l ∷ names) (k ∷ js) long name c = elim (first_or l names name c) [
  | inl e ↦ (k, subst (λ (x : L). Contains ((l, k) ∷ zipped names js) (x, k)) e (here (l, k) (zipped names js)))
  | inr d ↦ (
      let z = zipped_all names js (omega (arith, long)) name d in
      (z.0, there (l, k) (zipped names js) (name, z.0) z.1))
]

-- the turns from one state
moves_of : {S L K : Type 0} (step : S → L → S → Type 0) (key_of : S → K) (place : K → Option ℕ) (s : S) (next : List S)
    → (e : AreEach step s next) → (js : List ℕ) → AllZip (λ t j. place (key_of t) ≡ Some j) next js
    → KeyMoves step key_of place s (zipped e.names js)
moves_of step key_of place s next e js at =
    let one = zip_long (step s) e.names next e.each in
    let two = zip_long (λ t j. place (key_of t) ≡ Some j) next js at in
    let long : length js ≡ length e.names = omega (arith, one, two) in
    record {
      apart = subst AreApart (sym (zipped_names e.names js long)) e.apart;
      each = zipped_each (step s) (λ t j. place (key_of t) ≡ Some j) e.names next js e.each at;
      all = λ name t k. zipped_all e.names js long name (e.all name t k);
    }

pub no_moves : {S L K : Type 0} (step : S → L → S → Type 0) (key_of : S → K) (place : K → Option ℕ) (new : List ℕ) → new ≡ []
    → MoveSo step key_of place [] [] new
no_moves step key_of place new none = record {
  moves = [];
  each = tt;
  many = λ j. ap (λ (l : List ℕ). min (get_or l j 0) most) none;
}

pub more_moves : {S L K : Type 0} (step : S → L → S → Type 0) (key_of : S → K) (before after : K → Option ℕ) (states : List S)
    (ways old new : List ℕ) (s : S) (more : ℕ) (next : List S) → length ways ≡ length states → MoveSo step key_of before states ways old
    → KeepsPlaces before after → AreEach step s next → AddsEach key_of after next more old new
    → MoveSo step key_of after (states ++ s ∷ []) (ways ++ more ∷ []) new
more_moves {S} {L} {K} step key_of before after states ways old new s more next long m kept e a = record {
  moves = m.moves ++ zipped e.names a.places ∷ [];
  each = zip_push (KeyMoves step key_of after) states m.moves s (zipped e.names a.places)
      (zip_on (KeyMoves step key_of before) (KeyMoves step key_of after) states m.moves keeps m.each)
      (moves_of step key_of after s next e a.places a.at);
  many = λ j. (
      let f : List (L × ℕ) → ℕ = λ ms. count_by (is_at j) ms in
      let one = zip_long (step s) e.names next e.each in
      let two = zip_long (λ t j. after (key_of t) ≡ Some j) next a.places a.at in
      let count = count_zipped j e.names a.places (omega (arith, one, two)) in
      let all = weigh_push ways m.moves f more (zipped e.names a.places) (long ∙ sym (zip_long (KeyMoves step key_of before) states m.moves m.each)) in
      let same : more * f (zipped e.names a.places) ≡ more * count_by (λ k. k == j) a.places = ap (λ (n : ℕ). more * n) count in
      let now = a.ways j in
      let was = m.many j in
      omega (arith, now, was, all, same));
}
  where
    keeps : (t : S) (ms : List (L × ℕ)) → KeyMoves step key_of before t ms → KeyMoves step key_of after t ms
    keeps t ms k = record {
      apart = k.apart;
      each = λ name j c. (let z = k.each name j c in (z.0, z.1, kept_place before after (key_of z.0) j kept z.2));
      all = k.all;
    }

module _ {S L K : Type 0} (eq : K → K → Bool) (key_of : S → K) (valid : S → Type 0) (turn alike : S → S → Type 0) (step : S → L → S → Type 0)
    (same : (x y : S) → valid x → valid y → eq (key_of y) (key_of x) ≡ true → alike x y) (keeps : (x y : S) → valid x → turn x y → valid y)
    (named : AreNamed turn alike step) where
  as_good_moves : (place : K → Option ℕ) (next : List S) → AreValid valid next → IsIndexed eq (λ t k. key_of t ≡ k) place next
      → (states : List S) (moves : List (List (L × ℕ))) → AreValid valid states → AllZip (KeyMoves step key_of place) states moves
      → AllZip (AreMoves step alike next) states moves
  unfolding AreValid
  as_good_moves place next are x [] [] v h = h
  as_good_moves place next are x [] (m ∷ moves) v h = h
  as_good_moves place next are x (s ∷ states) [] v h = h
  as_good_moves place next are x (s ∷ states) (m ∷ moves) v h = (
    record {
      apart = h.0.apart;
      each = λ name j c. (
          let z = h.0.each name j c in (
            z.0,
            z.1,
            (x.stands (key_of z.0) j z.2).0,
            λ d. placed eq key_of valid alike place next z.0 j d same (keeps s z.0 (v s (here s states)) (named.is_turn s z.0 name z.1)) are x z.2,
          ));
      all = h.0.all;
    },
    as_good_moves place next are x states moves (λ t c. v t (there s states t c)) h.1,
  )

  pub goes_on : (place : K → Option ℕ) (layer next : RunCounts S) → AreValid valid layer.states.items → AreValid valid next.states.items
      → IsIndexed eq (λ t k. key_of t ≡ k) place next.states.items
      → MoveSo step key_of place layer.states.items layer.ways.items next.ways.items → GoOn step alike layer next
  goes_on place layer next v are x m = record {
    moves = m.moves;
    each = as_good_moves place next.states.items are x layer.states.items m.moves v m.each;
    ways = m.many;
  }

  -- one for each name is one for each turn
  pub all_after : (s : S) (next : List S) → alike s s → AreEach step s next → AreAllAfter turn alike s next
  all_after s next itself e = record {
    some = λ t c. (let z = zip_right (step s) e.names next t e.each c in named.is_turn s t z.0 z.2);
    all = λ t k. (
        let z = named.named s t k in
        let y = zip_left (step s) e.names next z.0 e.each (e.all z.0 t z.1) in
        covered_by alike next t y.0 y.1 (named.one s s t y.0 z.0 itself z.1 y.2));
  }

-- ---- runs

-- each run of so many turns, by the names of its turns, with the place of a state that is as good as where it leads
pub record AreSpread {S L : Type 0} (step : S → L → S → Type 0) (alike : S → S → Type 0) (first : S) (turns : ℕ) (layer : RunCounts S)
    : Type 0 where
  pub runs : List (List L × ℕ)
  pub apart : AreApart (map names_of runs)
  pub each : (names : List L) (j : ℕ) → Contains runs (names, j)
      → (t : S) × LeadsBy step first turns names t × (j < length layer.states.items) × ((d : S) → alike t (get_or layer.states.items j d))
  pub all : (names : List L) (t : S) → LeadsBy step first turns names t → (j : ℕ) × Contains runs (names, j)
  pub many : (j : ℕ) → IsAsMany (get_or layer.ways.items j 0) (count_by (is_at j) runs)

pub spread_first : {S L : Type 0} (step : S → L → S → Type 0) (alike : S → S → Type 0) (first : S) (layer : RunCounts S)
    → layer.states.items ≡ first ∷ [] → layer.ways.items ≡ 1 ∷ [] → alike first first → AreSpread step alike first 0 layer
unfolding LeadsBy
spread_first {S} {L} step alike first layer states ways itself = record {
  runs = ([], 0) ∷ [];
  apart = apart_one [];
  each = λ names j c. elim (first_or {X = List L × ℕ} ([], 0) [] (names, j) c) [
    | inl e ↦ (
      first,
      (ap names_of (sym e), refl),
      subst (λ (k : ℕ). k < length layer.states.items) (ap (λ (r : List L × ℕ). r.1) e)
          (subst (λ (l : List S). 0 < length l) (sym states) (omega arith)),
      λ d. subst (λ (k : ℕ). alike first (get_or layer.states.items k d)) (ap (λ (r : List L × ℕ). r.1) e)
          (subst (λ (l : List S). alike first (get_or l 0 d)) (sym states) itself),
    )
    | inr d ↦ nothing_in (names, j) _ d
  ];
  all = λ names t leads. (0, subst (λ (ns : List L). Contains {X = List L × ℕ} (([], 0) ∷ []) (ns, 0)) (sym leads.0) (here ([], 0) []));
  many = λ j. ap (λ (l : List ℕ). min (get_or l j 0) most) ways ∙ one_way j;
}
  where
    one_way : (j : ℕ) → IsAsMany (get_or (1 ∷ []) j 0) (count_by (is_at {R = List L} j) (([], 0) ∷ []))
    one_way zero = refl
    one_way (suc j) = (let none = no_zero j in omega (arith, none))

module _ {S L : Type 0} (turn alike : S → S → Type 0) (step : S → L → S → Type 0) (first : S) (named : AreNamed turn alike step)
    (onward : (x y z : S) → alike x y → alike y z → alike x z) (itself : alike first first) where
  -- turns of one list of names lead to states that are as good
  pub one_run : (n : ℕ) (names : List L) (s t : S) → LeadsBy step first n names s → LeadsBy step first n names t → alike s t
  unfolding LeadsBy
  one_run zero names s t a b = subst (λ (x : S). alike x t) (sym a.1) (subst (alike first) (sym b.1) itself)
  one_run (suc n) names s t a b =
      let same = same_from_push a.0 b.0 a.2 b.2 (sym a.5 ∙ b.5) in
      named.one a.1 b.1 s t a.2
      (one_run n a.0 a.1 b.1 a.3 (subst (λ (ns : List L). LeadsBy step first n ns b.1) (sym same.0) b.3)) a.4
      (subst (λ (l : L). step b.1 l t) (sym same.1) b.4)

  -- as many names as turns
  pub as_long : (n : ℕ) (names : List L) (t : S) → LeadsBy step first n names t → length names ≡ n
  unfolding LeadsBy
  as_long zero names t a = ap (λ (l : List L). length l) a.0
  as_long (suc n) names t a =
      let z = as_long n a.0 a.1 a.3 in
      let long = length_push a.0 a.2 in
      let is = ap (λ (l : List L). length l) a.5 in
      omega (arith, z, long, is)

  pub spread_next : (n : ℕ) (layer next : RunCounts S) → length layer.ways.items ≡ length layer.states.items
      → AreSpread step alike first n layer → GoOn step alike layer next → AreSpread step alike first (suc n) next
  unfolding LeadsBy
  spread_next n layer next long s g = record {
    runs = next_runs g.moves s.runs;
    apart = apart_next g.moves own s.runs s.apart;
    each = λ names j c. (
        let z = came_from g.moves s.runs names j c in
        let r = s.each z.0.0 z.0.1 z.2 in
        let mv = moves_at z.0.1 r.0 r.2 in
        let m = mv.each z.1.0 z.1.1 z.3 in
        let there = named.follows (get_or layer.states.items z.0.1 r.0) r.0 m.0 z.1.0
        (named.back r.0 (get_or layer.states.items z.0.1 r.0) (r.3 r.0)) m.1 in (
          there.0,
          (z.0.0, r.0, z.1.0, r.1, there.1, z.4),
          subst (λ (k : ℕ). k < length next.states.items) z.5 m.2,
          λ d. subst (λ (k : ℕ). alike there.0 (get_or next.states.items k d)) z.5
              (onward there.0 m.0 (get_or next.states.items z.1.1 d) (named.back m.0 there.0 there.2) (m.3 d)),
        ));
    all = λ names t leads. (
        let z = s.all leads.0 leads.1 leads.3 in
        let r = s.each leads.0 z.0 z.1 in
        let at = get_or layer.states.items z.0 r.0 in
        let good = onward leads.1 r.0 at (one_run n leads.0 leads.1 r.0 leads.3 r.1) (r.3 r.0) in
        let there = named.follows leads.1 at t leads.2 good leads.4 in
        let m = (moves_at z.0 r.0 r.2).all leads.2 there.0 there.1 in (
          m.0,
          subst (λ (ns : List L). Contains (next_runs g.moves s.runs) (ns, m.0)) (sym leads.5)
              (goes_to g.moves s.runs leads.0 z.0 m.0 leads.2 z.1 m.1),
        ));
    many = λ j. g.ways j
        ∙ (weigh_runs (λ (ms : List (L × ℕ)). count_by (is_at j) ms) [] layer.ways.items g.moves refl
        (long ∙ sym (zip_long (AreMoves step alike next.states.items) layer.states.items g.moves g.each)) s.runs (λ k lt. s.many k)
        ∙ ap (λ (k : ℕ). min k most) (sym (count_next g.moves j s.runs)));
  }
    where
      moves_at : (j : ℕ) (d : S) → j < length layer.states.items
          → AreMoves step alike next.states.items (get_or layer.states.items j d) (get_or g.moves j [])
      moves_at j d lt = zip_at (AreMoves step alike next.states.items) layer.states.items g.moves j d [] g.each lt

      own : (j : ℕ) → AreApart (map name_of (get_or g.moves j []))
      own j = elim (cases_lt j (length layer.states.items)) [
        | inl lt ↦ (moves_at j (get_or layer.states.items j first) lt).apart
        | inr past ↦ (
            let many = zip_long (AreMoves step alike next.states.items) layer.states.items g.moves g.each in
            subst (λ (ms : List (L × ℕ)). AreApart (map name_of ms)) (sym (get_or_past g.moves j [] (omega (arith, past, many)))) (apart_none L))
      ]

  -- ---- runs that end

  module _ {E : Type 0} (eq : E → E → Bool) (ending : S → Option E) (ends : EndsAlike eq alike ending) where
    ends_there : (states more : List S) (t : S) (j : ℕ) → Grows states more → EndsAt ending states t j → EndsAt ending more t j
    unfolding Grows
    ends_there states more t j grows a = record {
      how = a.how;
      ends = a.ends;
      there = (
          let long = ap (λ (l : List S). length l) grows.1 ∙ length-append states grows.0 in
          let lt = a.there in
          omega (arith, long, lt));
      same = λ d. ap (λ (l : List S). ending (get_or l j d)) grows.1
          ∙ (ap ending (get_or_append_left states grows.0 d j a.there) ∙ a.same d);
    }

    pub told_first : (table : RunCounts S) → table.states.items ≡ [] → table.ways.items ≡ [] → AreTold step ending first 0 table
    told_first table states ways = record {
      runs = [];
      apart = apart_none (List L);
      each = λ names j c. nothing_in (names, j) _ c;
      all = λ n names t e lt. absurd (omega (arith, lt));
      rows = λ j k d e lt. absurd (let z = ap (λ (l : List S). length l) states in omega (arith, lt, z));
      long = ap (λ (l : List ℕ). length l) ways ∙ sym (ap (λ (l : List S). length l) states);
      many = λ j. ap (λ (l : List ℕ). min (get_or l j 0) most) ways;
    }

    -- the place of the ending of the state at a place of the layer
    seat_at : (before after : E → Option ℕ) (layer old new : RunCounts S) (w : TakesWays ending before after layer old new) (i : ℕ) (d : S)
        → i < length layer.states.items → IsSeat after (ending (get_or layer.states.items i d)) (get_or w.seats i [])
    seat_at before after layer old new w i d lt =
        zip_at (λ s js. IsSeat after (ending s) js) layer.states.items w.seats i d [] w.each lt

    few_seats : (after : E → Option ℕ) (o : Option E) (js : List ℕ) → IsSeat after o js → (js ≡ []) ⊎ ((j : ℕ) × (js ≡ j ∷ []))
    unfolding IsSeat
    few_seats after None js h = inl h
    few_seats after (Some e) js h = inr (h.0, h.2)

    -- a seat is that of the state's ending
    its_seat : (after : E → Option ℕ) (o : Option E) (js : List ℕ) (j : ℕ) → IsSeat after o js → Contains js j
        → (e : E) × (o ≡ Some e) × (after e ≡ Some j)
    unfolding IsSeat
    its_seat after None js j h c = nothing_in j _ (subst (λ (l : List ℕ). Contains l j) h c)
    its_seat after (Some e) js j h c = elim (first_or h.0 [] j (subst (λ (l : List ℕ). Contains l j) h.2 c)) [
      | inl same ↦ (e, refl, h.1 ∙ ap (λ (k : ℕ). Some k) same)
      | inr d ↦ nothing_in j _ d
    ]

    has_seat : (after : E → Option ℕ) (o : Option E) (js : List ℕ) (e : E) → IsSeat after o js → o ≡ Some e → (j : ℕ) × Contains js j
    unfolding IsSeat
    has_seat after None js e h is = absurd (let z : ◌≡◌ {A = Option E} None (Some e) = is in cc)
    has_seat after (Some d) js e h is = (h.0, subst (λ (l : List ℕ). Contains l h.0) (sym h.2) (here h.0 []))

    module _ (n : ℕ) (before after : E → Option ℕ) (layer old new : RunCounts S)
        (long : length layer.ways.items ≡ length layer.states.items) (s : AreSpread step alike first n layer)
        (w : TakesWays ending before after layer old new) (x : IsIndexed eq (λ u e. ending u ≡ Some e) after new.states.items)
        (t : AreTold step ending first n old) where
      seats_few : (i : ℕ) → (get_or w.seats i [] ≡ []) ⊎ ((j : ℕ) × (get_or w.seats i [] ≡ j ∷ []))
      seats_few i = elim (cases_lt i (length layer.states.items)) [
        | inl lt ↦ few_seats after (ending (get_or layer.states.items i first)) (get_or w.seats i [])
            (seat_at before after layer old new w i first lt)
        | inr past ↦ (
            let many = zip_long (λ u js. IsSeat after (ending u) js) layer.states.items w.seats w.each in
            inl (get_or_past w.seats i [] (omega (arith, past, many))))
      ]

      seated_ends : (names : List L) (j : ℕ) → Contains (ended_runs w.seats s.runs) (names, j)
          → (u : S) × LeadsBy step first n names u × EndsAt ending new.states.items u j
      seated_ends names j c =
          let z = ended_from w.seats s.runs names j c in
          let r = s.each names z.0 z.1 in
          let at = get_or layer.states.items z.0 r.0 in
          let seat = its_seat after (ending at) (get_or w.seats z.0 []) j (seat_at before after layer old new w z.0 r.0 r.2) z.2 in
          let is : ending r.0 ≡ Some seat.0 = sym (ends.alike_ends r.0 at (r.3 r.0)) ∙ seat.1 in
          let stands = x.stands seat.0 j seat.2 in (
            r.0,
            r.1,
            record {
              how = seat.0;
              ends = is;
              there = stands.0;
              same = λ d. (let y = stands.1 d in y.1 ∙ ap (λ (e : E). Some e) (ends.one y.0 seat.0 y.2));
            },
          )

      pub told_more : length new.ways.items ≡ length new.states.items → AreTold step ending first (n + 1) new
      told_more even = record {
        runs = t.runs ++ ended_runs w.seats s.runs;
        apart = subst AreApart (sym (map-append names_of t.runs (ended_runs w.seats s.runs)))
            (apart_append (map names_of t.runs) (map names_of (ended_runs w.seats s.runs)) t.apart (apart_ended w.seats seats_few s.runs s.apart)
            (λ names c d. (
            let a = in_map names_of t.runs names c in
            let b = in_map names_of (ended_runs w.seats s.runs) names d in
            let y = t.each a.0.0 a.0.1 a.1 in
            let z = seated_ends b.0.0 b.0.1 b.1 in
            let one = as_long y.0 a.0.0 y.1 y.3 in
            let two = as_long n b.0.0 z.0 z.1 in
            let same = ap (λ (l : List L). length l) (a.2 ∙ sym b.2) in
            let lt = y.2 in
            absurd (omega (arith, one, two, same, lt)))));
        each = λ names j c. elim (Contains-append_cases t.runs (ended_runs w.seats s.runs) (names, j) c) [
          | inl d ↦ (
              let y = t.each names j d in
              (y.0, y.1, (let lt = y.2 in omega (arith, lt)), y.3, ends_there old.states.items new.states.items y.1 j w.grows y.4))
          | inr d ↦ (let z = seated_ends names j d in (n, z.0, omega arith, z.1, z.2))
        ];
        all = λ k names u e lt leads is. elim (cases_lt k n) [
          | inl f ↦ (
              let z = t.all k names u e f leads is in
              (z.0, Contains-append_left t.runs (ended_runs w.seats s.runs) (names, z.0) z.1))
          | inr f ↦ (
              let same : k ≡ n = omega (arith, lt, f) in
              let here = subst (λ (m : ℕ). LeadsBy step first m names u) same leads in
              let z = s.all names u here in
              let r = s.each names z.0 z.1 in
              let at = get_or layer.states.items z.0 r.0 in
              let good = onward u r.0 at (one_run n names u r.0 here r.1) (r.3 r.0) in
              let ended : ending at ≡ Some e = ends.alike_ends u at good ∙ is in
              let seat = has_seat after (ending at) (get_or w.seats z.0 []) e (seat_at before after layer old new w z.0 r.0 r.2) ended in (
                seat.0,
                Contains-append_right t.runs (ended_runs w.seats s.runs) (names, seat.0)
                    (ends_at w.seats s.runs names z.0 seat.0 z.1 seat.1),
              ))
        ];
        rows = λ j k d e lt le a b. some_one j k (sym (x.own j d e lt a) ∙ x.own k d e le b);
        long = even;
        many = λ j. (
            let spread = weigh_runs (λ (js : List ℕ). count_by (λ k. k == j) js) [] layer.ways.items w.seats refl
            (long ∙ sym (zip_long (λ u js. IsSeat after (ending u) js) layer.states.items w.seats w.each)) s.runs (λ k lt. s.many k) in
            let count = count_ended w.seats j s.runs in
            let all = sum_by-append (λ (r : List L × ℕ). cond (is_at j r) 1 0) t.runs (ended_runs w.seats s.runs) in
            let now = w.ways j in
            let was = t.many j in
            omega (arith, now, was, spread, count, all));
      }

-- what names lead to is reached
leads_there : {S L : Type 0} (turn alike : S → S → Type 0) (step : S → L → S → Type 0) (first : S) → AreNamed turn alike step
    → (n : ℕ) (names : List L) (t : S) → LeadsBy step first n names t → IsReached turn first n t
unfolding LeadsBy IsReached
leads_there turn alike step first named zero names t a = a.1
leads_there turn alike step first named (suc n) names t a =
    (a.1, leads_there turn alike step first named n a.0 a.1 a.3, named.is_turn a.1 t a.2 a.4)

-- where nothing is reached, no names lead
pub no_run_left : {S L : Type 0} (turn alike : S → S → Type 0) (step : S → L → S → Type 0) (first : S) → AreNamed turn alike step → (n : ℕ)
    → IsLayer turn alike first n [] → (m : ℕ) (names : List L) (t : S) → n ≤ m → LeadsBy step first m names t → ⊥
no_run_left turn alike step first named n empty m names t le a = ends turn alike first n empty m le t (leads_there turn alike step first named m names t a)
