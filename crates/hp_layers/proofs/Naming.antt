-- Runs by the names of their turns: no two alike, and how many have each place.
use Rattle.std.proofs.Common.{◌≡◌, ◌∙◌, ℕ, zero, suc, ◌+◌, ◌*◌, ◌<◌, ◌++◌, ◌∷◌, ◌⊎◌, [], List, length, get_or, refl, sym, ap, subst}
use Rattle.std.proofs.Common.{arith, inl, inr}
use Rattle.std.specs.Prelude.{◌==◌, Bool, cond, Contains, map, min}
use Rattle.std.specs.List.{AllZip, count_by, flat_map, sum_by}
use Rattle.std.proofs.Math.Nat.{add-mul}
use Rattle.std.proofs.lemmas.Bool.Decides.{nat_tests}
use Rattle.std.proofs.lemmas.List.{map-append, same_from_push}
use Rattle.std.proofs.lemmas.List.Elements.{Contains-append_cases, Contains-append_left, Contains-append_right, Contains-push, Contains-push_cases}
use Rattle.std.proofs.lemmas.List.Sums.{sum_by-append, sum_by-cons}
use Rattle.hp_layers.specs.Named.{AreApart}
use Rattle.hp_layers.specs.Weighed.{IsAsMany, most, weigh}
use Rattle.hp_layers.proofs.Covering.{nothing_in}
use Rattle.hp_layers.proofs.Weighing.{times_as_many}

-- ---- what lists have

pub here : {X : Type 0} (x : X) (xs : List X) → Contains (x ∷ xs) x
here x xs = Contains-append_left (x ∷ []) xs x (Contains-push [] x)

pub there : {X : Type 0} (x : X) (xs : List X) (y : X) → Contains xs y → Contains (x ∷ xs) y
there x xs y c = Contains-append_right (x ∷ []) xs y c

pub first_or : {X : Type 0} (x : X) (xs : List X) (y : X) → Contains (x ∷ xs) y → (x ≡ y) ⊎ Contains xs y
first_or x xs y c = elim (Contains-append_cases (x ∷ []) xs y c) [
  | inl d ↦ elim (Contains-push_cases [] x y d) [ inl e ↦ absurd (omega (arith, e.1)) | inr e ↦ inl e ]
  | inr d ↦ inr d
]

pub in_map : {X Y : Type 0} (f : X → Y) (xs : List X) (y : Y) → Contains (map f xs) y → (x : X) × Contains xs x × (f x ≡ y)
in_map {X} f [] y c = nothing_in y ((x : X) × Contains [] x × (f x ≡ y)) c
in_map f (x ∷ xs) y c = elim (first_or (f x) (map f xs) y c) [
  | inl e ↦ (x, here x xs, e)
  | inr d ↦ (let z = in_map f xs y d in (z.0, there x xs z.0 z.1, z.2))
]

pub to_map : {X Y : Type 0} (f : X → Y) (xs : List X) (x : X) → Contains xs x → Contains (map f xs) (f x)
to_map {X} {Y} f [] x c = nothing_in x (Contains {X = Y} [] (f x)) c
to_map {X} {Y} f (y ∷ ys) x c = elim (first_or y ys x c) [
  | inl e ↦ subst (λ (k : X). Contains (f y ∷ map f ys) (f k)) e (here (f y) (map f ys))
  | inr d ↦ there (f y) (map f ys) (f x) (to_map f ys x d)
]

pub in_flat : {X Y : Type 0} (g : X → List Y) (xs : List X) (y : Y) → Contains (flat_map g xs) y
    → (x : X) × Contains xs x × Contains (g x) y
in_flat {X} g [] y c = nothing_in y ((x : X) × Contains [] x × Contains (g x) y) c
in_flat g (x ∷ xs) y c = elim (Contains-append_cases (g x) (flat_map g xs) y c) [
  | inl d ↦ (x, here x xs, d)
  | inr d ↦ (let z = in_flat g xs y d in (z.0, there x xs z.0 z.1, z.2))
]

pub to_flat : {X Y : Type 0} (g : X → List Y) (xs : List X) (x : X) (y : Y) → Contains xs x → Contains (g x) y → Contains (flat_map g xs) y
to_flat {X} {Y} g [] x y c d = nothing_in x (Contains {X = Y} [] y) c
to_flat {X} g (z ∷ zs) x y c d = elim (first_or z zs x c) [
  | inl e ↦ Contains-append_left (g z) (flat_map g zs) y (subst (λ (k : X). Contains (g k) y) (sym e) d)
  | inr f ↦ Contains-append_right (g z) (flat_map g zs) y (to_flat g zs x y f d)
]

pub zip_at : {X Y : Type 0} (R : X → Y → Type 0) (xs : List X) (ys : List Y) (k : ℕ) (d : X) (e : Y) → AllZip R xs ys → k < length xs
    → R (get_or xs k d) (get_or ys k e)
zip_at R [] ys k d e h lt = absurd (omega (arith, lt))
zip_at R (x ∷ xs) [] k d e h lt = absurd h
zip_at R (x ∷ xs) (y ∷ ys) zero d e h lt = h.0
zip_at R (x ∷ xs) (y ∷ ys) (suc k) d e h lt = zip_at R xs ys k d e h.1 (omega (arith, lt))

pub zip_long : {X Y : Type 0} (R : X → Y → Type 0) (xs : List X) (ys : List Y) → AllZip R xs ys → length ys ≡ length xs
zip_long R [] [] h = refl
zip_long R [] (y ∷ ys) h = absurd h
zip_long R (x ∷ xs) [] h = absurd h
zip_long R (x ∷ xs) (y ∷ ys) h = (let z = zip_long R xs ys h.1 in omega (arith, z))

pub zip_on : {X Y : Type 0} (R Q : X → Y → Type 0) (xs : List X) (ys : List Y) → ((x : X) (y : Y) → R x y → Q x y) → AllZip R xs ys
    → AllZip Q xs ys
zip_on R Q [] [] f h = h
zip_on R Q [] (y ∷ ys) f h = h
zip_on R Q (x ∷ xs) [] f h = h
zip_on R Q (x ∷ xs) (y ∷ ys) f h = (f x y h.0, zip_on R Q xs ys f h.1)

-- ---- no two the same

pub apart_none : (X : Type 0) → AreApart {X = X} []
unfolding AreApart
apart_none X = tt

pub apart_one : {X : Type 0} (x : X) → AreApart (x ∷ [])
unfolding AreApart
apart_one x = (λ c. nothing_in x ⊥ c, tt)

pub apart_append : {X : Type 0} (xs ys : List X) → AreApart xs → AreApart ys → ((x : X) → Contains xs x → Contains ys x → ⊥)
    → AreApart (xs ++ ys)
unfolding AreApart
apart_append [] ys a b none = b
apart_append (x ∷ xs) ys a b none = (
  λ c. elim (Contains-append_cases xs ys x c) [ inl d ↦ a.0 d | inr d ↦ none x (here x xs) d ],
  apart_append xs ys a.1 b (λ y c d. none y (there x xs y c) d),
)

-- ---- the runs that go on

module _ {L : Type 0} where
  abbrev pub name_of : L × ℕ → L
  name_of m = m.0

  abbrev pub names_of : List L × ℕ → List L
  names_of r = r.0

  -- with one turn more
  abbrev pub longer : List L → L × ℕ → List L × ℕ
  longer names m = (names ++ m.0 ∷ [], m.1)

  -- the runs that go on from one
  abbrev pub longer_runs : List (List (L × ℕ)) → List L × ℕ → List (List L × ℕ)
  longer_runs moves r = map (longer r.0) (get_or moves r.1 [])

  -- the runs that go on from each of these
  abbrev pub next_runs : List (List (L × ℕ)) → List (List L × ℕ) → List (List L × ℕ)
  next_runs moves runs = flat_map (longer_runs moves) runs

  -- a run that goes on, by the one before it and its turn
  pub came_from : (moves : List (List (L × ℕ))) (runs : List (List L × ℕ)) (names : List L) (j : ℕ)
      → Contains (next_runs moves runs) (names, j)
      → (r : List L × ℕ) × (m : L × ℕ) × Contains runs r × Contains (get_or moves r.1 []) m × (names ≡ r.0 ++ m.0 ∷ []) × (m.1 ≡ j)
  came_from moves runs names j c =
      let z = in_flat (longer_runs moves) runs (names, j) c in
      let u = in_map (longer z.0.0) (get_or moves z.0.1 []) (names, j) z.2 in (
        z.0,
        u.0,
        z.1,
        u.1,
        ap names_of (sym u.2),
        ap (λ (r : List L × ℕ). r.1) u.2,
      )

  pub goes_to : (moves : List (List (L × ℕ))) (runs : List (List L × ℕ)) (names : List L) (i j : ℕ) (name : L) → Contains runs (names, i)
      → Contains (get_or moves i []) (name, j) → Contains (next_runs moves runs) (names ++ name ∷ [], j)
  goes_to moves runs names i j name c d =
      to_flat (longer_runs moves) runs (names, i) (names ++ name ∷ [], j) c (to_map (longer names) (get_or moves i []) (name, j) d)

  apart_longer : (names : List L) (ms : List (L × ℕ)) → AreApart (map name_of ms) → AreApart (map names_of (map (longer names) ms))
  unfolding AreApart
  apart_longer names [] a = tt
  apart_longer names (m ∷ ms) a = (
    λ c. (
        let z = in_map names_of (map (longer names) ms) (names ++ m.0 ∷ []) c in
        let u = in_map (longer names) ms z.0 z.1 in
        let same : names ++ u.0.0 ∷ [] ≡ names ++ m.0 ∷ [] = ap names_of u.2 ∙ z.2 in
        a.0 (subst (Contains (map name_of ms)) (same_from_push names names u.0.0 m.0 same).1 (to_map name_of ms u.0 u.1))),
    apart_longer names ms a.1,
  )

  pub apart_next : (moves : List (List (L × ℕ))) → ((j : ℕ) → AreApart (map name_of (get_or moves j []))) → (runs : List (List L × ℕ))
      → AreApart (map names_of runs) → AreApart (map names_of (next_runs moves runs))
  unfolding AreApart
  apart_next moves own [] a = tt
  apart_next moves own (r ∷ runs) a =
      subst AreApart (sym (map-append names_of (longer_runs moves r) (next_runs moves runs)))
      (apart_append (map names_of (longer_runs moves r)) (map names_of (next_runs moves runs))
      (apart_longer r.0 (get_or moves r.1 []) (own r.1)) (apart_next moves own runs a.1)
      (λ x c d. (
      let z = in_map names_of (longer_runs moves r) x c in
      let u = in_map (longer r.0) (get_or moves r.1 []) z.0 z.1 in
      let w = in_map names_of (next_runs moves runs) x d in
      let v = came_from moves runs w.0.0 w.0.1 w.1 in
      let same : r.0 ++ u.0.0 ∷ [] ≡ v.0.0 ++ v.1.0 ∷ [] = ap names_of u.2 ∙ (z.2 ∙ (sym w.2 ∙ v.4)) in
      a.0 (subst (Contains (map names_of runs)) (sym (same_from_push r.0 v.0.0 u.0.0 v.1.0 same).0)
      (to_map names_of runs v.0 v.2)))))

-- ---- the runs that end

module _ {L : Type 0} where
  -- the run at the place of its ending
  abbrev pub seated : List (List ℕ) → List L × ℕ → List (List L × ℕ)
  seated seats r = map (λ (j : ℕ). (r.0, j)) (get_or seats r.1 [])

  abbrev pub ended_runs : List (List ℕ) → List (List L × ℕ) → List (List L × ℕ)
  ended_runs seats runs = flat_map (seated seats) runs

  pub ended_from : (seats : List (List ℕ)) (runs : List (List L × ℕ)) (names : List L) (j : ℕ) → Contains (ended_runs seats runs) (names, j)
      → (i : ℕ) × Contains runs (names, i) × Contains (get_or seats i []) j
  ended_from seats runs names j c =
      let z = in_flat (seated seats) runs (names, j) c in
      let u = in_map (λ (k : ℕ). (z.0.0, k)) (get_or seats z.0.1 []) (names, j) z.2 in
      let same : z.0.0 ≡ names = ap names_of u.2 in
      let at : u.0 ≡ j = ap (λ (r : List L × ℕ). r.1) u.2 in (
        z.0.1,
        subst (λ (ns : List L). Contains runs (ns, z.0.1)) same z.1,
        subst (Contains (get_or seats z.0.1 [])) at u.1,
      )

  pub ends_at : (seats : List (List ℕ)) (runs : List (List L × ℕ)) (names : List L) (i j : ℕ) → Contains runs (names, i)
      → Contains (get_or seats i []) j → Contains (ended_runs seats runs) (names, j)
  ends_at seats runs names i j c d =
      to_flat (seated seats) runs (names, i) (names, j) c (to_map (λ (k : ℕ). (names, k)) (get_or seats i []) j d)

  -- it has one place at most
  apart_seat : (names : List L) (js : List ℕ) → (js ≡ []) ⊎ ((j : ℕ) × (js ≡ j ∷ []))
      → AreApart (map names_of (map (λ (j : ℕ). (names, j)) js))
  apart_seat names js few = elim few [
    | inl e ↦ subst (λ (ks : List ℕ). AreApart (map names_of (map (λ (j : ℕ). (names, j)) ks))) (sym e) (apart_none (List L))
    | inr e ↦ subst (λ (ks : List ℕ). AreApart (map names_of (map (λ (j : ℕ). (names, j)) ks))) (sym e.1) (apart_one names)
  ]

  pub apart_ended : (seats : List (List ℕ)) → ((i : ℕ) → (get_or seats i [] ≡ []) ⊎ ((j : ℕ) × (get_or seats i [] ≡ j ∷ [])))
      → (runs : List (List L × ℕ)) → AreApart (map names_of runs) → AreApart (map names_of (ended_runs seats runs))
  unfolding AreApart
  apart_ended seats few [] a = tt
  apart_ended seats few (r ∷ runs) a =
      subst AreApart (sym (map-append names_of (seated seats r) (ended_runs seats runs)))
      (apart_append (map names_of (seated seats r)) (map names_of (ended_runs seats runs))
      (apart_seat r.0 (get_or seats r.1 []) (few r.1)) (apart_ended seats few runs a.1)
      (λ x c d. (
      let z = in_map names_of (seated seats r) x c in
      let u = in_map (λ (k : ℕ). (r.0, k)) (get_or seats r.1 []) z.0 z.1 in
      let w = in_map names_of (ended_runs seats runs) x d in
      let v = ended_from seats runs w.0.0 w.0.1 w.1 in
      let same : w.0.0 ≡ r.0 = w.2 ∙ (sym z.2 ∙ ap names_of (sym u.2)) in
      a.0 (subst (Contains (map names_of runs)) same (to_map names_of runs (w.0.0, v.0) v.1)))))

-- ---- how many have each place

pub no_zero : (j : ℕ) → ◌≡◌ {A = ℕ} (cond (0 == suc j) 1 0) 0
no_zero j = grind (arith, nat_tests)

one_less : (k j : ℕ) → ◌≡◌ {A = ℕ} (cond (k == j) 1 0) (cond (suc k == suc j) 1 0)
one_less k j = grind (arith, nat_tests)

no_suc : (k : ℕ) → ◌≡◌ {A = ℕ} (cond (suc k == 0) 1 0) 0
no_suc k = grind (arith, nat_tests)

module _ {R : Type 0} where
  abbrev pub is_at : ℕ → R × ℕ → Bool
  is_at j r = r.1 == j

  count_cons : (j : ℕ) (r : R × ℕ) (runs : List (R × ℕ)) → count_by (is_at j) (r ∷ runs) ≡ cond (r.1 == j) 1 0 + count_by (is_at j) runs
  count_cons j r runs = sum_by-cons (λ (x : R × ℕ). cond (is_at j x) 1 0) r runs

  -- what is put at a place one lower
  abbrev lowered : R → ℕ → List (R × ℕ) → List (R × ℕ)
  lowered x zero rest = rest
  lowered x (suc j) rest = (x, j) ∷ rest

  abbrev lower : List (R × ℕ) → List (R × ℕ)
  lower [] = []
  lower (r ∷ runs) = lowered r.0 r.1 (lower runs)

  count_lower : (j : ℕ) (runs : List (R × ℕ)) → count_by (is_at j) (lower runs) ≡ count_by (is_at (suc j)) runs
  count_lower j [] = refl
  count_lower j (r ∷ runs) = by r.1 (count_lower j runs) ∙ sym (count_cons (suc j) r runs)
    where
      by : (k : ℕ) → count_by (is_at j) (lower runs) ≡ count_by (is_at (suc j)) runs
          → count_by (is_at j) (lowered r.0 k (lower runs)) ≡ cond (k == suc j) 1 0 + count_by (is_at (suc j)) runs
      by zero rest = (let none = no_zero j in omega (arith, rest, none))
      by (suc k) rest = (
          let one = count_cons j (r.0, k) (lower runs) in
          let same = one_less k j in
          omega (arith, one, rest, same))

  module _ {X : Type 0} (f : X → ℕ) (d : X) where
    -- what a run at that place comes to
    abbrev worth : List X → R × ℕ → ℕ
    worth ms r = f (get_or ms r.1 d)

    worth_lower : (m : X) (ms : List X) (runs : List (R × ℕ))
        → sum_by (worth (m ∷ ms)) runs ≡ count_by (is_at 0) runs * f m + sum_by (worth ms) (lower runs)
    worth_lower m ms [] = omega arith
    worth_lower m ms (r ∷ runs) =
        sum_by-cons (worth (m ∷ ms)) r runs
        ∙ (by r.1 (worth_lower m ms runs)
        ∙ ap (λ (n : ℕ). n * f m + sum_by (worth ms) (lower (r ∷ runs))) (sym (count_cons 0 r runs)))
      where
        by : (k : ℕ) → sum_by (worth (m ∷ ms)) runs ≡ count_by (is_at 0) runs * f m + sum_by (worth ms) (lower runs)
            → f (get_or (m ∷ ms) k d) + sum_by (worth (m ∷ ms)) runs
            ≡ (cond (k == 0) 1 0 + count_by (is_at 0) runs) * f m + sum_by (worth ms) (lowered r.0 k (lower runs))
        by zero rest = (
            let all : (1 + count_by (is_at 0) runs) * f m ≡ 1 * f m + count_by (is_at 0) runs * f m = add-mul 1 (count_by (is_at 0) runs) (f m) in
            omega (arith, rest, all))
        by (suc k) rest = (
            let one = sum_by-cons (worth ms) (r.0, k) (lower runs) in
            let none = no_suc k in
            let same : (cond (suc k == 0) 1 0 + count_by (is_at 0) runs) * f m ≡ count_by (is_at 0) runs * f m =
            ap (λ (n : ℕ). (n + count_by (is_at 0) runs) * f m) none ∙ ap (λ (n : ℕ). n * f m) (omega arith) in
            omega (arith, rest, one, same))

    worth_none : f d ≡ 0 → (runs : List (R × ℕ)) → sum_by (worth []) runs ≡ 0
    worth_none none [] = refl
    worth_none none (r ∷ runs) = (let z = worth_none none runs in let one = sum_by-cons (worth []) r runs in omega (arith, z, one, none))

    -- where at each place stands how many have it, what they come to is what the places come to
    pub weigh_runs : (ns : List ℕ) (ms : List X) → f d ≡ 0 → length ns ≡ length ms → (runs : List (R × ℕ))
        → ((j : ℕ) → j < length ns → IsAsMany (get_or ns j 0) (count_by (is_at j) runs)) → IsAsMany (weigh ns ms f) (sum_by (worth ms) runs)
    weigh_runs [] [] none long runs many = ap (λ (n : ℕ). min n most) (sym (worth_none none runs))
    weigh_runs [] (m ∷ ms) none long runs many = absurd (omega (arith, long))
    weigh_runs (n ∷ ns) [] none long runs many = absurd (omega (arith, long))
    weigh_runs (n ∷ ns) (m ∷ ms) none long runs many =
        let rest = weigh_runs ns ms none (omega (arith, long)) (lower runs)
        (λ j lt. many (suc j) (omega (arith, lt)) ∙ ap (λ (k : ℕ). min k most) (sym (count_lower j runs))) in
        let one = times_as_many n (count_by (is_at 0) runs) (f m) (many 0 (omega arith)) in
        let all : IsAsMany (n * f m + weigh ns ms f) (count_by (is_at 0) runs * f m + sum_by (worth ms) (lower runs)) =
        omega (arith, rest, one) in
        all ∙ ap (λ (k : ℕ). min k most) (sym (worth_lower m ms runs))

-- how many go on to each place
pub count_next : {L : Type 0} (moves : List (List (L × ℕ))) (j : ℕ) (runs : List (List L × ℕ)) → count_by (is_at j) (next_runs moves runs)
    ≡ sum_by (worth (λ (ms : List (L × ℕ)). count_by (is_at j) ms) [] moves) runs
count_next moves j [] = refl
count_next {L} moves j (r ∷ runs) =
    sum_by-append (λ (x : List L × ℕ). cond (is_at j x) 1 0) (longer_runs moves r) (next_runs moves runs)
    ∙ ((λ i. longer_count (get_or moves r.1 []) i + count_next moves j runs i)
    ∙ sym (sum_by-cons (worth (λ (ms : List (L × ℕ)). count_by (is_at j) ms) [] moves) r runs))
  where
    longer_count : (ms : List (L × ℕ)) → count_by (is_at j) (map (longer r.0) ms) ≡ count_by (is_at j) ms
    longer_count [] = refl
    longer_count (m ∷ ms) =
        count_cons j (longer r.0 m) (map (longer r.0) ms) ∙ (ap (λ (n : ℕ). cond (m.1 == j) 1 0 + n) (longer_count ms) ∙ sym (count_cons j m ms))

-- and how many end at each
pub count_ended : {L : Type 0} (seats : List (List ℕ)) (j : ℕ) (runs : List (List L × ℕ)) → count_by (is_at j) (ended_runs seats runs)
    ≡ sum_by (worth (λ (js : List ℕ). count_by (λ k. k == j) js) [] seats) runs
count_ended seats j [] = refl
count_ended {L} seats j (r ∷ runs) =
    sum_by-append (λ (x : List L × ℕ). cond (is_at j x) 1 0) (seated seats r) (ended_runs seats runs)
    ∙ ((λ i. seat_count (get_or seats r.1 []) i + count_ended seats j runs i)
    ∙ sym (sum_by-cons (worth (λ (js : List ℕ). count_by (λ k. k == j) js) [] seats) r runs))
  where
    seat_count : (js : List ℕ) → count_by (is_at j) (map (λ (k : ℕ). (r.0, k)) js) ≡ count_by (λ k. k == j) js
    seat_count [] = refl
    seat_count (k ∷ js) =
        count_cons j (r.0, k) (map (λ (i : ℕ). (r.0, i)) js)
        ∙ (ap (λ (n : ℕ). cond (k == j) 1 0 + n) (seat_count js) ∙ sym (sum_by-cons (λ (i : ℕ). cond (i == j) 1 0) k js))
