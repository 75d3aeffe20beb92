-- A table of endings is one of all schedules.
use Rattle.std.proofs.Common.{◌≡◌, ◌∙◌, ℕ, ◌+◌, ◌<◌, ◌≤◌, refl, ap, sym, subst, inl, inr, arith, List, [], ◌∷◌, ◌++◌, length, get_or}
use Rattle.std.specs.Prelude.{◌==◌, Bool, true, false, cond, Contains, Option, Some, map, min}
use Rattle.std.specs.List.{count_by}
use Rattle.std.proofs.lemmas.Bool.{cases_lt, eqb-true}
use Rattle.std.proofs.lemmas.Bool.Decides.{nat_tests}
use Rattle.std.proofs.lemmas.List.{get_or_append_left, get_or_push}
use Rattle.std.proofs.lemmas.List.Sums.{sum_by-cons}
use Rattle.std.proofs.lemmas.List.Elements.{Contains-get_or}
use Rattle.hp_watch.specs.Moments.{Moment}
use Rattle.hp_layers.specs.Ended.{AreRight, AreShortest, IsShortestEnding}
use Rattle.hp_layers.specs.Named.{AreAllTold, AreApart, AreTold, LeadsBy}
use Rattle.hp_layers.specs.Weighed.{most}
use Rattle.hp_layers.specs.declared.counting.RunCounts.{RunCounts}
use Rattle.hp_layers.specs.declared.ending.EndingTable.{EndingTable}
use Rattle.hp_layers.specs.declared.ending.EndingTable.TheVariants.{Whole}
use Rattle.hp_layers.proofs.Naming.{first_or, here, is_at, names_of, there, to_map}
use Rattle.hp_every.specs.declared.turn.Turn.{Turn}
use Rattle.hp_every.specs.Endings.{EndState, Ended, EndsSo, GoesBy, GoesOnBy, HasEnding, IsEndState, ended_at, ended_key}
use Rattle.hp_every.specs.Schedules.{Ends, plan_for}
use Rattle.hp_every.specs.Search.{Question}
use Rattle.hp_every.specs.Turns.{turns_of}
use Rattle.hp_every.proofs.Answers.{turn_count}
use Rattle.hp_every.proofs.Endings.{IsKeptSo, ending_of_words, ends_by_turns, ends_so_at, ends_there_too, kept_so, leads_so, one_ended, reached_by, reached_so}
use Rattle.hp_search.specs.Endings.{AreAllRows, AreRowsOf, AreStates, IsNumberOf, IsRow, IsRowAt, IsShortestSo, ended_of}
use Rattle.hp_search.specs.declared.endings.EndingRow.{EndingRow}

-- ---- the runs that have one place

-- their names
names_at : (j : ℕ) → List (List Turn × ℕ) → List (List Turn)
names_at j [] = []
names_at j (r ∷ runs) = cond (r.1 == j) (r.0 ∷ names_at j runs) (names_at j runs)

count_names : (j : ℕ) (runs : List (List Turn × ℕ)) → length (names_at j runs) ≡ count_by (is_at j) runs
unfolding names_at
count_names j [] = refl
count_names j (r ∷ runs) = by (r.1 == j) (count_names j runs) ∙ sym (sum_by-cons (λ (x : List Turn × ℕ). cond (is_at j x) 1 0) r runs)
  where
    by : (b : Bool) → length (names_at j runs) ≡ count_by (is_at j) runs
        → length (cond b (r.0 ∷ names_at j runs) (names_at j runs)) ≡ cond b 1 0 + count_by (is_at j) runs
    by true rest = omega (arith, rest)
    by false rest = omega (arith, rest)

name_from : (j : ℕ) (runs : List (List Turn × ℕ)) (names : List Turn) → Contains (names_at j runs) names → Contains runs (names, j)
unfolding names_at
name_from j [] names c = absurd (omega (arith, c.1))
name_from j (r ∷ runs) names c = by (r.1 == j) refl c (name_from j runs names)
  where
    by : (b : Bool) → (r.1 == j) ≡ b → Contains (cond b (r.0 ∷ names_at j runs) (names_at j runs)) names
        → (Contains (names_at j runs) names → Contains runs (names, j)) → Contains (r ∷ runs) (names, j)
    by true e d rest = elim (first_or r.0 (names_at j runs) names d) [
      | inl same ↦ subst (λ (x : List Turn × ℕ). Contains (r ∷ runs) x) (λ i. (same i, eqb-true r.1 j e i)) (here r runs)
      | inr f ↦ there r runs (names, j) (rest f)
    ]
    by false e d rest = there r runs (names, j) (rest d)

itself : (j : ℕ) (l r : List (List Turn)) → cond (j == j) l r ≡ l
itself j l r = grind (arith, nat_tests)

name_to : (j : ℕ) (runs : List (List Turn × ℕ)) (names : List Turn) → Contains runs (names, j) → Contains (names_at j runs) names
unfolding names_at
name_to j [] names c = absurd (omega (arith, c.1))
name_to j (r ∷ runs) names c = elim (first_or r runs (names, j) c) [
  | inl same ↦ (
      let at : r.1 ≡ j = ap (λ (x : List Turn × ℕ). x.1) same in
      let is : r.0 ≡ names = ap names_of same in
      subst (λ (l : List (List Turn)). Contains l names)
      (sym (ap (λ (k : ℕ). cond (k == j) (r.0 ∷ names_at j runs) (names_at j runs)) at ∙ itself j (r.0 ∷ names_at j runs) (names_at j runs)))
      (subst (λ (x : List Turn). Contains (r.0 ∷ names_at j runs) x) is (here r.0 (names_at j runs))))
  | inr d ↦ by (r.1 == j) (name_to j runs names d)
]
  where
    by : (b : Bool) → Contains (names_at j runs) names → Contains (cond b (r.0 ∷ names_at j runs) (names_at j runs)) names
    by true d = there r.0 (names_at j runs) names d
    by false d = d

apart_names : (j : ℕ) (runs : List (List Turn × ℕ)) → AreApart (map names_of runs) → AreApart (names_at j runs)
unfolding names_at AreApart
apart_names j [] a = a
apart_names j (r ∷ runs) a = by (r.1 == j) (apart_names j runs a.1)
  where
    by : (b : Bool) → AreApart (names_at j runs) → AreApart (cond b (r.0 ∷ names_at j runs) (names_at j runs))
    by true rest = (λ c. a.0 (to_map names_of runs (r.0, j) (name_from j runs r.0 c)), rest)
    by false rest = rest

-- ---- rows

module _ (a : Question) (none : a.conditions ≡ []) (first : EndState) (is : IsEndState a first) (empty : first.path.turns ≡ [])
    (counts : RunCounts EndState) (turns : ℕ)
    (told : AreTold (λ u next t. GoesBy a u next t) (λ (s : EndState). s.ending) first turns counts)
    (over : (n : ℕ) (names : List Turn) (t : EndState) → turns ≤ n → LeadsBy (λ u next t. GoesBy a u next t) first n names t → ⊥)
    (shortest : AreShortest (GoesOnBy a) (λ (s : EndState). s.ending) first counts.states.items)
    (table : List EndingRow) (of : AreRowsOf a counts table) where
  abbrev state_at : ℕ → EndState
  state_at k = get_or counts.states.items k first

  within : (k : ℕ) → k < length table → k < length counts.states.items
  within k lt = (let long = of.long in omega (arith, lt, long))

  best : (k : ℕ) → k < length table → IsShortestEnding (GoesOnBy a) (λ (s : EndState). s.ending) first (state_at k)
  unfolding AreShortest
  best k lt = shortest (state_at k) (Contains-get_or counts.states.items k first (within k lt))

  row_at : (k : ℕ) (d : EndingRow) → k < length table
      → IsRowAt a (state_at k).path.turns (get_or counts.ways.items k 0) (get_or table k d)
  row_at k d lt = of.each k first d lt

  right_at : (k : ℕ) (lt : k < length table) → IsEndState a (state_at k) × (length (state_at k).path.turns ≡ (best k lt).turns)
  right_at k lt = reached_so a first is empty (best k lt).turns (state_at k) (best k lt).reached

  -- the words of a row are those of its state
  row_words : (k : ℕ) (d : EndingRow) (lt : k < length table) → Ends (plan_for a.script) (row_at k d lt).has.last
      × ((best k lt).how ≡ ended_key (ended_of (get_or table k d)))
  row_words k d lt =
      let row = row_at k d lt in
      let h = ends_there_too a (state_at k) (right_at k lt).0 (best k lt).how (best k lt).ends row.has in
      (h.0, h.1 ∙ ap ended_key (sym row.ended))

  -- a schedule that ends so is reached
  kept : (moments : List Moment) (e : Ended) → EndsSo a moments e → IsKeptSo a first moments (Some (ended_key e))
  kept moments e h = subst (λ (x : Ended). IsKeptSo a first moments (Some (ended_key x))) (sym h.is)
      (kept_so a none first is empty h.first moments h.last h.run (Some (ended_key (ended_at moments h.last.core)))
      (ending_of_words (plan_for a.script) moments h.last h.over))

  -- and has a place among the runs
  run_at : (moments : List Moment) (e : Ended) → EndsSo a moments e
      → (place : ℕ) × Contains told.runs (turns_of moments, place) × (place < length counts.states.items)
      × ((d : EndState) → (get_or counts.states.items place d).ending ≡ Some (ended_key e))
  run_at moments e h =
      let u = kept moments e h in
      let leads = subst (λ (names : List Turn). LeadsBy (λ u next t. GoesBy a u next t) first (length moments) names u.state) u.turns
      (reached_by a first empty (length moments) u.state u.reached) in
      let few : length moments < turns = elim (cases_lt (length moments) turns) [
        | inl lt ↦ lt
        | inr ge ↦ absurd (over (length moments) (turns_of moments) u.state ge leads)
      ] in
      let at = told.all (length moments) (turns_of moments) u.state (ended_key e) few leads u.ending in
      let y = told.each (turns_of moments) at.0 at.1 in
      let other = leads_so a first is empty y.0 (turns_of moments) y.1 y.3 in
      let alike = ends_by_turns a y.1 u.state other.0 u.is (other.1 ∙ sym u.turns) in
      let same : ◌≡◌ {A = Option (List ℕ)} (Some y.4.how) (Some (ended_key e)) = sym y.4.ends ∙ (alike.endings ∙ u.ending) in
      (at.0, at.1, y.4.there, λ d. y.4.same d ∙ same)

  is_shortest : (k : ℕ) (d : EndingRow) (lt : k < length table) → IsShortestSo a (ended_of (get_or table k d)) (get_or table k d).events.items
  is_shortest k d lt =
      let row = row_at k d lt in
      let words = row_words k d lt in
      let b = best k lt in
      let long : length row.has.moments ≡ b.turns =
      sym (turn_count row.has.moments) ∙ (ap (λ (xs : List Turn). length xs) row.has.made ∙ (right_at k lt).1) in
      record {
        moments = row.has.moments;
        made = row.made;
        ends = record { first = row.has.first; last = row.has.last; run = row.has.run; over = words.0; is = row.ended };
        shortest = λ others h. (
            let u = kept others (ended_of (get_or table k d)) h in
            elim (cases_lt (length others) b.turns) [
              | inl fewer ↦ absurd (b.shortest (length others) u.state fewer u.reached (u.ending ∙ ap (λ (w : List ℕ). Some w) (sym words.1)))
              | inr many ↦ omega (arith, many, long)
            ]);
      }

  is_number : (k : ℕ) (d : EndingRow) (lt : k < length table) → IsNumberOf (HasEnding a (ended_of (get_or table k d))) (get_or table k d).schedules
  is_number k d lt =
      let e = ended_of (get_or table k d) in
      let words = row_words k d lt in
      record {
        all = names_at k told.runs;
        apart = apart_names k told.runs told.apart;
        each = λ names c. (
            let y = told.each names k (name_from k told.runs names c) in
            let other = leads_so a first is empty y.0 names y.1 y.3 in
            let h = ends_so_at a y.1 other.0 y.4.how y.4.ends in
            let p = other.0.path in
            let same : ◌≡◌ {A = Option (List ℕ)} (Some (best k lt).how) (Some y.4.how) = sym (best k lt).ends ∙ y.4.same first in
            let how : (best k lt).how ≡ y.4.how = cc in
            record {
              has = record { first = p.first; moments = p.moments; last = p.last; run = p.run; made = p.made ∙ other.1 };
              over = h.0;
              is = one_ended e (ended_at p.moments p.last.core) (sym words.1 ∙ (how ∙ h.1));
            });
        none_else = λ names h. (
            let m = h.has in
            let ends : EndsSo a m.moments e = record { first = m.first; last = m.last; run = m.run; over = h.over; is = h.is } in
            let at = run_at m.moments e ends in
            let place : at.0 ≡ k = told.rows at.0 k first (ended_key e) at.2 (within k lt) (at.3 first)
            ((best k lt).ends ∙ ap (λ (w : List ℕ). Some w) words.1) in
            name_to k told.runs names
            (subst (λ (j : ℕ). Contains told.runs (names, j)) place
            (subst (λ (ns : List Turn). Contains told.runs (ns, at.0)) m.made at.1)));
        many = ap (λ (n : ℕ). min n most) (row_at k d lt).count
            ∙ (told.many k ∙ ap (λ (n : ℕ). min n most) (sym (count_names k told.runs)));
      }

  rows_right : (k : ℕ) (d : EndingRow) → k < length table → IsRow a (get_or table k d)
  rows_right k d lt = record { shortest = is_shortest k d lt; number = is_number k d lt }

  has_row : (moments : List Moment) (e : Ended) → EndsSo a moments e
      → (k : ℕ) × (k < length table) × ((d : EndingRow) → ended_of (get_or table k d) ≡ e)
  has_row moments e h =
      let at = run_at moments e h in
      let lt : at.0 < length table = (let long = of.long in omega (arith, long, at.2)) in (
        at.0,
        lt,
        λ d. (
            let words = row_words at.0 d lt in
            let same : ◌≡◌ {A = Option (List ℕ)} (Some (best at.0 lt).how) (Some (ended_key e)) = sym (best at.0 lt).ends ∙ at.3 first in
            let how : (best at.0 lt).how ≡ ended_key e = cc in
            one_ended (ended_of (get_or table at.0 d)) e (sym words.1 ∙ how)),
      )

  one_row : (j k : ℕ) (d : EndingRow) → j < length table → k < length table
      → ended_of (get_or table j d) ≡ ended_of (get_or table k d) → j ≡ k
  one_row j k d lt le same =
      let x = row_words j d lt in
      let y = row_words k d le in
      told.rows j k first (best j lt).how (within j lt) (within k le) (best j lt).ends
      ((best k le).ends ∙ ap (λ (w : List ℕ). Some w) (y.1 ∙ (ap ended_key (sym same) ∙ sym x.1)))

  pub all_rows : AreAllRows a table
  all_rows = record { each = rows_right; all = has_row; one = one_row }

-- ---- what is told of a whole table

pub whole_told : {S L E : Type 0} (step : S → L → S → Type 0) (ending : S → Option E) (first : S) (table : EndingTable S) (counts : RunCounts S)
    → table ≡ Whole counts → AreAllTold step ending first table
    → (turns : ℕ) × AreTold step ending first turns counts
    × ((n : ℕ) (names : List L) (t : S) → turns ≤ n → LeadsBy step first n names t → ⊥)
unfolding AreAllTold
whole_told step ending first table counts is h = subst (AreAllTold step ending first) is h

pub whole_shortest : {S E : Type 0} (turn : S → S → Type 0) (ending : S → Option E) (first : S) (table : EndingTable S) (counts : RunCounts S)
    → table ≡ Whole counts → AreRight turn ending first table → AreShortest turn ending first counts.states.items
unfolding AreRight
whole_shortest {S} {E} turn ending first table counts is h = taken (subst (AreRight turn ending first) is h)
  where
    taken : AreRight turn ending first (Whole counts) → AreShortest turn ending first counts.states.items
    taken x = x.1

pub states_right : (a : Question) (first : EndState) → IsEndState a first → first.path.turns ≡ [] → (counts : RunCounts EndState) (turns : ℕ)
    → AreTold (λ u next t. GoesBy a u next t) (λ (s : EndState). s.ending) first turns counts
    → AreShortest (GoesOnBy a) (λ (s : EndState). s.ending) first counts.states.items → AreStates a counts
unfolding AreShortest
states_right a first is empty counts turns told shortest = record {
  each = λ k d lt. (
      let b = shortest (get_or counts.states.items k d) (Contains-get_or counts.states.items k d lt) in
      (reached_so a first is empty b.turns (get_or counts.states.items k d) b.reached).0);
  long = told.long;
}

-- one row more
pub rows_more : (a : Question) (states : List EndState) (ways : List ℕ) (rows new : List EndingRow) (k : ℕ) (row : EndingRow) (turns : List Turn)
    (schedules : ℕ) → new ≡ rows ++ row ∷ [] → length rows ≡ k → ((s : EndState) → turns ≡ (get_or states k s).path.turns)
    → schedules ≡ get_or ways k 0 → IsRowAt a turns schedules row
    → ((j : ℕ) (s : EndState) (d : EndingRow) → j < k → IsRowAt a (get_or states j s).path.turns (get_or ways j 0) (get_or rows j d))
    → (j : ℕ) (s : EndState) (d : EndingRow) → j < k + 1 → IsRowAt a (get_or states j s).path.turns (get_or ways j 0) (get_or new j d)
rows_more a states ways rows new k row turns schedules is long same count own before j s d lt = elim (cases_lt j k) [
  | inl less ↦ subst (λ (l : List EndingRow). IsRowAt a (get_or states j s).path.turns (get_or ways j 0) (get_or l j d)) (sym is)
      (subst (IsRowAt a (get_or states j s).path.turns (get_or ways j 0))
      (sym (get_or_append_left rows (row ∷ []) d j (omega (arith, less, long)))) (before j s d less))
  | inr more ↦ (
      let e : k ≡ j = omega (arith, more, lt) in
      subst (λ (i : ℕ). IsRowAt a (get_or states i s).path.turns (get_or ways i 0) (get_or new i d)) e
      (subst (λ (l : List EndingRow). IsRowAt a (get_or states k s).path.turns (get_or ways k 0) (get_or l k d)) (sym is)
      (subst (IsRowAt a (get_or states k s).path.turns (get_or ways k 0)) (sym (get_or_push rows row d k long))
      (subst (λ (n : ℕ). IsRowAt a (get_or states k s).path.turns n row) count
      (subst (λ (ts : List Turn). IsRowAt a ts schedules row) (same s) own)))))
]
