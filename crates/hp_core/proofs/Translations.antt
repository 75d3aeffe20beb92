-- The translations that a picture copies are those of the machine, each as often.
use Rattle.std.proofs.Common.{◌≡◌, ◌≢◌, ℕ, zero, suc, ◌+◌, ◌<◌, ◌≤◌, length, get_or, refl, sym, ◌∙◌, ap, arith, inl, inr}
use Rattle.std.specs.Prelude.{Bool, true, false, cond, ◌&&◌, ◌==◌, Option, Some, None, T, List, All, count_by}
use Rattle.std.specs.Option.{option_map}
use Rattle.std.specs.FinMap as finite
use Rattle.std.specs.Ordering.{nat_cmp}
use Rattle.std.proofs.Math.Bool.{and-false}
use Rattle.std.proofs.lemmas.Bool.{cases_lt}
use Rattle.std.proofs.lemmas.Bool.Decides.{nat_tests}
use Rattle.std.proofs.lemmas.List.Sums.{sum_by-append}
use Rattle.hp_base.specs.Indices.{count_below}
use Rattle.hp_base.specs.Mappings.{find, is_there}
use Rattle.hp_base.specs.declared.limits.TheConstants.{VPNS}
use Rattle.hp_base.specs.declared.mapping.Mapping.{Mapping}
use Rattle.hp_base.proofs.Counting.{count_below-ext, count_below_none}
use Rattle.hp_base.proofs.Puts.{same_or_other}
use Rattle.hp_base.proofs.Sums.{passes, count_by-filter_map, count_by_none}
use Rattle.hp_core.proofs.Order.{find_at}
use Rattle.hp_table.specs.Table.{Table}
use Rattle.hp_table.proofs.Counts.{count_by-find}
use Rattle.hp_table.proofs.Mapped.{found_in_space}
use Rattle.hp_table.proofs.PageTable.{is_sorted-Rises}
use Rattle.hp_laws.proofs.Runs.{always}
use Rattle.hp_parts.specs.View.{table_of, mappings_by_task, entries_of}
use Rattle.hp_core.specs.State.{CoreState, as_state}
use Rattle.hp_core.specs.Sound.{IsSound}
use Rattle.hp_core.specs.Copies.{translation, translations, all_translations}
use Rattle.hp_core.specs.Pictures.{is_that, is_entry, translates}
use Rattle.hp_core.proofs.Headlines.{reached_of}

-- how often an entry of that task, index and frame is told
abbrev times : (t f i x : ℕ) → List (ℕ × ℕ × ℕ × ℕ) → ℕ
times t f i x told = count_by (is_entry t f i x) told

-- an entry of a table is told as one of its task, of its page's place
told_as : (t f i x : ℕ) (mappings : List Mapping) (v y : ℕ)
    → passes (is_entry t f i x) (translation t mappings (v, y)) ≡ (is_there (find mappings v) f i && (y == x))
told_as t f i x mappings v y = by_place (find mappings v)
  where
    by_place : (o : Option (ℕ × ℕ))
        → passes (is_entry t f i x) (option_map (λ place. (t, place.0, place.1, y)) o) ≡ (is_there o f i && (y == x))
    by_place None = refl
    by_place (Some place) = grind (arith, nat_tests)

-- and never as one of another task
not_told_as : (t u f i x : ℕ) (mappings : List Mapping) → u ≢ t → (e : ℕ × ℕ) → passes (is_entry t f i x) (translation u mappings e) ≡ false
not_told_as t u f i x mappings other e = by_place (find mappings e.0)
  where
    by_place : (o : Option (ℕ × ℕ)) → passes (is_entry t f i x) (option_map (λ place. (u, place.0, place.1, e.1)) o) ≡ false
    by_place None = refl
    by_place (Some place) = grind (arith, nat_tests, other)

-- a test that is said to hold passes
to_test : (b : Bool) → T b → b ≡ true
to_test true is = refl
to_test false is = absurd is

-- the pages of a table's entries rise
in_order : (table : Table) → finite.is_sorted nat_cmp (finite.entries table.entries) ≡ true
in_order table = to_test _ (finite.entries_sorted table.entries)

-- each entry of a table is translated, and so lies in the space
within_space : (s : CoreState) (t : ℕ) → IsSound s → All (λ e. e.0 < VPNS) (finite.entries (table_of s.parts.spaces t).entries)
unfolding mappings_by_task entries_of
within_space s t h k d within =
    let table : Table = table_of s.parts.spaces t in
    let e : ℕ × ℕ = get_or (finite.entries table.entries) k d in
    let found = finite.get-entries table.entries e.0 ∙ find_at (finite.entries table.entries) k d (in_order table) within in
    let inv = (always (as_state s) (reached_of s h)).inv in
    let place = inv.entries.agree t e.0 e.1 found in
    found_in_space VPNS 0 ((as_state s).mappings t) e.0 place.0 (inv.spread t) place.1

-- of the entries of one task's table
times_own : (s : CoreState) (t f i x : ℕ) → IsSound s
    → times t f i x (translations t (table_of s.parts.spaces t)) ≡ count_below (translates (as_state s) t f i x) VPNS
unfolding translations mappings_by_task entries_of
times_own s t f i x h =
    let es : List (ℕ × ℕ) = finite.entries table.entries in
    let given = count_by-filter_map (is_entry t f i x) (translation t table.mappings) es in
    let below = count_by-find told VPNS 0 es (is_sorted-Rises es (in_order table)) (within_space s t h) in
    let same = count_below-ext (λ v. passes (told v) (finite.find nat_cmp v es)) (translates (as_state s) t f i x) VPNS
    (λ v low. ap (λ (o : Option ℕ). passes (told v) o) (sym (finite.get-entries table.entries v))
    ∙ by_frame v (finite.get table.entries v)) in
    given ∙ (below ∙ same)
  where
    table : Table
    table = table_of s.parts.spaces t

    told : ℕ → ℕ → Bool
    told v y = passes (is_entry t f i x) (translation t table.mappings (v, y))

    by_frame : (v : ℕ) (o : Option ℕ) → passes (told v) o ≡ (is_there (find table.mappings v) f i && is_that x o)
    by_frame v None = sym (and-false (is_there (find table.mappings v) f i))
    by_frame v (Some y) = told_as t f i x table.mappings v y

-- of those of another's
times_other : (t u f i x : ℕ) (table : Table) → u ≢ t → times t f i x (translations u table) ≡ 0
unfolding translations
times_other t u f i x table other =
    let es : List (ℕ × ℕ) = finite.entries table.entries in
    let given = count_by-filter_map (is_entry t f i x) (translation u table.mappings) es in
    given ∙ count_by_none (λ e. passes (is_entry t f i x) (translation u table.mappings e)) es (not_told_as t u f i x table.mappings other)

-- one task more
times_more : (spaces : List Table) (n t f i x : ℕ)
    → times t f i x (all_translations spaces (suc n))
    ≡ times t f i x (all_translations spaces n) + times t f i x (translations (suc n) (table_of spaces (suc n)))
unfolding all_translations
times_more spaces n t f i x =
    sum_by-append (λ e. cond (is_entry t f i x e) 1 0) (all_translations spaces n) (translations (suc n) (table_of spaces (suc n)))

-- of the first tasks' none, where the task isn't among them
times_none : (spaces : List Table) (n t f i x : ℕ) → (1 ≤ t → t ≤ n → ⊥) → times t f i x (all_translations spaces n) ≡ 0
unfolding all_translations
times_none spaces zero t f i x out = refl
times_none spaces (suc n) t f i x out =
    let before = times_none spaces n t f i x (λ low high. out low (omega (arith, high))) in
    let last = times_other t (suc n) f i x (table_of spaces (suc n)) (λ e. out (omega (arith, e)) (omega (arith, e))) in
    omega (arith, times_more spaces n t f i x, before, last)

-- and those of its own, where it is
times_upto : (spaces : List Table) (n t f i x : ℕ) → 1 ≤ t → t ≤ n
    → times t f i x (all_translations spaces n) ≡ times t f i x (translations t (table_of spaces t))
times_upto spaces zero t f i x low high = absurd (omega arith)
times_upto spaces (suc n) t f i x low high = elim (same_or_other t (suc n)) [
  | inl e ↦ (let before = times_none spaces n t f i x (λ low high. omega arith) in
      let own : ℕ → ℕ = λ u. times t f i x (translations u (table_of spaces u)) in
      let last : own (suc n) ≡ own t = ap own (sym e) in
      omega (arith, times_more spaces n t f i x, before, last))
  | inr d ↦ (let before = times_upto spaces n t f i x low (omega arith) in
      let last = times_other t (suc n) f i x (table_of spaces (suc n)) (λ e. d (sym e)) in
      omega (arith, times_more spaces n t f i x, before, last))
]

-- a task that isn't there translates nothing
none_there : (s : CoreState) (t f i x : ℕ) → IsSound s → (1 ≤ t → t ≤ length s.parts.spaces → ⊥)
    → count_below (translates (as_state s) t f i x) VPNS ≡ 0
none_there s t f i x h out =
    count_below_none (translates (as_state s) t f i x) VPNS (λ v low. by_frame v ((as_state s).entries t v) refl)
  where
    by_frame : (v : ℕ) (o : Option ℕ) → (as_state s).entries t v ≡ o
        → (is_there (find ((as_state s).mappings t) v) f i && is_that x o) ≡ false
    by_frame v None is = and-false (is_there (find ((as_state s).mappings t) v) f i)
    by_frame v (Some y) is =
        (let there = (always (as_state s) (reached_of s h)).inv.entries.owners t v y is in absurd (out there.0 there.1))

-- all copies: an entry is told as often as virtual pages are translated so
pub all_counted : (s : CoreState) (t f i x : ℕ) → IsSound s
    → times t f i x (all_translations s.parts.spaces (length s.parts.spaces)) ≡ count_below (translates (as_state s) t f i x) VPNS
all_counted s t f i x h = elim (cases_lt 0 t) [
  | inl low ↦ (elim (cases_lt t (length s.parts.spaces + 1)) [
    | inl high ↦ times_upto s.parts.spaces (length s.parts.spaces) t f i x (omega arith) (omega arith) ∙ times_own s t f i x h
    | inr past ↦ neither (λ a b. omega arith)
  ])
  | inr none ↦ neither (λ a b. omega arith)
]
  where
    neither : (1 ≤ t → t ≤ length s.parts.spaces → ⊥)
        → times t f i x (all_translations s.parts.spaces (length s.parts.spaces)) ≡ count_below (translates (as_state s) t f i x) VPNS
    neither out = times_none s.parts.spaces (length s.parts.spaces) t f i x out ∙ sym (none_there s t f i x h out)
