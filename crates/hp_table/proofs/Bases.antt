-- The mapping that begins at a page: its place, what it has, and the list without it.
use Rattle.std.proofs.Common.{◌≡◌, ℕ, zero, suc, ◌+◌, ◌<◌, ◌≤◌, Bool, true, false, cond, not, ◌==◌, List, [], ◌∷◌, Option, Some}
use Rattle.std.proofs.Common.{None, length, get_or, refl, sym, ap, ◌∙◌, arith}
use Rattle.std.proofs.Math.Path.{fun_ext}
use Rattle.std.specs.Prelude.{IsTrue, nat_le, nat_lt, if◌then◌else◌}
use Rattle.std.specs.List.{position, position_or_len, prefix_len, remove}
use Rattle.std.proofs.lemmas.Bool.{leb-false, ltb-true, ltb-false, lt-ltb, le-ltb}
use Rattle.std.proofs.lemmas.List.Sums.{prefix_len-le-length}
use Rattle.std.proofs.lemmas.Bool.Decides.{nat_tests}
use Rattle.hp_base.specs.Indices.{is_within}
use Rattle.hp_base.specs.declared.mapping.Mapping.{Mapping}
use Rattle.hp_base.specs.Mappings.{covers, in_mapping, without, without_mapping, IsSpread}
use Rattle.hp_table.specs.Table.{cleared}
use Rattle.hp_table.proofs.Mapped.{ends_in_space}
use Rattle.hp_table.proofs.Spread.{begins, past_first}

-- whether a mapping begins at a page
abbrev pub begins_at : ℕ → Mapping → Bool
begins_at v m = m.base == v

differs : (a b : ℕ) → a < b → (a == b) ≡ false
differs a b below = grind (arith, nat_tests)

differs_above : (a b : ℕ) → b < a → (a == b) ≡ false
differs_above a b above = grind (arith, nat_tests)

-- none begins at a page below them all
none_below : (space low : ℕ) (ms : List Mapping) (v : ℕ) → IsSpread space low ms → v < low → position_or_len (begins_at v) ms ≡ length ms
none_below space low [] v spread under = refl
none_below space low (m ∷ ms) v spread under =
    let rest = none_below space (m.base + m.len) ms v spread.2 (omega (arith, spread.0)) in
    rw (differs_above m.base v (omega (arith, spread.0))) (omega arith)

-- where none begins at or below a page, none begins at it
pub no_place : (space low : ℕ) (ms : List Mapping) (v : ℕ) → IsSpread space low ms → prefix_len (begins v) ms ≡ 0
    → position_or_len (begins_at v) ms ≡ length ms
no_place space low [] v spread = λ none. refl
no_place space low (m ∷ ms) v spread =
    elim (nat_le m.base v) as
    (λ b. nat_le m.base v ≡ b → cond b (1 + prefix_len (begins v) ms) 0 ≡ 0
    → position_or_len (begins_at v) (m ∷ ms) ≡ suc (length ms)) [
      | true ↦ λ e none. absurd (omega arith)
      | false ↦ λ e none.
          let above = leb-false m.base v e in
          let rest = none_below space (m.base + m.len) ms v spread.2 (omega arith) in
          rw (differs_above m.base v above) (omega arith)
    ] refl

-- the last that begins at or below a page begins at it, or none does
pub last_place : (space low : ℕ) (ms : List Mapping) (v k : ℕ) (d : Mapping) → IsSpread space low ms
    → prefix_len (begins v) ms ≡ suc k → position_or_len (begins_at v) ms ≡ cond ((get_or ms k d).base == v) k (length ms)
last_place space low [] v k d spread begun = absurd (omega arith)
last_place space low (m ∷ ms) v zero d spread begun =
    let none : prefix_len (begins v) ms ≡ 0 = grind (arith, nat_tests, begun) in
    at_first (m.base == v) (no_place space (m.base + m.len) ms v spread.2 none)
  where
    at_first : (b : Bool) → position_or_len (begins_at v) ms ≡ length ms
        → cond (not b) (1 + position_or_len (begins_at v) ms) 0 ≡ cond b 0 (suc (length ms))
    at_first true rest = refl
    at_first false rest = omega arith
last_place space low (m ∷ ms) v (suc j) d spread begun =
    let rest : prefix_len (begins v) ms ≡ suc j = grind (arith, nat_tests, begun) in
    let past = past_first space m ms v j spread.2 rest in
    rw (differs m.base v (omega (arith, past, spread.1)))
    (later ((get_or ms j d).base == v) (last_place space (m.base + m.len) ms v j d spread.2 rest))
  where
    later : (b : Bool) → position_or_len (begins_at v) ms ≡ cond b j (length ms)
        → 1 + position_or_len (begins_at v) ms ≡ cond b (suc j) (suc (length ms))
    later true same = omega arith
    later false same = omega arith

-- from its place to whether there is one
pub position_none : {A : Type 0} (p : A → Bool) (xs : List A) → position_or_len p xs ≡ length xs → position p xs ≡ None
position_none p xs none = rw none (rw (le-ltb (length xs) (length xs) (omega arith)) refl)

position_some : {A : Type 0} (p : A → Bool) (xs : List A) (k : ℕ) → k < length xs → position_or_len p xs ≡ k → position p xs ≡ Some k
position_some p xs k within there = rw there (rw (lt-ltb k (length xs) within) refl)

pub position_there : {A : Type 0} (p : A → Bool) (xs : List A) (k : ℕ) (b : Bool) → k < length xs
    → position_or_len p xs ≡ cond b k (length xs) → position p xs ≡ cond b (Some k) None
position_there p xs k true within there = position_some p xs k within there
position_there p xs k false within none = position_none p xs none

place_found : {A : Type 0} (p : A → Bool) (xs : List A) (k : ℕ) → Some k ≡ position p xs → (position_or_len p xs ≡ k) × (k < length xs)
place_found p xs k =
    elim (nat_lt (position_or_len p xs) (length xs)) as
    (λ b. nat_lt (position_or_len p xs) (length xs) ≡ b → Some k ≡ cond b (Some (position_or_len p xs)) None
    → (position_or_len p xs ≡ k) × (k < length xs)) [
      | true ↦ λ e found.
          let within = ltb-true (position_or_len p xs) (length xs) e in
          let same : position_or_len p xs ≡ k = cc in
          (same, omega arith)
      | false ↦ λ e found. let d : ◌≡◌ {A = Option ℕ} (Some k) None = found in absurd (cc)
    ] refl

place_absent : {A : Type 0} (p : A → Bool) (xs : List A) → None ≡ position p xs → position_or_len p xs ≡ length xs
place_absent p xs =
    elim (nat_lt (position_or_len p xs) (length xs)) as
    (λ b. nat_lt (position_or_len p xs) (length xs) ≡ b → None ≡ cond b (Some (position_or_len p xs)) None
    → position_or_len p xs ≡ length xs) [
      | true ↦ λ e absent. let d : ◌≡◌ {A = Option ℕ} None (Some (position_or_len p xs)) = absent in absurd (cc)
      | false ↦ λ e absent.
          let past = ltb-false (position_or_len p xs) (length xs) e in
          let bound = prefix_len-le-length (λ x. not (p x)) xs in
          omega arith
    ] refl

-- the mapping at that place is the one that begins there
base_at : (ms : List Mapping) (base k : ℕ) (d : Mapping) → position_or_len (begins_at base) ms ≡ k → k < length ms
    → (get_or ms k d).base ≡ base
base_at [] base k d place within = absurd (omega arith)
base_at (m ∷ ms) base k d place within = here (λ j place within. base_at ms base j d place within) (m.base == base) refl k place within
  where
    same : (m.base == base) ≡ true → m.base ≡ base
    same e = grind (arith, nat_tests)

    here : ((j : ℕ) → position_or_len (begins_at base) ms ≡ j → j < length ms → (get_or ms j d).base ≡ base) → (b : Bool)
        → (m.base == base) ≡ b → (k : ℕ) → cond (not b) (1 + position_or_len (begins_at base) ms) 0 ≡ k → k < length (m ∷ ms)
        → (get_or (m ∷ ms) k d).base ≡ base
    here rest true e zero place within = same e
    here rest true e (suc k) place within = absurd (omega arith)
    here rest false e zero place within = absurd (omega arith)
    here rest false e (suc k) place within = rest k (omega arith) (omega arith)

in_mapping-at : (ms : List Mapping) (base k : ℕ) (d : Mapping) (v : ℕ) → position_or_len (begins_at base) ms ≡ k → k < length ms
    → in_mapping ms base v ≡ covers (get_or ms k d) v
in_mapping-at [] base k d v place within = absurd (omega arith)
in_mapping-at (m ∷ ms) base k d v place within =
    here (λ j place within. in_mapping-at ms base j d v place within) (m.base == base) k place within
  where
    here : ((j : ℕ) → position_or_len (begins_at base) ms ≡ j → j < length ms → in_mapping ms base v ≡ covers (get_or ms j d) v)
        → (b : Bool) → (k : ℕ) → cond (not b) (1 + position_or_len (begins_at base) ms) 0 ≡ k → k < length (m ∷ ms)
        → (if b then covers m v else in_mapping ms base v) ≡ covers (get_or (m ∷ ms) k d) v
    here rest true zero place within = refl
    here rest true (suc k) place within = absurd (omega arith)
    here rest false zero place within = absurd (omega arith)
    here rest false (suc k) place within = rest k (omega arith) (omega arith)

in_mapping-none : (ms : List Mapping) (base v : ℕ) → position_or_len (begins_at base) ms ≡ length ms → in_mapping ms base v ≡ false
in_mapping-none [] base v none = refl
in_mapping-none (m ∷ ms) base v none = here (λ none. in_mapping-none ms base v none) (m.base == base) none
  where
    here : (position_or_len (begins_at base) ms ≡ length ms → in_mapping ms base v ≡ false) → (b : Bool)
        → cond (not b) (1 + position_or_len (begins_at base) ms) 0 ≡ suc (length ms)
        → (if b then covers m v else in_mapping ms base v) ≡ false
    here rest true none = absurd (omega arith)
    here rest false none = rest (omega arith)

without-at : (ms : List Mapping) (base k : ℕ) → position_or_len (begins_at base) ms ≡ k → k < length ms → without ms base ≡ remove ms k
without-at [] base k place within = absurd (omega arith)
without-at (m ∷ ms) base k place within = here (λ j place within. without-at ms base j place within) (m.base == base) k place within
  where
    here : ((j : ℕ) → position_or_len (begins_at base) ms ≡ j → j < length ms → without ms base ≡ remove ms j) → (b : Bool)
        → (k : ℕ) → cond (not b) (1 + position_or_len (begins_at base) ms) 0 ≡ k → k < length (m ∷ ms)
        → (if b then ms else m ∷ without ms base) ≡ remove (m ∷ ms) k
    here rest true zero place within = refl
    here rest true (suc k) place within = absurd (omega arith)
    here rest false zero place within = absurd (omega arith)
    here rest false (suc k) place within = ap (λ xs. m ∷ xs) (rest k (omega arith) (omega arith))

without-none : (ms : List Mapping) (base : ℕ) → position_or_len (begins_at base) ms ≡ length ms → without ms base ≡ ms
without-none [] base none = refl
without-none (m ∷ ms) base none = here (λ none. without-none ms base none) (m.base == base) none
  where
    here : (position_or_len (begins_at base) ms ≡ length ms → without ms base ≡ ms) → (b : Bool)
        → cond (not b) (1 + position_or_len (begins_at base) ms) 0 ≡ suc (length ms)
        → (if b then ms else m ∷ without ms base) ≡ m ∷ ms
    here rest true none = absurd (omega arith)
    here rest false none = ap (λ xs. m ∷ xs) (rest (omega arith))

-- the entries of that mapping are those of its pages
pub within_mapping : (ms : List Mapping) (base k : ℕ) (m : Mapping) (entries : ℕ → Option ℕ) → Some k ≡ position (begins_at base) ms
    → m ≡ get_or ms k m → (v : ℕ) → cleared (is_within base (base + m.len)) entries v ≡ without_mapping ms entries base v
unfolding without_mapping
within_mapping ms base k m entries found is v =
    let place = place_found (begins_at base) ms k found in
    let same = ap (λ (b : ℕ). is_within b (b + m.len) v)
    (sym (ap (λ (x : Mapping). x.base) is ∙ base_at ms base k m place.0 place.1))
    ∙ (ap (λ (x : Mapping). covers x v) is ∙ sym (in_mapping-at ms base k m v place.0 place.1)) in
    ap (λ (b : Bool). if b then None else entries v) same

pub without_mapping-none : (ms : List Mapping) (base : ℕ) (f : ℕ → Option ℕ) → None ≡ position (begins_at base) ms
    → f ≡ without_mapping ms f base
unfolding without_mapping
without_mapping-none ms base f absent =
    fun_ext (λ v. ap (λ (b : Bool). if b then None else f v)
    (sym (in_mapping-none ms base v (place_absent (begins_at base) ms absent))))

pub without_found : (ms : List Mapping) (base k : ℕ) → Some k ≡ position (begins_at base) ms → without ms base ≡ remove ms k
without_found ms base k found =
    let place = place_found (begins_at base) ms k found in
    without-at ms base k place.0 place.1

pub without_absent : (ms : List Mapping) (base : ℕ) → None ≡ position (begins_at base) ms → without ms base ≡ ms
without_absent ms base absent = without-none ms base (place_absent (begins_at base) ms absent)

pub ends_in_space_at : (space : ℕ) (ms : List Mapping) (base k : ℕ) (m : Mapping) → IsSpread space 0 ms
    → Some k ≡ position (begins_at base) ms → m ≡ get_or ms k m → base + m.len ≤ space
ends_in_space_at space ms base k m spread found is =
    let place = place_found (begins_at base) ms k found in
    let ends = rw (← is) at (ends_in_space space 0 ms k m spread place.1) in
    let begins = rw (← is) at (base_at ms base k m place.0 place.1) in
    omega arith

-- a mapping whose entries were cleared has none
pub without_mapping-bare : (ms : List Mapping) (f : ℕ → Option ℕ) (base v : ℕ) → IsTrue (in_mapping ms base v)
    → without_mapping ms f base v ≡ None
unfolding without_mapping
without_mapping-bare ms f base v lies = ap (λ (b : Bool). if b then None else f v) lies
