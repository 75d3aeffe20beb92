-- Mappings that stand in order and share no page.
use Rattle.std.proofs.Common.{◌≡◌, ◌≢◌, ℕ, zero, suc, ◌+◌, ◌-◌, ◌<◌, ◌≤◌, Bool, true, false, cond, ◌||◌, ◌==◌, List, [], ◌∷◌}
use Rattle.std.proofs.Common.{Option, Some, None, length, get_or, refl, sym, ap, ◌∙◌, true≢false, inl, inr, arith}
use Rattle.std.specs.Prelude.{nat_le, nat_lt, All, ◌↔◌, IsTrue, if◌then◌else◌}
use Rattle.std.specs.List.{prefix_len, insert}
use Rattle.std.specs.List as list
use Rattle.std.specs.List.Sorted.{IsNonDecreasingBy}
use Rattle.std.specs.Bool.{then_some}
use Rattle.std.specs.Option.{option_map}
use Rattle.std.proofs.lemmas.Bool.{leb-true, leb-false, ltb-true, ltb-false, lt-leb, lt-ltb, le-ltb}
use Rattle.std.proofs.lemmas.Bool.Decides.{nat_tests, eqb_tells}
use Rattle.hp_base.specs.declared.mapping.Mapping.{Mapping}
use Rattle.hp_base.specs.Mappings.{covers, find, base_of, is_base, fits, entered, IsSpread}

pub then_some-cond : {A : Type 0} (b : Bool) (x : A) → then_some b x ≡ cond b (Some x) None
then_some-cond true x = refl
then_some-cond false x = refl

-- whether a mapping begins at or below a page
abbrev pub begins : ℕ → Mapping → Bool
begins v m = nat_le m.base v

-- none begins below the mappings
pub begun_none : (space low : ℕ) (ms : List Mapping) (v : ℕ) → IsSpread space low ms → v < low → prefix_len (begins v) ms ≡ 0
begun_none space low [] v spread under = refl
begun_none space low (m ∷ ms) v spread under = rw (lt-leb m.base v (omega (arith, spread.0))) refl

pub holder_none : (space low : ℕ) (ms : List Mapping) (v : ℕ) → IsSpread space low ms → v < low → list.find (λ m. covers m v) ms ≡ None
holder_none space low [] v spread under = refl
holder_none space low (m ∷ ms) v spread under =
    rw (lt-leb m.base v (omega (arith, spread.0)), holder_none space (m.base + m.len) ms v spread.2 (omega (arith, spread.0))) refl

is_base_none : (space low : ℕ) (ms : List Mapping) (v : ℕ) → IsSpread space low ms → v < low → is_base ms v ≡ false
is_base_none space low [] v spread under = refl
is_base_none space low (m ∷ ms) v spread under =
    let rest = is_base_none space (m.base + m.len) ms v spread.2 (omega (arith, spread.0)) in
    let above = spread.0 in
    grind (arith, nat_tests, rest, above)

-- the bases rise
base_above : (space low : ℕ) (ms : List Mapping) (k : ℕ) (d : Mapping) → IsSpread space low ms → k < length ms → low ≤ (get_or ms k d).base
base_above space low [] k d spread within = absurd (omega arith)
base_above space low (m ∷ ms) zero d spread within = spread.0
base_above space low (m ∷ ms) (suc k) d spread within =
    omega (arith, spread.0, base_above space (m.base + m.len) ms k d spread.2 (omega arith))

rises : (space low : ℕ) (m : Mapping) (ms : List Mapping) → IsSpread space low (m ∷ ms) → IsNonDecreasingBy (λ m. m.base) ms
    → (i j : ℕ) (d : Mapping) → i ≤ j → j < length (m ∷ ms) → (get_or (m ∷ ms) i d).base ≤ (get_or (m ∷ ms) j d).base
rises space low m ms spread rest zero zero d le within = omega arith
rises space low m ms spread rest zero (suc j) d le within = omega (arith, base_above space (m.base + m.len) ms j d spread.2 (omega arith))
rises space low m ms spread rest (suc i) zero d le within = absurd (omega arith)
rises space low m ms spread rest (suc i) (suc j) d le within = rest i j d (omega arith) (omega arith)

pub bases_rise : (space low : ℕ) (ms : List Mapping) → IsSpread space low ms → IsNonDecreasingBy (λ m. m.base) ms
bases_rise space low [] spread = λ i j d le within. absurd (omega arith)
bases_rise space low (m ∷ ms) spread = rises space low m ms spread (bases_rise space (m.base + m.len) ms spread.2)

-- where none begins at or below a page, none has it
pub holder_absent : (space low : ℕ) (ms : List Mapping) (v : ℕ) → IsSpread space low ms → prefix_len (begins v) ms ≡ 0
    → list.find (λ m. covers m v) ms ≡ None
holder_absent space low [] v spread = λ none. refl
holder_absent space low (m ∷ ms) v spread =
    elim (nat_le m.base v) as
    (λ b. nat_le m.base v ≡ b → cond b (1 + prefix_len (begins v) ms) 0 ≡ 0 → list.find (λ m. covers m v) (m ∷ ms) ≡ None) [
      | true ↦ λ e none. absurd (omega arith)
      | false ↦ λ e none. let under = leb-false m.base v e in rw (e, holder_none space (m.base + m.len) ms v spread.2 (omega arith)) refl
    ] refl

covered_not : (m : Mapping) (v : ℕ) → m.base + m.len ≤ v → covers m v ≡ false
covered_not m v past = grind (arith, nat_tests)

pub past_first : (space : ℕ) (m : Mapping) (ms : List Mapping) (v j : ℕ) → IsSpread space (m.base + m.len) ms
    → prefix_len (begins v) ms ≡ suc j → m.base + m.len ≤ v
past_first space m ms v j spread begun =
    elim (nat_le (m.base + m.len) v) as (λ b. nat_le (m.base + m.len) v ≡ b → m.base + m.len ≤ v) [
      | true ↦ λ e. leb-true (m.base + m.len) v e
      | false ↦ λ e. absurd (omega (arith, begun, begun_none space (m.base + m.len) ms v spread (leb-false (m.base + m.len) v e)))
    ] refl

-- the last that begins at or below a page has it, or none does
pub holder_last : (space low : ℕ) (ms : List Mapping) (v k : ℕ) (d : Mapping) → IsSpread space low ms
    → prefix_len (begins v) ms ≡ suc k
    → list.find (λ m. covers m v) ms ≡ cond (covers (get_or ms k d) v) (Some (get_or ms k d)) None
holder_last space low [] v k d spread begun = absurd (omega arith)
holder_last space low (m ∷ ms) v zero d spread begun =
    let rest : prefix_len (begins v) ms ≡ 0 = grind (arith, nat_tests, begun) in
    rw (holder_absent space (m.base + m.len) ms v spread.2 rest) refl
holder_last space low (m ∷ ms) v (suc j) d spread begun =
    let rest : prefix_len (begins v) ms ≡ suc j = grind (arith, nat_tests, begun) in
    rw (covered_not m v (past_first space m ms v j spread.2 rest)) (holder_last space (m.base + m.len) ms v j d spread.2 rest)

-- what the mapping that has a page tells of it
pub find-holder : (ms : List Mapping) (v : ℕ)
    → find ms v ≡ option_map (λ m. (m.file, m.from + (v - m.base))) (list.find (λ m. covers m v) ms)
find-holder [] v = refl
find-holder (m ∷ ms) v =
    elim (covers m v) as
    (λ b. (if b then Some (m.file, m.from + (v - m.base)) else find ms v) ≡ option_map
    (λ m. (m.file, m.from + (v - m.base))) (cond b (Some m) (list.find (λ m. covers m v) ms))) [
      | true ↦
          refl
      | false ↦ find-holder ms v
    ]

pub base_of-holder : (ms : List Mapping) (v : ℕ) → base_of ms v ≡ option_map (λ m. m.base) (list.find (λ m. covers m v) ms)
base_of-holder [] v = refl
base_of-holder (m ∷ ms) v =
    elim (covers m v) as
    (λ b. (if b then Some m.base else base_of ms v) ≡ option_map (λ m. m.base)
    (cond b (Some m) (list.find (λ m. covers m v) ms))) [ true ↦ refl | false ↦ base_of-holder ms v ]

-- what holds of each holds of the one that has the page
pub holder_is : (P : Mapping → Type 0) (ms : List Mapping) (v : ℕ) (m : Mapping) → All P ms
    → list.find (λ m. covers m v) ms ≡ Some m → (covers m v ≡ true) × P m
holder_is P [] v m all = λ found. let z : None ≡ Some m = found in cc
holder_is P (x ∷ ms) v m all =
    elim (covers x v) as (λ b. covers x v ≡ b → cond b (Some x) (list.find (λ m. covers m v) ms) ≡ Some m → (covers m v ≡ true) × P m) [
      | true ↦ λ e found. let same : x ≡ m = cc in rw (← same) (e, all 0 x (omega arith))
      | false ↦ λ e found. holder_is P ms v m (λ k d within. all (suc k) d (omega arith)) found
    ] refl

test : (a b : ℕ) (A : Type 0) → (a ≡ b → A) → (a ≢ b → A) → A
test a b A same other = elim (eqb_tells a b) [ inl h ↦ same h.1 | inr h ↦ other h.1 ]

at_base : (m : Mapping) (v : ℕ) → 1 ≤ m.len → m.base ≡ v → covers m v ≡ true
at_base m v some same = grind (arith, nat_tests)

not_same : (a b : ℕ) → a ≢ b → (a == b) ≡ false
not_same a b other = grind (arith, nat_tests)

within_end : (m : Mapping) (v : ℕ) → covers m v ≡ true → v < m.base + m.len
within_end m v e = grind (arith, nat_tests)

-- a page is its mapping's base exactly where a mapping begins there
pub base_of-is_base : (space low : ℕ) (ms : List Mapping) (v : ℕ) → IsSpread space low ms → (base_of ms v ≡ Some v) ↔ IsTrue (is_base ms v)
base_of-is_base space low [] v spread = (λ h. cc, λ h. absurd (true≢false (sym h)))
base_of-is_base space low (m ∷ ms) v spread =
    let rest = base_of-is_base space (m.base + m.len) ms v spread.2 in
    test m.base v (((if covers m v then Some m.base else base_of ms v) ≡ Some v) ↔ IsTrue ((m.base == v) || is_base ms v))
    (λ same. rw (at_base m v spread.1 same) (λ h. grind (arith, nat_tests), λ h. ap (λ (n : ℕ). Some n) same))
    (λ other.
    let none = is_base_none space (m.base + m.len) ms v spread.2 in
    elim (covers m v) as
    (λ b. covers m v ≡ b → ((if b then Some m.base else base_of ms v) ≡ Some v) ↔ IsTrue ((m.base == v) || is_base ms v)) [
      | true ↦ λ e. (
        λ h. let same : m.base ≡ v = cc in
            absurd (other same),
        λ h. absurd (true≢false (sym h ∙ rw (not_same m.base v other, none (within_end m v e)) refl)),
      )
      | false ↦ λ e. (λ h. rw (not_same m.base v other) (rest.0 h), λ h. rest.1 (rw (not_same m.base v other) at h))
    ] refl)

-- the place of a new mapping
pub entered-insert : (ms : List Mapping) (new : Mapping) → entered ms new ≡ insert ms (prefix_len (begins new.base) ms) new
entered-insert [] new = refl
entered-insert (m ∷ ms) new =
    elim (nat_le m.base new.base) as
    (λ b. nat_le m.base new.base ≡ b
    → entered (m ∷ ms) new ≡ insert (m ∷ ms) (cond b (1 + prefix_len (begins new.base) ms) 0) new) [
      | true ↦ λ e.
          let before = leb-true m.base new.base e in
          let one : 1 + prefix_len (begins new.base) ms ≡ suc (prefix_len (begins new.base) ms) = omega arith in
          rw (le-ltb new.base m.base before, one) (ap (λ xs. m ∷ xs) (entered-insert ms new))
      | false ↦ λ e. rw (lt-ltb new.base m.base (leb-false m.base new.base e)) refl
    ] refl

All-cons : (P : Mapping → Type 0) (m : Mapping) (ms : List Mapping) → P m → All P ms → All P (m ∷ ms)
All-cons P m ms one all zero d within = one
All-cons P m ms one all (suc k) d within = all k d (omega arith)

pub All-entered : (P : Mapping → Type 0) (ms : List Mapping) (new : Mapping) → All P ms → P new → All P (entered ms new)
All-entered P [] new all one = λ k d within. let same : k ≡ 0 = omega arith in rw same one
All-entered P (m ∷ ms) new all one =
    elim (nat_lt new.base m.base) as (λ b. All P (if b then new ∷ m ∷ ms else m ∷ entered ms new)) [
      | true ↦ All-cons P new (m ∷ ms) one all
      | false ↦ All-cons P m (entered ms new) (all 0 m (omega arith)) (All-entered P ms new (λ k d within. all (suc k) d (omega arith)) one)
    ]

fits_within : (space : ℕ) (new : Mapping) → fits space [] new.base new.len ≡ true → new.base + new.len ≤ space
fits_within space new room = grind (arith, nat_tests)

fits_before : (space : ℕ) (m : Mapping) (ms : List Mapping) (new : Mapping) → fits space (m ∷ ms) new.base new.len ≡ true
    → new.base < m.base → 1 ≤ m.len → new.base + new.len ≤ m.base
fits_before space m ms new room before some = grind (arith, nat_tests)

fits_past : (space : ℕ) (m : Mapping) (ms : List Mapping) (new : Mapping) → fits space (m ∷ ms) new.base new.len ≡ true
    → m.base ≤ new.base → 1 ≤ new.len → m.base + m.len ≤ new.base
fits_past space m ms new room past some = grind (arith, nat_tests)

fits_rest : (space : ℕ) (m : Mapping) (ms : List Mapping) (new : Mapping) → fits space (m ∷ ms) new.base new.len ≡ true
    → fits space ms new.base new.len ≡ true
fits_rest space m ms new room = grind (arith, nat_tests)

-- a mapping that fits shares no page with the others
pub IsSpread-entered : (space low : ℕ) (ms : List Mapping) (new : Mapping) → IsSpread space low ms → low ≤ new.base → 1 ≤ new.len
    → fits space ms new.base new.len ≡ true → IsSpread space low (entered ms new)
IsSpread-entered space low [] new spread above some room = (above, some, fits_within space new room)
IsSpread-entered space low (m ∷ ms) new spread above some room =
    elim (nat_lt new.base m.base) as
    (λ b. nat_lt new.base m.base ≡ b → IsSpread space low (if b then new ∷ m ∷ ms else m ∷ entered ms new)) [
      | true ↦ λ e. (above, some, (fits_before space m ms new room (ltb-true new.base m.base e) spread.1, spread.1, spread.2))
      | false ↦ λ e. (
        spread.0,
        spread.1,
        IsSpread-entered space (m.base + m.len) ms new spread.2
            (fits_past space m ms new room (ltb-false new.base m.base e) some) some (fits_rest space m ms new room),
      )
    ] refl

pub base_of_is : (ms : List Mapping) (v : ℕ) (o : Option Mapping) → o ≡ list.find (λ m. covers m v) ms
    → base_of ms v ≡ option_map (λ m. m.base) o
base_of_is ms v o same = base_of-holder ms v ∙ ap (option_map (λ (m : Mapping). m.base)) (sym same)

pub find_is : (ms : List Mapping) (v : ℕ) (o : Option Mapping) → o ≡ list.find (λ m. covers m v) ms
    → find ms v ≡ option_map (λ m. (m.file, m.from + (v - m.base))) o
find_is ms v o same = find-holder ms v ∙ ap (option_map (λ (m : Mapping). (m.file, m.from + (v - m.base)))) (sym same)

-- a mapping that is put at its place
pub insert_is : (ms seen : List Mapping) (new : Mapping) (at : ℕ) → at ≡ prefix_len (begins new.base) seen → seen ≡ ms
    → insert ms at new ≡ entered ms new
insert_is ms seen new at place same =
    let here : at ≡ prefix_len (begins new.base) ms = place ∙ ap (prefix_len (begins new.base)) same in
    ap (λ (i : ℕ). insert ms i new) here ∙ sym (entered-insert ms new)
