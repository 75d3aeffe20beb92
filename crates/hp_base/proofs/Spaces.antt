-- The mappings of a task, after one is entered or goes.
use Rattle.std.proofs.Common.{◌≡◌, ℕ, ◌+◌, ◌-◌, ◌≤◌, refl, ap, sym, ◌∙◌, arith}
use Rattle.std.specs.Prelude.{Bool, true, false, ◌&&◌, ◌||◌, ◌==◌, nat_lt, nat_le, Option, Some, None, List, [], ◌∷◌, if◌then◌else◌}
use Rattle.std.proofs.lemmas.Bool.Decides.{nat_tests}
use Rattle.hp_base.specs.Indices.{is_within}
use Rattle.hp_base.specs.Mappings.{covers, find, is_clear, fits, entered, is_base, in_mapping, without, first_base, IsSpread}
use Rattle.hp_base.specs.declared.mapping.Mapping.{Mapping}

-- where two tests pass together, each does
pub both_true : (a b : Bool) → (a && b) ≡ true → (a ≡ true) × (b ≡ true)
both_true true b e = (refl, e)
both_true false b e = let d : false ≡ true = e in absurd (cc)

pub fits_clear : (space base len : ℕ) (ms : List Mapping) → fits space ms base len ≡ true
    → (base + len ≤ space) × (is_clear ms base len ≡ true)
fits_clear space base len ms e =
    let o = both_true (nat_le (base + len) space) (is_clear ms base len) e in
    let z = o.0 in
    (grind (arith, nat_tests), o.1)

outside : (a n base len v : ℕ) → (nat_le (a + n) base || nat_le (base + len) a) ≡ true → is_within a (a + n) v ≡ true
    → is_within base (base + len) v ≡ false
outside a n base len v e d = grind (arith, nat_tests)

-- what is mapped isn't in a clear range
pub found_not_clear : (ms : List Mapping) (base len v : ℕ) (k : ℕ × ℕ) → is_clear ms base len ≡ true → find ms v ≡ Some k
    → is_within base (base + len) v ≡ false
found_not_clear [] base len v k clear e = let d : ◌≡◌ {A = Option (ℕ × ℕ)} None (Some k) = e in absurd (cc)
found_not_clear (m ∷ ms) base len v k clear e =
    let o = both_true (nat_le (m.base + m.len) base || nat_le (base + len) m.base) (is_clear ms base len) clear in
    here (λ d. found_not_clear ms base len v k o.1 d) o.0 (covers m v) refl e
  where
    here : (find ms v ≡ Some k → is_within base (base + len) v ≡ false)
        → (nat_le (m.base + m.len) base || nat_le (base + len) m.base) ≡ true
        → (b : Bool) → covers m v ≡ b → (if b then Some (m.file, m.from + (v - m.base)) else find ms v) ≡ Some k
        → is_within base (base + len) v ≡ false
    here rest apart true c d = outside m.base m.len base len v apart c
    here rest apart false c d = rest d

-- what was mapped is mapped as before, after a mapping in a clear range is entered
pub entered_find : (ms : List Mapping) (new : Mapping) (v : ℕ) (k : ℕ × ℕ) → is_clear ms new.base new.len ≡ true
    → find ms v ≡ Some k → find (entered ms new) v ≡ Some k
entered_find [] new v k clear e = let d : ◌≡◌ {A = Option (ℕ × ℕ)} None (Some k) = e in absurd (cc)
entered_find (m ∷ ms) new v k clear e =
    let o = both_true (nat_le (m.base + m.len) new.base || nat_le (new.base + new.len) m.base) (is_clear ms new.base new.len) clear in
    here (nat_lt new.base m.base) (found_not_clear (m ∷ ms) new.base new.len v k clear e) (λ d. entered_find ms new v k o.1 d)
  where
    later : (b : Bool) → (find ms v ≡ Some k → find (entered ms new) v ≡ Some k)
        → (if b then Some (m.file, m.from + (v - m.base)) else find ms v) ≡ Some k
        → (if b then Some (m.file, m.from + (v - m.base)) else find (entered ms new) v) ≡ Some k
    later true rest d = d
    later false rest d = rest d

    here : (b : Bool) → covers new v ≡ false → (find ms v ≡ Some k → find (entered ms new) v ≡ Some k)
        → find (if b then new ∷ m ∷ ms else m ∷ entered ms new) v ≡ Some k
    here true out rest = ap (λ (c : Bool). if c then Some (new.file, new.from + (v - new.base)) else find (m ∷ ms) v) out ∙ e
    here false out rest = later (covers m v) rest e

-- the mappings stay spread
pub entered_spread : (space low : ℕ) (ms : List Mapping) (new : Mapping) → IsSpread space low ms
    → is_clear ms new.base new.len ≡ true → low ≤ new.base → 1 ≤ new.len → new.base + new.len ≤ space
    → IsSpread space low (entered ms new)
entered_spread space low [] new h clear l one high = (l, one, high)
entered_spread space low (m ∷ ms) new h clear l one high =
    let o = both_true (nat_le (m.base + m.len) new.base || nat_le (new.base + new.len) m.base) (is_clear ms new.base new.len) clear in
    here o.0 (nat_lt new.base m.base) refl (λ d. entered_spread space (m.base + m.len) ms new h.2 o.1 d one high)
  where
    before : (a n base len : ℕ) → (nat_le (a + n) base || nat_le (base + len) a) ≡ true → nat_lt base a ≡ true → base + len ≤ a
    before a n base len e d = grind (arith, nat_tests)

    after : (a n base len : ℕ) → 1 ≤ len → (nat_le (a + n) base || nat_le (base + len) a) ≡ true → nat_lt base a ≡ false → a + n ≤ base
    after a n base len one e d = grind (arith, nat_tests)

    here : (nat_le (m.base + m.len) new.base || nat_le (new.base + new.len) m.base) ≡ true → (b : Bool) → nat_lt new.base m.base ≡ b
        → (m.base + m.len ≤ new.base → IsSpread space (m.base + m.len) (entered ms new))
        → IsSpread space low (if b then new ∷ m ∷ ms else m ∷ entered ms new)
    here apart true e rest = (l, one, (before m.base m.len new.base new.len apart e, h.1, h.2))
    here apart false e rest = (h.0, h.1, rest (after m.base m.len new.base new.len one apart e))

spread_lower : (space low other : ℕ) (ms : List Mapping) → other ≤ low → IsSpread space low ms → IsSpread space other ms
spread_lower space low other [] l h = omega arith
spread_lower space low other (m ∷ ms) l h = (let a : low ≤ m.base = h.0 in omega arith, h.1, h.2)

pub without_spread : (space low : ℕ) (ms : List Mapping) (base : ℕ) → IsSpread space low ms → IsSpread space low (without ms base)
without_spread space low [] base h = h
without_spread space low (m ∷ ms) base h = here (without_spread space (m.base + m.len) ms base h.2) (m.base == base)
  where
    here : IsSpread space (m.base + m.len) (without ms base) → (b : Bool) → IsSpread space low (if b then ms else m ∷ without ms base)
    here rest true = spread_lower space (m.base + m.len) low ms (let a : low ≤ m.base = h.0 in omega arith) h.2
    here rest false = (h.0, h.1, rest)

-- where a mapping that goes doesn't reach, all is mapped as before
pub without_find : (ms : List Mapping) (base v : ℕ) → in_mapping ms base v ≡ false → find (without ms base) v ≡ find ms v
without_find [] base v e = refl
without_find (m ∷ ms) base v e = here (λ d. without_find ms base v d) (m.base == base) e
  where
    here : (in_mapping ms base v ≡ false → find (without ms base) v ≡ find ms v) → (b : Bool)
        → (if b then covers m v else in_mapping ms base v) ≡ false
        → find (if b then ms else m ∷ without ms base) v ≡ find (m ∷ ms) v
    here rest true d = sym (ap (λ (w : Bool). if w then Some (m.file, m.from + (v - m.base)) else find ms v) d)
    here rest false d = ap (λ (o : Option (ℕ × ℕ)). if covers m v then Some (m.file, m.from + (v - m.base)) else o) (rest d)

-- the first mapping's base is one
pub first_is_base : (ms : List Mapping) (base : ℕ) → first_base ms ≡ Some base → is_base ms base ≡ true
first_is_base [] base e = let d : ◌≡◌ {A = Option ℕ} None (Some base) = e in cc
first_is_base (m ∷ ms) base e = here m.base base (some_same m.base base e)
  where
    some_same : (a b : ℕ) → Some a ≡ Some b → a ≡ b
    some_same a b d = cc

    yes_or : (b : Bool) → b ≡ true → (b || is_base ms base) ≡ true
    yes_or true d = refl
    yes_or false d = let z : false ≡ true = d in cc

    here : (a b : ℕ) → a ≡ b → ((m.base == base) || is_base ms base) ≡ true
    here a b d = yes_or (m.base == base) (let s = some_same m.base base e in grind (arith, nat_tests))
