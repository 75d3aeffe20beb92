-- What a space says of the pages of its mappings, one mapping after the other.
use Rattle.std.proofs.Common.{◌≡◌, ◌≢◌, ◌∙◌, ℕ, zero, suc, ◌+◌, ◌-◌, ◌<◌, ◌≤◌, List, [], ◌∷◌, length, get_or, refl, sym, ap, subst}
use Rattle.std.proofs.Common.{arith, inl, inr}
use Rattle.std.specs.Prelude.{Bool, true, false, cond, Option, Some, None}
use Rattle.std.proofs.lemmas.Bool.{cases_lt}
use Rattle.std.proofs.lemmas.Bool.Decides.{nat_tests}
use Rattle.hp_base.specs.Indices.{is_within}
use Rattle.hp_base.specs.Mappings.{base_of, find, IsSpread}
use Rattle.hp_base.specs.declared.mapping.Mapping.{Mapping}
use Rattle.hp_table.specs.Gaps.{end_of}
use Rattle.hp_table.proofs.GapsOf.{end_above}

outside : (from to v : ℕ) → v < from → is_within from to v ≡ false
outside from to v below = grind (arith, nat_tests)

beyond : (from to v : ℕ) → to ≤ v → is_within from to v ≡ false
beyond from to v above = grind (arith, nat_tests)

inside : (from to v : ℕ) → from ≤ v → v < to → is_within from to v ≡ true
inside from to v above below = grind (arith, nat_tests)

-- below the first mapping there is none
none_below : (space low : ℕ) (ms : List Mapping) (v : ℕ) → IsSpread space low ms → v < low → base_of ms v ≡ None
none_below space low [] v spread below = refl
none_below space low (m ∷ ms) v spread below =
    let l = spread.0 in
    let out : is_within m.base (m.base + m.len) v ≡ false = outside m.base (m.base + m.len) v (omega (arith, l)) in
    rw out (none_below space (m.base + m.len) ms v spread.2 (omega (arith, l)))

-- whatever mapping a page lies in, its base isn't below
above_by : (low base len v b : ℕ) (rest : Option ℕ) (c : Bool) → low ≤ base → (rest ≡ Some b → base + len ≤ b)
    → cond c (Some base) rest ≡ Some b → low ≤ b
above_by low base len v b rest true l later e = (let same : base ≡ b = cc in omega (arith, same, l))
above_by low base len v b rest false l later e = (let k = later e in omega (arith, l, k))

base_above : (space low : ℕ) (ms : List Mapping) (v b : ℕ) → IsSpread space low ms → base_of ms v ≡ Some b → low ≤ b
base_above space low [] v b spread e = (let z : ◌≡◌ {A = Option ℕ} None (Some b) = e in absurd (cc))
base_above space low (m ∷ ms) v b spread e =
    above_by low m.base m.len v b (base_of ms v) (is_within m.base (m.base + m.len) v) spread.0
    (base_above space (m.base + m.len) ms v b spread.2) e

-- the mappings stand within the space
pub spread_ends : (space low : ℕ) (ms : List Mapping) → IsSpread space low ms → low + length ms ≤ space
spread_ends space low [] spread = omega (arith, spread)
spread_ends space low (m ∷ ms) spread =
    let l = spread.0 in
    let one = spread.1 in
    let rest = spread_ends space (m.base + m.len) ms spread.2 in
    omega (arith, l, one, rest)

-- a mapping, and the gap in front of it that begins at `end`, as a space says it page by page
pub record IsNext (space : ℕ) (ms : List Mapping) (end : ℕ) (m : Mapping) : Type 0 where
  pub above : end ≤ m.base
  pub some : 1 ≤ m.len
  pub within : m.base + m.len ≤ space
  pub gap : (v : ℕ) → end ≤ v → v < m.base → base_of ms v ≡ None
  pub there : (v : ℕ) → m.base ≤ v → v < m.base + m.len → base_of ms v ≡ Some m.base
  pub behind : base_of ms (m.base + m.len) ≢ Some m.base
  pub found : find ms m.base ≡ Some (m.file, m.from)

first_next : (space low : ℕ) (m : Mapping) (ms : List Mapping) → IsSpread space low (m ∷ ms) → IsNext space (m ∷ ms) low m
first_next space low m ms spread =
    let l = spread.0 in
    let one = spread.1 in
    let ends = spread_ends space (m.base + m.len) ms spread.2 in
    record {
      above = l;
      some = one;
      within = omega (arith, ends);
      gap = λ v above below. (
          let out : is_within m.base (m.base + m.len) v ≡ false = outside m.base (m.base + m.len) v below in
          rw out (none_below space (m.base + m.len) ms v spread.2 (omega (arith, below))));
      there = λ v above below. (
          let is : is_within m.base (m.base + m.len) v ≡ true = inside m.base (m.base + m.len) v above below in rw is refl);
      behind = λ e. (
          let out : is_within m.base (m.base + m.len) (m.base + m.len) ≡ false =
          beyond m.base (m.base + m.len) (m.base + m.len) (omega arith) in
          let z : base_of ms (m.base + m.len) ≡ Some m.base = rw out at e in
          let above = base_above space (m.base + m.len) ms (m.base + m.len) m.base spread.2 z in
          omega (arith, one, above));
      found = (
          let is : is_within m.base (m.base + m.len) m.base ≡ true =
          inside m.base (m.base + m.len) m.base (omega arith) (omega (arith, one)) in
          let at : m.from + (m.base - m.base) ≡ m.from = omega arith in
          rw is (ap (λ (i : ℕ). Some (m.file, i)) at));
    }

-- what is said of a mapping behind the first is said of it among all
later_next : (space low : ℕ) (m : Mapping) (ms : List Mapping) (end : ℕ) (n : Mapping) → m.base + m.len ≤ end → IsNext space ms end n
    → IsNext space (m ∷ ms) end n
later_next space low m ms end n over h =
    let first = h.above in
    let out : (v : ℕ) → end ≤ v → is_within m.base (m.base + m.len) v ≡ false =
    λ v above. beyond m.base (m.base + m.len) v (omega (arith, over, above)) in
    record {
      above = h.above;
      some = h.some;
      within = h.within;
      gap = λ v above below. (let o = out v above in rw o (h.gap v above below));
      there = λ v above below. (let o = out v (omega (arith, first, above)) in rw o (h.there v above below));
      behind = λ e. (let o = out (n.base + n.len) (omega (arith, first)) in h.behind (rw o at e));
      found = (let o = out n.base first in rw o h.found);
    }

-- so each mapping comes behind the end of the one before it
pub next_mapping : (space low : ℕ) (ms : List Mapping) (k : ℕ) (d : Mapping) → IsSpread space low ms → k < length ms
    → IsNext space ms (end_of low ms k) (get_or ms k d)
next_mapping space low [] k d spread within = absurd (omega (arith, within))
next_mapping space low (m ∷ ms) zero d spread within = first_next space low m ms spread
next_mapping space low (m ∷ ms) (suc k) d spread within =
    later_next space low m ms (end_of (m.base + m.len) ms k) (get_or ms k d) (end_above space (m.base + m.len) ms k spread.2)
    (next_mapping space (m.base + m.len) ms k d spread.2 (omega (arith, within)))

-- and ends where the next gap begins
pub end_next : (low : ℕ) (ms : List Mapping) (k : ℕ) (d : Mapping) → k < length ms
    → end_of low ms (k + 1) ≡ (get_or ms k d).base + (get_or ms k d).len
end_next low [] k d within = absurd (omega (arith, within))
end_next low (m ∷ ms) zero d within = refl
end_next low (m ∷ ms) (suc k) d within =
    let e : suc k + 1 ≡ suc (k + 1) = omega arith in
    ap (end_of low (m ∷ ms)) e ∙ end_next (m.base + m.len) ms k d (omega (arith, within))

-- said from wherever the one before it ended
pub next_at : (ms : List Mapping) (k end : ℕ) (d : Mapping) → IsSpread 16384 0 ms → k < length ms → end ≡ end_of 0 ms k
    → IsNext 16384 ms end (get_or ms k d)
next_at ms k end d spread within is =
    subst (λ (e : ℕ). IsNext 16384 ms e (get_or ms k d)) (sym is) (next_mapping 16384 0 ms k d spread within)

-- the first page from the end on at which a mapping begins is its base
pub base_is : {space : ℕ} {ms : List Mapping} {end : ℕ} {m : Mapping} (base : ℕ) → IsNext space ms end m → end ≤ base
    → ((v : ℕ) → end ≤ v → v < base → base_of ms v ≢ Some v) → (base < space → base_of ms base ≡ Some base) → base ≡ m.base
base_is {space} {ms} {end} {m} base next above none begins =
    let one = next.some in
    let within = next.within in
    elim (cases_lt base m.base) [
      | inl below ↦ (
          let gap : base_of ms base ≡ None = next.gap base above below in
          let is : base_of ms base ≡ Some base = begins (omega (arith, below, within, one)) in
          let z : ◌≡◌ {A = Option ℕ} None (Some base) = sym gap ∙ is in absurd (cc))
      | inr over ↦ elim (cases_lt m.base base) [
        | inl behind ↦ absurd (none m.base next.above behind (next.there m.base (omega arith) (omega (arith, one))))
        | inr same ↦ omega (arith, over, same)
      ]
    ]

-- and the first one behind the base that isn't its own is its end
pub end_is : {space : ℕ} {ms : List Mapping} {end : ℕ} {m : Mapping} (base last : ℕ) → IsNext space ms end m → base ≡ m.base
    → base < last → ((v : ℕ) → base < v → v < last → base_of ms v ≡ Some base) → (last < space → base_of ms last ≢ Some base)
    → last ≤ space → last ≡ m.base + m.len
end_is {space} {ms} {end} {m} base last next same above all ends within =
    let one = next.some in
    let limit = next.within in
    elim (cases_lt last (m.base + m.len)) [
      | inl early ↦ (
          let its : base_of ms last ≡ Some m.base = next.there last (omega (arith, same, above)) early in
          absurd (ends (omega (arith, early, limit)) (its ∙ ap (λ (b : ℕ). Some b) (sym same))))
      | inr over ↦ elim (cases_lt (m.base + m.len) last) [
        | inl late ↦ absurd (next.behind (all (m.base + m.len) (omega (arith, same, one)) late ∙ ap (λ (b : ℕ). Some b) same))
        | inr here ↦ omega (arith, over, here)
      ]
    ]
