-- The first gap between mappings, and that it is the least base that fits.
use Rattle.std.proofs.Common.{◌≡◌, ℕ, ◌+◌, ◌-◌, ◌<◌, ◌≤◌, true, false, List, [], ◌∷◌, Option, Some, None, refl, sym, ◌∙◌}
use Rattle.std.proofs.Common.{subst, arith}
use Rattle.std.specs.Prelude.{nat_le, if◌then◌else◌}
use Rattle.std.proofs.lemmas.Bool.{leb-true, leb-false, le-leb, lt-leb}
use Rattle.std.proofs.lemmas.Bool.Decides.{nat_tests}
use Rattle.hp_base.specs.declared.mapping.Mapping.{Mapping}
use Rattle.hp_base.specs.Mappings.{is_clear, fits, IsRoom, IsSpread}

-- the first gap of that length at or above `low`, where the mappings begin there
abbrev pub gap : (space low : ℕ) → List Mapping → (len : ℕ) → Option ℕ
gap space low [] len = if nat_le (low + len) space then Some low else None
gap space low (m ∷ ms) len = if nat_le (low + len) m.base then Some low else gap space (m.base + m.len) ms len

-- the least base at or above `low` that fits, or none where none there does
abbrev pub IsRoomFrom : (space low : ℕ) → List Mapping → (len : ℕ) → Option ℕ → Type 0
IsRoomFrom space low ms len None = (base : ℕ) → low ≤ base → fits space ms base len ≡ false
IsRoomFrom space low ms len (Some base) =
    (low ≤ base) × (fits space ms base len ≡ true) × ((other : ℕ) → low ≤ other → other < base → fits space ms other len ≡ false)

pub spread_within : (space low : ℕ) (ms : List Mapping) → IsSpread space low ms → low ≤ space
spread_within space low [] spread = spread
spread_within space low (m ∷ ms) spread = omega (arith, spread.0, spread_within space (m.base + m.len) ms spread.2)

-- what ends at or below the mappings is clear of them
clear_below : (space low : ℕ) (ms : List Mapping) (base len : ℕ) → IsSpread space low ms → base + len ≤ low → is_clear ms base len ≡ true
clear_below space low [] base len spread under = refl
clear_below space low (m ∷ ms) base len spread under =
    let rest = clear_below space (m.base + m.len) ms base len spread.2 (omega (arith, spread.0)) in
    rw (le-leb (base + len) m.base (omega (arith, spread.0)), rest) (grind (arith, nat_tests))

-- a gap of the others, where it lies above the first
past_first : (space : ℕ) (m : Mapping) (ms : List Mapping) (len base : ℕ) → m.base + m.len ≤ base
    → fits space (m ∷ ms) base len ≡ fits space ms base len
past_first space m ms len base above = grind (arith, nat_tests)

-- what begins before the first ends, and ends after it begins, doesn't fit
on_first : (space : ℕ) (m : Mapping) (ms : List Mapping) (len base : ℕ) → base < m.base + m.len → m.base < base + len
    → fits space (m ∷ ms) base len ≡ false
on_first space m ms len base before after = grind (arith, nat_tests)

either : (low middle base : ℕ) (A : Type 0) → low ≤ base → (base < middle → A) → (middle ≤ base → A) → A
either low middle base A above first later =
    elim (nat_le middle base) as
    (λ b. nat_le middle base ≡ b → A) [
      | true ↦ λ e. later (leb-true middle base e)
      | false ↦
          λ e. first (leb-false middle base e)
    ] refl

-- a gap after the first mapping, where none is before it
later_gap : (space low : ℕ) (m : Mapping) (ms : List Mapping) (len : ℕ) (o : Option ℕ) → low ≤ m.base → m.base < low + len
    → IsRoomFrom space (m.base + m.len) ms len o → IsRoomFrom space low (m ∷ ms) len o
later_gap space low m ms len None below short room = λ base above.
    either low (m.base + m.len) base (fits space (m ∷ ms) base len ≡ false) above
    (λ before. on_first space m ms len base before (omega arith)) (λ past. past_first space m ms len base past ∙ room base past)
later_gap space low m ms len (Some found) below short room = (
  omega (arith, room.0),
  past_first space m ms len found room.0 ∙ room.1,
  λ other above under.
      either low (m.base + m.len) other (fits space (m ∷ ms) other len ≡ false) above
      (λ before. on_first space m ms len other before (omega arith))
      (λ past. past_first space m ms len other past ∙ room.2 other past under),
)

nothing_between : (low other : ℕ) (A : Type 0) → low ≤ other → other < low → A
nothing_between low other A above under = absurd (omega arith)

gap_is : (space low : ℕ) (ms : List Mapping) (len : ℕ) → IsSpread space low ms → IsRoomFrom space low ms len (gap space low ms len)
gap_is space low [] len spread =
    elim (nat_le (low + len) space) as (λ b. nat_le (low + len) space ≡ b → IsRoomFrom space low [] len (if b then Some low else None)) [
      | true ↦ λ e. (omega arith, rw e refl, λ other above under. nothing_between low other _ above under)
      | false ↦ λ e base above. rw (lt-leb (base + len) space (omega (arith, leb-false (low + len) space e))) refl
    ] refl
gap_is space low (m ∷ ms) len spread =
    elim (nat_le (low + len) m.base) as
    (λ b. nat_le (low + len) m.base ≡ b
    → IsRoomFrom space low (m ∷ ms) len (if b then Some low else gap space (m.base + m.len) ms len)) [
      | true ↦ λ e.
          let ends = leb-true (low + len) m.base e in
          let within = spread_within space (m.base + m.len) ms spread.2 in
          let clear = clear_below space (m.base + m.len) ms low len spread.2 (omega arith) in (
            omega arith,
            rw (le-leb (low + len) space (omega (arith, within)), e, clear) (grind (arith, nat_tests)),
            λ other above under. nothing_between low other _ above under,
          )
      | false ↦ λ e. later_gap space low m ms len (gap space (m.base + m.len) ms len) spread.0
          (leb-false (low + len) m.base e) (gap_is space (m.base + m.len) ms len spread.2)
    ] refl

room_at_all : (space : ℕ) (ms : List Mapping) (len : ℕ) (o : Option ℕ) → IsRoomFrom space 0 ms len o → IsRoom space ms len o
room_at_all space ms len None room = λ base. room base (omega arith)
room_at_all space ms len (Some base) room = (room.1, λ other under. room.2 other (omega arith) under)

-- the first gap is the least base that fits
pub gap-IsRoom : (space : ℕ) (ms : List Mapping) (len : ℕ) (o : Option ℕ) → IsSpread space 0 ms → o ≡ gap space 0 ms len
    → IsRoom space ms len o
gap-IsRoom space ms len o spread same =
    let P : Option ℕ → Type 0 = IsRoom space ms len in
    subst P (sym same) (room_at_all space ms len (gap space 0 ms len) (gap_is space 0 ms len spread))

-- whether what lies above all mappings is long enough
pub fits_end : (space low len : ℕ) → low ≤ space → nat_le (low + len) space ≡ nat_le len (space - low)
fits_end space low len within = grind (arith, nat_tests)
