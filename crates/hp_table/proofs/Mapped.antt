-- Pages that lie in a mapping, after one is entered or goes.
use Rattle.std.proofs.Common.{◌≡◌, ℕ, zero, suc, ◌+◌, ◌-◌, ◌<◌, ◌≤◌, Bool, true, false, List, [], ◌∷◌, Option, Some, None, length}
use Rattle.std.proofs.Common.{get_or, refl, ap, ◌∙◌, arith}
use Rattle.std.specs.Prelude.{All, IsTrue, IsSome, is_some, ◌==◌, if◌then◌else◌}
use Rattle.std.proofs.lemmas.Bool.Decides.{nat_tests}
use Rattle.hp_base.proofs.Spaces.{fits_clear, entered_find, without_find}
use Rattle.hp_base.specs.declared.mapping.Mapping.{Mapping}
use Rattle.hp_base.specs.Mappings.{covers, find, is_there, fits, entered, in_mapping, without, IsSpread}
use Rattle.hp_table.proofs.Room.{spread_within}

pub found_stays : (ms : List Mapping) (new : Mapping) (space v : ℕ) → fits space ms new.base new.len ≡ true → IsSome (find ms v)
    → IsSome (find (entered ms new) v)
found_stays ms new space v room = here (find ms v) refl
  where
    here : (o : Option (ℕ × ℕ)) → find ms v ≡ o → IsSome o → IsSome (find (entered ms new) v)
    here None e some = let d : false ≡ true = some in absurd (cc)
    here (Some k) e some = ap (λ (o : Option (ℕ × ℕ)). is_some o) (entered_find ms new v k (fits_clear space new.base new.len ms room).1 e)

pub found_without : (ms : List Mapping) (base v : ℕ) → (IsTrue (in_mapping ms base v) → ⊥) → IsSome (find ms v)
    → IsSome (find (without ms base) v)
found_without ms base v apart some = here (in_mapping ms base v) refl
  where
    here : (b : Bool) → in_mapping ms base v ≡ b → IsSome (find (without ms base) v)
    here true e = absurd (apart e)
    here false e = ap (λ (o : Option (ℕ × ℕ)). is_some o) (without_find ms base v e) ∙ some

-- and stands for the same
pub found_same : (ms : List Mapping) (new : Mapping) (space v : ℕ) → fits space ms new.base new.len ≡ true → IsSome (find ms v)
    → find (entered ms new) v ≡ find ms v
found_same ms new space v room = here (find ms v) refl
  where
    here : (o : Option (ℕ × ℕ)) → find ms v ≡ o → IsSome o → find (entered ms new) v ≡ o
    here None e some = let d : false ≡ true = some in absurd (cc)
    here (Some k) e some = entered_find ms new v k (fits_clear space new.base new.len ms room).1 e

pub found_other : (ms : List Mapping) (base v : ℕ) → (IsTrue (in_mapping ms base v) → ⊥) → find (without ms base) v ≡ find ms v
found_other ms base v apart = here (in_mapping ms base v) refl
  where
    here : (b : Bool) → in_mapping ms base v ≡ b → find (without ms base) v ≡ find ms v
    here true e = absurd (apart e)
    here false e = without_find ms base v e

All-cons : (P : Mapping → Type 0) (m : Mapping) (ms : List Mapping) → P m → All P ms → All P (m ∷ ms)
All-cons P m ms one all zero d within = one
All-cons P m ms one all (suc k) d within = all k d (omega arith)

pub All-without : (P : Mapping → Type 0) (ms : List Mapping) (base : ℕ) → All P ms → All P (without ms base)
All-without P [] base all = all
All-without P (m ∷ ms) base all = here (m.base == base) (All-without P ms base (λ k d within. all (suc k) d (omega arith)))
  where
    here : (b : Bool) → All P (without ms base) → All P (if b then ms else m ∷ without ms base)
    here true rest = λ k d within. all (suc k) d (omega arith)
    here false rest = All-cons P m (without ms base) (all 0 m (omega arith)) rest

-- each mapping ends within the space
pub ends_in_space : (space low : ℕ) (ms : List Mapping) (k : ℕ) (d : Mapping) → IsSpread space low ms → k < length ms
    → (get_or ms k d).base + (get_or ms k d).len ≤ space
ends_in_space space low [] k d spread within = absurd (omega arith)
ends_in_space space low (m ∷ ms) zero d spread within = spread_within space (m.base + m.len) ms spread.2
ends_in_space space low (m ∷ ms) (suc k) d spread within = ends_in_space space (m.base + m.len) ms k d spread.2 (omega arith)

-- a page that lies in a mapping lies in the space
pub found_in_space : (space low : ℕ) (ms : List Mapping) (v : ℕ) (place : ℕ × ℕ) → IsSpread space low ms → find ms v ≡ Some place
    → v < space
found_in_space space low [] v place spread found = (let d : ◌≡◌ {A = Option (ℕ × ℕ)} None (Some place) = found in absurd (cc))
found_in_space space low (m ∷ ms) v place spread found =
    here (λ e. found_in_space space (m.base + m.len) ms v place spread.2 e) (covers m v) refl found
  where
    inside : covers m v ≡ true → v < m.base + m.len
    inside is = grind (arith, nat_tests, is)

    here : (find ms v ≡ Some place → v < space) → (b : Bool) → covers m v ≡ b
        → (if b then Some (m.file, m.from + (v - m.base)) else find ms v) ≡ Some place → v < space
    here later true is e = omega (arith, inside is, spread_within space (m.base + m.len) ms spread.2)
    here later false is e = later e

pub in_space : (space low : ℕ) (ms : List Mapping) (v : ℕ) → IsSpread space low ms → IsSome (find ms v) → v < space
in_space space low ms v spread = here (find ms v) refl
  where
    here : (o : Option (ℕ × ℕ)) → find ms v ≡ o → IsSome o → v < space
    here None e some = let d : false ≡ true = some in absurd (cc)
    here (Some place) e some = found_in_space space low ms v place spread e

pub there_in_space : (space low : ℕ) (ms : List Mapping) (v file index : ℕ) → IsSpread space low ms
    → is_there (find ms v) file index ≡ true → v < space
there_in_space space low ms v file index spread = here (find ms v) refl
  where
    here : (o : Option (ℕ × ℕ)) → find ms v ≡ o → is_there o file index ≡ true → v < space
    here None e there = let d : false ≡ true = there in absurd (cc)
    here (Some place) e there = found_in_space space low ms v place spread e
