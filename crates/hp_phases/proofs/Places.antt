-- Each phase has a place of its own.
use Rattle.std.proofs.Common.{◌≡◌, ◌∙◌, ℕ, ◌<◌, ap, arith, refl, sym}
use Rattle.std.specs.Prelude.{slice_index_or}
use Rattle.hp_machine.specs.declared.phase.Phase.{Phase}
use Rattle.hp_machine.specs.declared.phase.Phase.TheVariants as phase
use Rattle.hp_phases.specs.Phases.{all_phases, phase_number, place_of}

-- it stands there among all
pub there : (p : Phase) → (place_of p < 27) × (slice_index_or all_phases (place_of p) phase.Start ≡ p)
there phase.Start = (omega arith, refl)
there phase.Look = (omega arith, refl)
there phase.Want = (omega arith, refl)
there phase.Locked = (omega arith, refl)
there phase.Missing = (omega arith, refl)
there phase.Changed = (omega arith, refl)
there phase.Abort = (omega arith, refl)
there phase.Taken = (omega arith, refl)
there phase.Settle = (omega arith, refl)
there phase.Committed = (omega arith, refl)
there phase.Restore = (omega arith, refl)
there phase.Found = (omega arith, refl)
there phase.Leave = (omega arith, refl)
there phase.Room = (omega arith, refl)
there phase.Accounted = (omega arith, refl)
there phase.Enter = (omega arith, refl)
there phase.Head = (omega arith, refl)
there phase.Unslot = (omega arith, refl)
there phase.Extend = (omega arith, refl)
there phase.Unmap = (omega arith, refl)
there phase.Evict = (omega arith, refl)
there phase.Delete = (omega arith, refl)
there phase.Free = (omega arith, refl)
there phase.Size = (omega arith, refl)
there phase.Tail = (omega arith, refl)
there phase.Clear = (omega arith, refl)
there phase.Drop = (omega arith, refl)

-- a phase is told by its place
pub one_place : (p q : Phase) → place_of p ≡ place_of q → p ≡ q
one_place p q e = sym (there p).1 ∙ ap (λ (k : ℕ). slice_index_or all_phases k phase.Start) e ∙ (there q).1

-- and by its number
pub one_number : (p q : Phase) → phase_number p ≡ phase_number q → p ≡ q
one_number p q e = one_place p q (omega (arith, e))
