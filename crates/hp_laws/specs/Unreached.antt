-- What no run reaches: an allocation that has something to settle.
use Rattle.std.specs.Prelude.{◌≡◌, ℕ, Some}
use Rattle.hp_base.specs.Indices.{missing}
use Rattle.hp_machine.specs.State.{State}
use Rattle.hp_machine.specs.declared.alloc.Taken.{Taken}
use Rattle.hp_machine.specs.declared.alloc.Settle.{Settle}
use Rattle.hp_machine.specs.declared.alloc.AllocPhase.TheVariants as alloc
use Rattle.hp_machine.specs.declared.call.Call.TheVariants as call

-- an allocation about to commit adds all that its change found missing: nobody added it meanwhile
abbrev pub AllocAddsAll : State → Type 0
AllocAddsAll s =
    (t : ℕ) (p : Taken) → s.calls t ≡ Some (call.Alloc (alloc.Taken p))
    → missing (s.reserved p.allocation.file) p.pending.from p.pending.to ≡ p.pending.missing

-- so none has anything to settle
abbrev pub AllocNeverSettles : State → Type 0
AllocNeverSettles s = (t : ℕ) (p : Settle) → s.calls t ≡ Some (call.Alloc (alloc.Settle p)) → ⊥
