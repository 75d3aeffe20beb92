-- A task that stands in a phase, or waits for somebody, is there.
use Rattle.std.proofs.Common.{◌≡◌, ℕ, ◌≤◌, refl, ap, arith}
use Rattle.std.specs.Prelude.{◌↔◌, Bool, true, IsTrue, Option, None, Some, is_some}
use Rattle.std.specs.Option.{option_map}
use Rattle.hp_machine.specs.State.{Geometry}
use Rattle.hp_machine.specs.Events.{IsReached, word_of}
use Rattle.hp_machine.specs.declared.call.Call.{Call}
use Rattle.hp_machine.specs.declared.outcome.Outcome.TheVariants.{Blocked}
use Rattle.hp_machine.specs.declared.phase.Phase.{Phase}
use Rattle.hp_laws.proofs.Meets.{caller_there}
use Rattle.hp_laws.proofs.Reading.{step_cases}
use Rattle.hp_core.specs.Readers.{config_of, phase_of}
use Rattle.hp_core.specs.Runs.{IsOfConfig, Row}
use Rattle.hp_core.specs.State.{CoreState, as_state}
use Rattle.hp_core.specs.Waiting.{WaitsFor}

called : (o : Option Call) (p : Phase) → option_map word_of o ≡ Some p → (c : Call) × (o ≡ Some c)
called None p e = let bad : ⊥ = cc in absurd bad
called (Some c) p e = (c, refl)

-- a task with a call in flight is there
there : (s : CoreState) (t : ℕ) (c : Call) → IsReached (as_state s) → IsOfConfig s → (as_state s).calls t ≡ Some c
    → (1 ≤ t) × (t ≤ (config_of s).tasks)
unfolding config_of
there s t c reached sized e =
    let at = caller_there (as_state s) t c reached e in
    let tasks : (as_state s).geometry.tasks ≡ s.sizes.tasks = ap (λ (g : Geometry). g.tasks) sized.0 in
    (at.0, omega (arith, at.1, tasks))

-- so is one whose call stands in a phase
pub stands_there : (s : CoreState) (t : ℕ) (p : Phase) → IsReached (as_state s) → IsOfConfig s → phase_of s t ≡ Some p
    → (1 ≤ t) × (t ≤ (config_of s).tasks)
unfolding phase_of
stands_there s t p reached sized e =
    let c = called ((as_state s).calls t) p e in
    there s t c.0 reached sized c.1

-- and one that waits for somebody
pub waits_there : (s : CoreState) (t h : ℕ) → IsReached (as_state s) → IsOfConfig s → WaitsFor s t (Some h)
    → (1 ≤ t) × (t ≤ (config_of s).tasks)
unfolding WaitsFor Row
waits_there s t h reached sized waits =
    step_cases (as_state s) t true (Blocked h) (as_state s) ((1 ≤ t) × (t ≤ (config_of s).tasks)) (waits true).0
    (λ why e d. let bad : ⊥ = cc in absurd bad)
    (λ c lives e pool next r d. there s t c reached sized e)

-- the holder that a reader names
pub named : (s : CoreState) (t : ℕ) (o : Option ℕ) (some : Bool) → some ≡ is_some o → WaitsFor s t o
    → (IsTrue some ↔ ((h : ℕ) × WaitsFor s t (Some h)))
unfolding WaitsFor
named s t None some is waits = (λ h. let bad : ⊥ = cc in absurd bad, λ held. absurd (waits true held.0 s (held.1 true)))
named s t (Some h) some is waits = (λ yes. (h, waits), λ held. is)
