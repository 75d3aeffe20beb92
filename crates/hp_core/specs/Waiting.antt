-- Whom the next step of a task would be blocked by.
use Rattle.std.specs.Prelude.{◌≡◌, ℕ, Bool, Option, Some, None, IsSome}
use Rattle.hp_base.specs.declared.event.Event.TheVariants.{Step}
use Rattle.hp_machine.specs.declared.outcome.Outcome.TheVariants.{Blocked}
use Rattle.hp_core.specs.State.{CoreState}
use Rattle.hp_core.specs.Readers.{phase_of}
use Rattle.hp_core.specs.Runs.{Row}
use Rattle.hp_core.specs.declared.waiting.Readiness.{Readiness}
use Rattle.hp_core.specs.declared.waiting.Readiness.TheVariants.{Idle, Free, HeldUp}

-- Each step of the task, granted or denied, is blocked by that holder; or none is blocked by anyone.
unfoldable pub WaitsFor : CoreState → (task : ℕ) → Option ℕ → Type 0
WaitsFor s t (Some holder) = (grant : Bool) → Row s (Step t grant) (Blocked holder) s
WaitsFor s t None = (grant : Bool) (holder : ℕ) (new : CoreState) → Row s (Step t grant) (Blocked holder) new → ⊥

-- the task has no call in flight; or it has one, and waits for nobody, or for that holder
abbrev pub IsReady : CoreState → (task : ℕ) → Readiness → Type 0
IsReady s t Idle = phase_of s t ≡ None
IsReady s t Free = IsSome (phase_of s t) × WaitsFor s t None
IsReady s t (HeldUp holder) = IsSome (phase_of s t) × WaitsFor s t (Some holder)
