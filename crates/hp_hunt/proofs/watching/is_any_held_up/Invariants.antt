-- no task so far is held up
use Rattle.std.proofs.Common.{ℕ, ◌≤◌}
use Rattle.std.specs.Prelude.{Some}
use Rattle.hp_core.specs.Waiting.{WaitsFor}
use Rattle.hp_hunt.proofs.watching.is_any_held_up.Given as goal

abbrev pub invariant-loop-place : goal.invariant-loop-place
invariant-loop-place l = (t : ℕ) → 1 ≤ t → t ≤ l.place → ((holder : ℕ) × WaitsFor l.core t (Some holder)) → ⊥
