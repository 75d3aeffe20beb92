-- none of so many tasks may go first
use Rattle.std.proofs.Common.{ℕ, ◌≤◌}
use Rattle.hp_every.specs.Eager.{MayGoFirst}
use Rattle.hp_search.specs.Searching.{place_of}
use Rattle.hp_search.proofs.position.Position.eager_task.Given as goal

abbrev pub invariant-loop-place : goal.invariant-loop-place
invariant-loop-place l = (u : ℕ) → u ≤ l.place → MayGoFirst l.plan (place_of l.self) u → ⊥
