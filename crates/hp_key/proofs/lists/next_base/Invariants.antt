use Rattle.std.proofs.Common.{◌≢◌, ◌≤◌, ◌<◌, ℕ, Some}
use Rattle.hp_base.specs.Mappings.{base_of}
use Rattle.hp_key.proofs.lists.next_base.Given as goal

abbrev pub invariant-loop-page : goal.invariant-loop-page
invariant-loop-page l =
    (v : ℕ) → l.from ≤ v → v < l.page → base_of l.space.mappings v ≢ Some v
