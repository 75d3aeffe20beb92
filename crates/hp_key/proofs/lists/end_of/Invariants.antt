use Rattle.std.proofs.Common.{◌≡◌, ◌<◌, ℕ, Some}
use Rattle.hp_base.specs.Mappings.{base_of}
use Rattle.hp_key.proofs.lists.end_of.Given as goal

abbrev pub invariant-loop-page : goal.invariant-loop-page
invariant-loop-page l =
    (v : ℕ) → l.base < v → v < l.page → base_of l.space.mappings v ≡ Some l.base
