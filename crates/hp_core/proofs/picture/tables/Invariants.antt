use Rattle.std.specs.Prelude.{◌≡◌}
use Rattle.hp_core.specs.Copies.{all_translations}
use Rattle.hp_core.proofs.picture.tables.Given as goal

abbrev pub invariant-loop-place : goal.invariant-loop-place
invariant-loop-place l = l.tables.items ≡ all_translations l.spaces l.place
