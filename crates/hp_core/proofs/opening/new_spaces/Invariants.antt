use Rattle.std.specs.Prelude.{◌≡◌, All, length}
use Rattle.hp_parts.specs.View.{no_table}
use Rattle.hp_core.proofs.opening.new_spaces.Given as goal

abbrev pub invariant-loop : goal.invariant-loop
invariant-loop l = record {
  long : length l.spaces.items ≡ l.counter;
  fresh : All (λ table. table ≡ no_table) l.spaces.items;
}
