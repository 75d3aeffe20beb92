use Rattle.std.specs.Prelude.{◌≡◌, All, length}
use Rattle.hp_core.specs.Opening.{IsFresh}
use Rattle.hp_core.proofs.opening.new_files.Given as goal

abbrev pub invariant-loop : goal.invariant-loop
invariant-loop l = record {
  long : length l.files.items ≡ l.counter;
  fresh : All IsFresh l.files.items;
}
