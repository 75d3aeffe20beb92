use Rattle.std.specs.Prelude.{◌≡◌, None, replicate, vec_capacity}
use Rattle.hp_watch.proofs.passing.no_calls.Given as goal

abbrev pub invariant-loop : goal.invariant-loop
invariant-loop l = record {
  idle : l.phases.items ≡ replicate l.counter None;
  room : vec_capacity l.phases ≡ l.tasks;
}
