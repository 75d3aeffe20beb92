-- there is a watch for each condition so far, and each knows
use Rattle.std.proofs.Common.{◌≡◌, take, []}
use Rattle.std.specs.Prelude.{All, map}
use Rattle.hp_hunt.specs.Watching.{Knows, of_watch}
use Rattle.hp_hunt.proofs.watching.watch_each.Given as goal

abbrev pub invariant-loop-condition : goal.invariant-loop-condition
invariant-loop-condition l = record {
  of : map of_watch l.watches.items ≡ take l.condition-index l.conditions;
  each : All (λ watch. Knows watch []) l.watches.items;
}
