use Rattle.std.proofs.Common.{◌≡◌, length, map, take}
use Rattle.hp_text.specs.Needs.{needs_at, places_from}
use Rattle.hp_text.specs.CountedCalls.{AreCounts, SplitsAt}
use Rattle.hp_text.proofs.needs.task_needs.Given as goal

abbrev pub invariant-loop-call : goal.invariant-loop-call
invariant-loop-call l = record {
  needs : map (λ v. v.items) l.needs.items
      ≡ map (needs_at l.script.calls.items l.script.waits.items l.script.config.tasks) (places_from 0
      (take l.call l.script.calls.items) l.task);
  counts : AreCounts (take l.call l.script.calls.items) l.counts.items;
  long : length l.counts.items ≡ l.script.config.tasks;
  split : SplitsAt l.script.waits.items l.waits l.call;
}
