use Rattle.std.specs.Prelude.{◌≡◌, ◌≤◌, take, drop, length}
use Rattle.hp_c.specs.Runs.{RanOn}
use Rattle.hp_c.proofs.events.happen_all.Given as goal

abbrev pub invariant-loop-event : goal.invariant-loop-event
invariant-loop-event l = record {
  ran : RanOn l.fn.core (take l.event-index l.events) (take l.event-index l.outcomes) l.core;
  rest : drop l.event-index l.outcomes ≡ drop l.event-index l.fn.outcomes;
  room : length l.outcomes ≡ length l.fn.outcomes;
  below : l.done ≤ length l.outcomes;
  count : l.done ≡ l.event-index;
}
