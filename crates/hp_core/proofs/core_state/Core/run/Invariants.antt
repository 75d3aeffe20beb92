use Rattle.std.specs.Prelude.{◌≤◌, length, take, vec_capacity}
use Rattle.hp_core.specs.Runs.{Run, Headline}
use Rattle.hp_core.proofs.core_state.Core.run.Given as goal

abbrev pub invariant-loop-event : goal.invariant-loop-event
invariant-loop-event l = record {
  ran : Run l.fn.self (take l.event-index l.events) l.outcomes.items l.self;
  capacity : length l.events ≤ vec_capacity l.outcomes;
  head : Headline l.self;
}
