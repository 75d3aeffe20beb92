use Rattle.std.proofs.Common.{refl}
use Rattle.hp_text.specs.declared.feed.TraceLine.TheVariants as lines
use Rattle.hp_replay.proofs.Running.{event_ran}
use Rattle.hp_replay.proofs.replaying.run_event.Goals as goal

pub returns-clause-ok : goal.returns-clause-ok
returns-clause-ok c =
    event_ran c.args.core.now c.in-Some.core c.next_outcome.new.core (lines.Event c.args.event) c.args.event
    c.in_ok-outcome-in-Some.outcome _ _ c.push_outcome.result refl c.in-Some.is c.in_ok-outcome-in-Some.ensures.row
    c.push_outcome.ensures.ok
