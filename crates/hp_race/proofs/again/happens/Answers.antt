use Rattle.std.proofs.Common.{[], refl}
use Rattle.hp_shared.proofs.Runs.{follows_none}
use Rattle.hp_race.proofs.Parting.{happens_on}
use Rattle.hp_race.proofs.again.happens.Goals as goal

pub loop-entry-init : goal.loop-entry-init
loop-entry-init c = follows_none c.args.core.now [] refl

pub loop-entry-preserved : goal.loop-entry-preserved
loop-entry-preserved c =
    happens_on c.args.core.now c.loop-entry.core c.step.new.self c.args.entries.now c.loop-entry.entry-index c.entry-item.result
    c.in_ok-outcome.outcome c.loop-entry-test.true c.entry-item.is c.loop-entry.invariant c.in_ok-outcome.ensures.row
    (c.has_outcome.ensures c.if-not-has_outcome.false)
