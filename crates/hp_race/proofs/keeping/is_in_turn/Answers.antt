use Rattle.std.proofs.Common.{sym, ◌∙◌}
use Rattle.hp_race.proofs.Kept.{in_turn_ends, in_turn_on, in_turn_stops}
use Rattle.hp_race.proofs.keeping.is_in_turn.Goals as goal

pub loop-entry-preserved : goal.loop-entry-preserved
loop-entry-preserved c =
    let at = c.loop-entry in
    in_turn_on _ c.args.tasks.now at.tasks c.args.entries.now at.entry-index c.entry-item.result c.note_event.new.tasks
    c.loop-entry-test.true
    c.entry-item.is at.invariant (sym c.may_come.ensures ∙ c.if-not-may_come.false) c.note_event.ensures

pub returns : goal.returns
returns c =
    let at = c.loop-entry in
    in_turn_ends _ c.args.tasks.now at.tasks c.args.entries.now at.entry-index c.loop-entry-test.false at.invariant

pub returns-then-not-may_come : goal.returns-then-not-may_come
returns-then-not-may_come c =
    let at = c.loop-entry in
    in_turn_stops _ c.args.tasks.now at.tasks c.args.entries.now at.entry-index c.entry-item.result c.loop-entry-test.true c.entry-item.is
    at.invariant (sym c.may_come.ensures ∙ c.if-not-may_come.true)
