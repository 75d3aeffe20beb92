use Rattle.std.proofs.Common.{sym, arith}
use Rattle.std.proofs.lemmas.List.{length-take-le, take_all}
use Rattle.hp_race.proofs.telling.front.Goals as goal

pub slice_bounds-result-end : goal.slice_bounds-result-end
slice_bounds-result-end c = sym (length-take-le _ c.args.entries.now (omega (arith, c.if-entries-le-MOST_EVENTS.false)))

pub returns-then-entries-le-MOST_EVENTS : goal.returns-then-entries-le-MOST_EVENTS
returns-then-entries-le-MOST_EVENTS c = sym (take_all _ c.args.entries.now c.if-entries-le-MOST_EVENTS.true)
