use Rattle.std.proofs.Common.{sym, arith}
use Rattle.std.proofs.lemmas.List.{length-take-le, take_all}
use Rattle.hp_race.proofs.call_range.front.Goals as goal

pub slice_bounds-result-end : goal.slice_bounds-result-end
slice_bounds-result-end c = sym (length-take-le _ c.args.calls.now (omega (arith, c.if-calls-most.false)))

pub returns-then-calls-most : goal.returns-then-calls-most
returns-then-calls-most c = sym (take_all _ c.args.calls.now c.if-calls-most.true)
