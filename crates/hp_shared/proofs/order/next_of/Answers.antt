use Rattle.std.proofs.Common.{arith, map}
use Rattle.std.proofs.lemmas.List.{length-map}
use Rattle.hp_shared.specs.Unused.{unused}
use Rattle.hp_shared.proofs.Lists.{length-unused, next_found}
use Rattle.hp_shared.proofs.order.next_of.Goals as goal

pub returns : goal.returns
returns g c =
    let ls = map g.S.Listed.listed c.args.lists.now in
    next_found (unused ls c.args.used.now) c.args.entry.now c.loop-i.i c.loop-i.found
    (omega (arith, length-unused ls c.args.used.now, length-map c.args.lists.now g.S.Listed.listed)) c.loop-i.invariant
