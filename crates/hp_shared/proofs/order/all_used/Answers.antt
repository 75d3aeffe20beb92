use Rattle.std.proofs.Common.{arith, map}
use Rattle.std.proofs.lemmas.List.{length-map}
use Rattle.hp_shared.proofs.Lists.{length-unused}
use Rattle.hp_shared.proofs.order.all_used.Goals as goal

pub returns : goal.returns
returns g c i below =
    c.loop-i.invariant i (omega (
      arith,
      below,
      length-unused (map g.S.Listed.listed c.args.lists.now) c.args.used.now,
      length-map c.args.lists.now g.S.Listed.listed,
    ))
