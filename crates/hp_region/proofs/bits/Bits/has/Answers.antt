use Rattle.std.proofs.Common.{◌*◌, ◌≤◌, length, sym, ap, ◌∙◌, arith}
use Rattle.hp_region.specs.Bits.{has_bit}
use Rattle.hp_region.proofs.Words.{none_past, bit_there}
use Rattle.hp_region.proofs.bits.Bits.has.Goals as goal

pub returns-then-index-ge-LIMIT : goal.returns-then-index-ge-LIMIT
returns-then-index-ge-LIMIT c =
    let whole : length c.self.inside.words * 64 ≤ 4096 = omega (arith, c.self.invariant) in
    let past : 4096 ≤ c.args.index = omega (arith, c.if-index-ge-LIMIT.true, c.number-index.ensures) in
    rw (← c.self.view_is) (sym (none_past c.self.inside.words 4096 whole c.args.index past))

pub returns : goal.returns
returns c =
    rw (← c.self.view_is)
    (bit_there c.self.inside.words c.number-index.result ∙ ap (has_bit c.self.inside.words) c.number-index.ensures)
