use Rattle.std.proofs.Common.{◌+◌, arith}
use Rattle.std.proofs.lemmas.List.Sums.{prefix_len-le-length}
use Rattle.hp_table.specs.Gaps.{is_below}
use Rattle.hp_table.proofs.GapsOf.{below_more}
use Rattle.hp_table.proofs.gaps.swap.Goals as goal

pub drain-requires-clause-start_le_end : goal.drain-requires-clause-start_le_end
drain-requires-clause-start_le_end c =
    let gs = c.args.gaps.now.items in
    let first = rw c.deref.ensures.value at c.below-at.ensures in
    let last = rw (c.deref-2.ensures.value, c.new.ensures, c.number.ensures) at c.below-past.ensures in
    let more = below_more gs c.args.from (c.args.end + 1) (omega (arith, c.requires.in_order)) in
    omega (arith, first, last, more)

pub drain-requires-clause-in_bounds : goal.drain-requires-clause-in_bounds
drain-requires-clause-in_bounds c =
    let gs = c.args.gaps.now.items in
    let last = rw (c.deref-2.ensures.value, c.new.ensures, c.number.ensures) at c.below-past.ensures in
    omega (arith, last, prefix_len-le-length (is_below (c.args.end + 1)) gs)
