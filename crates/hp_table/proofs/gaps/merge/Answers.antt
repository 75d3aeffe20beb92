use Rattle.std.proofs.Common.{◌≡◌, suc, ◌+◌, ap, ◌∙◌, arith}
use Rattle.std.specs.List.{remove}
use Rattle.hp_base.specs.declared.limits.TheConstants.{VPNS}
use Rattle.hp_table.specs.Gaps.{end_of, listed}
use Rattle.std.proofs.lemmas.List.Edits.{length-remove}
use Rattle.hp_table.proofs.GapsOf.{gaps_rise, gaps_len, end_rises, opened_is}
use Rattle.hp_table.proofs.gaps.merge.Goals as goal

pub swap-requires-clause-rises : goal.swap-requires-clause-rises
swap-requires-clause-rises c = rw c.requires.gaps (gaps_rise VPNS 0 c.args.mappings.now c.requires.spread)

pub swap-requires-clause-in_order : goal.swap-requires-clause-in_order
swap-requires-clause-in_order c =
    let ms = c.args.mappings.now in
    let next : c.args.at + 1 ≡ suc c.args.at = omega arith in
    let last = c.end_of-end.ensures.value ∙ ap (end_of 0 ms) next in
    omega (arith, c.end_of-from.ensures.value, last, end_rises VPNS 0 ms c.args.at c.requires.spread)

pub swap-requires-clause-capacity : goal.swap-requires-clause-capacity
swap-requires-clause-capacity c =
    let whole = opened_is VPNS c.args.mappings.now c.args.at c.end_of-from.result c.end_of-end.result c.args.gaps.now.items
    (listed c.gap_up_to-merged.result) c.requires.in_range c.requires.spread c.requires.gaps c.end_of-from.ensures.value
    c.end_of-end.ensures.value c.gap_up_to-merged.ensures in
    let fewer = length-remove c.args.mappings.now c.args.at c.requires.in_range in
    rw whole (omega (arith, gaps_len 0 (remove c.args.mappings.now c.args.at), c.requires.capacity, fewer))

pub returns-clause-gaps : goal.returns-clause-gaps
returns-clause-gaps c =
    let whole = opened_is VPNS c.args.mappings.now c.args.at c.end_of-from.result c.end_of-end.result c.args.gaps.now.items
    (listed c.gap_up_to-merged.result) c.requires.in_range c.requires.spread c.requires.gaps c.end_of-from.ensures.value
    c.end_of-end.ensures.value c.gap_up_to-merged.ensures in
    c.swap.ensures.items ∙ whole
