use Rattle.std.proofs.Common.{ℕ, ◌<◌, ◌≤◌, ◌∙◌, ap, sym, drop, length, get_or, arith, drop-cons}
use Rattle.std.proofs.lemmas.List.{drop_all}
use Rattle.hp_region.proofs.Compared.{lt_false}
use Rattle.hp_region.proofs.Lists.{held_within, overlap_of}
use Rattle.hp_region.proofs.Held.{held_within-count, held_within_le}
use Rattle.hp_region.proofs.Sought.{ended_by-count_by, held_within-sought, held_within_past}
use Rattle.hp_region.proofs.walk.held.Goals as goal

pub loop-at-init : goal.loop-at-init
loop-at-init c =
    let rs = c.args.regions.now in
    let whole = held_within-sought 0 rs c.args.from c.args.to c.requires.apart in
    let place = ap (λ (i : ℕ). held_within (drop i rs) c.args.from c.args.to)
    (c.seek-at.ensures.ended ∙ sym (ended_by-count_by rs c.args.from)) in
    record { in_range = c.seek-at.ensures.in_range; left = omega (arith, whole, place) }

pub overflow_add-held : goal.overflow_add-held
overflow_add-held c =
    let rs = c.args.regions.now in
    let next = ap (λ xs. held_within xs c.args.from c.args.to)
    (drop-cons rs c.loop-at.at c.index-regions-at-in-loop-at.result c.loop-at-test.true) in
    let one = ap (overlap_of c.args.from c.args.to) c.index-regions-at-in-loop-at.is in
    let bound = held_within_le rs c.args.from c.args.to c.requires.apart in
    omega (arith, next, one, bound, c.loop-at.invariant.left, c.overlap-held.ensures)

pub returns-else-lt : goal.returns-else-lt
returns-else-lt c =
    let rs = c.args.regions.now in
    let past : c.loop-at.at < length rs → c.args.to ≤ (get_or rs c.loop-at.at c.index-regions-at.result).from =
    λ within.
    lt_false (get_or rs c.loop-at.at c.index-regions-at.result).from c.args.to (c.if-lt.ensures {u = tt}) in
    let none = held_within_past 0 rs c.loop-at.at c.args.from c.args.to c.index-regions-at.result c.requires.apart past in
    let counted = held_within-count 0 rs c.args.from c.args.to c.requires.apart in
    record { counted = omega (arith, none, counted, c.loop-at.invariant.left) }

pub returns-after-loop-at : goal.returns-after-loop-at
returns-after-loop-at c =
    let rs = c.args.regions.now in
    let none = ap (λ xs. held_within xs c.args.from c.args.to) (drop_all c.loop-at.at rs c.loop-at-test.false) in
    let counted = held_within-count 0 rs c.args.from c.args.to c.requires.apart in
    record { counted = omega (arith, none, counted, c.loop-at.invariant.left) }
