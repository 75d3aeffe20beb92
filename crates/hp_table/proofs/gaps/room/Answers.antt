use Rattle.std.proofs.Common.{◌≡◌, ℕ, ◌≤◌, ◌-◌, drop, length, Some, None, cond, refl, ap, sym, ◌∙◌, arith, drop-cons}
use Rattle.std.specs.Prelude.{nat_le}
use Rattle.std.proofs.lemmas.Bool.{le-leb}
use Rattle.std.proofs.lemmas.List.{drop_all}
use Rattle.hp_base.specs.declared.limits.TheConstants.{VPNS}
use Rattle.hp_table.specs.Gaps.{end_of}
use Rattle.hp_table.proofs.GapsOf.{chosen, gap-chosen, gap-nothing}
use Rattle.hp_table.proofs.Room.{gap, gap-IsRoom}
use Rattle.hp_table.proofs.Spread.{then_some-cond}
use Rattle.hp_table.proofs.gaps.room.Goals as goal

pub returns-then-len-eq0 : goal.returns-then-len-eq0
returns-then-len-eq0 c =
    let ms = c.args.mappings.now in
    let none : c.args.len ≡ 0 = omega (arith, c.if-len-eq0.true) in
    gap-IsRoom VPNS ms c.args.len (Some c.new.result) c.requires.spread
    (ap (λ (n : ℕ). Some n) c.new.ensures ∙ sym (ap (gap VPNS 0 ms) none ∙ gap-nothing VPNS ms))

pub returns-then-len-gap : goal.returns-then-len-gap
returns-then-len-gap c =
    let ms = c.args.mappings.now in
    let gs = c.args.gaps.now in
    let len = c.args.len in
    let i = c.loop-gap.gap-index in
    let g = c.gap-item.result in
    let end = end_of 0 ms (length ms) in
    let some : 1 ≤ len = omega (arith, c.if-len-eq0.false) in
    let split = rw (← c.gap-item.is) at (drop-cons gs i g c.loop-gap-test.true) in
    let here : chosen VPNS end len (drop i gs) ≡ Some g.base = rw split (rw (le-leb len g.len c.if-len-gap.true) refl) in
    let first = gap-chosen VPNS 0 ms len some c.requires.spread ∙ ap (chosen VPNS end len) (sym c.requires.gaps) in
    gap-IsRoom VPNS ms len (Some g.base) c.requires.spread (sym (first ∙ (c.loop-gap.invariant ∙ here)))

pub returns : goal.returns
returns c =
    let ms = c.args.mappings.now in
    let gs = c.args.gaps.now in
    let len = c.args.len in
    let end = end_of 0 ms (length ms) in
    let some : 1 ≤ len = omega (arith, c.if-len-eq0.false) in
    let none = drop_all c.loop-gap.gap-index gs c.loop-gap-test.false in
    let last : chosen VPNS end len gs ≡ cond (nat_le len (VPNS - end)) (Some end) None =
    c.loop-gap.invariant ∙ ap (chosen VPNS end len) none in
    let first = gap-chosen VPNS 0 ms len some c.requires.spread ∙ ap (chosen VPNS end len) (sym c.requires.gaps) in
    gap-IsRoom VPNS ms len c.then_some.result c.requires.spread
    (c.then_some.ensures ∙ (then_some-cond _ c.end_of-end.result
    ∙ rw (c.number.ensures, c.end_of-end.ensures.value) (sym (first ∙ last))))
