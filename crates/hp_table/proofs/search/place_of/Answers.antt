use Rattle.std.proofs.Common.{◌≡◌, suc, ◌<◌, length, sym, ◌∙◌, arith}
use Rattle.std.specs.List.{prefix_len}
use Rattle.std.proofs.lemmas.List.Sums.{prefix_len-le-length}
use Rattle.hp_base.specs.declared.limits.TheConstants.{VPNS}
use Rattle.hp_table.proofs.Bases.{begins_at, no_place, last_place, position_none, position_there}
use Rattle.hp_table.proofs.Spread.{then_some-cond, begins}
use Rattle.hp_table.proofs.search.place_of.Goals as goal

pub returns-in_err-last : goal.returns-in_err-last
returns-in_err-last c =
    let ms = c.args.mappings.now in
    let none : prefix_len (begins c.args.base) ms ≡ 0 = omega (arith, c.begun.ensures, c.in_err-last.ensures {u = tt}) in
    c.from_residual.ensures ∙ sym (position_none (begins_at c.args.base) ms (no_place VPNS 0 ms c.args.base c.requires none))

within : (c : goal.In_ok-last) → c.in_ok-last.last < length c.args.mappings.now
within c =
    let found = c.in_ok-last.ensures {u = tt} in
    omega (arith, found, c.begun.ensures, prefix_len-le-length (begins c.args.base) c.args.mappings.now)

pub offset_bounds-mappings-last : goal.offset_bounds-mappings-last
offset_bounds-mappings-last c = omega (arith, within c)

pub bounds-mappings-last : goal.bounds-mappings-last
bounds-mappings-last c = within c

pub returns : goal.returns
returns c =
    let ms = c.args.mappings.now in
    let k = c.in_ok-last.last in
    let m = c.index-mappings-last.result in
    let found = c.in_ok-last.ensures {u = tt} in
    let begun : prefix_len (begins c.args.base) ms ≡ suc k = omega (arith, found, c.begun.ensures) in
    let place = last_place VPNS 0 ms c.args.base k m c.requires begun in
    c.then_some.ensures ∙ (then_some-cond _ k
    ∙ rw c.eq.ensures (sym
    (position_there (begins_at c.args.base) ms k _
    (omega (arith, found, c.begun.ensures, prefix_len-le-length (begins c.args.base) ms)) place)))
