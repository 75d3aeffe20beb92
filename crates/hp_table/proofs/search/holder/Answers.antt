use Rattle.std.proofs.Common.{ℕ, suc, ◌≡◌, ◌≤◌, ◌<◌, ◌-◌, List, length, get_or, sym, ◌∙◌, arith}
use Rattle.std.specs.Prelude.{nat_lt}
use Rattle.std.specs.List.{prefix_len}
use Rattle.std.proofs.lemmas.Bool.{leb-true}
use Rattle.std.proofs.lemmas.Bool.Decides.{nat_tests}
use Rattle.std.proofs.lemmas.List.Sums.{prefix_len-le-length, prefix_len_passes}
use Rattle.hp_base.specs.declared.limits.TheConstants.{VPNS}
use Rattle.hp_base.specs.declared.mapping.Mapping.{Mapping}
use Rattle.hp_base.specs.Mappings.{covers}
use Rattle.hp_table.proofs.Spread.{then_some-cond, begins, holder_absent, holder_last}
use Rattle.hp_table.proofs.search.holder.Goals as goal

pub returns-in_err-last : goal.returns-in_err-last
returns-in_err-last c =
    let ms = c.args.mappings.now in
    let none : prefix_len (begins c.args.vpn) ms ≡ 0 = omega (arith, c.begun.ensures, c.in_err-last.ensures {u = tt}) in
    c.from_residual.ensures ∙ sym (holder_absent VPNS 0 ms c.args.vpn c.requires none)

within : (c : goal.In_ok-last) → c.in_ok-last.last < length c.args.mappings.now
within c =
    let found = c.in_ok-last.ensures {u = tt} in
    omega (arith, found, c.begun.ensures, prefix_len-le-length (begins c.args.vpn) c.args.mappings.now)

pub offset_bounds-mappings-last : goal.offset_bounds-mappings-last
offset_bounds-mappings-last c = omega (arith, within c)

pub bounds-mappings-last : goal.bounds-mappings-last
bounds-mappings-last c = within c

-- the last one that begins at or below the page begins there
begun_there : (ms : List Mapping) (v last begun : ℕ) (m : Mapping) → begun ≡ prefix_len (begins v) ms → last < begun
    → m ≡ get_or ms last m → m.base ≤ v
begun_there ms v last begun m counted before is =
    let passes = prefix_len_passes (begins v) ms last m (omega arith) in
    leb-true m.base v (rw is passes)

pub overflow_sub-number : goal.overflow_sub-number
overflow_sub-number c =
    let found = c.in_ok-last.ensures {u = tt} in
    let there = begun_there c.args.mappings.now c.args.vpn c.in_ok-last.last c.begun.result
    c.index-mappings-last.result c.begun.ensures (omega (arith, found)) c.index-mappings-last.is in
    omega (arith, there, c.number.ensures, c.number-2.ensures)

offset_test : (m : Mapping) (v : ℕ) → m.base ≤ v → nat_lt (v - m.base) m.len ≡ covers m v
offset_test m v below = grind (arith, nat_tests)

pub returns : goal.returns
returns c =
    let found = c.in_ok-last.ensures {u = tt} in
    let ms = c.args.mappings.now in
    let m = c.index-mappings-last.result in
    let there = begun_there ms c.args.vpn c.in_ok-last.last c.begun.result m c.begun.ensures (omega (arith, found))
    c.index-mappings-last.is in
    let begun : prefix_len (begins c.args.vpn) ms ≡ suc c.in_ok-last.last = omega (arith, found, c.begun.ensures) in
    let last = rw (← c.index-mappings-last.is) at (holder_last VPNS 0 ms c.args.vpn c.in_ok-last.last m c.requires begun) in
    c.then_some.ensures ∙ (then_some-cond _ m ∙ rw (c.number.ensures, c.number-2.ensures, offset_test m c.args.vpn there) (sym last))
