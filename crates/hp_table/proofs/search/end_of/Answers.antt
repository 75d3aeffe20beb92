use Rattle.std.proofs.Common.{◌≡◌, ℕ, suc, ◌+◌, ap, sym, ◌∙◌, arith}
use Rattle.hp_base.specs.declared.limits.TheConstants.{VPNS}
use Rattle.hp_table.specs.Gaps.{end_of}
use Rattle.hp_table.proofs.GapsOf.{end_of_one}
use Rattle.hp_table.proofs.Mapped.{ends_in_space}
use Rattle.hp_table.proofs.search.end_of.Goals as goal

pub overflow_add-number : goal.overflow_add-number
overflow_add-number c =
    let found = c.in-Some.ensures {u = tt} in
    let ends = ends_in_space VPNS 0 c.args.mappings.now c.in-Some.last c.index-mappings-last.result c.requires.spread
    (omega (arith, found, c.requires.in_range)) in
    omega (arith, rw (← c.index-mappings-last.is) at ends, c.number.ensures)

pub returns-clause-value : goal.returns-clause-value
returns-clause-value c =
    let ms = c.args.mappings.now in
    let m = c.index-mappings-last.result in
    let found = c.in-Some.ensures {u = tt} in
    let count : c.args.count ≡ suc c.in-Some.last = omega (arith, found) in
    let one = rw (← c.index-mappings-last.is) at (end_of_one 0 ms c.in-Some.last m (omega (arith, found, c.requires.in_range))) in
    c.new-2.ensures ∙ (ap (λ (b : ℕ). b + m.len) c.number.ensures ∙ sym (ap (end_of 0 ms) count ∙ one))

pub returns-clause-in_space : goal.returns-clause-in_space
returns-clause-in_space c =
    let found = c.in-Some.ensures {u = tt} in
    let ends = ends_in_space VPNS 0 c.args.mappings.now c.in-Some.last c.index-mappings-last.result c.requires.spread
    (omega (arith, found, c.requires.in_range)) in
    omega (arith, rw (← c.index-mappings-last.is) at ends, c.number.ensures, c.new-2.ensures)
