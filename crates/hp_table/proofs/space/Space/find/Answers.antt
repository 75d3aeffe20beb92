use Rattle.std.proofs.Common.{◌≡◌, ℕ, ◌+◌, ◌-◌, ◌<◌, ◌≤◌, true, List, Some, sym, ◌∙◌, arith}
use Rattle.std.specs.Prelude.{All}
use Rattle.std.specs.List as list
use Rattle.std.proofs.lemmas.Bool.Decides.{nat_tests}
use Rattle.hp_base.specs.declared.limits.TheConstants.{LIMIT}
use Rattle.hp_base.specs.declared.mapping.Mapping.{Mapping}
use Rattle.hp_base.specs.Mappings.{covers}
use Rattle.hp_table.proofs.Spread.{find_is, holder_is}
use Rattle.hp_table.proofs.space.Space.find.Goals as goal

pub returns-in_err-mapping-clause-found : goal.returns-in_err-mapping-clause-found
returns-in_err-mapping-clause-found c =
    rw (← c.self.view_is, ← c.deref.ensures.value)
    (c.from_residual.ensures ∙ sym (find_is c.deref.result.now c.args.vpn _ (c.in_err-mapping.ensures {u = tt})))

within : (m : Mapping) (v : ℕ) → covers m v ≡ true → (m.base ≤ v) × (v < m.base + m.len)
within m v e = (grind (arith, nat_tests), grind (arith, nat_tests))

-- the mapping that was found has the page, and ends within its file
found : (ms seen : List Mapping) (v : ℕ) (m : Mapping) → seen ≡ ms → All (λ m. m.from + m.len ≤ LIMIT) ms
    → Some m ≡ list.find (λ m. covers m v) seen → (m.base ≤ v) × (m.from + (v - m.base) < LIMIT)
found ms seen v m same ends is =
    let both = holder_is (λ m. m.from + m.len ≤ LIMIT) seen v m (rw same ends) (sym is) in
    let inside = within m v both.0 in
    (inside.0, omega (arith, inside, both.1))

pub overflow_sub-index : goal.overflow_sub-index
overflow_sub-index c =
    let there = found c.self.inside.mappings.items c.deref.result.now c.args.vpn c.in_ok-mapping.mapping
    c.deref.ensures.value c.self.invariant.in_files (c.in_ok-mapping.ensures {u = tt}) in
    omega (arith, there, c.number-2.ensures, c.number-3.ensures)

pub overflow_add-index : goal.overflow_add-index
overflow_add-index c =
    let there = found c.self.inside.mappings.items c.deref.result.now c.args.vpn c.in_ok-mapping.mapping
    c.deref.ensures.value c.self.invariant.in_files (c.in_ok-mapping.ensures {u = tt}) in
    omega (arith, there, c.number.ensures, c.number-2.ensures, c.number-3.ensures)

pub returns-clause-found : goal.returns-clause-found
returns-clause-found c =
    let place = find_is c.deref.result.now c.args.vpn (Some c.in_ok-mapping.mapping) (c.in_ok-mapping.ensures {u = tt}) in
    rw (← c.self.view_is, ← c.deref.ensures.value, c.new.ensures, c.number.ensures, c.number-2.ensures, c.number-3.ensures) (sym place)

pub returns-clause-in_file : goal.returns-clause-in_file
returns-clause-in_file c =
    let there = found c.self.inside.mappings.items c.deref.result.now c.args.vpn c.in_ok-mapping.mapping
    c.deref.ensures.value c.self.invariant.in_files (c.in_ok-mapping.ensures {u = tt}) in
    omega (arith, there, c.new.ensures, c.number.ensures, c.number-2.ensures, c.number-3.ensures)
