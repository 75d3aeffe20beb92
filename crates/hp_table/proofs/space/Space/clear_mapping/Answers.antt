use Rattle.std.proofs.Common.{◌≡◌, ℕ, ◌+◌, Some, None, subst, ap, ◌∙◌, arith}
use Rattle.std.proofs.Math.Path.{fun_ext}
use Rattle.std.specs.FinMap as map
use Rattle.std.specs.List.{position}
use Rattle.std.specs.Ordering.{nat_cmp}
use Rattle.hp_base.specs.declared.limits.TheConstants.{VPNS}
use Rattle.hp_base.specs.Mappings.{without_mapping}
use Rattle.hp_chunks.specs.Framed.{IsFirstWithin}
use Rattle.hp_table.specs.Table.{Table}
use Rattle.hp_table.proofs.Bases.{begins_at, ends_in_space_at, within_mapping, without_mapping-none}
use Rattle.hp_table.proofs.Memory.{no_more_since}
use Rattle.hp_table.proofs.Clearing.{get_removed, clear_first, clear_all}
use Rattle.hp_table.proofs.space.Space.clear_mapping.Goals as goal

pub returns-in_default-clause-entries : goal.returns-in_default-clause-entries
returns-in_default-clause-entries c =
    let absent = c.in_default.ensures ∙ ap (position (begins_at c.args.base)) c.deref.ensures.value in
    rw (← c.self.view_is) (without_mapping-none c.self.inside.mappings.items c.args.base _ absent)

pub overflow_add-end : goal.overflow_add-end
overflow_add-end c =
    let found = c.in-Some.ensures ∙ ap (position (begins_at c.args.base)) c.deref.ensures.value in
    omega (
      arith,
      c.number.ensures,
      ends_in_space_at VPNS c.self.inside.mappings.items c.args.base c.in-Some.at c.index.result.now
          c.self.invariant.spread found c.index.ensures,
    )

pub first_within-requires : goal.first_within-requires
first_within-requires c =
    let found = c.in-Some.ensures ∙ ap (position (begins_at c.args.base)) c.deref.ensures.value in
    let ends = ends_in_space_at VPNS c.self.inside.mappings.items c.args.base c.in-Some.at c.index.result.now
    c.self.invariant.spread found c.index.ensures in
    (omega arith, omega (arith, c.number.ensures, ends))

pub overflow_add-next : goal.overflow_add-next
overflow_add-next c =
    let found = c.in-Some.ensures ∙ ap (position (begins_at c.args.base)) c.deref.ensures.value in
    omega (
      arith,
      c.number.ensures,
      c.in-Some-first_within.ensures.1,
      ends_in_space_at VPNS c.self.inside.mappings.items c.args.base c.in-Some.at c.index.result.now
          c.self.invariant.spread found c.index.ensures,
    )

pub loop-vpn-preserved : goal.loop-vpn-preserved
loop-vpn-preserved c =
    let first = c.in-Some-first_within.ensures in
    let i = c.loop-vpn.invariant in
    let to = c.number.result + c.index.result.now.len in
    let e : ℕ × ℕ = (c.in-Some-first_within.vpn, c.in-Some-first_within.field-0-1) in
    let next : IsFirstWithin (map.get c.loop-vpn.self.entries) c.loop-vpn.next to (Some e) =
    subst (λ (t : Table). IsFirstWithin (map.get t.entries) c.loop-vpn.next to (Some e)) c.self-in-loop-vpn.view_is first in
    record {
      begun = omega (arith, i.begun, first.0);
      within = omega (arith, first.1);
      mappings = c.clear.ensures.mappings ∙ i.mappings;
      entries =
          clear_first (map.get c.args.self.now.entries) (map.get c.loop-vpn.self.entries) (map.get c.clear.new.self.entries)
          c.args.base c.loop-vpn.next to e i.begun next i.entries
          (λ v. ap (λ (m : map.FinMap nat_cmp ℕ). map.get m v) (rw c.new.ensures at c.clear.ensures.entries)
          ∙ get_removed c.loop-vpn.self.entries c.in-Some-first_within.vpn v);
      ready = c.clear.ensures.ready ∙ i.ready;
      capacity = no_more_since _ _ _ c.clear.ensures.capacity i.capacity;
    }

pub returns-clause-entries : goal.returns-clause-entries
returns-clause-entries c =
    let found = c.in-Some.ensures ∙ ap (position (begins_at c.args.base)) c.deref.ensures.value in
    let i = c.loop-vpn.invariant in
    let to : c.number.result + c.index.result.now.len ≡ c.args.base + c.index.result.now.len = omega (arith, c.number.ensures) in
    let none : IsFirstWithin (map.get c.loop-vpn.self.entries) c.loop-vpn.next (c.args.base + c.index.result.now.len) None =
    rw to at (subst (λ (t : Table). IsFirstWithin (map.get t.entries) c.loop-vpn.next (c.number.result + c.index.result.now.len) None)
    c.self-in-loop-vpn.view_is c.in_default-first_within.ensures) in
    fun_ext (λ v. clear_all (map.get c.args.self.now.entries) (map.get c.loop-vpn.self.entries) c.args.base c.loop-vpn.next
    (c.args.base + c.index.result.now.len) i.begun (omega (arith, i.within, to)) none i.entries v
    ∙ within_mapping c.self.inside.mappings.items c.args.base c.in-Some.at c.index.result.now (map.get c.args.self.now.entries)
    found c.index.ensures v
    ∙ ap (λ (t : Table). without_mapping t.mappings (map.get c.args.self.now.entries) c.args.base v) c.self.view_is)
