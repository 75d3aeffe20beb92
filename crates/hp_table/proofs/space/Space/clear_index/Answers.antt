use Rattle.std.proofs.Common.{ℕ, sym, ap, ◌∙◌, arith}
use Rattle.std.proofs.Math.Path.{fun_ext}
use Rattle.std.specs.FinMap as map
use Rattle.std.specs.Ordering.{nat_cmp}
use Rattle.hp_table.proofs.Memory.{no_more_since}
use Rattle.hp_table.proofs.Clearing.{get_removed, fewer_removed, without_there, without_none}
use Rattle.hp_table.proofs.space.Space.clear_index.Goals as goal

pub loop-vpn-smaller : goal.loop-vpn-smaller
loop-vpn-smaller c =
    omega (
      arith,
      ap (λ (m : map.FinMap nat_cmp ℕ). map.len m) c.clear.ensures.entries,
      fewer_removed c.loop-vpn.self.entries c.in-Some.vpn c.in-Some.ensures.found.0,
    )

pub loop-vpn-preserved : goal.loop-vpn-preserved
loop-vpn-preserved c =
    let i = c.loop-vpn.invariant in
    record {
      mappings = c.clear.ensures.mappings ∙ i.mappings;
      left = λ v.
          i.left v ∙ without_there c.args.self.now.mappings (map.get c.loop-vpn.self.entries) (map.get c.clear.new.self.entries)
          c.args.file c.args.index c.in-Some.vpn (rw i.mappings at c.in-Some.ensures.found.1)
          (λ u. ap (λ (m : map.FinMap nat_cmp ℕ). map.get m u) c.clear.ensures.entries
          ∙ get_removed c.loop-vpn.self.entries c.in-Some.vpn u) v;
      ready = c.clear.ensures.ready ∙ i.ready;
      capacity = no_more_since _ _ _ c.clear.ensures.capacity i.capacity;
    }

pub returns-clause-entries : goal.returns-clause-entries
returns-clause-entries c =
    let i = c.loop-vpn.invariant in
    sym (fun_ext (λ v. i.left v ∙ without_none c.args.self.now.mappings (map.get c.loop-vpn.self.entries) c.args.file c.args.index
    (rw i.mappings at c.in_default.ensures.none) v))
