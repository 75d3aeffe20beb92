use Rattle.std.proofs.Common.{ℕ, IsSome, sym, ap, ◌∙◌, arith}
use Rattle.std.specs.FinMap as map
use Rattle.std.specs.Ordering.{nat_cmp}
use Rattle.std.specs.Prelude.{is_some}
use Rattle.hp_base.specs.Mappings.{find}
use Rattle.hp_base.specs.declared.limits.TheConstants.{VPNS}
use Rattle.hp_table.specs.Table.{Table}
use Rattle.hp_table.proofs.Agreeing.{agree_less, stands_there}
use Rattle.hp_table.proofs.Clearing.{get_removed, kept_less}
use Rattle.hp_table.proofs.Mapped.{in_space}
use Rattle.hp_table.proofs.space.Space.clear.Goals as goal

pub take-requires : goal.take-requires
take-requires c =
    let ms = c.self.inside.mappings.items in
    let entries = map.get c.self.inside.entries.frames in
    let at = ap (λ (t : Table). find t.mappings c.args.vpn) c.self.view_is ∙ sym c.find.ensures.found ∙ c.unwrap-file.ensures in
    let there : IsSome (entries c.args.vpn) = ap (λ (t : Table). is_some (map.get t.entries c.args.vpn)) c.self.view_is ∙ c.requires in
    let within = in_space VPNS 0 ms c.args.vpn c.self.invariant.spread (c.self.invariant.mapped c.args.vpn there) in
    stands_there (find ms) entries c.self.inside.places c.self.invariant.agree c.unwrap-file.result.0 c.unwrap-file.result.1 c.args.vpn
    at (omega (arith, within)) ∙ there

pub invariant_of-self : goal.invariant_of-self
invariant_of-self c =
    let ms = c.self.inside.mappings.items in
    let entries = map.get c.self.inside.entries.frames in
    let at = ap (λ (t : Table). find t.mappings c.args.vpn) c.self.view_is ∙ sym c.find.ensures.found ∙ c.unwrap-file.ensures in
    let went = λ (v : ℕ). ap (λ (m : map.FinMap nat_cmp ℕ). map.get m v) (rw c.number.ensures at c.remove.ensures.frames)
    ∙ get_removed c.self.inside.entries.frames c.args.vpn v in
    record {
      spread = c.self.invariant.spread;
      in_files = c.self.invariant.in_files;
      mapped = kept_less (λ v. IsSome (find ms v)) entries (map.get c.remove.new.self.frames) c.args.vpn went c.self.invariant.mapped;
      agree =
          agree_less (find ms) entries c.self.inside.places c.self.invariant.agree c.unwrap-file.result.0
          c.unwrap-file.result.1 c.args.vpn at (map.get c.remove.new.self.frames) c.take.new.places went c.take.ensures.rest;
      gaps = c.self.invariant.gaps;
      places = c.self.invariant.places;
      capacity = c.self.invariant.capacity;
    }
