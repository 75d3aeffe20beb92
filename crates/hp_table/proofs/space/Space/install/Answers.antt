use Rattle.std.proofs.Common.{ℕ, Option, Some, IsSome, ap, sym, ◌∙◌, arith}
use Rattle.std.specs.FinMap as map
use Rattle.std.specs.Ordering.{nat_cmp}
use Rattle.std.specs.Prelude.{is_some}
use Rattle.hp_base.specs.Mappings.{find}
use Rattle.hp_base.specs.declared.limits.TheConstants.{VPNS}
use Rattle.hp_table.proofs.Agreeing.{agree_more, agree_again, stands_there}
use Rattle.hp_table.proofs.Clearing.{get_inserted, kept_with}
use Rattle.hp_table.proofs.Mapped.{in_space}
use Rattle.hp_table.specs.Table.{Table}
use Rattle.hp_table.proofs.space.Space.install.Goals as goal

pub add-requires : goal.add-requires
add-requires c =
    let ms = c.self.inside.mappings.items in
    let mapped : IsSome (find ms c.args.vpn) = ap (λ (t : Table). is_some (find t.mappings c.args.vpn)) c.self.view_is ∙ c.requires.mapped in
    let at = ap (λ (t : Table). find t.mappings c.args.vpn) c.self.view_is ∙ sym c.find.ensures.found ∙ c.unwrap-file.ensures in
    let bare = ap (λ (t : Table). map.get t.entries c.args.vpn) c.self.view_is ∙ c.requires.bare in
    let within = in_space VPNS 0 ms c.args.vpn c.self.invariant.spread mapped in
    stands_there (find ms) (map.get c.self.inside.entries.frames) c.self.inside.places c.self.invariant.agree c.unwrap-file.result.0
    c.unwrap-file.result.1 c.args.vpn at (omega (arith, within)) ∙ ap (λ (o : Option ℕ). is_some o) bare

pub insert-requires : goal.insert-requires
insert-requires c =
    let mapped : IsSome (find c.self.inside.mappings.items c.args.vpn) =
    ap (λ (t : Table). is_some (find t.mappings c.args.vpn)) c.self.view_is ∙ c.requires.mapped in
    let bare = ap (λ (t : Table). map.get t.entries c.args.vpn) c.self.view_is ∙ c.requires.bare in
    let within = in_space VPNS 0 c.self.inside.mappings.items c.args.vpn c.self.invariant.spread mapped in
    (omega arith, (rw c.number.ensures bare, omega (arith, c.number.ensures, within)))

pub invariant_of-self-in-Err : goal.invariant_of-self-in-Err
invariant_of-self-in-Err c =
    let ms = c.self.inside.mappings.items in
    let entries = map.get c.self.inside.entries.frames in
    let at = ap (λ (t : Table). find t.mappings c.args.vpn) c.self.view_is ∙ sym c.find.ensures.found ∙ c.unwrap-file.ensures in
    let bare = ap (λ (t : Table). map.get t.entries c.args.vpn) c.self.view_is ∙ c.requires.bare in
    let same = c.in-Err.ensures.err in
    record {
      spread = c.self.invariant.spread;
      in_files = c.self.invariant.in_files;
      mapped = rw same c.self.invariant.mapped;
      agree =
          rw same (agree_again (find ms) entries c.self.inside.places c.self.invariant.agree c.unwrap-file.result.0
          c.unwrap-file.result.1 c.args.vpn at entries c.take.new.places c.add.new.places bare
          ((c.in_ok-add.ensures {u = tt}).ok) c.take.ensures.rest);
      gaps = c.self.invariant.gaps;
      places = c.self.invariant.places;
      capacity = c.self.invariant.capacity;
    }

pub invariant_of-self-in_default : goal.invariant_of-self-in_default
invariant_of-self-in_default c =
    let ms = c.self.inside.mappings.items in
    let entries = map.get c.self.inside.entries.frames in
    let mapped : IsSome (find ms c.args.vpn) = ap (λ (t : Table). is_some (find t.mappings c.args.vpn)) c.self.view_is ∙ c.requires.mapped in
    let at = ap (λ (t : Table). find t.mappings c.args.vpn) c.self.view_is ∙ sym c.find.ensures.found ∙ c.unwrap-file.ensures in
    let bare = ap (λ (t : Table). map.get t.entries c.args.vpn) c.self.view_is ∙ c.requires.bare in
    let came = λ (v : ℕ). ap (λ (m : map.FinMap nat_cmp ℕ). map.get m v) (rw c.number.ensures at c.in_default.ensures.ok)
    ∙ get_inserted c.self.inside.entries.frames c.args.vpn c.args.frame v in
    record {
      spread = c.self.invariant.spread;
      in_files = c.self.invariant.in_files;
      mapped =
          kept_with (λ v. IsSome (find ms v)) entries (map.get c.insert.new.self.frames) c.args.vpn (Some c.args.frame) came
          mapped c.self.invariant.mapped;
      agree =
          agree_more (find ms) entries c.self.inside.places c.self.invariant.agree c.unwrap-file.result.0
          c.unwrap-file.result.1 c.args.vpn at (map.get c.insert.new.self.frames) c.add.new.places c.args.frame came bare
          ((c.in_ok-add.ensures {u = tt}).ok);
      gaps = c.self.invariant.gaps;
      places = c.self.invariant.places;
      capacity = c.self.invariant.capacity;
    }
