use Rattle.std.proofs.Common.{ℕ, Option, List, ap, sym, ◌∙◌}
use Rattle.hp_base.specs.Mappings.{in_mapping}
use Rattle.hp_base.specs.declared.mapping.Mapping.{Mapping}
use Rattle.hp_table.proofs.Bases.{without_mapping-bare}
use Rattle.hp_part_tests.proofs.table.unmap.Goals as goal

pub drop_mapping-requires : goal.drop_mapping-requires
drop_mapping-requires c = record {
  bare = λ v lies.
      let ms = c.args.space.now.mappings in
      let same = c.new.ensures ∙ sym c.new-2.ensures in
      let there = ap (λ (base : ℕ). in_mapping ms base v) same
      ∙ (ap (λ (ms : List Mapping). in_mapping ms c.new-2.result v) (sym c.clear_mapping.ensures.mappings) ∙ lies) in
      ap (λ (f : ℕ → Option ℕ). f v) c.clear_mapping.ensures.entries ∙ without_mapping-bare ms _ c.new.result v there;
}
