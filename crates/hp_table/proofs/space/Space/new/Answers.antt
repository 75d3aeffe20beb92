use Rattle.std.proofs.Common.{ℕ, Option, true≢false, refl, sym, ap, ◌∙◌, arith}
use Rattle.std.specs.FinMap as map
use Rattle.std.specs.Prelude.{is_some}
use Rattle.std.specs.Ordering.{nat_cmp}
use Rattle.hp_base.specs.Mappings.{find}
use Rattle.hp_table.proofs.Agreeing.{agree_none}
use Rattle.hp_table.proofs.space.Space.new.Goals as goal

pub invariant_of-result : goal.invariant_of-result
invariant_of-result c = record {
  spread = rw c.new.ensures.items (omega arith);
  in_files = rw c.new.ensures.items (λ k d within. absurd (omega arith));
  mapped = λ v some.
      let none = ap (λ (m : map.FinMap nat_cmp ℕ). map.get m v) c.new-3.ensures.frames ∙ map.get-empty nat_cmp v in
      absurd (true≢false (sym some ∙ ap (λ (o : Option ℕ). is_some o) none));
  agree =
      agree_none (find c.new.result.items) (map.get c.new-3.result.frames) c.new-4.result c.new-4.ensures.empty
      (λ v. ap (λ (m : map.FinMap nat_cmp ℕ). map.get m v) c.new-3.ensures.frames ∙ map.get-empty nat_cmp v);
  gaps = rw (c.new.ensures.items, c.new-2.ensures.items) refl;
  places = omega (arith, c.new.ensures.len, c.new-2.ensures.capacity);
  capacity = λ ready. absurd (true≢false (sym ready));
}
