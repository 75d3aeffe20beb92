use Rattle.std.proofs.Common.{◌≡◌, ◌∷◌, [], ℕ, Bool, List, ap, ◌∙◌, sym, subst, length, length-append, arith}
use Rattle.std.specs.Prelude.{All}
use Rattle.std.specs.Ordering.{nat_cmp}
use Rattle.std.specs.FinMap.{FinMap}
use Rattle.std.proofs.lemmas.List.Elements.{All-push}
use Rattle.hp_base.specs.declared.mapping.Mapping.{Mapping}
use Rattle.hp_table.specs.Table.{SpaceCapacity, Table}
use Rattle.hp_parts.specs.View.{no_table}
use Rattle.hp_core.proofs.opening.new_spaces.Goals as goal

of_fields : List Mapping → FinMap nat_cmp ℕ → Bool → SpaceCapacity → Table
of_fields mappings entries ready capacity = record { mappings = mappings; entries = entries; ready = ready; capacity = capacity }

-- a table is known by its four fields
by_fields : (t u : Table) → t.mappings ≡ u.mappings → t.entries ≡ u.entries → t.ready ≡ u.ready → t.capacity ≡ u.capacity → t ≡ u
unfolding of_fields
by_fields t u mappings entries ready capacity =
    ap (λ (z : List Mapping). of_fields z t.entries t.ready t.capacity) mappings
    ∙ ap (λ (z : FinMap nat_cmp ℕ). of_fields u.mappings z t.ready t.capacity) entries
    ∙ ap (λ (z : Bool). of_fields u.mappings u.entries z t.capacity) ready
    ∙ ap (of_fields u.mappings u.entries u.ready) capacity

pub loop-preserved : goal.loop-preserved
loop-preserved c =
    let was = c.loop.invariant in
    let spaces = c.loop.spaces.items in
    let space = c.new.result in
    let made = c.new.ensures in
    let more = (c.in_ok-push.ensures {u = tt}).items in
    let is = by_fields space no_table made.mappings made.entries made.ready made.capacity in record {
      long = omega (arith, was.long, ap length more, length-append spaces (space ∷ []));
      fresh = subst (λ (l : List Table). All (λ table. table ≡ no_table) l) (sym more)
          (All-push (λ table. table ≡ no_table) spaces space was.fresh is);
    }
