-- A mapping whose virtual pages aren't translated, as the space has it and as the machine sees it.
use Rattle.std.proofs.Common.{◌≡◌, ℕ, ◌-◌, ◌≤◌, List, length, get_or, sym, ◌∙◌, ap, subst, arith}
use Rattle.std.specs.Prelude.{true, false, ◌==◌, IsTrue, None}
use Rattle.std.specs.FinMap.{get}
use Rattle.std.proofs.lemmas.Bool.{ne_eqb}
use Rattle.std.proofs.lemmas.List.{get_or_default}
use Rattle.hp_base.specs.Mappings.{in_mapping}
use Rattle.hp_table.specs.Table.{Table}
use Rattle.hp_parts.specs.View.{no_table, table_of, mappings_by_task, entries_of}

table_read : (xs : List Table) (n t : ℕ) (d : Table) → 1 ≤ t → t ≤ length xs → n ≡ t - 1 → d ≡ get_or xs n d → d ≡ table_of xs t
table_read xs n t d low high e is =
    let q : (t == 0) ≡ false = ne_eqb t 0 (λ z. omega (arith, z, low)) in
    rw q (is ∙ (get_or_default xs n d no_table (omega (arith, low, high, e)) ∙ ap (λ (k : ℕ). get_or xs k no_table) e))

pub still_cleared : (xs : List Table) (n t base : ℕ) (d : Table) → 1 ≤ t → t ≤ length xs → n ≡ t - 1 → d ≡ get_or xs n d
    → ((v : ℕ) → in_mapping (mappings_by_task xs t) base v ≡ true → entries_of xs t v ≡ None) → (v : ℕ)
    → IsTrue (in_mapping d.mappings base v) → get d.entries v ≡ None
unfolding mappings_by_task entries_of
still_cleared xs n t base d low high e is bare v within =
    subst (λ (y : Table). in_mapping y.mappings base v ≡ true → get y.entries v ≡ None)
    (sym (table_read xs n t d low high e is)) (bare v) within
