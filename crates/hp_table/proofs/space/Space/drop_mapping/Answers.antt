use Rattle.std.proofs.Common.{Option, true≢false, ℕ, ◌≡◌, ◌+◌, ◌≤◌, None, sym, ap, ◌∙◌, arith}
use Rattle.std.specs.FinMap as map
use Rattle.std.specs.List.{position}
use Rattle.std.specs.Prelude.{IsTrue, IsSome, is_some}
use Rattle.hp_base.proofs.Spaces.{without_spread}
use Rattle.hp_base.specs.Mappings.{find, in_mapping, without}
use Rattle.hp_base.specs.declared.limits.TheConstants.{LIMIT, VPNS}
use Rattle.hp_table.proofs.Bases.{begins_at, without_found, without_absent}
use Rattle.hp_table.proofs.Agreeing.{agree_other}
use Rattle.hp_table.proofs.Mapped.{All-without, found_without, found_other}
use Rattle.hp_table.specs.Table.{Table}
use Rattle.hp_table.proofs.space.Space.drop_mapping.Goals as goal

items : (c : goal.After-remove) → c.remove.new.self.items ≡ without c.self.inside.mappings.items c.args.base
items c =
    let found = c.in-Some.ensures {u = tt} ∙ ap (position (begins_at c.args.base)) c.deref.ensures.value in
    c.remove.ensures.items ∙ sym (without_found c.self.inside.mappings.items c.args.base c.in-Some.at found)

some_or_none : (o : Option ℕ) → IsSome o → o ≡ None → ⊥
some_or_none o some none = true≢false (sym some ∙ ap (λ (o : Option ℕ). is_some o) none)

-- a page with an entry lies in another mapping
bare : (c : goal.After-remove) (v : ℕ) → IsSome (map.get c.self.inside.entries.frames v)
    → IsTrue (in_mapping c.self.inside.mappings.items c.args.base v) → ⊥
bare c v some lies =
    let there = ap (λ (t : Table). in_mapping t.mappings c.args.base v) (sym c.self.view_is) ∙ lies in
    let none = ap (λ (t : Table). map.get t.entries v) c.self.view_is ∙ c.requires.bare v there in
    some_or_none (map.get c.self.inside.entries.frames v) some none

pub invariant_of-self : goal.invariant_of-self
invariant_of-self c =
    let ms = c.self.inside.mappings.items in
    record {
      spread = rw (items c) (without_spread VPNS 0 ms c.args.base c.self.invariant.spread);
      in_files = rw (items c) (All-without (λ m. m.from + m.len ≤ LIMIT) ms c.args.base c.self.invariant.in_files);
      mapped = rw (items c) (λ v some. found_without ms c.args.base v (bare c v some) (c.self.invariant.mapped v some));
      agree =
          rw (items c) (agree_other (find ms) (map.get c.self.inside.entries.frames) c.self.inside.places c.self.invariant.agree
          (find (without ms c.args.base)) (λ v some. found_other ms c.args.base v (bare c v some)));
      gaps = rw (c.remove.ensures.items, ← c.deref-in-Some.ensures.value) c.merge.ensures.gaps;
      places = omega (arith, c.self.invariant.places, c.remove.ensures.len, c.merge.ensures.capacity);
      capacity = λ ready. (
        omega (arith, (c.self.invariant.capacity ready).0, c.remove.ensures.len, c.remove.ensures.capacity),
        omega (arith, (c.self.invariant.capacity ready).1, c.remove.ensures.len, c.merge.ensures.capacity),
      );
    }

pub returns-in-Some-clause-mappings : goal.returns-in-Some-clause-mappings
returns-in-Some-clause-mappings c = rw (← c.self.view_is) (items c)

pub returns-in_default-clause-mappings : goal.returns-in_default-clause-mappings
returns-in_default-clause-mappings c =
    let absent = c.in_default.ensures {u = tt} ∙ ap (position (begins_at c.args.base)) c.deref.ensures.value in
    rw (← c.self.view_is) (sym (without_absent c.self.inside.mappings.items c.args.base absent))
