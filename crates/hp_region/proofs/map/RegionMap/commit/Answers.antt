use Rattle.std.proofs.Common.{◌≡◌, ◌∙◌, ℕ, Bool, List, ap, sym, arith}
use Rattle.std.proofs.lemmas.Grind.{common_steps}
use Rattle.hp_base.specs.Indices.{missing, add_range}
use Rattle.hp_base.specs.declared.limits.TheConstants.{LIMIT}
use Rattle.hp_base.proofs.Counting.{count_below_le, missing_le, count_below-added}
use Rattle.hp_region.specs.declared.region.Region.{Region}
use Rattle.hp_region.specs.Regions.{is_member}
use Rattle.hp_region.proofs.map.RegionMap.commit.Goals as goal

-- what was added, of the regions that the map holds
added_is : (added from to : ℕ) (rs seen : List Region) → added ≡ missing (is_member seen) from to → seen ≡ rs
    → added ≡ missing (is_member rs) from to
added_is added from to rs seen counted same = counted ∙ ap (λ (xs : List Region). missing (is_member xs) from to) same

pub overflow_add-self : goal.overflow_add-self
overflow_add-self c =
    let set = is_member c.self.inside.regions.items in
    let few = missing_le set c.change.inside.from c.change.inside.to in
    let added = added_is c.missing-added.result c.change.inside.from c.change.inside.to c.self.inside.regions.items
    c.deref.result.now c.missing-added.ensures c.deref.ensures.value in
    omega (arith, added, few, c.self.invariant.counted, count_below_le set LIMIT, c.change.invariant.in_limit)

pub invariant_of-self : goal.invariant_of-self
invariant_of-self c =
    let rs = c.self.inside.regions.items in
    let from = c.change.inside.from in
    let to = c.change.inside.to in
    let added = added_is c.missing-added.result from to rs c.deref.result.now c.missing-added.ensures c.deref.ensures.value in
    record {
      apart = c.add-alone.ensures.apart;
      marked = c.add_range.ensures ∙ ap (λ (set : ℕ → Bool). add_range set from to) c.self.invariant.marked ∙ sym c.add-alone.ensures.members;
      counted = rw c.add-alone.ensures.members
          (omega (arith, added, c.self.invariant.counted, count_below-added (is_member rs) from to LIMIT c.change.invariant.in_limit));
      covered = grind (arith, common_steps);
      capacity = grind (arith, common_steps);
    }

pub returns-clause-added : goal.returns-clause-added
returns-clause-added c =
    rw (← c.change.view_is, ← c.self.view_is)
    (added_is c.missing-added.result c.change.inside.from c.change.inside.to c.self.inside.regions.items c.deref.result.now
    c.missing-added.ensures c.deref.ensures.value)

pub returns-clause-members : goal.returns-clause-members
returns-clause-members c = rw (← c.change.view_is, ← c.self.view_is) c.add-alone.ensures.members
