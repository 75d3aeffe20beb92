use Rattle.std.proofs.Common.{ℕ, ◌≡◌, ◌+◌, ◌∙◌, Bool, List, ap, sym, arith}
use Rattle.hp_base.specs.Indices.{count_below, count_within, cut_tail}
use Rattle.hp_base.specs.declared.limits.TheConstants.{LIMIT}
use Rattle.hp_base.proofs.Counting.{count_below-cut_tail}
use Rattle.hp_region.specs.declared.region.Region.{Region}
use Rattle.hp_region.specs.Regions.{is_member}
use Rattle.hp_region.proofs.map.RegionMap.remove_tail.Goals as goal

-- what the tail holds, and what is below it
split : (rs seen : List Region) (count removed from end : ℕ) → count ≡ count_below (is_member rs) LIMIT
    → removed ≡ count_within (is_member seen) from end → seen ≡ rs → end ≡ LIMIT
    → count_below (cut_tail (is_member rs) from) LIMIT + removed ≡ count
split rs seen count removed from end counted held same limit =
    let here = held ∙ (ap (λ (xs : List Region). count_within (is_member xs) from end) same
    ∙ ap (count_within (is_member rs) from) limit) in
    omega (arith, here, counted, count_below-cut_tail (is_member rs) from LIMIT)

pub overflow_sub-self : goal.overflow_sub-self
overflow_sub-self c =
    let parts = split c.self.inside.regions.items c.deref.result.now c.self.inside.count c.held-removed.result
    c.args.from c.new.result c.self.invariant.counted c.held-removed.ensures.counted c.deref.ensures.value c.new.ensures in
    omega (arith, parts)

pub invariant_of-self : goal.invariant_of-self
invariant_of-self c =
    let rs = c.self.inside.regions.items in
    let parts = split rs c.deref.result.now c.self.inside.count c.held-removed.result c.args.from c.new.result
    c.self.invariant.counted c.held-removed.ensures.counted c.deref.ensures.value c.new.ensures in
    record {
      apart = c.cut.ensures.apart;
      marked = c.cut_tail.ensures ∙ ap (λ (set : ℕ → Bool). cut_tail set c.args.from) c.self.invariant.marked ∙ sym c.cut.ensures.members;
      counted = rw c.cut.ensures.members (omega (arith, parts));
      covered = c.self.invariant.covered;
      capacity = omega (arith, c.cut.ensures.len, c.cut.ensures.capacity, c.self.invariant.capacity);
    }

pub returns-clause-members : goal.returns-clause-members
returns-clause-members c = rw (← c.self.view_is) c.cut.ensures.members
