use Rattle.std.proofs.Common.{◌≡◌, ◌∙◌, ℕ, Bool, ap, arith}
use Rattle.hp_region.specs.Regions.{is_member}
use Rattle.hp_base.specs.Indices.{count_within}
use Rattle.hp_base.proofs.Counting.{count_within-missing, missing_anti}
use Rattle.hp_region.proofs.map.RegionMap.missing.Goals as goal

-- what is held, of the regions that the caller sees
held_is : (c : goal.After-count) → c.count.result ≡ count_within (is_member c.args.self.now.regions) c.args.from c.args.to
held_is c =
    rw (← c.self.view_is) (c.count.ensures ∙ ap (λ (set : ℕ → Bool). count_within set c.args.from c.args.to) c.self.invariant.marked)

pub overflow_sub-result-2 : goal.overflow_sub-result-2
overflow_sub-result-2 c = omega (arith, held_is c, count_within-missing (is_member c.args.self.now.regions) c.args.from c.args.to)

pub returns : goal.returns
returns c =
    let set = is_member c.args.self.now.regions in
    let whole = count_within-missing set c.args.from c.args.to in
    record {
      counted = omega (arith, held_is c, whole);
      no_more = λ other keeps. omega (arith, held_is c, whole, missing_anti other set c.args.from c.args.to keeps);
    }
