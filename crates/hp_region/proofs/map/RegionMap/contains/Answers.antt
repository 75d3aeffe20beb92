use Rattle.std.proofs.Common.{◌≡◌, ℕ, Bool, ap, sym, ◌∙◌}
use Rattle.hp_region.specs.Regions.{is_member}
use Rattle.hp_region.proofs.Sets.{member_below_limit}
use Rattle.hp_region.proofs.map.RegionMap.contains.Goals as goal

-- the bit says whether the regions hold the index
told : (c : goal.After-has) → c.has.result ≡ is_member c.self.inside.regions.items c.args.index
told c = c.has.ensures ∙ ap (λ (set : ℕ → Bool). set c.args.index) c.self.invariant.marked

pub returns-clause-member : goal.returns-clause-member
returns-clause-member c = rw (← c.self.view_is) (told c)

pub returns-clause-in_limit : goal.returns-clause-in_limit
returns-clause-in_limit c there =
    member_below_limit 0 c.self.inside.regions.items c.args.index c.self.invariant.apart (sym (told c) ∙ there)
