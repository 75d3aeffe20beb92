use Rattle.std.proofs.Common.{ℕ, Bool, ap, arith}
use Rattle.hp_region.proofs.Sets.{regions_are}
use Rattle.hp_region.proofs.Canonical.{same_regions}
use Rattle.hp_region.proofs.map.RegionMap.regions.Goals as goal

pub returns-clause-runs : goal.returns-clause-runs
returns-clause-runs c = rw (← c.self.view_is) (omega (arith, c.len.ensures, regions_are c.self.inside.regions.items c.self.invariant.apart))

pub returns-clause-told : goal.returns-clause-told
returns-clause-told c =
    rw (← c.self.view_is)
    (λ other apart same. same_regions 0 other c.self.inside.regions.items apart c.self.invariant.apart
    (λ k. ap (λ (set : ℕ → Bool). set k) same))
