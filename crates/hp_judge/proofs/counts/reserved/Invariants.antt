use Rattle.std.proofs.Common.{◌≡◌, ◌≤◌, ◌*◌, take}
use Rattle.std.specs.Prelude.{sum_by}
use Rattle.hp_judge.specs.Counts.{size_of}
use Rattle.hp_judge.proofs.counts.reserved.Given as goal

abbrev pub invariant-loop-region : goal.invariant-loop-region
invariant-loop-region l = (l.reserved ≡ sum_by size_of (take l.region-index l.places.regions)) × (l.reserved ≤ 4294967296 * l.region-index)
