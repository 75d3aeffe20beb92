use Rattle.std.proofs.Common.{◌≡◌, ◌++◌, ℕ, map, take}
use Rattle.hp_picture_commands.proofs.flattening.add_regions.Given as goal

abbrev pub invariant-loop-from : goal.invariant-loop-from
invariant-loop-from l = l.regions.items ≡ l.fn.regions.items ++ map (λ (r : ℕ × ℕ). (l.number, r.0, r.1)) (take l.from-index l.file.regions.items)
