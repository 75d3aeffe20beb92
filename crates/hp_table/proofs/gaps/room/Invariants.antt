use Rattle.std.proofs.Common.{◌≡◌, drop, length}
use Rattle.hp_base.specs.declared.limits.TheConstants.{VPNS}
use Rattle.hp_table.specs.Gaps.{end_of}
use Rattle.hp_table.proofs.GapsOf.{chosen}
use Rattle.hp_table.proofs.gaps.room.Given as goal

abbrev pub invariant-loop-gap : goal.invariant-loop-gap
invariant-loop-gap l =
    chosen VPNS (end_of 0 l.mappings (length l.mappings)) l.len l.gaps
    ≡ chosen VPNS (end_of 0 l.mappings (length l.mappings)) l.len (drop l.gap-index l.gaps)
