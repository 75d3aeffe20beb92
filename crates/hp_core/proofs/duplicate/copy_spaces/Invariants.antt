use Rattle.std.specs.Prelude.{take}
use Rattle.std.specs.List.{AllZip}
use Rattle.hp_core.specs.Duplicates.{IsSameTable}
use Rattle.hp_core.proofs.duplicate.copy_spaces.Given as goal

abbrev pub invariant-loop-space : goal.invariant-loop-space
invariant-loop-space l = AllZip IsSameTable (take l.space-index l.spaces) l.copies.items
