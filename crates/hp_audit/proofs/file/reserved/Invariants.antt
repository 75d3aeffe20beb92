use Rattle.std.proofs.Common.{◌≡◌, ◌≤◌}
use Rattle.hp_base.specs.Indices.{count_below}
use Rattle.hp_audit.specs.Findings.{is_reserved}
use Rattle.hp_audit.proofs.file.reserved.Given as goal

abbrev pub invariant-loop-number : goal.invariant-loop-number
invariant-loop-number l = (l.reserved ≡ count_below (is_reserved l.file.regions.items) l.number) × (l.reserved ≤ l.number)
