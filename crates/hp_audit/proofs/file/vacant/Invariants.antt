use Rattle.std.proofs.Common.{◌≡◌, ◌≤◌}
use Rattle.hp_base.specs.Indices.{count_below}
use Rattle.hp_audit.specs.Findings.{is_vacant}
use Rattle.hp_audit.proofs.file.vacant.Given as goal

abbrev pub invariant-loop-number : goal.invariant-loop-number
invariant-loop-number l = (l.vacant ≡ count_below (is_vacant l.file) l.number) × (l.vacant ≤ l.number)
