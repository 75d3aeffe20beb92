use Rattle.std.proofs.Common.{◌≡◌, ◌≤◌, ◌*◌, take}
use Rattle.std.specs.Prelude.{sum_by}
use Rattle.hp_base.specs.declared.limits.TheConstants.{LIMIT}
use Rattle.hp_audit.specs.Findings.{reserved_of}
use Rattle.hp_audit.proofs.check.reserved.Given as goal

abbrev pub invariant-loop-file : goal.invariant-loop-file
invariant-loop-file l = (l.reserved ≡ sum_by reserved_of (take l.file-index l.picture.files.items)) × (l.reserved ≤ LIMIT * l.file-index)
