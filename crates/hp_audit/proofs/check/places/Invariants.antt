use Rattle.std.proofs.Common.{◌≡◌, ◌+◌, ◌*◌, ◌-◌, ◌^◌, ◌≤◌, take}
use Rattle.hp_audit.proofs.Counts.{count_in}
use Rattle.hp_audit.proofs.check.places.Given as goal

abbrev pub invariant-loop-file : goal.invariant-loop-file
invariant-loop-file l =
    (l.places ≡ count_in l.picture l.frame (take l.file-index l.picture.files.items))
    × (l.places ≤ (l.file-index + 3) * (2 ^ 64 - 1))
