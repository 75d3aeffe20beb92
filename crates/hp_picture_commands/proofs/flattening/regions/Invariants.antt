use Rattle.std.proofs.Common.{◌≡◌, take}
use Rattle.hp_agree.specs.Flat.{numbered}
use Rattle.hp_picture_commands.proofs.flattening.regions.Given as goal

abbrev pub invariant-loop-number : goal.invariant-loop-number
invariant-loop-number l = l.regions.items ≡ numbered (λ file. file.regions.items) 0 (take l.number l.files)
