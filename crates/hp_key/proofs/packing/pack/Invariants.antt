-- the bytes of so many words were pushed
use Rattle.std.proofs.Common.{◌≡◌, take}
use Rattle.hp_key.specs.Packed.{packed}
use Rattle.hp_key.proofs.packing.pack.Given as goal

abbrev pub invariant-loop-word : goal.invariant-loop-word
invariant-loop-word l = l.bytes.items ≡ packed (take l.word-index l.words)
