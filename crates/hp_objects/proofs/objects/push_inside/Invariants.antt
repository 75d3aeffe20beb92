use Rattle.std.proofs.Common.{◌≡◌, ◌++◌, drop}
use Rattle.hp_objects.specs.Objects.{inside}
use Rattle.hp_objects.proofs.objects.push_inside.Given as goal

-- what was appended and what is to come are the whole word
abbrev pub invariant-loop-byte : goal.invariant-loop-byte
invariant-loop-byte l = (l.text.items ++ inside (drop l.byte-index l.word) ≡ l.fn.text.items ++ inside l.fn.word)
