use Rattle.std.proofs.Common.{◌≡◌, ◌++◌, drop}
use Rattle.hp_objects.specs.Objects.{without_colon}
use Rattle.hp_objects.proofs.objects.without_colon.Given as goal

-- what was taken and what is to come are the whole word
abbrev pub invariant-loop-byte : goal.invariant-loop-byte
invariant-loop-byte l = (l.rest.items ++ without_colon (drop l.byte-index l.word) ≡ without_colon l.fn.word)
