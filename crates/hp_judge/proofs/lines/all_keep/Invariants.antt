use Rattle.std.proofs.Common.{◌<◌, ℕ}
use Rattle.hp_judge.specs.Lines.{Keeps}
use Rattle.hp_judge.proofs.lines.all_keep.Given as goal

abbrev pub invariant-loop-number : goal.invariant-loop-number
invariant-loop-number l = (n : ℕ) → n < l.number → Keeps l.places l.clause n
