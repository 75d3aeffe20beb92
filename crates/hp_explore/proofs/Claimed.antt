-- What a run's line is, told at once and in parts.
use Rattle.std.specs.Prelude.{Result, Ok, Err, IfOk}
use Rattle.std.proofs.Common.{ℕ}
use Rattle.hp_explore.specs.declared.claims.RunRange.{RunRange}
use Rattle.hp_explore.specs.declared.line.RunLine.{RunLine}
use Rattle.hp_explore.specs.Explored.{EndsWell, IsLine}
use Rattle.hp_explore.specs.Claims.{IsLineOf}

pub line_of_both : {E : Type 0} (runs : RunRange) (run : ℕ) (r : Result RunLine E)
    → IfOk r (λ line. IsLine runs.script.now runs.seed runs.plan.now.deny runs.plan.now.kill run line)
    → IfOk r (λ line. EndsWell line.finish) → IfOk r (λ line. IsLineOf runs run line)
unfolding IsLineOf
line_of_both runs run (Ok line) is ends = (is, ends)
line_of_both runs run (Err e) is ends = tt

pub both_of_line : (runs : RunRange) (run : ℕ) (line : RunLine) → IsLineOf runs run line
    → IsLine runs.script.now runs.seed runs.plan.now.deny runs.plan.now.kill run line × EndsWell line.finish
unfolding IsLineOf
both_of_line runs run line h = h
