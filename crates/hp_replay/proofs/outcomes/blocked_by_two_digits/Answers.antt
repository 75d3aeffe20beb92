use Rattle.std.proofs.Common.{ℕ, ◌++◌, ◌∷◌, [], sym, ap, List}
use Rattle.std.specs.Prelude.{codes}
use Rattle.hp_replay.proofs.BlockedLines.{two_digits}
use Rattle.hp_replay.proofs.outcomes.blocked_by_two_digits.Goals as goal

pub returns : goal.returns
returns c =
    rw (c.number.ensures, c.number-2.ensures) (ap (λ (digits : List ℕ). codes "blocked " ++ (digits ++ 10 ∷ []))
    (sym (two_digits c.args.task c.requires.two c.requires.few)))
