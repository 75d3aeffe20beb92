use Rattle.std.proofs.Common.{ℕ, ◌++◌, ◌∷◌, [], sym, ap, List}
use Rattle.std.specs.Prelude.{codes}
use Rattle.std.proofs.lemmas.Fmt.{decimal_digit}
use Rattle.hp_replay.proofs.outcomes.blocked_by_digit.Goals as goal

pub returns : goal.returns
returns c =
    rw (c.number.ensures) (ap (λ (digits : List ℕ). codes "blocked " ++ (digits ++ 10 ∷ [])) (sym (decimal_digit c.args.task c.requires)))
