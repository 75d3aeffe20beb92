-- What is cut at the first bar are the first alternative and the others.
use Rattle.std.proofs.Common.{◌∙◌, ◌<◌, ℕ, List, ap, length, subst, sym}
use Rattle.std.specs.Prelude.{IfSome, Option}
use Rattle.hp_conditions.proofs.Splitting.{alternatives_cut, cut_at, shorter}
use Rattle.hp_conditions.proofs.pieces.split_alternative.Goals as goal

pub returns-in-Some-clause-more : goal.returns-in-Some-clause-more
returns-in-Some-clause-more c =
    let text = c.args.text.now in
    alternatives_cut text ∙ ap (λ (o : Option (List ℕ × List ℕ)). cut_at text o) (sym c.in-Some.ensures)

pub returns-in-Some-clause-shorter : goal.returns-in-Some-clause-shorter
returns-in-Some-clause-shorter c =
    let text = c.args.text.now in
    subst (λ (o : Option (List ℕ × List ℕ)). IfSome o (λ s. length s.1 < length text)) (sym c.in-Some.ensures) (shorter text)

pub returns-in-None-clause-one : goal.returns-in-None-clause-one
returns-in-None-clause-one c = λ none.
    let text = c.args.text.now in
    alternatives_cut text ∙ ap (λ (o : Option (List ℕ × List ℕ)). cut_at text o) (sym c.in-None.ensures)
