use Rattle.std.proofs.Common.{◌++◌, ◌∷◌, ◌+◌, [], ℕ, List, sym, ap, ◌∙◌, arith}
use Rattle.std.proofs.lemmas.Fmt.{decimal_digit}
use Rattle.hp_text.proofs.Numbers.{decimal_more}
use Rattle.hp_text.proofs.reading.small_at.Goals as goal

pub returns-then-first-eq0-clause-number : goal.returns-then-first-eq0-clause-number
returns-then-first-eq0-clause-number c =
    c.in_ok-first.ensures.digit
    ∙ ap (λ (ds : List ℕ). ds ++ c.in_ok-first.rest.now) (sym (decimal_digit c.in_ok-first.first c.in_ok-first.ensures.small))

pub returns-in-None-clause-number : goal.returns-in-None-clause-number
returns-in-None-clause-number c =
    c.in_ok-first.ensures.digit
    ∙ ap (λ (ds : List ℕ). ds ++ c.in_ok-first.rest.now) (sym (decimal_digit c.in_ok-first.first c.in_ok-first.ensures.small))

pub returns-in-Some-clause-number : goal.returns-in-Some-clause-number
returns-in-Some-clause-number c =
    let first = c.in_ok-first.first in
    let second = c.in-Some.second in
    let few = c.in_ok-first.ensures.small in
    let small = c.in-Some.ensures.small in
    c.in_ok-first.ensures.digit ∙ ap (λ (more : List ℕ). (48 + first) ∷ more) c.in-Some.ensures.digit
    ∙ ap (λ (ds : List ℕ). ds ++ c.in-Some.rest.now)
    (sym (decimal_more first second (omega (arith, c.if-first-eq0.false)) small (omega (arith, few, small))
    ∙ ap (λ (ds : List ℕ). ds ++ (48 + second) ∷ []) (decimal_digit first few)))
