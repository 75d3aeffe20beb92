use Rattle.std.proofs.Common.{◌++◌, ◌∷◌, [], ℕ, List, sym, ap, ◌∙◌, append_assoc, true}
use Rattle.std.specs.Prelude.{codes}
use Rattle.std.specs.Fmt.{decimal}
use Rattle.hp_base.specs.declared.event.Event.TheVariants.{Step}
use Rattle.hp_text.specs.Traces.{event_line}
use Rattle.hp_text.proofs.Numbers.{word_takes}
use Rattle.hp_text.proofs.StepLines.{front_of}
use Rattle.hp_text.proofs.reading.step_at.Goals as goal

pub returns-clause-line : goal.returns-clause-line
returns-clause-line c =
    let number = c.in_ok-number.number in
    let word = word_takes (codes "step ") c.args.bytes.now c.in_ok-after_word.field-0.now (sym c.in_ok-after_word.ensures) in
    let end = word_takes (codes "\n") c.in_ok-number.rest.now c.in_ok-rest.rest.now (sym c.in_ok-rest.ensures) in
    front_of c.args.bytes.now (event_line (Step number true)) c.in_ok-rest.rest.now
    (word ∙ ap (λ (xs : List ℕ). codes "step " ++ xs)
    (c.in_ok-number.ensures.number ∙ ap (λ (xs : List ℕ). decimal number ++ xs) end
    ∙ sym (append_assoc (decimal number) (10 ∷ []) c.in_ok-rest.rest.now)))
