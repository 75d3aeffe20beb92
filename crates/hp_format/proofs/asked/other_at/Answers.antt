use Rattle.std.proofs.Common.{◌≡◌, ◌==◌, ℕ, List, true, false, length, sym, ap, ◌∙◌}
use Rattle.hp_format.proofs.Readings.{no_words}
use Rattle.hp_format.proofs.asked.other_at.Goals as goal

pub returns-clause-none : goal.returns-clause-none
returns-clause-none c none =
    no_words c.args.words.now
    (λ empty. (let wrong : true ≡ false = ap (λ (words : List ℕ). length words == 0) (sym empty) ∙ sym c.is_empty.ensures ∙ c.if-is_empty.false in
    absurd cc)) (sym c.repeated_at.ensures.read ∙ c.in_default.is) (sym c.repeated_at-2.ensures.read ∙ c.in_default-repeated_at.is)
    (c.until_at.ensures.none none)
