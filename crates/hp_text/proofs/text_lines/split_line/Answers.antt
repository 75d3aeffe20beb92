use Rattle.std.proofs.Common.{arith, ◌+◌, ◌∷◌, ℕ, List, take, ap, sym, ◌∙◌}
use Rattle.std.proofs.lemmas.List.{take_rest}
use Rattle.hp_text.specs.TextLines.{lines_of}
use Rattle.hp_text.proofs.TextLines.{is_end, is_no_end, line_first, line_whole}
use Rattle.hp_text.proofs.text_lines.split_line.Goals as goal

pub returns-in-Some-clause-lines : goal.returns-in-Some-clause-lines
returns-in-Some-clause-lines c =
    let text = c.args.text.now in
    let first = c.in-Some.ensures in
    let split = line_first text c.in-Some.end first.0.high (is_end _ first.1) (λ j l. is_no_end _ (first.0.before j (omega arith) l)) in
    split ∙ ap (λ (rest : List ℕ). take c.in-Some.end text ∷ lines_of rest) (sym (take_rest text (c.in-Some.end + 1)))

pub returns-in-None-clause-lines : goal.returns-in-None-clause-lines
unfolding lines_of
returns-in-None-clause-lines c =
    line_whole c.args.text.now c.requires (λ j l. is_no_end _ (c.in-None.ensures j (omega arith) l))
