use Rattle.std.proofs.Common.{◌≡◌, ◌++◌, [], ℕ, List, true, rules, eqb-true, sym, ap, ◌∙◌}
use Rattle.std.proofs.lemmas.List.{append-nil}
use Rattle.hp_text.proofs.TextLines.{no_line}
use Rattle.hp_trace_commands.specs.Strict.{plain_lines}
use Rattle.hp_trace_commands.proofs.strict.plain_text.Goals as goal

pub returns : goal.returns
returns c =
    let empty : c.is_empty.result ≡ true = search rules in
    let none = no_line c.loop-rest.rest.now (eqb-true _ _ (sym c.is_empty.ensures ∙ empty)) in
    sym (append-nil c.loop-rest.plain.items)
    ∙ (ap (λ (lines : List (List ℕ)). c.loop-rest.plain.items ++ plain_lines lines) (sym none) ∙ c.loop-rest.invariant)
