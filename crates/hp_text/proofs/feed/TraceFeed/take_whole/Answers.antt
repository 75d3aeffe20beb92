use Rattle.std.proofs.Common.{◌≡◌, ◌+◌, [], take, ap, sym, ◌∙◌, arith}
use Rattle.std.proofs.lemmas.Grind.{common_steps}
use Rattle.hp_text.specs.Lines.{FeedState, line_of}
use Rattle.hp_text.proofs.WholeLines.{IsWhole, taken_whole}
use Rattle.hp_text.proofs.feed.TraceFeed.take_whole.Goals as goal

-- no byte of the line was taken before
nothing_held : (c : goal.After-self-1) → take c.self.inside.len c.self.inside.rest ≡ []
nothing_held c = grind (arith, common_steps)

is_whole : (c : goal.After-self-1) → IsWhole c.args.self.now c.args.piece.now c.in_ok-end.end (line_of c.in_ok-line.line)
is_whole c =
    let lines = ap (λ (h : FeedState). h.lines) c.self.view_is in
    taken_whole c.args.self.now c.args.piece.now c.in_ok-end.end (line_of c.in_ok-line.line)
    (ap (λ (h : FeedState). h.rest) (sym c.self.view_is) ∙ nothing_held c) c.requires (λ e. omega (arith, lines, e))
    c.in_ok-end.ensures.end c.in_ok-end.ensures.short (sym c.in_ok-line.ensures)

pub returns-clause-held : goal.returns-clause-held
returns-clause-held c =
    let lines = ap (λ (h : FeedState). h.lines) c.self.view_is in
    let rest = nothing_held c in
    let fault = ap (λ (h : FeedState). h.fault) c.self.view_is ∙ c.requires in
    (λ i. record { lines = lines i + 1; rest = rest i; fault = fault i }) ∙ sym (is_whole c).held

pub returns-clause-used : goal.returns-clause-used
returns-clause-used c = sym (is_whole c).used

pub returns-clause-line : goal.returns-clause-line
returns-clause-line c = (is_whole c).lines
