use Rattle.std.proofs.Common.{◌≡◌, ◌+◌, [], take, ap, sym, ◌∙◌, arith, true}
use Rattle.std.proofs.lemmas.Grind.{common_steps}
use Rattle.hp_base.specs.declared.event.Event.TheVariants.{Step}
use Rattle.hp_text.specs.Lines.{FeedState, event}
use Rattle.hp_text.proofs.StepLines.{IsTaken, event_taken}
use Rattle.hp_text.proofs.feed.TraceFeed.take_step.Goals as goal

-- no byte of the line was taken before
nothing_held : (c : goal.After-self-1) → take c.self.inside.len c.self.inside.rest ≡ []
nothing_held c = grind (arith, common_steps)

is_taken : (c : goal.After-self-1) → IsTaken c.args.self.now c.args.piece.now c.in_ok-used.used (event (Step c.in_ok-used.number true))
is_taken c =
    let lines = ap (λ (h : FeedState). h.lines) c.self.view_is in
    let small = c.in_ok-used.ensures.small in
    event_taken c.args.self.now c.args.piece.now c.in_ok-used.used (Step c.in_ok-used.number true)
    (ap (λ (h : FeedState). h.rest) (sym c.self.view_is) ∙ nothing_held c) c.requires (λ e. omega (arith, lines, e, c.if-self-eq0.false))
    (λ e. omega (arith, lines, e)) (omega (arith, small)) c.in_ok-used.ensures.within c.in_ok-used.ensures.line

pub returns-clause-held : goal.returns-clause-held
returns-clause-held c =
    let lines = ap (λ (h : FeedState). h.lines) c.self.view_is in
    let rest = nothing_held c in
    let fault = ap (λ (h : FeedState). h.fault) c.self.view_is ∙ c.requires in
    (λ i. record { lines = lines i + 1; rest = rest i; fault = fault i }) ∙ sym (is_taken c).held

pub returns-clause-used : goal.returns-clause-used
returns-clause-used c = sym (is_taken c).used

pub returns-clause-line : goal.returns-clause-line
returns-clause-line c = (is_taken c).lines
