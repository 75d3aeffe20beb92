use Rattle.std.proofs.Common.{◌∙◌, ◌++◌, ◌∷◌, ◌+◌, [], arith}
use Rattle.hp_layers.specs.Counted.{none_after, two_after}
use Rattle.hp_layers.proofs.tests.WantedEnds.each_after.Goals as goal

pub returns-then-state-ge3 : goal.returns-then-state-ge3
returns-then-state-ge3 c =
    none_after c.args.state.now c.new-next.result.items (omega (arith, c.if-state-ge3.true)) c.new-next.ensures.items

pub returns : goal.returns
returns c =
    two_after c.args.state.now c.push-2.new.self.items (omega (arith, c.if-state-ge3.false))
    (c.in_ok-push-2.ensures.items ∙ (λ i. (c.in_ok-push.ensures.items
    ∙ (λ j. c.new-next.ensures.items j ++ (c.args.state.now + 1) ∷ [])) i ++ (c.args.state.now + 1) ∷ []))
