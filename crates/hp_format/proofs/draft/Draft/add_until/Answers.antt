use Rattle.std.proofs.Common.{arith, ◌≡◌, ◌+◌, ◌++◌, ◌∷◌, [], suc, true, ap, refl, sym, append-nil, ◌∙◌}
use Rattle.hp_base.specs.declared.event.Event.{Event}
use Rattle.hp_base.specs.declared.event.Event.TheVariants.{Step}
use Rattle.hp_format.specs.Following.{GoesOn}
use Rattle.hp_format.proofs.Following.{misses, repeats_more, repeats_none}
use Rattle.hp_format.proofs.Given.{one_step_more}
use Rattle.hp_format.proofs.draft.Draft.add_until.Goals as goal

pub loop-init : goal.loop-init
loop-init c = (refl, sym (append-nil _), refl, repeats_none (GoesOn c.args.goal) _ _)

pub loop-preserved : goal.loop-preserved
loop-preserved c =
    let step = Step c.args.task true in
    let next : c.loop.counter + 1 ≡ suc c.loop.counter = omega arith in (
      c.in_ok-outcome.ensures.sizes ∙ c.loop.invariant.0,
      rw next (one_step_more c.loop.counter step c.args.self.now.events c.loop.self.events c.add.new.self.events c.loop.invariant.1
          (c.in_ok-outcome.ensures.events ∙ ap (λ (event : Event). c.loop.self.events ++ event ∷ []) c.loop.invariant.2)),
      c.loop.invariant.2,
      repeats_more (GoesOn c.args.goal) c.args.self.now.core step c.loop.counter c.loop.self.core c.add.new.self.core
          c.in_ok-outcome.outcome c.loop.invariant.3 c.in_ok-outcome.ensures.row (
            misses c.in_ok-reaches.field-0 _ c.in_ok-reaches.ensures.reached.1 c.if-branch.false,
            c.in_ok-reaches.ensures.on c.if-branch.false,
          ),
    )

pub returns-then-branch-clause-events : goal.returns-then-branch-clause-events
returns-then-branch-clause-events c =
    let step = Step c.args.task true in (
      c.loop.counter,
      one_step_more c.loop.counter step c.args.self.now.events c.loop.self.events c.add.new.self.events
          c.loop.invariant.1
          (c.in_ok-outcome.ensures.events ∙ ap (λ (event : Event). c.loop.self.events ++ event ∷ []) c.loop.invariant.2),
    )
