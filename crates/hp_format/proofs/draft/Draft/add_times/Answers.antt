use Rattle.std.proofs.Common.{arith, ◌≡◌, ◌+◌, suc, refl, sym, append-nil, ◌∙◌}
use Rattle.hp_format.specs.Following.{IsAny}
use Rattle.hp_format.proofs.Following.{repeats_more, repeats_none}
use Rattle.hp_format.proofs.Given.{one_step_more}
use Rattle.hp_format.proofs.draft.Draft.add_times.Goals as goal

pub loop-init : goal.loop-init
loop-init c = (refl, sym (append-nil _), repeats_none IsAny _ _)

pub loop-preserved : goal.loop-preserved
loop-preserved c =
    let next : c.loop.counter + 1 ≡ suc c.loop.counter = omega arith in (
      c.in_ok-add.ensures.sizes ∙ c.loop.invariant.0,
      rw next (one_step_more c.loop.counter c.args.event.now c.args.self.now.events c.loop.self.events c.add.new.self.events
          c.loop.invariant.1 c.in_ok-add.ensures.events),
      repeats_more IsAny c.args.self.now.core c.args.event.now c.loop.counter c.loop.self.core c.add.new.self.core c.in_ok-add.field-0
          c.loop.invariant.2 c.in_ok-add.ensures.row tt,
    )
