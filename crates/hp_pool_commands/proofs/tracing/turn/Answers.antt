use Rattle.std.proofs.Common.{◌∙◌}
use Rattle.hp_client.proofs.Running.{others_next, turn_next}
use Rattle.hp_pool_commands.proofs.tracing.turn.Goals as goal

pub loop-call-preserved : goal.loop-call-preserved
loop-call-preserved c =
    let at = c.loop-call in record {
      sizes = c.advance.ensures.sizes ∙ at.invariant.sizes;
      made =
          turn_next _ _ _ at.call-index c.args.asked.now at.asked c.call-item.result _ at.auto.asked c.loop-call-test.true
          at.invariant.others at.invariant.made c.in_ok-advance.ensures.step;
      others = others_next at.call-index c.args.asked.now at.asked _ at.invariant.others;
    }
