use Rattle.std.proofs.Common.{◌+◌, refl, ◌∙◌}
use Rattle.hp_client.proofs.Running.{turns_next, turns_none}
use Rattle.hp_pool_commands.proofs.tracing.take_turns.Goals as goal

pub loop-init : goal.loop-init
loop-init c = record { sizes = refl; made = (0, turns_none _ _) }

pub loop-preserved : goal.loop-preserved
loop-preserved c =
    let at = c.loop in record {
      sizes = c.turn.ensures.sizes ∙ at.invariant.sizes;
      made = (
        at.invariant.made.0 + 1,
        turns_next at.invariant.made.0 c.args.draft.now.core at.draft.core c.turn.new.draft.core c.args.asked.now at.asked
            c.turn.new.asked at.invariant.made.1 c.in_ok-turn.ensures.turn,
      );
    }
