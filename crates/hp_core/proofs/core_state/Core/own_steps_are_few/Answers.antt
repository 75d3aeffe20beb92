use Rattle.hp_core.specs.State.{as_state}
use Rattle.hp_core.proofs.core_state.Core.own_steps_are_few.Goals as goal

pub returns : goal.returns
returns c = c.own_steps_are_few.ensures (as_state c.args.self.now)
