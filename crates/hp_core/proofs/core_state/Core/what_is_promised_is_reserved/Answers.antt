use Rattle.hp_core.specs.State.{as_state}
use Rattle.hp_core.proofs.core_state.Core.what_is_promised_is_reserved.Goals as goal

pub returns : goal.returns
returns c = c.what_is_promised_is_reserved.ensures (as_state c.args.self.now)
