use Rattle.hp_core.specs.State.{as_state}
use Rattle.hp_core.proofs.core_state.Core.a_promised_touch_is_served.Goals as goal

pub returns : goal.returns
returns c = c.a_promised_touch_is_served.ensures (as_state c.args.self.now)
