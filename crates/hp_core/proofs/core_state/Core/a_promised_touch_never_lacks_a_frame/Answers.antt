use Rattle.hp_core.specs.State.{as_state}
use Rattle.hp_core.proofs.core_state.Core.a_promised_touch_never_lacks_a_frame.Goals as goal

pub returns : goal.returns
returns c = c.a_promised_touch_never_lacks_a_frame.ensures (as_state c.args.self.now)
