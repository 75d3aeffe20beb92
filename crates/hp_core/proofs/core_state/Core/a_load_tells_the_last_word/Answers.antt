use Rattle.hp_core.specs.State.{as_state}
use Rattle.hp_core.proofs.core_state.Core.a_load_tells_the_last_word.Goals as goal

pub returns : goal.returns
returns c = c.a_load_tells_the_last_word.ensures (as_state c.args.self.now)
