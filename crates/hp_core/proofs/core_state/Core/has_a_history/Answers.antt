use Rattle.std.proofs.Common.{subst}
use Rattle.hp_laws.specs.HistoryLaws.{HasHistory}
use Rattle.hp_core.specs.State.{CoreState, as_state}
use Rattle.hp_core.specs.Sound.{IsSound}
use Rattle.hp_core.proofs.core_state.Core.has_a_history.Goals as goal

pub returns : goal.returns
unfolding IsSound
returns c =
    subst (λ (s : CoreState). HasHistory s.sizes.frames (as_state s)) c.self.view_is
    (c.a_reached_state_has_a_history.ensures _ _ c.self.invariant.0)
