-- A sound core is at a state that a run reached, so it has the headline.
use Rattle.std.proofs.Common.{◌≡◌, subst}
use Rattle.hp_machine.specs.State.{State}
use Rattle.hp_laws.proofs.Runs as runs
use Rattle.hp_machine.specs.Events.{IsReached}
use Rattle.hp_core.specs.State.{CoreState, as_state}
use Rattle.hp_core.specs.Sound.{IsSound}
use Rattle.hp_base.specs.declared.limits.TheConstants.{LIMIT, VPNS}
use Rattle.hp_core.specs.Runs.{IsOfConfig, Headline}

-- a run reached the state of a sound core
pub reached_of : (s : CoreState) → IsSound s → IsReached (as_state s)
unfolding IsSound
reached_of s h = (s.sizes.frames, h.0)

-- so the headline holds of it
pub headline_at : (s : CoreState) → IsReached (as_state s) → Headline s
unfolding Headline
headline_at s h = runs.headline (as_state s) h

pub headline_of : (s : CoreState) → IsSound s → Headline s
headline_of s h = headline_at s (reached_of s h)

-- its state has the sizes of its config, and was opened so
pub of_config : (s : CoreState) → IsSound s → IsOfConfig s
unfolding IsSound
of_config s h = (
  λ i. record {
    files = h.1.files i;
    slots = h.1.slots i;
    tasks = h.1.spaces i;
    limit = LIMIT;
    space = VPNS;
    quota = h.1.quota i;
  },
  h.0,
)

-- what is a law of states that a run reached holds of the state of a core
pub law_of : (P : State → Type 0) → ((s : State) → IsReached s → P s) → (inside seen : CoreState) → inside ≡ seen → IsSound inside
    → P (as_state seen)
law_of P law inside seen e h = subst (λ (s : CoreState). P (as_state s)) e (law (as_state inside) (reached_of inside h))
