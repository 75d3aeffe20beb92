-- What happened to a pool, one event more.
use Rattle.std.proofs.Common.{◌≡◌, ◌+◌, ◌++◌, ◌∷◌, [], List, length, sym, ap, subst, ◌∙◌}
use Rattle.std.proofs.Common.{length-append}
use Rattle.hp_base.specs.declared.config.Config.{Config}
use Rattle.hp_base.specs.declared.event.Event.{Event}
use Rattle.hp_core.specs.Runs.{IsOpening, Row}
use Rattle.hp_core.specs.State.{CoreState}
use Rattle.hp_core.proofs.RunsOn.{run_none, run_more}
use Rattle.hp_machine.specs.declared.outcome.Outcome.{Outcome}
use Rattle.hp_format.specs.Drafts.{IsLed}

-- nothing happened yet
pub led_none : (config : Config) (first : CoreState) (events : List Event) → IsOpening config first → events ≡ []
    → IsLed config first events
led_none config first events opening none =
    subst (IsLed config first) (sym none) (record { first = first; opening = opening; outcomes = []; run = run_none first })

-- one event more
pub led_more : (config : Config) (mid new : CoreState) (before all : List Event) (event : Event) (outcome : Outcome)
    → IsLed config mid before → Row mid event outcome new → all ≡ before ++ event ∷ [] → IsLed config new all
led_more config mid new before all event outcome led row is =
    subst (IsLed config new) (sym is) (record {
      first = led.first;
      opening = led.opening;
      outcomes = led.outcomes ++ outcome ∷ [];
      run = run_more led.first mid new before led.outcomes event outcome led.run row;
    })

pub one_longer : (before all : List Event) (event : Event) → all ≡ before ++ event ∷ [] → length all ≡ length before + 1
one_longer before all event is = ap length is ∙ length-append before (event ∷ [])
