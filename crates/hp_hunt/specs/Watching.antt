-- What is known of conditions while a run is watched.
use Rattle.std.specs.Prelude.{◌≡◌, ◌↔◌, IsTrue, List, All, map}
use Rattle.hp_hunt.specs.Conditions.{IsMetAt}
use Rattle.hp_watch.specs.Calls.{AreCalls}
use Rattle.hp_watch.specs.Moments.{Moment, Once}
use Rattle.hp_watch.specs.declared.calls.TaskCalls.{TaskCalls}
use Rattle.hp_hunt.specs.declared.condition.Condition.{Condition}
use Rattle.hp_hunt.specs.declared.watching.Watch.{Watch}
use Rattle.hp_hunt.specs.declared.watching.Watches.{Watches}

-- the condition of a watch
abbrev pub of_watch : Watch → Condition
of_watch watch = watch.condition

-- the watch has seen whether what it seeks was found at one of these moments
pub record Knows (watch : Watch) (moments : List Moment) : Type 0 where
  pub seen : IsTrue watch.seen ↔ Once (IsMetAt watch.condition.sought) moments

-- what is known: the calls of each task, and what the watches have seen
pub record Known : Type 0 where
  pub calls : List TaskCalls
  pub watches : List Watch

abbrev pub known_of : Watches → Known
known_of w = record { calls = w.calls.tasks.items; watches = w.watches.items }

-- the calls are known; there is a watch for each condition, and each knows
pub record AllKnow (conditions : List Condition) (known : Known) (moments : List Moment) : Type 0 where
  pub calls : AreCalls known.calls moments
  pub of : map of_watch known.watches ≡ conditions
  pub each : All (λ watch. Knows watch moments) known.watches
