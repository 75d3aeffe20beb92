-- What an export answers that many events are given to.
use Rattle.std.specs.Prelude.{◌≡◌, ◌⊎◌, ◌<◌, ℕ, List, [], HoldsAt, Option, Some, None, length, map, IsSomeAnd}
use Rattle.hp_base.specs.declared.event.Event.{Event}
use Rattle.hp_machine.specs.declared.outcome.Outcome.{Outcome}
use Rattle.hp_core.specs.State.{CoreState}
use Rattle.hp_core.specs.Runs.{Run, WantsGrowth}
use Rattle.hp_words.specs.declared.event_words.EventWords.{EventWords}
use Rattle.hp_words.specs.declared.outcome_words.OutcomeWords.{OutcomeWords}
use Rattle.hp_words.specs.Words.{event_named, outcome_words}
use Rattle.hp_c.specs.Codes.{is_closed, no_memory, no_such, too_small}

-- the events that the numbers name are a run of the machine, from the one core to the other, and the outcomes' numbers are told
pub record RanOn (old : CoreState) (named : List EventWords) (words : List OutcomeWords) (new : CoreState) : Type 0 where
  pub events : List Event
  pub outcomes : List Outcome
  pub are_events : map event_named named ≡ map Some events
  pub are_told : words ≡ map outcome_words outcomes
  pub run : Run old events outcomes new

-- the same of what a pool holds. In a closed one nothing happens
abbrev pub Ran : (old : Option CoreState) → List EventWords → List OutcomeWords → (new : Option CoreState) → Type 0
Ran None named words new = (named ≡ []) × (words ≡ []) × (new ≡ None)
Ran (Some before) named words new = IsSomeAnd new (RanOn before named words)

-- the pool is closed; or the next event wants memory that there isn't, its numbers name none, or there is no room for its outcome
abbrev pub IsRunRefused : (held : Option CoreState) → (events : List EventWords) → (room done code : ℕ) → Type 0
IsRunRefused None events room done code = (code ≡ is_closed) × (done ≡ 0)
IsRunRefused (Some core) events room done code =
    (done < length events)
    × ((code ≡ no_memory) × HoldsAt (λ e. IsSomeAnd (event_named e) (WantsGrowth core.parts core.task_states)) events done
    ⊎ (code ≡ no_such) × HoldsAt (λ e. event_named e ≡ None) events done
    ⊎ (code ≡ too_small) × (done ≡ room))
