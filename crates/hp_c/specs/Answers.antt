-- What an export answers of a pool.
use Rattle.std.specs.Prelude.{◌≡◌, ◌⊎◌, ℕ, zero, suc, Bool, true, false, Option, Some, None, IsSomeAnd, is_some}
use Rattle.hp_base.specs.Text.{Sizes, are_sizes, sizes}
use Rattle.hp_base.specs.declared.config.Config.{Config}
use Rattle.hp_base.specs.declared.event.Event.{Event}
use Rattle.hp_machine.specs.declared.outcome.Outcome.{Outcome}
use Rattle.hp_core.specs.State.{CoreState, as_state}
use Rattle.hp_core.specs.Readers.{calls_of, config_of}
use Rattle.hp_core.specs.HeldBack.{HeldBack}
use Rattle.hp_core.specs.Runs.{Row, IsOpening, WantsGrowth}
use Rattle.hp_words.specs.declared.outcome_words.OutcomeWords.{OutcomeWords}
use Rattle.hp_words.specs.Words.{outcome_words}
use Rattle.hp_c.specs.Codes.{in_flight, is_closed, no_memory, no_such}

-- code 0 is answered where the one holds, and any other where the other does
abbrev pub Answered : (code : ℕ) → Type 0 → Type 0 → Type 0
Answered zero done refused = done
Answered (suc n) done refused = refused

-- ---- open

-- a core of these sizes is held that nothing has happened to
pub record Opened (z : Sizes) (held : Option CoreState) : Type 0 where
  pub config : Config
  pub sizes_are : sizes config ≡ z
  pub opens : IsSomeAnd held (IsOpening config)

-- there was no memory for a pool of these sizes, or there is none
abbrev pub IsOpenRefused : Sizes → (code : ℕ) → Type 0
IsOpenRefused z code = (code ≡ no_memory) × (are_sizes z ≡ true) ⊎ (code ≡ no_such) × (are_sizes z ≡ false)

-- ---- copy

-- both hold a core in the same state, and no call is in flight
pub record Copied (held copy : Option CoreState) : Type 0 where
  pub core : CoreState
  pub copied : CoreState
  pub is_core : held ≡ Some core
  pub is_copy : copy ≡ Some copied
  pub state : as_state copied ≡ as_state core
  pub config : config_of copied ≡ config_of core
  pub rest : calls_of copied ≡ 0

-- the pool is closed, there was no memory for a copy of it, or a call is in flight
abbrev pub IsCopyRefused : (held : Option CoreState) → (code : ℕ) → Type 0
IsCopyRefused held code =
    (code ≡ is_closed) × (held ≡ None)
    ⊎ (code ≡ no_memory) × IsSomeAnd held (λ core. calls_of core ≡ 0)
    ⊎ (code ≡ in_flight) × IsSomeAnd held (λ core. calls_of core ≡ 0 → ⊥)

-- ---- event

-- the event that the numbers name is a row of the machine, which leads from the core that was held to the one that is, and the
-- outcome's numbers are told
pub record Happened (old : Option CoreState) (named : Option Event) (words : OutcomeWords) (new : Option CoreState) : Type 0 where
  pub before : CoreState
  pub event : Event
  pub outcome : Outcome
  pub after : CoreState
  pub is_before : old ≡ Some before
  pub is_event : named ≡ Some event
  pub is_told : words ≡ outcome_words outcome
  pub is_after : new ≡ Some after
  pub row : Row before event outcome after

-- the pool is closed, there was no memory for what the event wants, or the numbers name no event
abbrev pub IsEventRefused : (held : Option CoreState) → (named : Option Event) → (code : ℕ) → Type 0
IsEventRefused held named code =
    (code ≡ is_closed) × (held ≡ None)
    ⊎ (code ≡ no_memory) × IsSomeAnd held (λ core. IsSomeAnd named (WantsGrowth core.parts core.task_states))
    ⊎ (code ≡ no_such) × (named ≡ None)

-- ---- what an event would come to

-- what an event would come to, if the numbers name one
abbrev pub SeenAhead : CoreState → (named : Option Event) → Option (Option Outcome) → Type 0
SeenAhead core named None = named ≡ None
SeenAhead core named (Some seen) = (event : Event) × (named ≡ Some event) × HeldBack core event seen

-- the numbers of an outcome, where there is one
abbrev pub words_or : OutcomeWords → Option Outcome → OutcomeWords
words_or words None = words
words_or words (Some outcome) = outcome_words outcome

-- the event that the numbers name would change nothing, and what would come of it is told; or it would change something, and nothing is
pub record LooksAhead (held : Option CoreState) (named : Option Event) (is_held_back : Bool) (old new : OutcomeWords) : Type 0 where
  pub core : CoreState
  pub event : Event
  pub seen : Option Outcome
  pub is_core : held ≡ Some core
  pub is_event : named ≡ Some event
  pub looks : HeldBack core event seen
  pub tells : is_held_back ≡ is_some seen
  pub told : new ≡ words_or old seen

-- the pool is closed, or the numbers name no event
abbrev pub IsLookRefused : (held : Option CoreState) → (named : Option Event) → (code : ℕ) → Type 0
IsLookRefused held named code = (code ≡ is_closed) × (held ≡ None) ⊎ (code ≡ no_such) × (named ≡ None)
