-- What is left of a trace from which events were dropped, and whose numbers were made smaller.
use Rattle.std.specs.Prelude.{◌≡◌, ◌<◌, ◌+◌, ◌-◌, ◌⊎◌, ℕ, List, [], ◌∷◌, ◌++◌, length, take, drop}
use Rattle.hp_base.specs.declared.config.Config.{Config}
use Rattle.hp_base.specs.declared.event.Event.{Event}
use Rattle.hp_hunt.specs.Conditions.{SomeRunMeets, SomeRunMisses}
use Rattle.hp_hunt.specs.Numbers.{IsLeft, number_at, with_number}
use Rattle.hp_hunt.specs.declared.condition.Condition.{Condition}
use Rattle.hp_hunt.specs.declared.numbers.Which.{Which}

-- these are what is left of those where each was dropped or kept, in order
unfoldable pub IsSubsequence : (left events : List Event) → Type 0
IsSubsequence left [] = left ≡ []
IsSubsequence left (e ∷ events) = IsSubsequence left events ⊎ ((rest : List Event) × (left ≡ e ∷ rest) × IsSubsequence rest events)

-- the events without so many of them from that place on
abbrev pub cut : List Event → (from len : ℕ) → List Event
cut events from len = take from events ++ drop (from + len) events

-- These are left of the events. A run of them meets the conditions, and without any one of them it doesn't.
pub record IsCut (config : Config) (events : List Event) (conditions : List Condition) (left : List Event) : Type 0 where
  pub some : IsSubsequence left events
  pub meets : SomeRunMeets config left conditions
  pub each : (place : ℕ) → place < length left → SomeRunMisses config (cut left place 1) conditions

-- These are left of the events, with numbers that may be smaller. A run of them meets the conditions; without any one of them it doesn't, nor with any of their
-- numbers one less.
pub record IsSmall (config : Config) (events : List Event) (conditions : List Condition) (left : List Event) : Type 0 where
  pub some : IsLeft left events
  pub meets : SomeRunMeets config left conditions
  pub each : (place : ℕ) → place < length left → SomeRunMisses config (cut left place 1) conditions
  pub numbers : (place : ℕ) (which : Which) → 0 < number_at left place which
      → SomeRunMisses config (with_number left place which (number_at left place which - 1)) conditions
