-- Numbers that can't be smaller.
use Rattle.std.specs.Prelude.{◌<◌, ◌+◌, ◌-◌, ℕ, List}
use Rattle.std.specs.List.{sum_by}
use Rattle.hp_base.specs.declared.config.Config.{Config}
use Rattle.hp_base.specs.declared.event.Event.{Event}
use Rattle.hp_hunt.specs.Conditions.{SomeRunMisses}
use Rattle.hp_hunt.specs.Numbers.{number_at, numbers_of, with_number}
use Rattle.hp_hunt.specs.declared.condition.Condition.{Condition}
use Rattle.hp_hunt.specs.declared.numbers.Which.{Which}

-- with that number one less, a run of the events misses the conditions; 0 can't be less
abbrev pub IsLowest : Config → List Condition → List Event → (place : ℕ) → Which → Type 0
IsLowest config conditions events place which = 0 < number_at events place which
    → SomeRunMisses config (with_number events place which (number_at events place which - 1)) conditions

abbrev pub weight : Event → ℕ
weight e = (numbers_of e).first + (numbers_of e).second + (numbers_of e).third

-- the sum of all numbers
abbrev pub sum_of : List Event → ℕ
sum_of events = sum_by weight events
