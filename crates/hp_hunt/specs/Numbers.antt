-- The numbers of an event's line, and events in which they are smaller.
use Rattle.std.specs.Prelude.{◌≡◌, ◌≤◌, ◌⊎◌, ℕ, List, [], ◌∷◌, slice_index_or, slice_set}
use Rattle.hp_base.specs.declared.event.Event.{Event}
use Rattle.hp_base.specs.declared.event.Event.TheVariants.{Begin, Step, Kill, Resize}
use Rattle.hp_base.specs.declared.event.Op.{Op}
use Rattle.hp_base.specs.declared.event.Op.TheVariants.{Map, MapNoReserve, Unmap, Load, Store, Alloc, Punch, Truncate, Exit}
use Rattle.hp_hunt.specs.declared.numbers.Numbers.{Numbers}
use Rattle.hp_hunt.specs.declared.numbers.Which.{Which}
use Rattle.hp_hunt.specs.declared.numbers.Which.TheVariants.{First, Second, Third}

abbrev three : (first second third : ℕ) → Numbers
three first second third = record { first = first; second = second; third = third }

-- the numbers of an operation, in the order in which its words spell them
abbrev pub op_numbers : Op → Numbers
op_numbers (Map file from len) = three file from len
op_numbers (MapNoReserve file from len) = three file from len
op_numbers (Unmap base) = three base 0 0
op_numbers (Load vpn) = three vpn 0 0
op_numbers (Store vpn word) = three vpn word 0
op_numbers (Alloc file from len keep) = three file from len
op_numbers (Punch file from len) = three file from len
op_numbers (Truncate file new) = three file new 0
op_numbers Exit = three 0 0 0

-- the operation with these numbers, as many as it has
abbrev pub with_op_numbers : Op → Numbers → Op
with_op_numbers (Map file from len) ns = Map ns.first ns.second ns.third
with_op_numbers (MapNoReserve file from len) ns = MapNoReserve ns.first ns.second ns.third
with_op_numbers (Unmap base) ns = Unmap ns.first
with_op_numbers (Load vpn) ns = Load ns.first
with_op_numbers (Store vpn word) ns = Store ns.first ns.second
with_op_numbers (Alloc file from len keep) ns = Alloc ns.first ns.second ns.third keep
with_op_numbers (Punch file from len) ns = Punch ns.first ns.second ns.third
with_op_numbers (Truncate file new) ns = Truncate ns.first ns.second
with_op_numbers Exit ns = Exit

-- the numbers of an event; its task is none of them
abbrev pub numbers_of : Event → Numbers
numbers_of (Begin task op) = op_numbers op
numbers_of (Step task granted) = three 0 0 0
numbers_of (Kill task) = three 0 0 0
numbers_of (Resize frames) = three frames 0 0

-- the event with these numbers, as many as it has
abbrev pub with_numbers : Event → Numbers → Event
with_numbers (Begin task op) ns = Begin task (with_op_numbers op ns)
with_numbers (Step task granted) ns = Step task granted
with_numbers (Kill task) ns = Kill task
with_numbers (Resize frames) ns = Resize ns.first

-- one of them
abbrev pub at : Which → Numbers → ℕ
at First ns = ns.first
at Second ns = ns.second
at Third ns = ns.third

-- the numbers with another one there
abbrev pub put : Which → ℕ → Numbers → Numbers
put First n ns = three n ns.second ns.third
put Second n ns = three ns.first n ns.third
put Third n ns = three ns.first ns.second n

-- the event with another number there
abbrev pub replaced : Event → Which → ℕ → Event
replaced e which n = with_numbers e (put which n (numbers_of e))

-- none of these numbers is larger than the other in its place
pub record AreWithin (small large : Numbers) : Type 0 where
  pub first : small.first ≤ large.first
  pub second : small.second ≤ large.second
  pub third : small.third ≤ large.third

-- the event as it was, or with smaller numbers
abbrev pub IsAtMost : Event → Event → Type 0
IsAtMost small e = (ns : Numbers) × (small ≡ with_numbers e ns) × AreWithin ns (numbers_of e)

-- these are what is left of those where each was dropped, kept, or kept with smaller numbers, in order
unfoldable pub IsLeft : (left events : List Event) → Type 0
IsLeft left [] = left ≡ []
IsLeft left (e ∷ events) =
    IsLeft left events ⊎ ((small : Event) × (rest : List Event) × (left ≡ small ∷ rest) × IsAtMost small e × IsLeft rest events)

-- the event at that place; behind the last a resize to nothing, which has no number but 0
abbrev pub event_at : List Event → (place : ℕ) → Event
event_at events place = slice_index_or events place (Resize 0)

-- that number of the event at that place
abbrev pub number_at : List Event → (place : ℕ) → Which → ℕ
number_at events place which = at which (numbers_of (event_at events place))

-- the events with another number there
abbrev pub with_number : List Event → (place : ℕ) → Which → ℕ → List Event
with_number events place which n = slice_set events place (replaced (event_at events place) which n)
