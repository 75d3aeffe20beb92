-- The text of a trace, and what is wrong with bytes that are none.
use Rattle.std.specs.Prelude.{◌≡◌, ◌≢◌, ℕ, ◌+◌, ◌<◌, ◌≤◌, ◌⊎◌, Bool, not, ◌==◌, IsTrue, List, [], ◌∷◌, ◌++◌, length, All}
use Rattle.std.specs.List.{flat_map, list_all}
use Rattle.hp_base.specs.Text.{Sizes, sizes_text, event_text, are_sizes}
use Rattle.hp_base.specs.declared.event.Event.{Event}
use Rattle.hp_text.specs.Fits.{EventFits}
use Rattle.hp_text.specs.declared.fault.ReplayFault.{ReplayFault}
use Rattle.hp_text.specs.declared.fault.ReplayFault.TheVariants.{BadLine, BadHeader, Read, Write, Memory}

-- the byte is inside a line, and ends none
abbrev pub inside : ℕ → Bool
inside b = not (b == 10)

-- no line ends in the bytes
abbrev pub HasNoEnd : List ℕ → Type 0
HasNoEnd bytes = IsTrue (list_all inside bytes)

-- the lines, each with its end
abbrev pub header_line : Sizes → List ℕ
header_line s = sizes_text s ++ 10 ∷ []

abbrev pub event_line : Event → List ℕ
event_line e = event_text e ++ 10 ∷ []

abbrev pub events_text : List Event → List ℕ
events_text events = flat_map event_line events

-- the one text of a trace
abbrev pub trace_text : Sizes → List Event → List ℕ
trace_text s events = header_line s ++ events_text events

abbrev pub AreWithinLimits : Sizes → Type 0
AreWithinLimits s = IsTrue (are_sizes s)

-- what a text may spell
pub record IsTrace (s : Sizes) (events : List Event) : Type 0 where
  pub within : AreWithinLimits s
  pub each : All EventFits events
  pub few : length events ≤ 1000000

-- the bytes are the text of this trace
pub record Spells (bytes : List ℕ) (s : Sizes) (events : List Event) : Type 0 where
  pub text : bytes ≡ trace_text s events
  pub trace : IsTrace s events

-- no line of a header, or of an event, stands at the front of the bytes
abbrev pub BeginsNoHeader : List ℕ → Type 0
BeginsNoHeader bytes = (s : Sizes) (more : List ℕ) → AreWithinLimits s → bytes ≢ header_line s ++ more

abbrev pub BeginsNoEvent : List ℕ → Type 0
BeginsNoEvent bytes = (e : Event) (more : List ℕ) → EventFits e → bytes ≢ event_line e ++ more

-- behind so many events these bytes are no more lines of the trace
abbrev pub IsBadRest : ℕ → List ℕ → Type 0
IsBadRest events rest = (0 < length rest) × ((events ≡ 1000000) ⊎ BeginsNoEvent rest)

-- line n is the first bad one: the lines before it are a trace
pub record HasBadLine (n : ℕ) (bytes : List ℕ) : Type 0 where
  pub sizes : Sizes
  pub events : List Event
  pub rest : List ℕ
  pub parts : bytes ≡ trace_text sizes events ++ rest
  pub trace : IsTrace sizes events
  pub number : n ≡ length events + 2
  pub bad : IsBadRest (length events) rest

-- this is what is wrong with the bytes; the last three are no faults of bytes
abbrev pub HasFault : List ℕ → ReplayFault → Type 0
HasFault bytes BadHeader = BeginsNoHeader bytes
HasFault bytes (BadLine n) = HasBadLine n bytes
HasFault bytes Read = Unit {0}
HasFault bytes Write = Unit {0}
HasFault bytes Memory = Unit {0}

-- the faults of bytes
abbrev pub IsLineFault : ReplayFault → Type 0
IsLineFault BadHeader = Unit {0}
IsLineFault (BadLine n) = Unit {0}
IsLineFault Read = ⊥
IsLineFault Write = ⊥
IsLineFault Memory = ⊥

-- bytes that are taken to their end
pub record SpellsSome (bytes : List ℕ) : Type 0 where
  pub sizes : Sizes
  pub events : List Event
  pub spells : Spells bytes sizes events
