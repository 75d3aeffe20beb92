-- A trace that is kept while it is read.
use Rattle.std.specs.Prelude.{◌≡◌, ℕ, ◌+◌, ◌<◌, List, [], ◌∷◌, ◌++◌, length, Option, Some, None, IfSome, map, ◌⊎◌}
use Rattle.std.specs.Io.KnownBytes.{Consumes, IsAtEnd}
use Rattle.hp_base.specs.Text.{Sizes, sizes}
use Rattle.hp_base.specs.declared.event.Event.{Event}
use Rattle.hp_text.specs.declared.fault.ReplayFault.{ReplayFault}
use Rattle.hp_text.specs.declared.fault.ReplayFault.TheVariants.{BadLine, BadHeader, Read, Write, Memory}
use Rattle.hp_text.specs.declared.trace.Trace.{Trace}
use Rattle.hp_text.specs.Lines.{FeedState, Line, header, event, feed_after}
use Rattle.hp_text.specs.Traces.{IsTrace, IsLineFault, IsBadRest, BeginsNoHeader, HasNoEnd, trace_text}

-- the lines of a draft
abbrev pub draft_lines : Option Trace → List Line
draft_lines None = []
draft_lines (Some trace) = header (sizes trace.config) ∷ map event trace.events.items

-- a header comes first, and an event behind it
abbrev pub CanFollow : List Line → Line → Type 0
CanFollow [] (header s) = Unit {0}
CanFollow [] (event e) = ⊥
CanFollow (line ∷ lines) (header s) = ⊥
CanFollow (line ∷ lines) (event e) = Unit {0}

abbrev pub CanFollowIfSome : List Line → Option Line → Type 0
CanFollowIfSome lines None = Unit {0}
CanFollowIfSome lines (Some line) = CanFollow lines line

-- memory was refused for an event whose line ends in the piece
pub record NoRoom (held : FeedState) (piece : List ℕ) : Type 0 where
  pub front : List ℕ
  pub back : List ℕ
  pub parts : piece ≡ front ++ back
  pub ok : (feed_after held front).fault ≡ None
  pub event : 1 < (feed_after held front).lines

-- a line of the piece is bad, or memory was refused
abbrev pub PieceNotKept : ReplayFault → FeedState → List ℕ → FeedState → Type 0
PieceNotKept fault held piece next =
    ((next.fault ≡ Some fault) × IsLineFault fault × (next ≡ feed_after held piece)) ⊎ ((fault ≡ Memory) × NoRoom held piece)

-- the reader's bytes were the text of this trace
pub record ReadsTrace (from to : Option (List ℕ)) (s : Sizes) (events : List Event) : Type 0 where
  pub trace : IsTrace s events
  pub reads : Consumes from to (trace_text s events)
  pub all : IsAtEnd to

-- each line that ends in the bytes is one of a trace
pub data AreLinesOfSome (bytes : List ℕ) : Type 0 where
  no_line : HasNoEnd bytes → AreLinesOfSome bytes
  each_line : (s : Sizes) (events : List Event) (rest : List ℕ) → IsTrace s events → bytes ≡ trace_text s events ++ rest
      → HasNoEnd rest → AreLinesOfSome bytes

-- no header's line stands at the front of the reader's bytes
pub record NotReadAtHeader (from to : Option (List ℕ)) : Type 0 where
  pub bytes : List ℕ
  pub reads : Consumes from to bytes
  pub bad : IfSome to (λ left. BeginsNoHeader (bytes ++ left))

-- the lines before line n are a trace and line n is none of its lines
pub record NotReadAtLine (n : ℕ) (from to : Option (List ℕ)) : Type 0 where
  pub sizes : Sizes
  pub events : List Event
  pub rest : List ℕ
  pub trace : IsTrace sizes events
  pub reads : Consumes from to (trace_text sizes events ++ rest)
  pub number : n ≡ length events + 2
  pub bad : IfSome to (λ left. IsBadRest (length events) (rest ++ left))

-- what was read has no bad line
pub record NotReadAtFailure (from to : Option (List ℕ)) : Type 0 where
  pub bytes : List ℕ
  pub reads : Consumes from to bytes
  pub lines : AreLinesOfSome bytes

-- what was read begins with a trace that has an event
pub record NotReadAtMemory (from to : Option (List ℕ)) : Type 0 where
  pub sizes : Sizes
  pub events : List Event
  pub rest : List ℕ
  pub trace : IsTrace sizes events
  pub reads : Consumes from to (trace_text sizes events ++ rest)
  pub some : 0 < length events

-- what a reading of a trace that answers this fault has read
abbrev pub NotRead : ReplayFault → Option (List ℕ) → Option (List ℕ) → Type 0
NotRead BadHeader from to = NotReadAtHeader from to
NotRead (BadLine n) from to = NotReadAtLine n from to
NotRead Read from to = NotReadAtFailure from to
NotRead Write from to = ⊥
NotRead Memory from to = NotReadAtMemory from to
