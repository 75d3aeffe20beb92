-- Scripts: traces whose events are begins alone, and what is wrong with bytes that are none.
use Rattle.std.specs.Prelude.{◌≡◌, ◌≢◌, ℕ, ◌+◌, ◌<◌, ◌⊎◌, List, [], ◌∷◌, ◌++◌, length}
use Rattle.std.specs.Prelude.{map, filter, ◌==◌, Some, None}
use Rattle.hp_base.specs.Text.{Sizes}
use Rattle.hp_base.specs.declared.event.Op.{Op}
use Rattle.hp_base.specs.declared.event.Event.{Event}
use Rattle.hp_base.specs.declared.event.Event.TheVariants.{Begin, Step, Kill, Resize}
use Rattle.hp_text.specs.declared.fault.ReplayFault.{ReplayFault}
use Rattle.hp_text.specs.declared.fault.ReplayFault.TheVariants.{BadLine, BadHeader, Read, Write, Memory}
use Rattle.hp_text.specs.Fits.{EventFits}
use Rattle.hp_text.specs.Lines.{FeedState, Line, header, event, feed_after, lines_after}
use Rattle.hp_text.specs.Traces.{Spells, IsTrace, BeginsNoHeader, IsLineFault, event_line, trace_text}

-- the calls of a task, in the order of the script's lines
abbrev pub calls_of : List (ℕ × Op) → (task : ℕ) → List Op
calls_of lines t = map (λ line. line.1) (filter (λ line. line.0 == t) lines)

-- the event that begins the call
abbrev pub begin_of : ℕ × Op → Event
begin_of call = Begin call.0 call.1

-- the event begins a call
abbrev pub IsCall : Event → Type 0
IsCall (Begin task op) = Unit {0}
IsCall (Step task granted) = ⊥
IsCall (Kill task) = ⊥
IsCall (Resize frames) = ⊥

-- the line is a header, or begins a call
abbrev pub IsCallLine : Line → Type 0
IsCallLine (header s) = Unit {0}
IsCallLine (event e) = IsCall e

abbrev pub AreCalls : List Line → Type 0
AreCalls [] = Unit {0}
AreCalls (line ∷ lines) = IsCallLine line × AreCalls lines

-- the bytes are the text of this script
abbrev pub SpellsScript : List ℕ → Sizes → List (ℕ × Op) → Type 0
SpellsScript bytes s calls = Spells bytes s (map begin_of calls)

pub record SpellsSomeScript (bytes : List ℕ) : Type 0 where
  pub sizes : Sizes
  pub calls : List (ℕ × Op)
  pub spells : SpellsScript bytes sizes calls

-- no line of a begin stands at the front of the bytes
abbrev pub BeginsNoCall : List ℕ → Type 0
BeginsNoCall bytes = (task : ℕ) (op : Op) (more : List ℕ) → EventFits (Begin task op) → bytes ≢ event_line (Begin task op) ++ more

-- behind so many calls these bytes are no more lines of the script
abbrev pub IsBadCall : ℕ → List ℕ → Type 0
IsBadCall calls rest = (0 < length rest) × ((calls ≡ 1000000) ⊎ BeginsNoCall rest)

-- line n is the first bad one: the lines before it are a script
pub record HasBadCall (n : ℕ) (bytes : List ℕ) : Type 0 where
  pub sizes : Sizes
  pub calls : List (ℕ × Op)
  pub rest : List ℕ
  pub parts : bytes ≡ trace_text sizes (map begin_of calls) ++ rest
  pub script : IsTrace sizes (map begin_of calls)
  pub number : n ≡ length calls + 2
  pub bad : IsBadCall (length calls) rest

-- this is what is wrong with the bytes; the last three are no faults of bytes
abbrev pub HasScriptFault : List ℕ → ReplayFault → Type 0
HasScriptFault bytes BadHeader = BeginsNoHeader bytes
HasScriptFault bytes (BadLine n) = HasBadCall n bytes
HasScriptFault bytes Read = Unit {0}
HasScriptFault bytes Write = Unit {0}
HasScriptFault bytes Memory = Unit {0}

-- behind these lines the piece has a line that is none of a trace, or one that begins no call; or memory was refused
pub data PieceNotCalls (fault : ReplayFault) (held : FeedState) (old : List Line) (piece : List ℕ) : Type 0 where
  no_line : (front back : List ℕ) → piece ≡ front ++ back → (feed_after held front).fault ≡ Some fault → IsLineFault fault
      → AreCalls (old ++ lines_after held front) → PieceNotCalls fault held old piece
  no_call : (front back : List ℕ) (lines : List Line) (e : Event) → piece ≡ front ++ back → (feed_after held front).fault ≡ None
      → old ++ lines_after held front ≡ lines ++ event e ∷ [] → AreCalls lines → (IsCall e → ⊥)
      → fault ≡ BadLine (feed_after held front).lines → PieceNotCalls fault held old piece
  no_memory : fault ≡ Memory → PieceNotCalls fault held old piece
