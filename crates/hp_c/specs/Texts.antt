-- What an export answers of the text of a trace.
use Rattle.std.specs.Prelude.{◌≡◌, ◌⊎◌, ◌<◌, ℕ, List, [], drop, length, take, true, Option, Some}
use Rattle.hp_base.specs.Text.{Sizes}
use Rattle.hp_base.specs.declared.event.Event.{Event}
use Rattle.hp_format.specs.Loose.{ReadsRun, ReadsWrong}
use Rattle.hp_format.specs.declared.fault.LooseFault.{LooseFault}
use Rattle.hp_format.specs.declared.fault.Reason.{Reason}
use Rattle.hp_format.specs.declared.fault.LooseFault.TheVariants.{Stream, Line}
use Rattle.hp_replay.specs.Replaying.{Replayed}
use Rattle.hp_text.specs.Traces.{BeginsNoHeader, HasBadLine, IsLineFault, trace_text}
use Rattle.hp_text.specs.declared.fault.ReplayFault.{ReplayFault}
use Rattle.hp_text.specs.declared.fault.ReplayFault.TheVariants as fault
use Rattle.hp_text.specs.Checking.{ReadsEvents}
use Rattle.hp_explain.specs.Explaining.{Explained}
use Rattle.hp_explain.specs.JsonRuns.{ExplainedJson}
use Rattle.hp_explain.specs.Views.{whole_view}
use Rattle.hp_explain.specs.declared.view.View.{View}
use Rattle.hp_draw.specs.Drawing.{IsDrawing}
use Rattle.hp_c.specs.Codes.{bad_header, bad_line, no_memory, no_such, ok, too_small}

-- the text is that of a replay of the trace that the bytes spell
abbrev pub Replays : (bytes text : List ℕ) → Type 0
Replays bytes text = (left : Option (List ℕ)) × Replayed (Some bytes) left (Some []) (Some text)

-- the text explains it
abbrev pub Explains : (bytes text : List ℕ) → Type 0
Explains bytes text = (left : Option (List ℕ)) × Explained whole_view (Some bytes) left (Some []) (Some text)

-- the events of these lines: all in one column, with Linux's functions, and each wait in a line of its own
abbrev pub rows_view : (first last : ℕ) → View
rows_view first last = record { first = first; last = last; tasks = 0; linux = true; compact = true }

-- the text explains them, and where they end
abbrev pub ExplainsRows : (first last : ℕ) → (bytes text : List ℕ) → Type 0
ExplainsRows first last bytes text = (left : Option (List ℕ)) × Explained (rows_view first last) (Some bytes) left (Some []) (Some text)

-- the text explains them in lines of JSON
abbrev pub ExplainsJson : (first last : ℕ) → (bytes text : List ℕ) → Type 0
ExplainsJson first last bytes text = (left : Option (List ℕ)) × ExplainedJson (rows_view first last) (Some bytes) left (Some []) (Some text)

-- the text is its picture
abbrev pub Draws : (bytes text : List ℕ) → Type 0
Draws bytes text = (left : Option (List ℕ)) × IsDrawing (Some bytes) left (Some []) (Some text)

-- the trace that they spell has so many events
abbrev pub Counts : (bytes : List ℕ) (events : ℕ) → Type 0
Counts bytes events = (left : Option (List ℕ)) × ReadsEvents events (Some bytes) left

-- the code and the line by which a fault is told. Reading from memory can't fail, and where writing to it does there was none
abbrev pub Codes : ReplayFault → (code line : ℕ) → Type 0
Codes (fault.BadLine n) code line = (code ≡ bad_line) × (line ≡ n)
Codes fault.BadHeader code line = (code ≡ bad_header) × (line ≡ 1)
Codes fault.Memory code line = (code ≡ no_memory) × (line ≡ 0)
Codes fault.Write code line = (code ≡ no_memory) × (line ≡ 0)
Codes fault.Read code line = (code ≡ no_memory) × (line ≡ 0)

-- a fault that bytes in memory may have
abbrev pub HasFaultTold : (bytes : List ℕ) → ReplayFault → Type 0
HasFaultTold bytes (fault.BadLine n) = HasBadLine n bytes
HasFaultTold bytes fault.BadHeader = BeginsNoHeader bytes
HasFaultTold bytes fault.Memory = Unit {0}
HasFaultTold bytes fault.Write = Unit {0}
HasFaultTold bytes fault.Read = ⊥

-- the text is the front of the room, and behind it all is as it was
abbrev pub IsPut : (text old new : List ℕ) → Type 0
IsPut text old new = (take (length text) new ≡ text) × (drop (length text) new ≡ drop (length text) old)

-- a text that is such was put into the room for it, and its length was told
abbrev pub Shown : (List ℕ → Type 0) → (old new : List ℕ) (needed line : ℕ) → Type 0
Shown Is old new needed line = (text : List ℕ) × Is text × (needed ≡ length text) × (line ≡ 0) × IsPut text old new

-- the room is too small for such a text, of so many bytes
abbrev pub IsTooLong : (List ℕ → Type 0) → (room needed line : ℕ) → Type 0
IsTooLong Is room needed line = (text : List ℕ) × Is text × (needed ≡ length text) × (room < needed) × (line ≡ 0)

-- the bytes have a fault, which is told, or there was no memory
abbrev pub IsFaulty : (bytes : List ℕ) → (code line : ℕ) → Type 0
IsFaulty bytes code line = (fault : ReplayFault) × HasFaultTold bytes fault × Codes fault code line

-- a line of the bytes is bad, which is told; memory doesn't come into it
abbrev pub IsBadTrace : (bytes : List ℕ) → (code line : ℕ) → Type 0
IsBadTrace bytes code line = (fault : ReplayFault) × IsLineFault fault × HasFaultTold bytes fault × Codes fault code line

-- a text is put into the room, or there is too little
abbrev pub Tells : (text old new : List ℕ) → (needed code line : ℕ) → Type 0
Tells text old new needed code line =
    (needed ≡ length text) × (line ≡ 0)
    × ((code ≡ ok) × IsPut text old new ⊎ (code ≡ too_small) × (length old < length text) × (new ≡ old))

-- nothing is shown: the room is too small, the bytes have a fault, or there was no memory
abbrev pub NotShown : (List ℕ → Type 0) → (bytes : List ℕ) → (room needed code line : ℕ) → Type 0
NotShown Is bytes room needed code line =
    (code ≡ too_small) × IsTooLong Is room needed line ⊎ (needed ≡ 0) × IsFaulty bytes code line

-- some text was put into the room for it, and its length was told
abbrev pub IsReasonPut : (old new : List ℕ) → (needed : ℕ) → Type 0
IsReasonPut old new needed = (text : List ℕ) × (needed ≡ length text) × IsPut text old new

-- no reason is put: the room is too small for its bytes, there was no memory, or none is known
abbrev pub IsReasonKept : (room needed code : ℕ) → Type 0
IsReasonKept room needed code =
    (code ≡ too_small) × (room < needed) ⊎ (code ≡ no_memory) × (needed ≡ 0) ⊎ (code ≡ no_such) × (needed ≡ 0)

-- the text is the trace that the bytes ask for in the loose form
pub record Formats (bytes text : List ℕ) : Type 0 where
  pub sizes : Sizes
  pub events : List Event
  pub left : Option (List ℕ)
  pub reads : ReadsRun (Some bytes) left sizes events
  pub is : text ≡ trace_text sizes events

-- they are read as a trace, so no line is wrong
abbrev pub HasNoWrongLine : (bytes : List ℕ) → Type 0
HasNoWrongLine bytes = (s : Sizes) × (events : List Event) × (left : Option (List ℕ)) × ReadsRun (Some bytes) left s events

-- a line of theirs is wrong
abbrev pub HasWrongLine : (bytes : List ℕ) → Type 0
HasWrongLine bytes = (n : ℕ) × (why : Reason) × (left : Option (List ℕ)) × ReadsWrong (Some bytes) left n why

-- no reason is put for such bytes: the room is too small for it, there was no memory, or no line is wrong
abbrev pub IsLooseReasonKept : (bytes : List ℕ) → (room needed code : ℕ) → Type 0
IsLooseReasonKept bytes room needed code =
    (code ≡ too_small) × (room < needed) × HasWrongLine bytes
    ⊎ (code ≡ no_memory) × (needed ≡ 0) ⊎ (code ≡ no_such) × (needed ≡ 0) × HasNoWrongLine bytes

-- the code and the line by which a fault of such bytes is told
abbrev pub LooseCodes : LooseFault → (code line : ℕ) → Type 0
LooseCodes (Stream why) code line = (code ≡ no_memory) × (line ≡ 0)
LooseCodes (Line n why) code line = (code ≡ bad_line) × (line ≡ n)

-- a fault that they may have
abbrev pub HasLooseFault : (bytes : List ℕ) → LooseFault → Type 0
HasLooseFault bytes (Stream why) = Unit {0}
HasLooseFault bytes (Line n why) = (left : Option (List ℕ)) × ReadsWrong (Some bytes) left n why

-- they have one, which is told, or there was no memory
abbrev pub IsLooselyFaulty : (bytes : List ℕ) → (code line : ℕ) → Type 0
IsLooselyFaulty bytes code line = (fault : LooseFault) × HasLooseFault bytes fault × LooseCodes fault code line

-- no trace is shown: the room is too small, the bytes have a fault, or there was no memory
abbrev pub NotFormatted : (bytes : List ℕ) → (room needed code line : ℕ) → Type 0
NotFormatted bytes room needed code line =
    (code ≡ too_small) × IsTooLong (Formats bytes) room needed line ⊎ (needed ≡ 0) × IsLooselyFaulty bytes code line
