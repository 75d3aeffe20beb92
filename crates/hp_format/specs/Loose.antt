-- What a text in the loose form asks for.
use Rattle.std.specs.Prelude.{◌≡◌, ◌≢◌, ◌+◌, ◌⊎◌, MatchResult, Result, ℕ, suc, true, List, [], ◌∷◌, ◌++◌, Option, None, Some, All, length, replicate}
use Rattle.std.specs.Io.KnownBytes.{Consumes, IsAtEnd}
use Rattle.hp_base.specs.Text.{Sizes, sizes}
use Rattle.hp_base.specs.declared.config.Config.{Config}
use Rattle.hp_base.specs.declared.event.Event.{Event}
use Rattle.hp_base.specs.declared.event.Event.TheVariants.{Step}
use Rattle.hp_core.specs.Runs.{IsOpening}
use Rattle.hp_core.specs.State.{CoreState}
use Rattle.hp_text.specs.Reading.{header_at}
use Rattle.hp_text.specs.Streams.{source_at}
use Rattle.hp_text.specs.declared.fault.ReplayFault.TheVariants.{Memory, Read}
use Rattle.hp_format.specs.declared.fault.LooseFault.{LooseFault}
use Rattle.hp_format.specs.declared.fault.LooseFault.TheVariants.{Stream, Line}
use Rattle.hp_format.specs.Asked.{HasNoReading, IsAsked}
use Rattle.hp_format.specs.Following.{IsUnadded, Leads}
use Rattle.hp_format.specs.Lines.{unmarked}
use Rattle.hp_text.specs.TextLines.{lines_of}
use Rattle.hp_format.specs.Tidy.{tidy}
use Rattle.hp_format.specs.declared.asked.Asked.{Asked}
use Rattle.hp_format.specs.declared.asked.Asked.TheVariants.{Nothing, Times, Until}
use Rattle.hp_format.specs.declared.draft.Unadded.{Unadded}
use Rattle.hp_format.specs.declared.draft.Unadded.TheVariants as unadded
use Rattle.hp_format.specs.declared.fault.Reason.{Reason}
use Rattle.hp_format.specs.declared.fault.Reason.TheVariants as reason

-- the events that are written for what was asked: steps until something is reached are some steps of that task
abbrev pub Gives : Asked → List Event → Type 0
Gives Nothing events = events ≡ []
Gives (Times event times) events = events ≡ replicate times event
Gives (Until task goal) events = (more : ℕ) × (events ≡ replicate (suc more) (Step task true))

-- the lines behind the header, in order, give these events
pub data AreGiven : List (List ℕ) → List Event → Type 0 where
  no_line : AreGiven [] []
  first_line : {lines : List (List ℕ)} {events : List Event} (line : List ℕ) (asked : Asked) (front : List Event)
      → IsAsked line asked → Gives asked front → AreGiven lines events → AreGiven (line ∷ lines) (front ++ events)

-- the header that a line is: a strict one, or else the words of another line
abbrev pub IsHeaderOf : Option Sizes → List ℕ → Sizes → Type 0
IsHeaderOf (Some z) line s = z ≡ s
IsHeaderOf None line s = header_at (tidy line) ≡ Some s

abbrev pub IsHeader : List ℕ → Sizes → Type 0
IsHeader line s = IsHeaderOf (header_at line) line s

-- a line before the header has no words
pub record HasNoWords (line : List ℕ) : Type 0 where
  pub strict : header_at line ≡ None
  pub words : tidy line ≡ []

-- the text asks for a pool of these sizes, and for these events
pub record IsLoose (text : List ℕ) (s : Sizes) (events : List Event) : Type 0 where
  pub front : List (List ℕ)
  pub header : List ℕ
  pub lines : List (List ℕ)
  pub parts : lines_of (unmarked text) ≡ front ++ header ∷ lines
  pub blank : All HasNoWords front
  pub sizes : IsHeader header s
  pub given : AreGiven lines events

-- the reader's bytes, to their end, were such a text
pub record ReadsLoose (from to : Option (List ℕ)) (s : Sizes) (events : List Event) : Type 0 where
  pub text : List ℕ
  pub reads : Consumes from to text
  pub all : IsAtEnd to
  pub loose : IsLoose text s events

-- a fault of the text, or of memory for it; not of a stream
abbrev pub IsOfText : LooseFault → Type 0
IsOfText (Stream fault) = fault ≡ Memory
IsOfText (Line number why) = Unit {0}

-- how often a source has failed once this fault is answered: once more at a fault of reading, else as often as it had
abbrev pub loose_at : LooseFault → (failures : ℕ) → ℕ
loose_at (Stream fault) failures = source_at fault failures
loose_at (Line number why) failures = failures

-- a fault of reading is answered where a read failed in this call, and nowhere else
abbrev pub TellsLoose : {A : Type 0} → Result A LooseFault → (old new : ℕ) → Type 0
TellsLoose result old new = MatchResult result (λ _. new ≡ old) (λ fault. new ≡ loose_at fault old)

-- a fault of a stream is one of reading it, or there was no memory for what it gave
abbrev pub IsLooseFault : LooseFault → Type 0
IsLooseFault (Stream fault) = (fault ≡ Read) ⊎ (fault ≡ Memory)
IsLooseFault (Line number why) = Unit {0}

-- the lines behind the header, in order, give these events, which lead from one core to the other: what a line asks for happens to the
-- core to which the lines before it led
abbrev pub LinesLead : CoreState → List (List ℕ) → List Event → CoreState → Type 0
LinesLead core [] events new = (events ≡ []) × (new ≡ core)
LinesLead core (line ∷ lines) events new =
    (asked : Asked) × (front : List Event) × (mid : CoreState) × (behind : List Event)
    × IsAsked line asked × Leads core asked front mid × LinesLead mid lines behind new × (events ≡ front ++ behind)

-- a pool of these sizes as it was opened
pub record IsOpened (s : Sizes) (first : CoreState) : Type 0 where
  pub config : Config
  pub sizes_are : sizes config ≡ s
  pub opening : IsOpening config first

-- the text asks for a pool of these sizes, and these events are what its lines come to on that pool, one after the other
pub record IsRun (text : List ℕ) (s : Sizes) (events : List Event) : Type 0 where
  pub front : List (List ℕ)
  pub header : List ℕ
  pub lines : List (List ℕ)
  pub parts : lines_of (unmarked text) ≡ front ++ header ∷ lines
  pub blank : All HasNoWords front
  pub sizes_are : IsHeader header s
  pub first : CoreState
  pub opened : IsOpened s first
  pub core : CoreState
  pub led : LinesLead first lines events core

-- the reader's bytes, to their end, were such a text
pub record ReadsRun (from to : Option (List ℕ)) (s : Sizes) (events : List Event) : Type 0 where
  pub text : List ℕ
  pub reads : Consumes from to text
  pub all : IsAtEnd to
  pub run : IsRun text s events

-- what is wrong with a line that comes behind these events, where it is the core to which they led
abbrev pub IsWrong : CoreState → List Event → List ℕ → Reason → Type 0
IsWrong core events line why =
    (why ≡ reason.NoEvent) × HasNoReading line ⊎ (asked : Asked) × IsAsked line asked × IsUnadded core events asked why

-- line n, behind so many others, is the first of these lines with which something is wrong
pub record HasWrongLine (first : CoreState) (before : ℕ) (lines : List (List ℕ)) (n : ℕ) (why : Reason) : Type 0 where
  pub done : List (List ℕ)
  pub line : List ℕ
  pub rest : List (List ℕ)
  pub parts : lines ≡ done ++ line ∷ rest
  pub number : n ≡ before + length done + 1
  pub events : List Event
  pub core : CoreState
  pub led : LinesLead first done events core
  pub wrong : IsWrong core events line why

-- a line with words, which is no header
pub record IsNoHeader (line : List ℕ) : Type 0 where
  pub strict : header_at line ≡ None
  pub words : tidy line ≢ []
  pub loose : header_at (tidy line) ≡ None

-- where the header is to stand, no line is left, or one that is none
abbrev pub BeginsWithout : List (List ℕ) → Type 0
BeginsWithout [] = Unit {0}
BeginsWithout (line ∷ lines) = IsNoHeader line

-- line n, behind so many others, is where no header stands, and the lines before it have no words
pub record LacksHeader (before : ℕ) (lines : List (List ℕ)) (n : ℕ) (why : Reason) : Type 0 where
  pub why_is : why ≡ reason.Header
  pub front : List (List ℕ)
  pub rest : List (List ℕ)
  pub parts : lines ≡ front ++ rest
  pub blank : All HasNoWords front
  pub number : n ≡ before + length front + 1
  pub none : BeginsWithout rest

-- line n of the text, behind its header, is the first with which something is wrong
pub record IsWrongBehind (text : List ℕ) (n : ℕ) (why : Reason) : Type 0 where
  pub front : List (List ℕ)
  pub header : List ℕ
  pub lines : List (List ℕ)
  pub parts : lines_of (unmarked text) ≡ front ++ header ∷ lines
  pub blank : All HasNoWords front
  pub s : Sizes
  pub sizes_are : IsHeader header s
  pub first : CoreState
  pub opened : IsOpened s first
  pub bad : HasWrongLine first (length front + 1) lines n why

-- line n of the text is the first with which something is wrong, and what; blank lines count, too
abbrev pub IsWrongAt : List ℕ → (n : ℕ) → Reason → Type 0
IsWrongAt text n why = LacksHeader 0 (lines_of (unmarked text)) n why ⊎ IsWrongBehind text n why

-- a fault of lines is of the first one with which something is wrong, or there was no memory
abbrev pub IsFaultBy : (ℕ → Reason → Type 0) → LooseFault → Type 0
IsFaultBy bad (Stream fault) = fault ≡ Memory
IsFaultBy bad (Line n why) = bad n why

-- the fault of line n, where what it asks for isn't added
abbrev pub IsLineFault : (n : ℕ) → Unadded → LooseFault → Type 0
IsLineFault n unadded.Memory fault = fault ≡ Stream Memory
IsLineFault n (unadded.Reason why) fault = fault ≡ Line n why

-- a fault of a line is one of the reader's bytes, which were read to their end
pub record ReadsWrong (from to : Option (List ℕ)) (n : ℕ) (why : Reason) : Type 0 where
  pub text : List ℕ
  pub reads : Consumes from to text
  pub all : IsAtEnd to
  pub wrong : IsWrongAt text n why

abbrev pub IsFaultRead : (from to : Option (List ℕ)) → LooseFault → Type 0
IsFaultRead from to (Stream fault) = Unit {0}
IsFaultRead from to (Line n why) = ReadsWrong from to n why
