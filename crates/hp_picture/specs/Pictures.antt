-- What the lines of a picture say together.
use Rattle.std.specs.Prelude.{◌≡◌, ℕ, ◌+◌, Bool, true, false, List, [], ◌∷◌, ◌++◌, Option, Some, None, Result, Ok, Err, if◌then◌else◌, ◌⊎◌, MatchResult}
use Rattle.std.specs.Io.KnownBytes.{Consumes, IsAtEnd}
use Rattle.hp_text.specs.declared.fault.ReplayFault.TheVariants.{Memory, Read}
use Rattle.hp_text.specs.Streams.{source_at}
use Rattle.hp_text.specs.TextLines.{lines_of}
use Rattle.hp_picture.specs.Reading.{line_at}
use Rattle.hp_picture.specs.declared.fault.PictureFault.{PictureFault}
use Rattle.hp_picture.specs.declared.fault.PictureFault.TheVariants as faults
use Rattle.hp_picture.specs.declared.picture.Counts.{Counts}
use Rattle.hp_picture.specs.declared.line.PictureLine.{PictureLine}
use Rattle.hp_picture.specs.declared.line.PictureLine.TheVariants as says

-- where frames are, and what files have reserved
pub record PlacesState : Type 0 where
  pub free : List ℕ
  pub retired : List ℕ
  pub hands : List ℕ
  pub files : List (ℕ × Bool)
  pub regions : List (ℕ × ℕ × ℕ)
  pub pages : List (ℕ × ℕ × ℕ)
  pub tables : List (ℕ × ℕ × ℕ × ℕ)

-- the lines so far: the counts behind the first, the places, and whether the end has come
pub record DraftState : Type 0 where
  pub head : Option Counts
  pub places : PlacesState
  pub ended : Bool

abbrev pub no_places : PlacesState
no_places = record { free = []; retired = []; hands = []; files = []; regions = []; pages = []; tables = [] }

abbrev pub opening : DraftState
opening = record { head = None; places = no_places; ended = false }

-- the places with what a line adds, if it adds a place
unfoldable pub with_place : PlacesState → PictureLine → Option PlacesState
with_place p (says.Head counts) = None
with_place p (says.Free frame) = Some (record p { free = p.free ++ frame ∷ [] })
with_place p (says.Retired frame) = Some (record p { retired = p.retired ++ frame ∷ [] })
with_place p (says.Hand frame) = Some (record p { hands = p.hands ++ frame ∷ [] })
with_place p (says.File size locked) = Some (record p { files = p.files ++ (size, locked) ∷ [] })
with_place p (says.Region file from to) = Some (record p { regions = p.regions ++ (file, from, to) ∷ [] })
with_place p (says.Page file index frame) = Some (record p { pages = p.pages ++ (file, index, frame) ∷ [] })
with_place p (says.Translation task file index frame) = Some (record p { tables = p.tables ++ (task, file, index, frame) ∷ [] })
with_place p says.End = None

abbrev pub with_places : DraftState → Option PlacesState → Option DraftState
with_places d None = None
with_places d (Some p) = Some (record d { places = p })

-- the line is the end
abbrev pub is_end : PictureLine → Bool
is_end says.End = true
is_end (says.Head counts) = false
is_end (says.Free frame) = false
is_end (says.Retired frame) = false
is_end (says.Hand frame) = false
is_end (says.File size locked) = false
is_end (says.Region file from to) = false
is_end (says.Page file index frame) = false
is_end (says.Translation task file index frame) = false

-- a line behind the first: a place, or the end
abbrev pub behind_head : DraftState → PictureLine → Option DraftState
behind_head d line = if is_end line then Some (record d { ended = true }) else with_places d (with_place d.places line)

-- the first line: the counts
abbrev pub as_head : DraftState → PictureLine → Option DraftState
as_head d (says.Head counts) = Some (record d { head = Some counts })
as_head d (says.Free frame) = None
as_head d (says.Retired frame) = None
as_head d (says.Hand frame) = None
as_head d (says.File size locked) = None
as_head d (says.Region file from to) = None
as_head d (says.Page file index frame) = None
as_head d (says.Translation task file index frame) = None
as_head d says.End = None

-- the line that comes next: the counts first, places behind them, and nothing behind the end
abbrev pub next_in : Option Counts → (ended : Bool) → DraftState → PictureLine → Option DraftState
next_in None ended d line = as_head d line
next_in (Some counts) false d line = behind_head d line
next_in (Some counts) true d line = None

abbrev pub next_of : DraftState → Option PictureLine → Option DraftState
next_of d None = None
next_of d (Some line) = next_in d.head d.ended d line

-- the draft behind one more line, if that may come
unfoldable pub next : DraftState → List ℕ → Option DraftState
next d bytes = next_of d (line_at bytes)

-- what follows, or the bad line's number
abbrev pub or_bad : {A B : Type 0} → ℕ → Option A → (A → Result B ℕ) → Result B ℕ
or_bad n None f = Err n
or_bad n (Some x) f = f x

-- the picture, where all its lines are there, or the number of the line that is missing
abbrev pub finished : ℕ → Option Counts → (ended : Bool) → PlacesState → Result (Counts × PlacesState) ℕ
finished n (Some counts) true p = Ok (counts, p)
finished n (Some counts) false p = Err (n + 1)
finished n None ended p = Err (n + 1)

-- the picture that lines make behind n others, or the number of the first bad one
unfoldable pub taken : ℕ → DraftState → List (List ℕ) → Result (Counts × PlacesState) ℕ
taken n d [] = finished n d.head d.ended d.places
taken n d (line ∷ lines) = or_bad (n + 1) (next d line) (λ more. taken (n + 1) more lines)

-- the picture that a text spells, or the number of its first bad line
unfoldable pub picture_of : List ℕ → Result (Counts × PlacesState) ℕ
picture_of bytes = taken 0 opening (lines_of bytes)

-- the fault is that of the bad line, or memory was refused
abbrev pub IsFaultOf : PictureFault → Result (Counts × PlacesState) ℕ → Type 0
IsFaultOf (faults.Line n) read = read ≡ Err n
IsFaultOf (faults.Stream fault) read = fault ≡ Memory

-- the reader's bytes, all of them, spell that
pub record ReadsPicture (from to : Option (List ℕ)) (read : Result (Counts × PlacesState) ℕ) : Type 0 where
  pub bytes : List ℕ
  pub reads : Consumes from to bytes
  pub all : IsAtEnd to
  pub spells : picture_of bytes ≡ read

-- a bad line is the first one of all the reader's bytes; else a read failed, or memory was refused
abbrev pub IsReadOf : PictureFault → Option (List ℕ) → Option (List ℕ) → Type 0
IsReadOf (faults.Line n) from to = ReadsPicture from to (Err n)
IsReadOf (faults.Stream fault) from to = (fault ≡ Read) ⊎ (fault ≡ Memory)

-- how often a source has failed once this fault is returned
abbrev pub source_at_fault : PictureFault → ℕ → ℕ
source_at_fault (faults.Line n) failures = failures
source_at_fault (faults.Stream fault) failures = source_at fault failures

-- a fault of reading is returned where a read failed in this call, and nowhere else
abbrev pub TellsPicture : {A : Type 0} → Result A PictureFault → (old new : ℕ) → Type 0
TellsPicture result old new = MatchResult result (λ _. new ≡ old) (λ fault. new ≡ source_at_fault fault old)
