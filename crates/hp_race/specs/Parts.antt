-- A race whose journal is cut, and what is told of one.
use Rattle.std.specs.Prelude.{◌≡◌, ◌+◌, ◌≤◌, ◌⊎◌, ℕ, Bool, true, false, List, [], ◌∷◌, length, All, Option, None, Some}
use Rattle.hp_core.specs.Readers.{free_of, resv_of}
use Rattle.hp_core.specs.Runs.{IsOpening}
use Rattle.hp_core.specs.State.{CoreState}
use Rattle.hp_text.specs.declared.script.Script.{Script}
use Rattle.hp_text.specs.Scripts.{calls_of}
use Rattle.hp_shared.specs.declared.entry.Entry.{Entry}
use Rattle.hp_shared.specs.Closing.{ClosesPoolOf}
use Rattle.hp_shared.specs.Journal.{Follows, Interleaves, IsCameTo}
use Rattle.hp_shared.specs.Seats.{AllSeated, lists_of}
use Rattle.hp_shared.specs.States.{SeatState, tally_of}
use Rattle.hp_race.specs.Racers.{HasMadeInBy}
use Rattle.hp_race.specs.Races.{Counts, IsDisagreed, IsTold}
use Rattle.hp_race.specs.declared.line.Race.{Race}
use Rattle.hp_race.specs.declared.line.Verdict.{Verdict}
use Rattle.hp_race.specs.declared.line.Verdict.TheVariants.{Closed, Disagree, Astray, Late}
use Rattle.hp_race.specs.declared.call_range.CallRange.{CallRange}

-- A part of a race: the seats with what each made in it, the entries of the journal, and the core to which they led
pub record RacePart : Type 0 where
  pub seats : List SeatState
  pub entries : List Entry
  pub core : CoreState

abbrev pub call_range : (from most : ℕ) → CallRange
call_range from most = record { from = from; most = most }

-- Each task made a range of the script's calls of it, and the entries, whose positions begin with this one, are an interleaving
-- of the lists of one seat a task and lead from that core to the part's, in which no task is alive of which calls were refused
pub record IsRacePart (mortal : Bool) (script : Script) (calls : CallRange) (position : ℕ) (start : CoreState) (part : RacePart) : Type 0 where
  pub seated : AllSeated script.config.tasks part.seats
  pub count : length part.seats ≡ script.config.tasks
  pub made : All (HasMadeInBy mortal script calls part.core) part.seats
  pub order : Interleaves position part.entries (lists_of part.seats)
  pub run : Follows start part.entries part.core

-- no task has a call from this one on
abbrev pub IsToTheEnd : Script → (from : ℕ) → Type 0
IsToTheEnd script from =
    (task : ℕ) → 1 ≤ task → task ≤ script.config.tasks → length (calls_of script.calls.items task) ≤ from

-- Parts of at most so many calls a task, from these calls, this position and this core on: each begins where the one before ended,
-- and behind the last no call is left, so many entries were made, and the core is this one
abbrev pub AreRaceParts : (mortal : Bool) → Script → (most from position : ℕ) → (start : CoreState) → List RacePart → (entries : ℕ) → CoreState
    → Type 0
AreRaceParts mortal script most from position start [] entries core = IsToTheEnd script from × (entries ≡ position) × (core ≡ start)
AreRaceParts mortal script most from position start (part ∷ parts) entries core =
    IsRacePart mortal script (call_range from most) position start part
    × AreRaceParts mortal script most (from + most) (position + length part.entries) part.core parts entries core

-- the entries begin at this position and lead from one core to the other, and so many were made by then
abbrev pub GoesOn : (position : ℕ) → CoreState → (first : ℕ) → List Entry → (entries : ℕ) → CoreState → Type 0
GoesOn position old first journal entries new =
    (first ≡ position) × Follows old journal new × (entries ≡ position + length journal)

-- what was closed is what happened again so far: nothing is in its journal, as many entries are behind it, and the numbers are the same
abbrev pub IsAgain : (entries : ℕ) → CoreState → (first : ℕ) → (journal : List Entry) → CoreState → Type 0
IsAgain entries core first journal closed = (first ≡ entries) × (journal ≡ []) × (tally_of closed ≡ tally_of core)

-- the verdict on a pool that was closed behind the last part
abbrev pub IsVerdictOnParts : (made : Bool) → (same : Type 0) → Verdict → Type 0
IsVerdictOnParts made same Closed = (made ≡ true) × same
IsVerdictOnParts made same (Disagree position) = ⊥
IsVerdictOnParts made same Astray = (made ≡ false) ⊎ (¬ same)
IsVerdictOnParts made same Late = ⊥

-- The race was closed: its parts, one after the other, are a run from the opening of the script's pool to the core whose numbers are
-- told. Behind the last part the pool that was closed, one of the script's config, had nothing in its journal, as many entries
-- behind it as are told, and the numbers of that core
pub record IsClosedInParts (mortal : Bool) (script : Script) (most : ℕ) (race : Race) : Type 0 where
  pub opened : CoreState
  pub opening : IsOpening script.config opened
  pub parts : List RacePart
  pub core : CoreState
  pub are : AreRaceParts mortal script most 0 0 opened parts race.entries core
  pub counts : Counts race race.entries core
  pub seats : List SeatState
  pub pool : CoreState
  pub rest : ClosesPoolOf script.config seats pool race.entries []
  pub same : tally_of pool ≡ tally_of core

-- The race was given up: a call ended as none may or was left, a cut was refused, or what was cut off or closed isn't what happened
-- to a pool of the script. The numbers are those of a core that some pool came to
pub record IsGivenUp (race : Race) : Type 0 where
  pub core : CoreState
  pub came : IsCameTo core
  pub free : race.free ≡ free_of core
  pub resv : race.resv ≡ resv_of core

abbrev pub IsToldInPartsAs : (mortal : Bool) → Script → (most : ℕ) → Verdict → Race → Type 0
IsToldInPartsAs mortal script most Closed race = IsClosedInParts mortal script most race
IsToldInPartsAs mortal script most (Disagree position) race = IsDisagreed script position race
IsToldInPartsAs mortal script most Astray race = IsGivenUp race
IsToldInPartsAs mortal script most Late race = ⊥

-- what is told of a race whose journal is cut behind so many calls of each task is so
abbrev pub IsToldInParts : (mortal : Bool) → Script → (most : ℕ) → Race → Type 0
IsToldInParts mortal script most race = IsToldInPartsAs mortal script most race.verdict race

-- the same of a race whose journal is cut so, or not at all
abbrev pub IsToldBy : (mortal : Bool) → Script → (cut : Option ℕ) → Race → Type 0
IsToldBy mortal script None race = IsTold mortal script race
IsToldBy mortal script (Some most) race = IsToldInParts mortal script most race
