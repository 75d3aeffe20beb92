-- A race of a script, and what is told of one.
use Rattle.std.specs.Prelude.{◌≡◌, ◌≢◌, ◌⊎◌, ℕ, Bool, true, false, List, length, take, All, Option, None, Some}
use Rattle.hp_base.specs.Text.{Sizes, sizes}
use Rattle.hp_base.specs.declared.event.Event.{Event}
use Rattle.hp_core.specs.Readers.{config_of, free_of, resv_of}
use Rattle.hp_core.specs.Runs.{IsOpening}
use Rattle.hp_core.specs.State.{CoreState}
use Rattle.hp_text.specs.declared.script.Script.{Script}
use Rattle.hp_core.specs.declared.readers.Tally.{Tally}
use Rattle.hp_text.specs.declared.trace.TheConstants.{MOST_EVENTS}
use Rattle.hp_text.specs.declared.trace.Trace.{Trace}
use Rattle.hp_shared.specs.declared.entry.Entry.{Entry}
use Rattle.hp_shared.specs.declared.fault.CloseFault.{CloseFault}
use Rattle.hp_shared.specs.declared.fault.CloseFault.TheVariants as fault
use Rattle.hp_shared.specs.Journal.{events_of, FirstFailsAt, Follows, Interleaves, IsCameTo}
use Rattle.hp_shared.specs.Seats.{AllSeated, LeastMissing, lists_of}
use Rattle.hp_shared.specs.States.{SeatState}
use Rattle.hp_race.specs.Racers.{HasMadeBy, SomeLeft, SomeStrayed, are_gone_in}
use Rattle.hp_race.specs.Keeping.{keeps_waits}
use Rattle.hp_race.specs.declared.racer.Found.{Found}
use Rattle.hp_race.specs.declared.line.Race.{Race}
use Rattle.hp_race.specs.declared.line.Verdict.{Verdict}
use Rattle.hp_race.specs.declared.line.Verdict.TheVariants.{Closed, Disagree, Astray, Late}

-- The journal is a race of the script, which came to this core: it leads there from the opening of the script's pool, and is
-- an interleaving of the lists of one seat a task, each of which is made by the script's calls of that task. No task is alive in
-- that core of which calls were refused: it is dead or killed there. Each call began when those had ended for which it waits
pub record IsRace (mortal : Bool) (script : Script) (journal : List Entry) (core : CoreState) : Type 0 where
  pub opened : CoreState
  pub opening : IsOpening script.config opened
  pub run : Follows opened journal core
  pub seats : List SeatState
  pub seated : AllSeated script.config.tasks seats
  pub count : length seats ≡ script.config.tasks
  pub made : All (HasMadeBy mortal script core) seats
  pub order : Interleaves 0 journal (lists_of seats)
  pub waits : keeps_waits script journal ≡ true

-- The trace has the script's sizes, and its events are those of the journal of a race of the script, in order, as many as a
-- trace may have
pub record IsTraceOf (mortal : Bool) (script : Script) (z : Sizes) (events : List Event) : Type 0 where
  pub journal : List Entry
  pub core : CoreState
  pub is : IsRace mortal script journal core
  pub config : z ≡ sizes script.config
  pub order : events ≡ events_of (take MOST_EVENTS journal)

-- the numbers that are told are these
abbrev pub Counts : Race → (entries : ℕ) → CoreState → Type 0
Counts race entries core = (race.entries ≡ entries) × (race.free ≡ free_of core) × (race.resv ≡ resv_of core)

-- what was closed is the pool that was opened for the script, with all its entries
abbrev pub IsOfScript : Script → (first : ℕ) → CoreState → Type 0
IsOfScript script first core = (first ≡ 0) × (config_of core ≡ sizes script.config)

-- The verdict on a pool of the script's sizes that was closed: of calls that were found so, where the tasks of which some were refused
-- are all gone, or aren't, and the waits were kept, or weren't
abbrev pub IsVerdictOn : (astray late gone waited : Bool) → (first : ℕ) → Verdict → Type 0
IsVerdictOn astray late gone waited first Closed =
    (astray ≡ false) × (late ≡ false) × (gone ≡ true) × (waited ≡ true) × (first ≡ 0)
IsVerdictOn astray late gone waited first (Disagree position) = ⊥
IsVerdictOn astray late gone waited first Astray = (astray ≡ true) ⊎ ((gone ≡ false) ⊎ ((waited ≡ false) ⊎ (¬ (first ≡ 0))))
IsVerdictOn astray late gone waited first Late = (astray ≡ false) × (late ≡ true)

-- the verdict on a pool that was closed at this core with this journal
abbrev pub IsOnFound : Script → Found → CoreState → (first : ℕ) → (journal : List Entry) → Verdict → Type 0
IsOnFound script found core first journal verdict =
    IsVerdictOn found.astray found.late (are_gone_in core found.refused.items) (keeps_waits script journal) first verdict

-- the race was closed
pub record IsClosed (mortal : Bool) (script : Script) (race : Race) : Type 0 where
  pub journal : List Entry
  pub core : CoreState
  pub is : IsRace mortal script journal core
  pub counts : Counts race (length journal) core

-- the seats' lists aren't those of the journal, from this position on
pub record IsDisagreed (script : Script) (position : ℕ) (race : Race) : Type 0 where
  pub seats : List SeatState
  pub seated : AllSeated script.config.tasks seats
  pub first : ℕ
  pub journal : List Entry
  pub fails : FirstFailsAt first journal (lists_of seats) position
  pub core : CoreState
  pub came : IsCameTo core
  pub counts : Counts race position core

-- some pool of other sizes than the script's was there to be closed
abbrev pub HasOtherSizes : Script → Type 0
HasOtherSizes script = (core : CoreState) × IsCameTo core × (¬ (config_of core ≡ sizes script.config))

-- in some core that a pool came to not all of some tasks are gone: that calls of them were refused no clause can tie to this race
abbrev pub HasLived : Type 0
HasLived = (core : CoreState) × (tasks : List ℕ) × IsCameTo core × (are_gone_in core tasks ≡ false)

-- some journal doesn't keep the waits of the script
abbrev pub HasOvertaken : Script → Type 0
HasOvertaken script = (journal : List Entry) × (keeps_waits script journal ≡ false)

-- a call ended as none may, was refused though its task is alive, or didn't wait; what was closed isn't what was opened, a seat is missing,
-- or there was a pool of other sizes
pub record IsAstray (mortal : Bool) (script : Script) (race : Race) : Type 0 where
  pub seats : List SeatState
  pub first : ℕ
  pub core : CoreState
  pub came : IsCameTo core
  pub why : SomeStrayed mortal script seats
      ⊎ ((¬ IsOfScript script first core)
      ⊎ (((task : ℕ) × LeastMissing script.config.tasks seats task) ⊎ (HasOtherSizes script ⊎ (HasLived ⊎ HasOvertaken script))))
  pub free : race.free ≡ free_of core
  pub resv : race.resv ≡ resv_of core

-- some calls were left, since what one waits for didn't end before all threads had come
pub record IsLate (mortal : Bool) (script : Script) (race : Race) : Type 0 where
  pub seats : List SeatState
  pub left : SomeLeft mortal script seats
  pub core : CoreState
  pub came : IsCameTo core
  pub free : race.free ≡ free_of core
  pub resv : race.resv ≡ resv_of core

abbrev pub IsToldAs : (mortal : Bool) → Script → Verdict → Race → Type 0
IsToldAs mortal script Closed race = IsClosed mortal script race
IsToldAs mortal script (Disagree position) race = IsDisagreed script position race
IsToldAs mortal script Astray race = IsAstray mortal script race
IsToldAs mortal script Late race = IsLate mortal script race

-- what is told of a race is so
abbrev pub IsTold : (mortal : Bool) → Script → Race → Type 0
IsTold mortal script race = IsToldAs mortal script race.verdict race

-- what is told of a pool that wasn't closed
abbrev pub IsToldOfRefused : CloseFault → Tally → Race → Type 0
IsToldOfRefused (fault.SeatMissing task) tally race = race ≡ record { verdict = Astray; entries = 0; free = tally.free; resv = tally.resv }
IsToldOfRefused (fault.Disagree position) tally race =
    race ≡ record { verdict = Disagree position; entries = position; free = tally.free; resv = tally.resv }
IsToldOfRefused fault.OtherSizes tally race = race ≡ record { verdict = Astray; entries = 0; free = tally.free; resv = tally.resv }
IsToldOfRefused fault.Memory tally race = ⊥

-- what was closed isn't the pool that was opened for the script, with all its entries
abbrev pub HasClosedAnother : Script → Type 0
HasClosedAnother script = (first : ℕ) × (core : CoreState) × IsCameTo core × (¬ IsOfScript script first core)

-- the seats' lists are no interleaving of some journal
abbrev pub HaveDisagreed : List SeatState → Type 0
HaveDisagreed seats = (first : ℕ) × (journal : List Entry) × (position : ℕ) × FirstFailsAt first journal (lists_of seats) position

-- A race of the script wasn't closed: a call ended as none may, was left, was refused though its task is alive, or didn't wait; what was
-- closed isn't what was opened, a seat is missing, or the seats' lists aren't those of the journal
pub record IsUnclosed (mortal : Bool) (script : Script) : Type 0 where
  pub seats : List SeatState
  pub why : SomeStrayed mortal script seats ⊎ (HasClosedAnother script
      ⊎ (((task : ℕ) × LeastMissing script.config.tasks seats task)
      ⊎ (HaveDisagreed seats ⊎ (HasLived ⊎ (HasOvertaken script ⊎ SomeLeft mortal script seats)))))

-- what is kept of a race: its trace, or nothing where it wasn't closed
abbrev pub IsKept : (mortal : Bool) → Script → Option Trace → Type 0
IsKept mortal script None = IsUnclosed mortal script
IsKept mortal script (Some trace) = IsTraceOf mortal script (sizes trace.config) trace.events.items

-- what is kept of a pool that was closed with this journal
abbrev pub IsKeptOf : Script → (found : Found) → CoreState → (first : ℕ) → (journal : List Entry) → Option Trace → Type 0
IsKeptOf script found core first journal None = (v : Verdict) × IsOnFound script found core first journal v × (v ≢ Closed)
IsKeptOf script found core first journal (Some trace) =
    IsOnFound script found core first journal Closed
    × (sizes trace.config ≡ sizes script.config)
    × (trace.events.items ≡ events_of (take MOST_EVENTS journal))
