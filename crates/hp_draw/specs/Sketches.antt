-- What is to be drawn of a run.
use Rattle.std.specs.Prelude.{◌≡◌, ℕ, zero, suc, ◌+◌, ◌≤◌, All, slice_get, List, []}
use Rattle.std.specs.Prelude.{◌∷◌, ◌++◌, length, Option, Some, None, get_or, replicate, slice_set}
use Rattle.hp_base.specs.Text.{Sizes, sizes}
use Rattle.hp_base.specs.declared.config.Config.{Config}
use Rattle.hp_base.specs.declared.event.Event.{Event}
use Rattle.hp_core.specs.Readers.{config_of}
use Rattle.hp_core.specs.Runs.{IsOpening}
use Rattle.hp_core.specs.State.{CoreState}
use Rattle.hp_core.specs.Waiting.{WaitsFor}
use Rattle.hp_text.specs.Columns.{column_of}
use Rattle.hp_watch.specs.Happenings.{Happening, Happens, events_of, phase_in}
use Rattle.hp_draw.specs.Following.{open_stay_after, stay_left, stay_in, mark_of, block_of, failure_of, numbers_of}
use Rattle.hp_draw.specs.Lists.{listed}
use Rattle.hp_draw.specs.Waits.{GoesOn, IsShown, waiting_tasks, waits_left}
use Rattle.hp_draw.specs.declared.following.OpenStay.{OpenStay}
use Rattle.hp_draw.specs.declared.following.Stay.{Stay}
use Rattle.hp_draw.specs.declared.following.Mark.{Mark}
use Rattle.hp_draw.specs.declared.following.Numbers.{Numbers}
use Rattle.hp_draw.specs.declared.sketch.Sketch.{Sketch}
use Rattle.hp_draw.specs.declared.waits.Wait.{Wait}
use Rattle.hp_draw.specs.declared.waits.Waiting.{Waiting}

-- where the call of each column stands, the stays that ended, the marks, the counts behind each event, for whom each task waits, and
-- the waits that ended
pub record Drawn : Type 0 where
  pub open_stays : List (Option OpenStay)
  pub stays : List Stay
  pub marks : List Mark
  pub numbers : List Numbers
  pub waiting : List (Option Waiting)
  pub waits : List Wait

abbrev pub seen : Sketch → Drawn
seen s =
    record {
      open_stays = s.open_stays.items;
      stays = s.stays.items;
      marks = s.marks.items;
      numbers = s.numbers.items;
      waiting = s.waits.now.items;
      waits = s.waits.ended.items;
    }

-- a pool of so many tasks of which nothing was seen
abbrev pub nothing_drawn : (tasks : ℕ) → Drawn
nothing_drawn tasks =
    record { open_stays = replicate (tasks + 1) None; stays = []; marks = []; numbers = []; waiting = []; waits = [] }

-- for whom each task waits once the event of that moment has happened
abbrev pub waiting_then : (at : ℕ) → Drawn → Happening → List (Option Waiting)
waiting_then at d h = waiting_tasks h.core at h.holders d.waiting (config_of h.core).tasks

-- what is added by an event of that column, which led from one open stay to another
abbrev pub added : (at column : ℕ) → (before now : Option OpenStay) → Drawn → Happening → Drawn
added at column before now d h =
    record {
      open_stays = slice_set d.open_stays column now;
      stays = d.stays ++ listed (stay_left column at before now h.outcome);
      marks =
          ((d.marks ++ listed (mark_of column at h.event h.outcome)) ++ listed (block_of column at h.event h.outcome))
          ++ listed (failure_of column at h.outcome);
      numbers = d.numbers ++ (numbers_of h.core at ∷ []);
      waiting = waiting_then at d h;
      waits = d.waits ++ waits_left at d.waiting (waiting_then at d h) (length d.waiting);
    }

abbrev pub after_in : (at column : ℕ) → (before : Option OpenStay) → Drawn → Happening → Drawn
after_in at column before d h =
    added at column before (open_stay_after before at h.event h.outcome (phase_in h.core column)) d h

-- what is drawn once the event of that moment has happened
unfoldable pub after : (at : ℕ) → Drawn → Happening → Drawn
after at d h =
    after_in at (column_of (config_of h.core).tasks h.event)
    (get_or d.open_stays (column_of (config_of h.core).tasks h.event) None) d h

-- once all of them have, of which the first is that moment's
unfoldable pub after_all : (at : ℕ) → Drawn → List Happening → Drawn
after_all at d [] = d
after_all at d (h ∷ more) = after_all (suc at) (after at d h) more

-- the stays of the calls that are in flight at the end, of the first n columns
unfoldable pub stays_in : (at : ℕ) → List (Option OpenStay) → (n : ℕ) → List Stay
stays_in at open_stays zero = []
stays_in at open_stays (suc n) = stays_in at open_stays n ++ listed (stay_in n at (get_or open_stays n None))

-- at the end: the stays of these calls, and the waits that go on
abbrev pub ended : (at : ℕ) → Drawn → Drawn
ended at d =
    record {
      open_stays = d.open_stays;
      stays = d.stays ++ stays_in at d.open_stays (length d.open_stays);
      marks = d.marks;
      numbers = d.numbers;
      waiting = d.waiting;
      waits = d.waits ++ waits_left at d.waiting [] (length d.waiting);
    }

-- what is drawn of a whole run
abbrev pub drawn_of : (tasks : ℕ) → List Happening → Drawn
drawn_of tasks happenings = ended (length happenings) (after_all 0 (nothing_drawn tasks) happenings)

-- The waits are what the run says. One goes on behind an event where each step of its task would be blocked by its holder there; and
-- where each step of a task would be blocked by some holder, one of its waits goes on
pub record AreWaits (tasks : ℕ) (happenings : List Happening) (waits : List Wait) : Type 0 where
  pub held :
      All (λ w. (k : ℕ) (h : Happening) → GoesOn w k → slice_get happenings k ≡ Some h
      → WaitsFor h.core w.column (Some w.waiting.holder)) waits
  pub shown :
      (k t holder : ℕ) (h : Happening) → slice_get happenings k ≡ Some h → 1 ≤ t → t ≤ tasks → WaitsFor h.core t (Some holder)
      → IsShown t k waits

-- this is what is to be drawn of a run of these events from the opening state of a pool of these sizes
pub record IsDrawn (s : Sizes) (events : List Event) (d : Drawn) : Type 0 where
  pub config : Config
  pub sizes_are : sizes config ≡ s
  pub first : CoreState
  pub opening : IsOpening config first
  pub happenings : List Happening
  pub are_events : events_of happenings ≡ events
  pub new : CoreState
  pub happens : Happens first happenings new
  pub is : d ≡ drawn_of s.tasks happenings
  pub are_waits : AreWaits s.tasks happenings d.waits
