-- What it is that a machine follows a recording, line by line.
use Rattle.std.specs.Prelude.{◌≡◌, ℕ, Bool, ◌&&◌, true, false, List, [], ◌∷◌}
use Rattle.hp_base.specs.declared.event.Event.{Event}
use Rattle.hp_machine.specs.State.{Geometry, frees, pool_of}
use Rattle.hp_machine.specs.Events.{EventRows}
use Rattle.hp_machine.specs.declared.outcome.Outcome.{Outcome}
use Rattle.hp_machine.specs.declared.outcome.Outcome.TheVariants as outcome
use Rattle.hp_linux.specs.Whole.{Linux, begins}
use Rattle.hp_linux.specs.Late.{Happening, Does, LetsGo, LateRun, events_in, frames_in}

-- One event of the kernel: the machine's events that belong to it, the frames that become free late with it, and what the kernel had
-- behind it, so many free frames, and a reserve count that is `counted` less `debt`
pub record Line : Type 0 where
  pub events : List Event
  pub late : List ℕ
  pub free : ℕ
  pub counted : ℕ
  pub debt : ℕ

-- a line, and those behind it
abbrev pub line : List Event → (free counted debt : ℕ) → List Line → List Line
line events free counted debt rest = record { events = events; late = []; free = free; counted = counted; debt = debt } ∷ rest

-- a line with which a frame that was left becomes free, and those behind it
abbrev pub lets_go : (frame : ℕ) → (free counted debt : ℕ) → List Line → List Line
lets_go x free counted debt rest = record { events = []; late = x ∷ []; free = free; counted = counted; debt = debt } ∷ rest

-- the event wasn't refused, and no step waited
abbrev pub goes_on : Outcome → Bool
goes_on outcome.Begun = true
goes_on (outcome.Moved phase) = true
goes_on (outcome.Ended answer) = true
goes_on outcome.Marked = true
goes_on (outcome.Resized frames) = true
goes_on (outcome.Blocked holder) = false
goes_on (outcome.Refused why) = false

-- each event among what happens goes on
abbrev pub all_go : List Happening → Bool
all_go [] = true
all_go (Does e told ∷ hs) = goes_on told && all_go hs
all_go (LetsGo x ∷ hs) = all_go hs

-- by these rows what happens in each line goes on, and leads from line to line to the counts that the kernel had
abbrev pub Follows : EventRows → Linux → List Line → Linux → Type 0
Follows rows l [] new = new ≡ l
Follows rows l (x ∷ xs) new =
    (log : List Happening) × (mid : Linux) × (events_in log ≡ x.events) × (frames_in log ≡ x.late) × (all_go log ≡ true)
    × LateRun rows l log mid × (frees (pool_of mid.state) ≡ x.free) × (mid.state.resv ≡ x.counted) × (mid.debt ≡ x.debt)
    × Follows rows mid xs new

-- from a pool that opens
abbrev pub IsFollowed : EventRows → Geometry → (frames : ℕ) → List Line → Type 0
IsFollowed rows g frames lines = (l : Linux) × Follows rows (begins g frames) lines l
