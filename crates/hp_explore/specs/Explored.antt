-- A whole run, and the line that tells of it.
use Rattle.std.specs.Prelude.{◌≡◌, ◌+◌, ◌%◌, ◌^◌, ◌⊎◌, ◌&&◌, ℕ, zero, suc, Bool, not, List, []}
use Rattle.std.specs.Prelude.{◌∷◌, length, is_none, if◌then◌else◌}
use Rattle.std.specs.List.{range_with_len, list_all}
use Rattle.hp_base.specs.declared.event.Event.{Event}
use Rattle.hp_audit.specs.declared.picture.Picture.{Picture}
use Rattle.hp_audit.specs.declared.finding.Finding.{Finding}
use Rattle.hp_audit.specs.declared.finding.Finding.TheVariants.{Shape, Agree, Place, Size, Count, Used}
use Rattle.hp_audit.specs.Findings.{IsShaped, Agrees, IsOnePlace, IsBelow, IsCounted, IsUsedCounted, IsRight}
use Rattle.hp_core.specs.State.{CoreState}
use Rattle.hp_core.specs.Pictures.{IsPicture}
use Rattle.hp_core.specs.Readers.{free_of, resv_of}
use Rattle.hp_text.specs.declared.script.Script.{Script}
use Rattle.hp_explore.specs.declared.line.Finish.{Finish}
use Rattle.hp_explore.specs.declared.line.Finish.TheVariants.{Finished, Stuck, Limit, Found}
use Rattle.hp_explore.specs.declared.line.RunLine.{RunLine}
use Rattle.hp_explore.specs.Schedule.{Plan, World, IsStart, Turn, AreRunnable, in_call, next_call, plan_of}

-- what is told of a run that ends so
abbrev pub line_of : (run : ℕ) → Finish → World → RunLine
line_of run finish w = record { run = run; finish = finish; turns = w.turns; free = free_of w.core; resv = resv_of w.core }

-- the task has no call in flight and none left
abbrev pub is_done : Plan → World → (task : ℕ) → Bool
is_done plan w t = not (in_call w t) && is_none (next_call plan w.made t)

abbrev pub all_done : Plan → World → Bool
all_done plan w = list_all (is_done plan w) (range_with_len 1 (length w.made))

-- how a run ends where no task may take a turn
abbrev pub idle_finish : Plan → World → Finish
idle_finish plan w = if all_done plan w then Finished else Stuck

-- and where no turn is left
abbrev pub last_finish : Plan → World → (runnable : List ℕ) → Finish
last_finish plan w [] = idle_finish plan w
last_finish plan w (t ∷ ts) = Limit

-- an audit finds this first in the picture
abbrev pub IsFirst : Finding → Picture → Type 0
IsFirst Shape p = ¬ IsShaped p
IsFirst Agree p = IsShaped p × ¬ Agrees p
IsFirst Place p = IsShaped p × Agrees p × ¬ IsOnePlace p
IsFirst Size p = IsShaped p × Agrees p × IsOnePlace p × ¬ IsBelow p
IsFirst Count p = IsShaped p × Agrees p × IsOnePlace p × IsBelow p × ¬ IsCounted p
IsFirst Used p = IsShaped p × Agrees p × IsOnePlace p × IsBelow p × IsCounted p × ¬ IsUsedCounted p

-- an audit of the core finds this
pub record Finds (core : CoreState) (found : Finding) : Type 0 where
  pub picture : Picture
  pub is : IsPicture core picture
  pub first : IsFirst found picture

-- an audit of the core finds nothing
abbrev pub IsClean : CoreState → Type 0
IsClean core = (p : Picture) → IsPicture core p → IsRight p

-- The run from there on, with so many turns left, makes these events and has this line. It ends where no task may take a
-- turn, or else where no turn is left, and with what the audit of a turn finds.
unfoldable pub IsRun : Plan → (run left : ℕ) → World → List Event → RunLine → Type 0
IsRun plan run zero w events line =
    (tasks : List ℕ) × AreRunnable plan w tasks × (events ≡ []) × (line ≡ line_of run (last_finish plan w tasks) w)
IsRun plan run (suc left) w events line =
    (AreRunnable plan w [] × (events ≡ []) × (line ≡ line_of run (idle_finish plan w) w))
    ⊎ ((event : Event) × (rest : List Event) × (v : World) × (events ≡ event ∷ rest) × Turn plan w event v
    × ((IsClean v.core × IsRun plan run left v rest line)
    ⊎ ((found : Finding) × Finds v.core found × (rest ≡ []) × (line ≡ line_of run (Found found) v))))

-- after so many turns a run is ended
abbrev pub turn_limit : ℕ
turn_limit = 1000000

-- Run number `run` of the script's runs that are seeded from `seed` on: its events, and its line. Seeds wrap at 64 bits. It
-- knows of no other run, and of no worker.
unfoldable pub IsExplored : Script → (seed deny kill run : ℕ) → List Event → RunLine → Type 0
IsExplored script seed deny kill run events line =
    (w : World) × IsStart script ((seed + run) % 2 ^ 64) w × IsRun (plan_of script deny kill) run turn_limit w events line

-- that run has this line
abbrev pub IsLine : Script → (seed deny kill run : ℕ) → RunLine → Type 0
IsLine script seed deny kill run line = (events : List Event) × IsExplored script seed deny kill run events line

-- the run came to its end, or to the limit of turns
abbrev pub EndsWell : Finish → Type 0
EndsWell Finished = Unit {0}
EndsWell Stuck = ⊥
EndsWell Limit = Unit {0}
EndsWell (Found found) = ⊥
