-- How schedules end: with which answers, and with which counts.
use Rattle.std.specs.Prelude.{◌≡◌, ◌++◌, ◌∷◌, ℕ, nat_le, if◌then◌else◌, List, [], length, Option, None, Some}
use Rattle.std.specs.List.{flat_map}
use Rattle.hp_core.specs.Readers.{free_of, resv_of, used_of}
use Rattle.hp_core.specs.State.{CoreState}
use Rattle.hp_explore.specs.Schedule.{Plan}
use Rattle.hp_key.specs.Numbers.{answer_words, wide}
use Rattle.hp_key.specs.Packed.{packed}
use Rattle.hp_watch.specs.Calls.{ended_by}
use Rattle.hp_watch.specs.Moments.{Moment}
use Rattle.hp_watch.specs.declared.calls.EndedCall.{EndedCall}
use Rattle.hp_every.specs.declared.turn.Turn.{Turn}
use Rattle.hp_every.specs.Schedules.{Ends, Place, plan_for}
use Rattle.hp_every.specs.Search.{AreAsGood, HasTurns, IsPath, IsRun, PathState, Question, call_number}

-- the call behind those of its task and of the tasks before it
abbrev pub among : EndedCall → List EndedCall → List EndedCall
among e [] = e ∷ []
among e (x ∷ xs) = if nat_le x.task e.task then x ∷ among e xs else e ∷ x ∷ xs

-- and so each of these
abbrev pub all_among : (more : List EndedCall) → List EndedCall → List EndedCall
all_among [] xs = xs
all_among (e ∷ more) xs = all_among more (among e xs)

-- the calls that ended, task by task, those of a task in the order in which they did
abbrev pub answers_in : List Moment → List EndedCall
answers_in [] = []
answers_in (m ∷ before) = all_among (ended_by before m.event m.outcome) (answers_in before)

-- how a schedule ends: its calls with their answers, task by task, and the counts of the pool
pub record Ended : Type 0 where
  pub answers : List EndedCall
  pub free : ℕ
  pub resv : ℕ
  pub used : ℕ

-- how one ends that stands there
abbrev pub ended_at : List Moment → CoreState → Ended
ended_at moments core = record { answers = answers_in moments; free = free_of core; resv = resv_of core; used = used_of core }

-- a call with its answer as words
abbrev pub ended_call_words : EndedCall → List ℕ
ended_call_words e = e.task ∷ call_number e.call ∷ answer_words e.answer

-- and a list of them
abbrev pub answers_words : List EndedCall → List ℕ
answers_words es = wide (length es) ++ flat_map ended_call_words es

-- an ending as words
abbrev pub ended_words : Ended → List ℕ
ended_words e = e.free ∷ e.resv ∷ e.used ∷ answers_words e.answers

-- they are kept as bytes
abbrev pub ended_key : Ended → List ℕ
ended_key e = packed (ended_words e)

-- these moments are those of a schedule that comes to its end, where no turn may be made, and that ends so
pub record EndsSo (a : Question) (moments : List Moment) (e : Ended) : Type 0 where
  pub first : CoreState
  pub last : Place
  pub run : IsRun a first moments last
  pub over : Ends (plan_for a.script) last
  pub is : e ≡ ended_at moments last.core

-- what is kept of a schedule where schedules are told apart by their answers, too
pub record EndState : Type 0 where
  pub path : PathState
  pub key : List ℕ
  pub ending : Option (List ℕ)

-- the ending of a schedule that stands there, as a key, if it is one
unfoldable pub IsEnding : Plan → List Moment → (last : Place) → Option (List ℕ) → Type 0
IsEnding plan moments p None = Ends plan p → ⊥
IsEnding plan moments p (Some key) = Ends plan p × (key ≡ ended_key (ended_at moments p.core))

-- some schedule has these turns, and all that is kept of it is right
pub record IsEndState (a : Question) (s : EndState) : Type 0 where
  pub path : IsPath a s.path
  pub key : s.key ≡ packed (answers_words (answers_in path.moments)) ++ s.path.key
  pub ending : IsEnding (plan_for a.script) path.moments path.last s.ending

-- the second schedule is the first with that turn more
pub record GoesBy (a : Question) (s : EndState) (next : Turn) (t : EndState) : Type 0 where
  pub turns : t.path.turns ≡ s.path.turns ++ next ∷ []
  pub state : IsEndState a t

-- the second schedule is the first with one turn more
abbrev pub GoesOnBy : Question → EndState → EndState → Type 0
GoesOnBy a s t = (next : Turn) × GoesBy a s next t

-- The two are as good as each other, and the same calls have ended with the same answers. So both have the same future.
pub record AreEndsAlike (a : Question) (s t : EndState) : Type 0 where
  pub paths : AreAsGood a s.path t.path
  pub answers : answers_in paths.here.moments ≡ answers_in paths.there.moments
  pub endings : s.ending ≡ t.ending

-- schedules of these turns end so
pub record HasEnding (a : Question) (e : Ended) (turns : List Turn) : Type 0 where
  pub has : HasTurns a turns
  pub over : Ends (plan_for a.script) has.last
  pub is : e ≡ ended_at has.moments has.last.core
