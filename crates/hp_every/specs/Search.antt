-- A search among all schedules: what it keeps of each, and what it says in the end.
use Rattle.std.specs.Prelude.{◌≡◌, ◌↔◌, ℕ, Bool, true, List, [], ◌∷◌, ◌++◌, Contains, All, length}
use Rattle.std.specs.List.{flat_map}
use Rattle.hp_base.specs.Numbers.{bit}
use Rattle.hp_core.specs.State.{CoreState}
use Rattle.hp_text.specs.declared.script.Script.{Script}
use Rattle.hp_watch.specs.Moments.{Moment}
use Rattle.hp_key.specs.Numbers.{wide}
use Rattle.hp_key.specs.Packed.{packed}
use Rattle.hp_watch.specs.declared.call_word.CallWord.{CallWord}
use Rattle.hp_watch.specs.declared.call_word.CallWord.TheVariants as call
use Rattle.hp_watch.specs.declared.calls.TaskCalls.{TaskCalls}
use Rattle.hp_explore.specs.Schedule.{Plan}
use Rattle.hp_hunt.specs.Conditions.{MeetsAll}
use Rattle.hp_hunt.specs.Watching.{AllKnow, Known}
use Rattle.hp_hunt.specs.declared.condition.Condition.{Condition}
use Rattle.hp_hunt.specs.declared.watching.Watch.{Watch}
use Rattle.hp_every.specs.declared.turn.Turn.{Turn}
use Rattle.hp_every.specs.Places.{AreAlike, place_words}
use Rattle.hp_every.specs.Schedules.{IsLookedAt, IsSchedule, MayTurn, Place, plan_for}
use Rattle.hp_every.specs.Turns.{turns_of}

-- schedules of a script, with so many denials and kills, and what they are to meet
pub record Question : Type 0 where
  pub script : Script
  pub denials : ℕ
  pub kills : ℕ
  pub conditions : List Condition

-- these moments are those of a schedule that leads there
abbrev pub IsRun : Question → (first : CoreState) → List Moment → (last : Place) → Type 0
IsRun a first moments last = IsSchedule a.script a.denials a.kills first moments last

-- these turns are those of a schedule
pub record HasTurns (a : Question) (turns : List Turn) : Type 0 where
  pub first : CoreState
  pub moments : List Moment
  pub last : Place
  pub run : IsRun a first moments last
  pub made : turns_of moments ≡ turns

-- behind these turns that one may be made
pub record MayGoOn (a : Question) (turns : List Turn) (next : Turn) : Type 0 where
  pub has : HasTurns a turns
  pub may : MayTurn (plan_for a.script) has.last next

-- the schedule meets all conditions, and stands where each is looked at
pub record MeetsHere (plan : Plan) (conditions : List Condition) (first : CoreState) (moments : List Moment) (last : Place) : Type 0 where
  pub looked_at : All (IsLookedAt plan last) conditions
  pub meets : MeetsAll conditions first moments

-- what a search keeps of a schedule: its turns, the key of its place and of what was seen, and whether it meets all conditions
pub record PathState : Type 0 where
  pub turns : List Turn
  pub key : List ℕ
  pub met : Bool

-- a watch as a word: whether it has seen what it seeks
abbrev pub watch_words : Watch → List ℕ
watch_words w = bit w.seen ∷ []

-- which call it is
abbrev pub call_number : CallWord → ℕ
call_number call.Nothing = 0
call_number call.Map = 1
call_number call.MapNoReserve = 2
call_number call.Unmap = 3
call_number call.Load = 4
call_number call.Store = 5
call_number call.Alloc = 6
call_number call.AllocKeep = 7
call_number call.Punch = 8
call_number call.Truncate = 9
call_number call.Exit = 10

-- the calls of a task as words: which it has begun last, and how many
abbrev pub calls_words : TaskCalls → List ℕ
calls_words c = call_number c.last ∷ c.begun ∷ []

-- the words of a place, and of what was known on the way there
abbrev pub search_words : Known → Place → List ℕ
search_words known p =
    wide (length known.calls) ++ (flat_map calls_words known.calls ++ (flat_map watch_words known.watches ++ place_words p))

-- they are kept as bytes
abbrev pub search_key : Known → Place → List ℕ
search_key known p = packed (search_words known p)

-- some schedule has these turns, and all that is kept of it is right
pub record IsPath (a : Question) (s : PathState) : Type 0 where
  pub first : CoreState
  pub moments : List Moment
  pub last : Place
  pub known : Known
  pub run : IsRun a first moments last
  pub made : turns_of moments ≡ s.turns
  pub know : AllKnow a.conditions known moments
  pub key : s.key ≡ search_key known last
  pub met : s.met ≡ true ↔ MeetsHere (plan_for a.script) a.conditions first moments last

-- the second schedule is the first with one turn more
pub record GoesOn (a : Question) (s t : PathState) : Type 0 where
  pub next : Turn
  pub turns : t.turns ≡ s.turns ++ next ∷ []
  pub path : IsPath a t

-- The two stand in places that differ in the names of frames alone, whatever happened before, and the same is known of both. So both have
-- the same future.
pub record AreAsGood (a : Question) (s t : PathState) : Type 0 where
  pub here : HasTurns a s.turns
  pub there : HasTurns a t.turns
  pub known : Known
  pub knows_here : AllKnow a.conditions known here.moments
  pub knows_there : AllKnow a.conditions known there.moments
  pub alike : AreAlike here.last there.last
  pub back : AreAlike there.last here.last
  pub met : s.met ≡ t.met

-- each of the next goes on from the schedule by one of the turns, and each of the turns is the last of one of them
pub record AreBehind (a : Question) (s : PathState) (turns : List Turn) (next : List PathState) : Type 0 where
  pub some : (t : PathState) → Contains next t → (goes : GoesOn a s t) × Contains turns goes.next
  pub all : (x : Turn) → Contains turns x → (t : PathState) × Contains next t × (t.turns ≡ s.turns ++ x ∷ [])
