-- A search among all schedules: how it goes, and what it says in the end.
use Rattle.std.specs.Cmp.Lexicographic.{pointwise}
use Rattle.std.specs.List.{IsDistinct}
use Rattle.std.specs.Prelude.{◌≡◌, ◌+◌, ◌*◌, ◌<◌, ◌≤◌, ◌⊎◌, ℕ, Bool, List, ◌∷◌, [], Contains, Option, Some, true, length, min, nat_eq}
use Rattle.hp_base.specs.Mappings.{IsRoom}
use Rattle.hp_base.specs.Text.{sizes}
use Rattle.hp_base.specs.declared.event.Event.{Event}
use Rattle.hp_machine.specs.State.{Pool}
use Rattle.hp_machine.specs.declared.outcome.Outcome.{Outcome}
use Rattle.hp_core.specs.Readers.{free_of, resv_of, used_of}
use Rattle.hp_core.specs.State.{CoreState}
use Rattle.hp_watch.specs.Calls.{AreCalls, ended_by}
use Rattle.hp_watch.specs.Moments.{Moment, events_of}
use Rattle.hp_explore.specs.Schedule.{Plan}
use Rattle.hp_hunt.specs.Watching.{AllKnow, Known, known_of}
use Rattle.hp_hunt.specs.declared.condition.Condition.{Condition}
use Rattle.hp_layers.specs.Layers as layers
use Rattle.hp_layers.specs.Layers.{IsCutAtLimits, IsOver, IsRight, bytes_in}
use Rattle.hp_layers.specs.declared.limits.Limits.{Limits}
use Rattle.hp_layers.specs.declared.verdict.Verdict.{Verdict}
use Rattle.hp_every.specs.declared.turn.Turn.{Turn}
use Rattle.hp_every.specs.Eager.{MayBeEager, Tries}
use Rattle.hp_every.specs.Endings.{Ended, all_among, answers_in}
use Rattle.hp_every.specs.Schedules.{AnyTurn, IsShortest, NoScheduleMeets, Place, ScheduleMeets, plan_for}
use Rattle.hp_every.specs.Search.{HasTurns, IsPath, IsRun, PathState, Question, search_key}
use Rattle.hp_every.specs.Turns.{turn_of, turns_of}
use Rattle.hp_search.specs.declared.reachability.Reachability.{Reachability}
use Rattle.hp_search.specs.declared.reachability.Reachability.TheVariants.{Never, Met, Cut}
use Rattle.hp_search.specs.declared.position.Position.{Position}
use Rattle.hp_search.specs.declared.query.Query.{Query}
use Rattle.hp_search.specs.declared.finding.Budget.{Budget}
use Rattle.hp_text.specs.declared.script.Script.{Script}

-- a mapping of so many pages has room
abbrev pub HasRoom : Pool → (task len : ℕ) → Type 0
HasRoom s t len = (base : ℕ) × IsRoom s.geometry.space (s.mappings t) len (Some base)

-- what the search asks
abbrev pub question_of : Query → Question
question_of q = record { script = q.script.now; denials = q.denials; kills = q.kills; conditions = q.conditions.now }

-- what is asked of a script
abbrev pub question : Script → Budget → List Condition → Question
question script budget conditions = record { script = script; denials = budget.denials; kills = budget.kills; conditions = conditions }

-- it goes by the script's plan
abbrev pub IsQuery : Query → Type 0
IsQuery q = q.plan.now ≡ plan_for q.script.now

-- the place in which a run of turns stands
abbrev pub place_of : Position → Place
place_of p = record { core = p.walk.core; made = p.walk.made; denials = p.denials; kills = p.kills }

-- how a schedule would end there
abbrev pub ended_here : Position → Ended
ended_here p = record {
  answers = p.answers.ended.items;
  free = free_of p.walk.core;
  resv = resv_of p.walk.core;
  used = used_of p.walk.core;
}

-- the turn was made, by that event, and the watches have seen it
pub record IsMade (plan : Plan) (old : Position) (turn : Turn) (asks : Event) (new : Position) : Type 0 where
  pub outcome : Outcome
  pub made : AnyTurn plan (place_of old) asks outcome (place_of new)
  pub same : turn_of asks ≡ turn
  pub know : (conditions : List Condition) (before : List Moment) → AllKnow conditions (known_of old.watches) before
      → AllKnow conditions (known_of new.watches) (record { event = asks; outcome = outcome; core = new.walk.core } ∷ before)
  pub answers : (before : List Moment) → AreCalls old.watches.calls.tasks.items before
      → new.answers.ended.items ≡ all_among (ended_by before asks outcome) old.answers.ended.items

-- these turns were made, by these events, and the watches have seen them
pub record IsAt (a : Question) (turns : List Turn) (events : List Event) (p : Position) : Type 0 where
  pub first : CoreState
  pub moments : List Moment
  pub run : IsRun a first moments (place_of p)
  pub made : turns_of moments ≡ turns
  pub told : events_of moments ≡ events
  pub know : AllKnow a.conditions (known_of p.watches) moments
  pub answers : p.answers.ended.items ≡ answers_in moments

-- a schedule of these turns has these events
pub record HasEvents (a : Question) (turns : List Turn) (events : List Event) : Type 0 where
  pub has : HasTurns a turns
  pub told : events_of has.moments ≡ events

-- the key is that of a place to which a schedule of so many turns leads, and of what was seen on the way
pub record IsKeyOf (a : Question) (turns : ℕ) (key : List ℕ) : Type 0 where
  pub first : CoreState
  pub moments : List Moment
  pub last : Place
  pub known : Known
  pub run : IsRun a first moments last
  pub long : length moments ≡ turns
  pub know : AllKnow a.conditions known moments
  pub is : key ≡ search_key known last

-- no two of these keys are equal, and each is one of so many turns
pub record AreKeysOf (a : Question) (turns : ℕ) (keys : List (List ℕ)) : Type 0 where
  pub distinct : IsDistinct (pointwise nat_eq) keys
  pub each : (key : List ℕ) → Contains keys key → IsKeyOf a turns key

-- schedules of so many turns, and of one turn fewer, have more keys than the limit
pub record IsTooMany (a : Question) (limit turns : ℕ) : Type 0 where
  pub before : ℕ
  pub next : turns ≡ before + 1
  pub some : List (List ℕ)
  pub others : List (List ℕ)
  pub here : AreKeysOf a before some
  pub behind : AreKeysOf a turns others
  pub many : limit < length some + length others

-- how many bytes a search keeps of a schedule: two of each turn, its key twice, and what holds them
abbrev pub path_bytes : PathState → ℕ
path_bytes s = min (2 * length s.key + 2 * length s.turns + 200) 18446744073709551615

-- these are schedules of so many turns, and no two of them have equal keys
pub record ArePathsApart (a : Question) (turns : ℕ) (paths : List PathState) : Type 0 where
  pub keys : List (List ℕ)
  pub apart : layers.AreKeysOf (pointwise nat_eq) (λ (s : PathState). s.key) keys paths
  pub each : (s : PathState) → Contains paths s → IsPath a s × (length s.turns ≡ turns)

-- schedules of so many turns, and of one turn fewer, take more bytes than the limit, if there is one
pub record IsTooHeavy (a : Question) (limit : Option ℕ) (turns : ℕ) : Type 0 where
  pub before : ℕ
  pub next : turns ≡ before + 1
  pub some : List PathState
  pub others : List PathState
  pub here : ArePathsApart a before some
  pub behind : ArePathsApart a turns others
  pub many : IsOver (bytes_in path_bytes some + bytes_in path_bytes others) limit

-- a schedule has each number of turns below that
abbrev pub AreLong : Question → (turns : ℕ) → Type 0
AreLong a n = (m : ℕ) → m < n → (turns : List Turn) × HasTurns a turns × (length turns ≡ m)

-- A schedule that is found has fewer turns than the limit. A search is cut at the limit of turns, up to which schedules go on, where there are
-- too many places, or where they take too many bytes.
abbrev pub IsWithin : Question → Limits → Reachability → Type 0
IsWithin a limits Never = Unit {0}
IsWithin a limits (Met trace) = length trace.events.items < limits.turns
IsWithin a limits (Cut turns) = ((turns ≡ limits.turns) × AreLong a turns) ⊎ IsTooMany a limits.states turns
    ⊎ IsTooHeavy a limits.bytes turns

-- A search of the schedules that are asked for, layer by layer from the schedule of no turn on, says this, and was cut at no other limits.
-- It is eager only where it may be.
pub record IsSearched (a : Question) (eager : Bool) (limits : Limits) (verdict : Verdict PathState) : Type 0 where
  pub may : eager ≡ true → MayBeEager a.conditions
  pub first : PathState
  pub path : IsPath a first
  pub none : first.turns ≡ []
  pub right : IsRight (Tries a eager) (λ s. s.met ≡ true) first verdict
  pub cut : IsCutAtLimits (pointwise nat_eq) (λ s. s.key) (Tries a eager) path_bytes first limits verdict

-- What is said of all schedules: that none meets the conditions; or the events of a shortest that does; or that each that does has
-- at least so many.
unfoldable pub IsAnswer : Question → Reachability → Type 0
IsAnswer a Never = NoScheduleMeets a.script a.denials a.kills a.conditions
IsAnswer a (Met trace) = IsShortest a.script a.denials a.kills a.conditions trace.events.items × (sizes trace.config ≡ sizes a.script.config)
IsAnswer a (Cut turns) = (moments : List Moment) → ScheduleMeets a.script a.denials a.kills a.conditions moments → turns ≤ length moments
