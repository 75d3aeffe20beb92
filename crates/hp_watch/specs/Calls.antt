-- Which calls tasks have begun, and with what their calls ended.
use Rattle.std.specs.Prelude.{◌≡◌, ◌==◌, ◌+◌, ◌&&◌, ◌++◌, ◌∷◌, [], ℕ, Bool, true, false, if◌then◌else◌, List, slice_index_or}
use Rattle.hp_base.specs.declared.event.Event.{Event}
use Rattle.hp_base.specs.declared.event.Event.TheVariants.{Begin, Step, Kill, Resize}
use Rattle.hp_machine.specs.Events.{is_begun}
use Rattle.hp_machine.specs.declared.outcome.Outcome.{Outcome}
use Rattle.hp_machine.specs.declared.outcome.Outcome.TheVariants.{Begun, Moved, Blocked, Ended, Marked, Resized, Refused}
use Rattle.hp_watch.specs.CallWords.{word_of}
use Rattle.hp_watch.specs.Moments.{Moment}
use Rattle.hp_watch.specs.declared.call_word.CallWord.{CallWord}
use Rattle.hp_watch.specs.declared.call_word.CallWord.TheVariants.{Nothing}
use Rattle.hp_watch.specs.declared.calls.EndedCall.{EndedCall}
use Rattle.hp_watch.specs.declared.calls.TaskCalls.{TaskCalls}

-- the event asks for a call of the task
abbrev pub is_begin : (task : ℕ) → Event → Bool
is_begin t (Begin u op) = u == t
is_begin t (Step u granted) = false
is_begin t (Kill u) = false
is_begin t (Resize frames) = false

-- which call it asks for
abbrev pub asked_word : Event → CallWord
asked_word (Begin u op) = word_of op
asked_word (Step u granted) = Nothing
asked_word (Kill u) = Nothing
asked_word (Resize frames) = Nothing

-- how many calls the task has begun
abbrev pub calls_begun : (task : ℕ) → List Moment → ℕ
calls_begun t [] = 0
calls_begun t (m ∷ before) = if is_begin t m.event && is_begun m.outcome then calls_begun t before + 1 else calls_begun t before

-- the call that the task has begun last
abbrev pub last_call : (task : ℕ) → List Moment → CallWord
last_call t [] = Nothing
last_call t (m ∷ before) = if is_begin t m.event && is_begun m.outcome then asked_word m.event else last_call t before

-- the task's call, as it ends by a step behind those moments, if it does
abbrev pub ended_so : List Moment → (task : ℕ) → Outcome → List EndedCall
ended_so before t Begun = []
ended_so before t (Moved phase) = []
ended_so before t (Blocked holder) = []
ended_so before t (Ended answer) = record { task = t; call = last_call t before; answer = answer } ∷ []
ended_so before t Marked = []
ended_so before t (Resized frames) = []
ended_so before t (Refused why) = []

-- the call that ends by this event, and what with
abbrev pub ended_by : List Moment → Event → Outcome → List EndedCall
ended_by before (Begin t op) outcome = []
ended_by before (Step t granted) outcome = ended_so before t outcome
ended_by before (Kill t) outcome = []
ended_by before (Resize frames) outcome = []

-- the calls that ended, in the order in which they did
abbrev pub ended_in : List Moment → List EndedCall
ended_in [] = []
ended_in (m ∷ before) = ended_in before ++ ended_by before m.event m.outcome

-- of a task that has begun no call
abbrev pub none_begun : TaskCalls
none_begun = record { last = Nothing; begun = 0 }

-- what is kept of the task's calls
abbrev pub calls_of : List TaskCalls → (task : ℕ) → TaskCalls
calls_of calls t = slice_index_or calls t none_begun

-- of each task the call that it has begun last, and how many it has
pub record AreCalls (calls : List TaskCalls) (moments : List Moment) : Type 0 where
  pub last : (t : ℕ) → (calls_of calls t).last ≡ last_call t moments
  pub begun : (t : ℕ) → (calls_of calls t).begun ≡ calls_begun t moments
