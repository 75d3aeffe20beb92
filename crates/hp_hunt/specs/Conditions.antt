-- What it is for a run to meet a condition.
use Rattle.std.specs.Prelude.{◌≡◌, ◌<◌, ◌≤◌, ◌⊎◌, ℕ, List, Option, None, Some, All, Contains, IfSome, MatchBool}
use Rattle.hp_base.specs.declared.answer.Answer.{Answer}
use Rattle.hp_base.specs.declared.answer.Answer.TheVariants as answer
use Rattle.hp_base.specs.declared.config.Config.{Config}
use Rattle.hp_base.specs.declared.event.Event.{Event}
use Rattle.hp_base.specs.declared.event.Event.TheVariants.{Begin, Step, Kill, Resize}
use Rattle.hp_machine.specs.declared.outcome.Outcome.{Outcome}
use Rattle.hp_machine.specs.declared.outcome.Outcome.TheVariants.{Begun, Moved, Blocked, Ended, Marked, Resized, Refused}
use Rattle.hp_core.specs.State.{CoreState}
use Rattle.hp_core.specs.Readers.{calls_of, free_of, pages_of, phase_of, reserved_of, resv_of, used_of}
use Rattle.hp_core.specs.Waiting.{WaitsFor}
use Rattle.hp_watch.specs.Calls.{calls_begun, last_call}
use Rattle.hp_watch.specs.Moments.{Moment, IsRunOf, Once, last_of}
use Rattle.hp_watch.specs.declared.call_word.CallWord.{CallWord}
use Rattle.hp_watch.specs.declared.call_word.CallWord.TheVariants as called
use Rattle.hp_hunt.specs.declared.condition.AnswerName.{AnswerName}
use Rattle.hp_hunt.specs.declared.condition.AnswerName.TheVariants.{Word, Linux}
use Rattle.hp_hunt.specs.declared.condition.AnswerWord.{AnswerWord}
use Rattle.hp_hunt.specs.declared.condition.AnswerWord.TheVariants as word
use Rattle.hp_hunt.specs.declared.condition.CallChoice.{CallChoice}
use Rattle.hp_hunt.specs.declared.condition.CallChoice.TheVariants.{Any, Number, Named}
use Rattle.hp_hunt.specs.declared.condition.Comparison.{Comparison}
use Rattle.hp_hunt.specs.declared.condition.Condition.{Condition}
use Rattle.hp_hunt.specs.declared.condition.LinuxAnswer.{LinuxAnswer}
use Rattle.hp_hunt.specs.declared.condition.LinuxAnswer.TheVariants.{Sigsegv, Sigbus, Enospc, Enomem, Eintr}
use Rattle.hp_hunt.specs.declared.condition.PoolCount.{PoolCount}
use Rattle.hp_hunt.specs.declared.condition.PoolCount.TheVariants.{Resv, Free, Used, Calls, Reserved, Pages}
use Rattle.hp_hunt.specs.declared.condition.Relation.{Relation}
use Rattle.hp_hunt.specs.declared.condition.Relation.TheVariants.{Below, AtMost, Equal, AtLeast, Above}
use Rattle.hp_hunt.specs.declared.condition.Sought.{Sought}
use Rattle.hp_hunt.specs.declared.condition.Sought.TheVariants as sought
use Rattle.hp_hunt.specs.declared.condition.SoughtAnswer.{SoughtAnswer}

-- the first word of an answer
abbrev pub word_of : Answer → AnswerWord
word_of (answer.Mapped base) = word.Mapped
word_of (answer.Word read) = word.Word
word_of answer.Done = word.Done
word_of answer.Segv = word.Segv
word_of answer.Beyond = word.Beyond
word_of answer.NoFrame = word.NoFrame
word_of answer.NoQuota = word.NoQuota
word_of answer.NoMemory = word.NoMemory
word_of answer.Interrupted = word.Interrupted
word_of answer.Killed = word.Killed
word_of answer.BadFile = word.BadFile
word_of answer.BadRange = word.BadRange
word_of answer.NotMapped = word.NotMapped
word_of answer.NoAddress = word.NoAddress

-- a count of the pool
abbrev pub count_of : PoolCount → CoreState → ℕ
count_of Resv core = resv_of core
count_of Free core = free_of core
count_of Used core = used_of core
count_of Calls core = calls_of core
count_of (Reserved file) core = reserved_of core file
count_of (Pages file) core = pages_of core file

-- a count compares so with a number
abbrev pub Compares : Relation → (count number : ℕ) → Type 0
Compares Below count number = count < number
Compares AtMost count number = count ≤ number
Compares Equal count number = count ≡ number
Compares AtLeast count number = number ≤ count
Compares Above count number = number < count

-- the pool stands so
abbrev pub HasCount : Comparison → CoreState → Type 0
HasCount c core = Compares c.relation (count_of c.count core) c.number

-- the event is a step of the task's call
abbrev pub IsStepOf : (task : ℕ) → Event → Type 0
IsStepOf t (Begin u op) = ⊥
IsStepOf t (Step u granted) = t ≡ u
IsStepOf t (Kill u) = ⊥
IsStepOf t (Resize frames) = ⊥

-- the call ended with that answer
abbrev pub IsEnd : Answer → Outcome → Type 0
IsEnd a Begun = ⊥
IsEnd a (Moved phase) = ⊥
IsEnd a (Blocked holder) = ⊥
IsEnd a (Ended answer) = a ≡ answer
IsEnd a Marked = ⊥
IsEnd a (Resized frames) = ⊥
IsEnd a (Refused why) = ⊥

-- a call that translates a page; mmap; fallocate
abbrev pub IsFault : CallWord → Type 0
IsFault call = (call ≡ called.Load) ⊎ (call ≡ called.Store)

abbrev pub IsMapping : CallWord → Type 0
IsMapping call = (call ≡ called.Map) ⊎ (call ≡ called.MapNoReserve)

abbrev pub IsAllocation : CallWord → Type 0
IsAllocation call = (call ≡ called.Alloc) ⊎ (call ≡ called.AllocKeep)

-- frames or quota were lacking
abbrev pub IsShort : AnswerWord → Type 0
IsShort w = (w ≡ word.NoFrame) ⊎ (w ≡ word.NoQuota)

-- what Linux tells a program whose call ends so
abbrev pub IsLinux : LinuxAnswer → CallWord → AnswerWord → Type 0
IsLinux Sigsegv call w = w ≡ word.Segv
IsLinux Sigbus call w = IsFault call × ((w ≡ word.Beyond) ⊎ IsShort w)
IsLinux Enospc call w = IsAllocation call × IsShort w
IsLinux Enomem call w = (w ≡ word.NoAddress) ⊎ ((IsMapping call × IsShort w) ⊎ ((IsFault call → ⊥) × (w ≡ word.NoMemory)))
IsLinux Eintr call w = w ≡ word.Interrupted

-- the answer of such a call is called so
abbrev pub IsNamed : AnswerName → CallWord → AnswerWord → Type 0
IsNamed (Word asked) call w = w ≡ asked
IsNamed (Linux linux) call w = IsLinux linux call w

-- the task is the one that is asked for, if one is
abbrev pub IsTaskOf : (asked : Option ℕ) → (task : ℕ) → Type 0
IsTaskOf None t = Unit {0}
IsTaskOf (Some u) t = t ≡ u

-- the call is the one that is asked for: which it is, and how many were begun with it
abbrev pub IsCallOf : CallChoice → CallWord → (begun : ℕ) → Type 0
IsCallOf Any call begun = Unit {0}
IsCallOf (Number n) call begun = begun ≡ n
IsCallOf (Named word) call begun = call ≡ word

-- the task's last call, which it was and how many were begun with it, is the one that is asked for; it ends with an answer of that name, and
-- the pool stands so
abbrev pub IsSoughtEnd : SoughtAnswer → CallWord → (begun task : ℕ) → Answer → CoreState → Type 0
IsSoughtEnd s last begun t a core = IsTaskOf s.task t × (IsCallOf s.call last begun × (IsNamed s.name last (word_of a)
    × IfSome s.counted (λ c. HasCount c core)))

-- a step of the task ends its call with that answer, and both are sought
pub record IsAnswered (s : SoughtAnswer) (before : List Moment) (m : Moment) : Type 0 where
  pub task : ℕ
  pub answer : Answer
  pub step : IsStepOf task m.event
  pub end : IsEnd answer m.outcome
  pub is : IsSoughtEnd s (last_call task before) (calls_begun task before) task answer m.core

-- the next step of the task's call is blocked by somebody; that of any task, where none is given
abbrev pub IsSomeBlocked : (asked : Option ℕ) → CoreState → Type 0
IsSomeBlocked asked core = (t : ℕ) × IsTaskOf asked t × ((holder : ℕ) × WaitsFor core t (Some holder))

-- What is looked for at each moment: an answer; behind the moment a task that waits for a holder; or calls that both stand there. A count
-- at the end isn't looked for.
abbrev pub IsMetAt : Sought → List Moment → Moment → Type 0
IsMetAt (sought.Answer s) before m = IsAnswered s before m
IsMetAt (sought.Blocked task) before m = IsSomeBlocked task m.core
IsMetAt (sought.Meet t p u q) before m = (phase_of m.core t ≡ Some p) × (phase_of m.core u ≡ Some q)
IsMetAt (sought.Final c) before m = ⊥

-- it is found in the run of these moments: at one of them, or by the count at the end
abbrev pub Finds : CoreState → List Moment → Sought → Type 0
Finds first moments (sought.Answer s) = Once (IsMetAt (sought.Answer s)) moments
Finds first moments (sought.Blocked task) = Once (IsMetAt (sought.Blocked task)) moments
Finds first moments (sought.Meet t p u q) = Once (IsMetAt (sought.Meet t p u q)) moments
Finds first moments (sought.Final c) = HasCount c (last_of first moments)

-- the run meets the condition: what is sought is found, or isn't, as is wanted
abbrev pub Meets : CoreState → List Moment → Condition → Type 0
Meets first moments c = MatchBool c.wanted (Finds first moments c.sought) (Finds first moments c.sought → ⊥)

-- it meets one of the alternatives with that number
pub record MeetsChoice (conditions : List Condition) (first : CoreState) (moments : List Moment) (choice : ℕ) : Type 0 where
  pub condition : Condition
  pub given : Contains conditions condition
  pub same : condition.choice ≡ choice
  pub meets : Meets first moments condition

-- it meets all of them: of alternatives one
abbrev pub MeetsAll : List Condition → CoreState → List Moment → Type 0
MeetsAll conditions first moments = All (λ c. MeetsChoice conditions first moments c.choice) conditions

-- a run of these events, from a new core of that config on, meets all conditions
pub record SomeRunMeets (config : Config) (events : List Event) (conditions : List Condition) : Type 0 where
  pub first : CoreState
  pub moments : List Moment
  pub run : IsRunOf config events first moments
  pub meets : MeetsAll conditions first moments

-- such a run doesn't
pub record SomeRunMisses (config : Config) (events : List Event) (conditions : List Condition) : Type 0 where
  pub first : CoreState
  pub moments : List Moment
  pub run : IsRunOf config events first moments
  pub misses : ¬ MeetsAll conditions first moments
