-- Racers and seats of a race.
use Rattle.std.specs.Prelude.{◌≡◌, ◌==◌, ◌&&◌, ℕ, Bool, false, not, nat_le, true, List, [], take, drop, All}
use Rattle.std.specs.List.{Any, list_all, list_any}
use Rattle.hp_base.specs.declared.event.Op.{Op}
use Rattle.hp_text.specs.declared.script.Script.{Script}
use Rattle.hp_text.specs.Scripts.{calls_of}
use Rattle.hp_shared.specs.States.{SeatState}
use Rattle.hp_machine.specs.Events.{is_exit}
use Rattle.hp_machine.specs.State.{is_alive}
use Rattle.hp_core.specs.Readers.{config_of, life_of}
use Rattle.hp_core.specs.State.{CoreState}
use Rattle.hp_race.specs.Calls.{CallsLeft, CallsMade, CallsStrayed, EndsBy}
use Rattle.hp_race.specs.declared.racer.RacerResult.{RacerResult}
use Rattle.hp_race.specs.declared.racer.Found.{Found}
use Rattle.hp_race.specs.declared.call_range.CallRange.{CallRange}

-- the calls of a range of these
abbrev pub calls_in : CallRange → List Op → List Op
calls_in call_range calls = take call_range.most (drop call_range.from calls)

-- whether a task that makes these calls has exited before the range
abbrev pub is_gone : CallRange → List Op → Bool
is_gone call_range calls = list_any is_exit (take call_range.from calls)

-- The seat's task has made the script's calls of it, one after the other, and nothing else. Where tasks may be killed, it may have
-- killed one before each. Some calls may have been refused, or none
abbrev pub HasMade : (mortal refused : Bool) → Script → SeatState → Type 0
HasMade mortal refused script s =
    CallsMade mortal refused script.config.tasks s.task false (calls_of script.calls.items s.task) [] s.list

-- whether the task is one of these
abbrev pub is_among : List ℕ → (task : ℕ) → Bool
is_among tasks task = list_any (λ (t : ℕ). t == task) tasks

-- the same, where calls were refused of these tasks alone
abbrev pub HasMadeBut : (mortal : Bool) → Script → (refused : List ℕ) → SeatState → Type 0
HasMadeBut mortal script refused s = HasMade mortal (is_among refused s.task) script s

-- whether the core has this task, and it is dead or killed there, which it stays
abbrev pub is_gone_in : CoreState → (task : ℕ) → Bool
is_gone_in core task = nat_le 1 task && (nat_le task (config_of core).tasks && not (is_alive (life_of core task)))

abbrev pub are_gone_in : CoreState → (tasks : List ℕ) → Bool
are_gone_in core tasks = list_all (is_gone_in core) tasks

-- the same, where calls were refused only of a task that is gone in this core
abbrev pub HasMadeBy : (mortal : Bool) → Script → CoreState → SeatState → Type 0
HasMadeBy mortal script core s = HasMade mortal (is_gone_in core s.task) script s

-- it has made some of them, and the next ended as none may
abbrev pub HasStrayed : (mortal : Bool) → Script → SeatState → Type 0
HasStrayed mortal script s = CallsStrayed mortal script.config.tasks s.task false (calls_of script.calls.items s.task) [] s.list

abbrev pub SomeStrayed : (mortal : Bool) → Script → List SeatState → Type 0
SomeStrayed mortal script seats = Any (HasStrayed mortal script) seats

-- it has made some of them, and left the others
abbrev pub HasLeft : (mortal : Bool) → Script → SeatState → Type 0
HasLeft mortal script s = CallsLeft mortal script.config.tasks s.task false (calls_of script.calls.items s.task) [] s.list

abbrev pub SomeLeft : (mortal : Bool) → Script → List SeatState → Type 0
SomeLeft mortal script seats = Any (HasLeft mortal script) seats

-- what was found of the calls of all tasks: one ended as none may, or else some were left, or else all were made
abbrev pub AreFoundAs : (mortal astray late : Bool) → Script → (refused : List ℕ) → List SeatState → Type 0
AreFoundAs mortal true late script refused seats = SomeStrayed mortal script seats
AreFoundAs mortal false true script refused seats = SomeLeft mortal script seats
AreFoundAs mortal false false script refused seats = All (HasMadeBut mortal script refused) seats

abbrev pub AreFound : (mortal : Bool) → Script → Found → List SeatState → Type 0
AreFound mortal script found seats = AreFoundAs mortal found.astray found.late script found.refused.items seats

-- the same of a range of those calls
abbrev pub HasMadeIn : (mortal refused : Bool) → Script → CallRange → SeatState → Type 0
HasMadeIn mortal refused script call_range s =
    let calls = calls_of script.calls.items s.task in
    CallsMade mortal refused script.config.tasks s.task (is_gone call_range calls) (calls_in call_range calls) [] s.list

abbrev pub HasMadeInBut : (mortal : Bool) → Script → CallRange → (refused : List ℕ) → SeatState → Type 0
HasMadeInBut mortal script call_range refused s = HasMadeIn mortal (is_among refused s.task) script call_range s

abbrev pub HasMadeInBy : (mortal : Bool) → Script → CallRange → CoreState → SeatState → Type 0
HasMadeInBy mortal script call_range core s = HasMadeIn mortal (is_gone_in core s.task) script call_range s

abbrev pub HasStrayedIn : (mortal : Bool) → Script → CallRange → SeatState → Type 0
HasStrayedIn mortal script call_range s =
    let calls = calls_of script.calls.items s.task in
    CallsStrayed mortal script.config.tasks s.task (is_gone call_range calls) (calls_in call_range calls) [] s.list

abbrev pub SomeStrayedIn : (mortal : Bool) → Script → CallRange → List SeatState → Type 0
SomeStrayedIn mortal script call_range seats = Any (HasStrayedIn mortal script call_range) seats

abbrev pub HasLeftIn : (mortal : Bool) → Script → CallRange → SeatState → Type 0
HasLeftIn mortal script call_range s =
    let calls = calls_of script.calls.items s.task in
    CallsLeft mortal script.config.tasks s.task (is_gone call_range calls) (calls_in call_range calls) [] s.list

abbrev pub SomeLeftIn : (mortal : Bool) → Script → CallRange → List SeatState → Type 0
SomeLeftIn mortal script call_range seats = Any (HasLeftIn mortal script call_range) seats

abbrev pub AreFoundInAs : (mortal astray late : Bool) → Script → CallRange → (refused : List ℕ) → List SeatState → Type 0
AreFoundInAs mortal true late script call_range refused seats = SomeStrayedIn mortal script call_range seats
AreFoundInAs mortal false true script call_range refused seats = SomeLeftIn mortal script call_range seats
AreFoundInAs mortal false false script call_range refused seats = All (HasMadeInBut mortal script call_range refused) seats

abbrev pub AreFoundIn : (mortal : Bool) → Script → CallRange → Found → List SeatState → Type 0
AreFoundIn mortal script call_range found seats =
    AreFoundInAs mortal found.astray found.late script call_range found.refused.items seats

-- the seat has made nothing
abbrev pub IsNew : SeatState → Type 0
IsNew s = s.list ≡ []

-- a racer has the script's calls of its task, and its seat has made nothing
abbrev pub IsSet : Script → List Op → SeatState → Type 0
IsSet script calls s = (calls ≡ calls_of script.calls.items s.task) × IsNew s

-- what came of a racer's calls, which are a range of the script's
abbrev pub HasRun : (mortal : Bool) → Script → CallRange → RacerResult → SeatState → Type 0
HasRun mortal script call_range ending s =
    let calls = calls_of script.calls.items s.task in
    EndsBy ending mortal script.config.tasks s.task (is_gone call_range calls) (calls_in call_range calls) [] s.list
