-- What a task's calls make of its list, one call after the other.
use Rattle.std.specs.Prelude.{◌≡◌, ◌==◌, ◌&&◌, ◌||◌, ◌⊎◌, ◌≤◌, ◌++◌, ℕ, Bool, true, false, not, nat_lt, List, [], ◌∷◌, length}
use Rattle.std.specs.Prelude.{if◌then◌else◌}
use Rattle.hp_base.specs.declared.answer.Answer.{Answer}
use Rattle.hp_base.specs.declared.event.Event.TheVariants.{Kill}
use Rattle.hp_base.specs.declared.event.Op.{Op}
use Rattle.hp_machine.specs.Events.{is_exit}
use Rattle.hp_machine.specs.declared.outcome.Outcome.TheVariants.{Marked}
use Rattle.hp_machine.specs.declared.outcome.Refusal.{Refusal}
use Rattle.hp_machine.specs.declared.outcome.Refusal.TheVariants.{NotAlive, InCall, Idle, BadSize}
use Rattle.hp_shared.specs.declared.entry.Entry.{Entry}
use Rattle.hp_shared.specs.declared.fault.Reply.{Reply}
use Rattle.hp_shared.specs.declared.fault.Reply.TheVariants.{Ended, Refused}
use Rattle.hp_shared.specs.Journal.{entry}
use Rattle.hp_shared.specs.Replies.{IsCall}
use Rattle.hp_race.specs.declared.chances.Chances.{Chances}
use Rattle.hp_race.specs.declared.racer.RacerResult.{RacerResult}
use Rattle.hp_race.specs.declared.racer.RacerResult.TheVariants.{Made, Killed, Astray, Late, Memory}

-- whether tasks may be killed in a race with these chances
abbrev pub is_mortal : Chances → Bool
is_mortal chances = nat_lt 0 chances.kill

-- whether a call of a task that isn't there any more may be refused so
abbrev pub is_not_alive : Refusal → Bool
is_not_alive NotAlive = true
is_not_alive InCall = false
is_not_alive Idle = false
is_not_alive BadSize = false

-- whether a call may end so, where the task's list had so many entries before and has so many after: it is answered, or, of a
-- task that has exited or may have been killed, refused with no entry
abbrev pub may_end : (mortal gone : Bool) → Reply → (before after : ℕ) → Bool
may_end mortal gone (Ended answer) before after = not gone
may_end mortal gone (Refused why) before after = (mortal || gone) && (is_not_alive why && after == before)

-- what comes of a call that ended as it may: where the task hadn't exited and the call was refused, the task is dead or killed
abbrev pub met : (gone : Bool) → Reply → RacerResult
met true reply = Made
met false (Ended answer) = Made
met false (Refused why) = Killed

-- what comes of all calls, of which some were refused so, or none
abbrev pub ending_of : (refused : Bool) → RacerResult
ending_of refused = if refused then Killed else Made

-- what an answered call makes of the list: a begin, moves, and the end with an answer; nothing where the task has exited
abbrev pub CallAnswered : (task : ℕ) → (gone : Bool) → Op → List Entry → List Entry → Type 0
CallAnswered task false op old new = (answer : Answer) × IsCall task op (Ended answer) old new
CallAnswered task true op old new = new ≡ old

-- the same of a task whose calls may be refused, as those of a dead or killed one are: a refused call makes nothing
abbrev pub CallMet : (refused : Bool) → (task : ℕ) → (gone : Bool) → Op → List Entry → List Entry → Type 0
CallMet false task gone op old new = CallAnswered task gone op old new
CallMet true task gone op old new = CallAnswered task gone op old new ⊎ (IsCall task op (Refused NotAlive) old new × (new ≡ old))

-- and what a call makes of it that ended otherwise
abbrev pub CallFailed : (mortal : Bool) → (task : ℕ) → (gone : Bool) → Op → List Entry → List Entry → Type 0
CallFailed mortal task gone op old new =
    (reply : Reply) × IsCall task op reply old new × (may_end mortal gone reply (length old) (length new) ≡ false)

-- one of so many tasks was killed, which is one entry; or nothing happened: none was to be killed, or one that wasn't alive
abbrev pub MayKill : (tasks : ℕ) → List Entry → List Entry → Type 0
MayKill tasks old new =
    (new ≡ old)
    ⊎ ((position : ℕ) × (victim : ℕ) × (1 ≤ victim) × (victim ≤ tasks) × (new ≡ old ++ entry position (Kill victim) Marked ∷ []))

-- A call was made, in a pool of so many tasks. Where tasks may be killed, one may be before the call, and where calls of this task
-- may be refused, this one may be
abbrev pub CallMade : (mortal refused : Bool) → (tasks task : ℕ) → (gone : Bool) → Op → List Entry → List Entry → Type 0
CallMade false refused tasks task gone op old new = CallAnswered task gone op old new
CallMade true refused tasks task gone op old new = (mid : List Entry) × MayKill tasks old mid × CallMet refused task gone op mid new

-- it ended as none may
abbrev pub CallStrayed : (mortal : Bool) → (tasks task : ℕ) → (gone : Bool) → Op → List Entry → List Entry → Type 0
CallStrayed false tasks task gone op old new = CallFailed false task gone op old new
CallStrayed true tasks task gone op old new = (mid : List Entry) × MayKill tasks old mid × CallFailed true task gone op mid new

-- what came of the call
abbrev pub CallEndsBy : RacerResult → (mortal : Bool) → (tasks task : ℕ) → (gone : Bool) → Op → List Entry → List Entry → Type 0
CallEndsBy Made mortal tasks task gone op old new = CallMade mortal false tasks task gone op old new
CallEndsBy Killed mortal tasks task gone op old new = CallMade mortal true tasks task gone op old new
CallEndsBy Astray mortal tasks task gone op old new = CallStrayed mortal tasks task gone op old new
CallEndsBy Late mortal tasks task gone op old new = ⊥
CallEndsBy Memory mortal tasks task gone op old new = Unit {0}

-- all of the calls were made, in this order, and some may have been refused, or none
abbrev pub CallsMade : (mortal refused : Bool) → (tasks task : ℕ) → (gone : Bool) → List Op → List Entry → List Entry → Type 0
CallsMade mortal refused tasks task gone [] old new = new ≡ old
CallsMade mortal refused tasks task gone (op ∷ ops) old new =
    (mid : List Entry) × CallMade mortal refused tasks task gone op old mid
    × CallsMade mortal refused tasks task (gone || is_exit op) ops mid new

-- some of them were made, and of the next this came
abbrev pub CallsUpTo : (Next : (gone : Bool) → Op → List Entry → List Entry → Type 0) → (mortal : Bool) → (tasks task : ℕ) → (gone : Bool)
    → List Op → List Entry → List Entry → Type 0
CallsUpTo Next mortal tasks task gone [] old new = ⊥
CallsUpTo Next mortal tasks task gone (op ∷ ops) old new =
    Next gone op old new
    ⊎ ((mid : List Entry) × CallMade mortal true tasks task gone op old mid
    × CallsUpTo Next mortal tasks task (gone || is_exit op) ops mid new)

-- the next ended as none may
abbrev pub CallsStrayed : (mortal : Bool) → (tasks task : ℕ) → (gone : Bool) → List Op → List Entry → List Entry → Type 0
CallsStrayed mortal tasks task gone ops old new = CallsUpTo (CallStrayed mortal tasks task) mortal tasks task gone ops old new

-- or it wasn't begun
abbrev pub IsLeft : (gone : Bool) → Op → List Entry → List Entry → Type 0
IsLeft gone op old new = new ≡ old

abbrev pub CallsLeft : (mortal : Bool) → (tasks task : ℕ) → (gone : Bool) → List Op → List Entry → List Entry → Type 0
CallsLeft mortal tasks task gone ops old new = CallsUpTo IsLeft mortal tasks task gone ops old new

-- what came of the calls
abbrev pub EndsBy : RacerResult → (mortal : Bool) → (tasks task : ℕ) → (gone : Bool) → List Op → List Entry → List Entry → Type 0
EndsBy Made mortal tasks task gone ops old new = CallsMade mortal false tasks task gone ops old new
EndsBy Killed mortal tasks task gone ops old new = CallsMade mortal true tasks task gone ops old new
EndsBy Astray mortal tasks task gone ops old new = CallsStrayed mortal tasks task gone ops old new
EndsBy Late mortal tasks task gone ops old new = CallsLeft mortal tasks task gone ops old new
EndsBy Memory mortal tasks task gone ops old new = Unit {0}
