-- What the theorems say of one state that a run reached: each is the contract of a function of this crate, and of a call of a core.
use Rattle.std.specs.Prelude.{◌≡◌, ◌≢◌, ◌≤◌, ◌+◌, ℕ, Bool, true, false, Some, None, IsSome, IfSome, List}
use Rattle.hp_base.specs.Indices.{count_within}
use Rattle.hp_frames.specs.declared.frame.FrameState.TheVariants.{Free}
use Rattle.hp_base.specs.declared.answer.Answer.{Answer}
use Rattle.hp_base.specs.declared.answer.Answer.TheVariants.{Done}
use Rattle.hp_base.specs.declared.event.Op.{Op}
use Rattle.hp_base.specs.declared.event.Event.{Event}
use Rattle.hp_base.specs.declared.event.Event.TheVariants.{Begin, Step, Kill, Resize}
use Rattle.hp_machine.specs.State.{State, is_dead, is_killed}
use Rattle.hp_machine.specs.Events.{Row, Run, first, word_of}
use Rattle.hp_machine.specs.Views.{slot_held, locked_file}
use Rattle.hp_machine.specs.declared.call.Call.{Call}
use Rattle.hp_machine.specs.declared.call.Call.TheVariants as call
use Rattle.hp_machine.specs.declared.outcome.Outcome.{Outcome}
use Rattle.hp_machine.specs.declared.outcome.Outcome.TheVariants.{Begun, Moved, Blocked, Ended, Marked, Resized, Refused}
use Rattle.hp_machine.specs.declared.phase.Phase.{Phase}
use Rattle.hp_machine.specs.declared.phase.Phase.TheVariants as word
use Rattle.hp_machine.specs.declared.alloc.AllocPhase.TheVariants as alloc
use Rattle.hp_machine.specs.declared.alloc.Changed as alloc_changed
use Rattle.hp_machine.specs.declared.alloc.Unslot.{Unslot}
use Rattle.hp_machine.specs.declared.touch.Changed as touch_changed
use Rattle.hp_machine.specs.declared.touch.TouchPhase.TheVariants as touch
use Rattle.hp_machine.specs.declared.truncate.TruncatePhase.{TruncatePhase}
use Rattle.hp_machine.specs.declared.truncate.TruncatePhase.TheVariants as truncate
use Rattle.hp_machine.specs.declared.truncate.Evict.{Evict}
use Rattle.hp_machine.specs.declared.truncate.Tail.{Tail}
use Rattle.hp_laws.specs.Bounds.{calls_begun, HoldsUp, IsUnblocked}
use Rattle.hp_laws.specs.Enough.{CanSettle}
use Rattle.hp_laws.specs.Promises.{TellsNoLack}
use Rattle.hp_laws.specs.Protocol.{GoesUnderLock, truncation_of, IsCut}
use Rattle.hp_laws.specs.StepsLeft.{goes_on, left_to, left_to_all}
use Rattle.hp_laws.specs.Sweep.{gone}

-- whenever a call is about to lower the reserve count or the used count, the count is at least what it takes
abbrev pub NeverShort : State → Type 0
NeverShort s = (t : ℕ) → t ≤ s.geometry.tasks → CanSettle s (s.calls t)

-- each event has an outcome, and leads to a state
abbrev pub HasNoDeadEnd : State → Type 0
HasNoDeadEnd s = (event : Event) → (outcome : Outcome) × (after : State) × Row s event outcome after

-- a reserved index goes only at a delete or a tail, under the file lock, and never one on which another call counts
abbrev pub LosesUnderLock : State → Type 0
LosesUnderLock s =
    (event : Event) (outcome : Outcome) (after : State) (f i : ℕ) → Row s event outcome after → s.reserved f i ≡ true
    → after.reserved f i ≡ false → GoesUnderLock s event f i

-- an outcome that moved a call tells the word of the phase at which the call stands then
abbrev pub MovesTellPhases : State → Type 0
MovesTellPhases s =
    (t : ℕ) (grant : Bool) (phase : Phase) (after : State) → Row s (Step t grant) (Moved phase) after
    → (c : Call) × (after.calls t ≡ Some c) × (word_of c ≡ phase)

-- a touch whose change found nothing missing takes a free frame, unless a kill is noticed there
abbrev pub TouchTakes : State → Type 0
TouchTakes s = (t : ℕ) (grant : Bool) (p : touch_changed.Changed) (outcome : Outcome) (after : State)
    → s.calls t ≡ Some (call.Touch (touch.Changed p)) → p.pending.missing ≡ 0 → is_killed (s.life t) ≡ false
    → Row s (Step t grant) outcome after
    → (x : ℕ) × (s.frame x ≡ Free) × (outcome ≡ Moved word.Taken)
    × (after.calls t ≡ Some (call.Touch (touch.Taken (record { touch = p.touch; pending = p.pending; held = x }))))

-- so does an allocation
abbrev pub AllocTakes : State → Type 0
AllocTakes s = (t : ℕ) (grant : Bool) (p : alloc_changed.Changed) (outcome : Outcome) (after : State)
    → s.calls t ≡ Some (call.Alloc (alloc.Changed p)) → p.pending.missing ≡ 0 → is_killed (s.life t) ≡ false
    → Row s (Step t grant) outcome after
    → (x : ℕ) × (s.frame x ≡ Free) × (outcome ≡ Moved word.Taken)
    × (after.calls t ≡ Some
    (call.Alloc (alloc.Taken (record { allocation = p.allocation; index = p.index; pending = p.pending; held = x }))))

-- a touch whose change found nothing missing never answers that there is no frame, nor that the quota is used up, whatever comes between
abbrev pub TouchNeverLacks : State → Type 0
TouchNeverLacks s =
    (t : ℕ) (p : touch_changed.Changed) (rest : List (Event × Outcome)) (n : State) (last : Bool) (answer : Answer) (after : State)
    → s.calls t ≡ Some (call.Touch (touch.Changed p)) → p.pending.missing ≡ 0 → Run s rest n → calls_begun t rest ≡ 0
    → Row n (Step t last) (Ended answer) after → TellsNoLack answer

-- an allocation whose change found nothing missing at an index doesn't leave that index for want of a frame or of quota, whatever
-- comes between
abbrev pub AllocNeverLacks : State → Type 0
AllocNeverLacks s = (t : ℕ) (p : alloc_changed.Changed) (rest : List (Event × Outcome)) (n : State) (q : Unslot)
    → s.calls t ≡ Some (call.Alloc (alloc.Changed p)) → p.pending.missing ≡ 0 → Run s rest n → calls_begun t rest ≡ 0
    → n.calls t ≡ Some (call.Alloc (alloc.Unslot q)) → q.index ≡ p.index → IfSome q.answer TellsNoLack

-- where a truncation ends here with Done, nothing of its file at or above the new size is translated, cached or reserved
abbrev pub TruncationCuts : State → Type 0
TruncationCuts s = (t : ℕ) (grant : Bool) (phase : TruncatePhase) (after : State)
    → s.calls t ≡ Some (call.Truncate phase) → Row s (Step t grant) (Ended Done) after
    → IsCut after (truncation_of phase).file (truncation_of phase).new

-- an index from which a truncation takes the page here stays reserved until the truncation takes its tail out
abbrev pub EvictedStays : State → Type 0
EvictedStays s = (t : ℕ) (p : Evict) (rest : List (Event × Outcome)) (n : State) (q : TruncatePhase)
    → s.calls t ≡ Some (call.Truncate (truncate.Evict p)) → Run s rest n → calls_begun t rest ≡ 0 → n.calls t ≡ Some (call.Truncate q)
    → gone (n.calls t) p.truncation.file p.index ≡ false → n.reserved p.truncation.file p.index ≡ true

-- a truncation evicted no more pages than its tail takes indices out
abbrev pub EvictsFew : State → Type 0
EvictsFew s =
    (t : ℕ) (p : Tail) → s.calls t ≡ Some (call.Truncate (truncate.Tail p))
    → p.evicted ≤ count_within (s.reserved p.truncation.file) p.truncation.new s.geometry.limit

-- a step is blocked only by another task, whose call in flight holds what the step would take, and it changes nothing
abbrev pub BlockedByHolders : State → Type 0
BlockedByHolders s =
    (t : ℕ) (grant : Bool) (u : ℕ) (after : State) → Row s (Step t grant) (Blocked u) after → (after ≡ s) × (u ≢ t) × HoldsUp s u t

-- a call that holds a slot is never blocked
abbrev pub SlotHoldersGoOn : State → Type 0
SlotHoldersGoOn s = (t : ℕ) (place : ℕ × ℕ) → slot_held (s.calls t) ≡ Some place → IsUnblocked s t

-- a call that holds a file lock is blocked only by a call that holds a slot
abbrev pub LockHoldersWaitForSlots : State → Type 0
LockHoldersWaitForSlots s = (t f : ℕ) (grant : Bool) (u : ℕ) (after : State)
    → locked_file (s.calls t) ≡ Some f → Row s (Step t grant) (Blocked u) after → (place : ℕ × ℕ) × (slot_held (s.calls u) ≡ Some place)

-- where calls are in flight, the next step of one of them isn't blocked, and its task isn't dead
abbrev pub SomeCallGoesOn : State → Type 0
SomeCallGoesOn s =
    (t : ℕ) (c : Call) → s.calls t ≡ Some c
    → (u : ℕ) × (d : Call) × (s.calls u ≡ Some d) × (is_dead (s.life u) ≡ false) × IsUnblocked s u

-- a step that moves or ends its call leaves it a step fewer at least, and every other call as many; so all together have
-- fewer left
abbrev pub StepsRunOut : State → Type 0
StepsRunOut s = (t : ℕ) (grant : Bool) (outcome : Outcome) (after : State) → Row s (Step t grant) outcome after
    → (left_to after t + goes_on outcome ≤ left_to s t) × ((u : ℕ) → u ≢ t → left_to after u ≡ left_to s u)
    × (left_to_all after + goes_on outcome ≤ left_to_all s)

-- the event is of that task; a resize is of none
abbrev pub IsOf : (task : ℕ) → Event → Type 0
IsOf u (Begin t op) = u ≡ t
IsOf u (Step t grant) = u ≡ t
IsOf u (Kill t) = u ≡ t
IsOf u (Resize frames) = ⊥

-- an event leaves the calls and the lives of the tasks that it isn't of
abbrev pub OthersStay : State → Type 0
OthersStay s = (event : Event) (outcome : Outcome) (after : State) (u : ℕ) → Row s event outcome after → ¬ IsOf u event
    → (after.calls u ≡ s.calls u) × (after.life u ≡ s.life u)

-- what a begin leaves: it is begun, and the call stands where its operation begins, or refused, and nothing changed
abbrev pub Began : State → (task : ℕ) → Op → Outcome → State → Type 0
Began s t op Begun after = after.calls t ≡ Some (first op)
Began s t op (Refused why) after = after ≡ s
Began s t op (Moved p) after = ⊥
Began s t op (Blocked holder) after = ⊥
Began s t op (Ended a) after = ⊥
Began s t op Marked after = ⊥
Began s t op (Resized frames) after = ⊥

abbrev pub BeginsBegin : State → Type 0
BeginsBegin s = (t : ℕ) (op : Op) (outcome : Outcome) (after : State) → Row s (Begin t op) outcome after → Began s t op outcome after

-- what a step of a call in flight leaves of it: it goes on, is blocked, and nothing changed, or has ended
abbrev pub Went : State → (task : ℕ) → Outcome → State → Type 0
Went s t (Moved p) after = IsSome (after.calls t)
Went s t (Blocked holder) after = after ≡ s
Went s t (Ended a) after = after.calls t ≡ None
Went s t Begun after = ⊥
Went s t (Refused why) after = ⊥
Went s t Marked after = ⊥
Went s t (Resized frames) after = ⊥

abbrev pub CallsStep : State → Type 0
CallsStep s = (t : ℕ) (grant : Bool) (c : Call) (outcome : Outcome) (after : State) → s.calls t ≡ Some c
    → Row s (Step t grant) outcome after → Went s t outcome after

-- whoever has a call in flight is a task that is there and isn't dead
abbrev pub CallersLive : State → Type 0
CallersLive s = (t : ℕ) (c : Call) → s.calls t ≡ Some c → (1 ≤ t) × (t ≤ s.geometry.tasks) × (is_dead (s.life t) ≡ false)
