-- A crew: the seats of a running pool, each at a member with what it is to do next.
use Rattle.std.specs.Prelude.{◌≡◌, ℕ, ◌+◌, ◌==◌, Bool, true, false, List, [], ◌∷◌, map, Result, Ok, Err}
use Rattle.std.specs.Prelude.{if◌then◌else◌}
use Rattle.std.specs.List.{AllZip, list_any, range_with_len}
use denote.Ref.{Bor, MutBor}
use denote.Param.Members.{Shared}
use Rattle.hp_base.specs.declared.event.Op.{Op}
use Rattle.hp_machine.specs.declared.outcome.Refusal.TheVariants as refusal
use Rattle.hp_shared.specs.Calls.{Gained, AllMoved, in_call}
use Rattle.hp_shared.specs.Replies.{IsCall, IsResumed, StoppedCall}
use Rattle.hp_shared.specs.Seats.{new_seat}
use Rattle.hp_shared.specs.States.{SeatState}
use Rattle.hp_shared.specs.declared.entry.Entry.{Entry}
use Rattle.hp_shared.specs.declared.fault.CallFault.{CallFault}
use Rattle.hp_shared.specs.declared.fault.CallFault.TheVariants as lacks
use Rattle.hp_shared.specs.declared.fault.Reply.{Reply}
use Rattle.hp_shared.specs.declared.fault.Reply.TheVariants as reply
use Rattle.hp_client.specs.declared.crew.Work.{Work}
use Rattle.hp_client.specs.declared.crew.Work.TheVariants.{Idle, Call, Resume, Came}

-- a seat, and its work
pub record MemberState : Type 0 where
  pub seat : SeatState
  pub work : Work

-- what the seat's list gained by a call that came to this
abbrev pub CallCame : (task : ℕ) → Op → Result Reply CallFault → List Entry → List Entry → Type 0
CallCame task op (Ok reply) old new = IsCall task op reply old new
CallCame task op (Err fault) old new = StoppedCall task op fault old new

-- what it gained where a call that was in flight went on, and came to this
abbrev pub ResumeCame : (task : ℕ) → Result Reply CallFault → List Entry → List Entry → Type 0
ResumeCame task (Ok reply) old new = IsResumed task reply old new
ResumeCame task (Err fault) old new = (fault ≡ lacks.Memory true) × Gained old new (AllMoved task)

-- A seat made this call, which came to that. Where it has a call in flight, it is refused.
pub record Called (op : Op) (came : Result Reply CallFault) (old new : SeatState) : Type 0 where
  pub task : new.task ≡ old.task
  pub earlier : new.earlier ≡ old.earlier
  pub list : CallCame old.task op came old.list new.list
  pub in_flight : in_call old.list ≡ true → (came ≡ Ok (reply.Refused refusal.InCall)) × (new ≡ old)

-- A seat went on with its call in flight, which came to that. Where it has none, it is refused.
pub record Resumed (came : Result Reply CallFault) (old new : SeatState) : Type 0 where
  pub task : new.task ≡ old.task
  pub earlier : new.earlier ≡ old.earlier
  pub list : ResumeCame old.task came old.list new.list
  pub idle : in_call old.list ≡ false → (came ≡ Ok (reply.Refused refusal.Idle)) × (new ≡ old)

-- what a seat and its work become: who has nothing to do stays as it is
abbrev pub Does : Work → SeatState → SeatState → Work → Type 0
Does Idle old new work = (new ≡ old) × (work ≡ Idle)
Does (Call op) old new work = (came : Result Reply CallFault) × (work ≡ Came came) × Called op came old new
Does Resume old new work = (came : Result Reply CallFault) × (work ≡ Came came) × Resumed came old new
Does (Came came) old new work = (new ≡ old) × (work ≡ Came came)

-- a member did its work
abbrev pub Works : MemberState → MemberState → Type 0
Works old new = Does old.work old.seat new.seat new.work

-- each member did its work
abbrev pub AllWork : List MemberState → List MemberState → Type 0
AllWork old new = AllZip Works old new

-- the first call of the task among these, if there is one
abbrev pub work_for : (task : ℕ) → List (ℕ × Op) → Work
work_for task [] = Idle
work_for task (call ∷ calls) = if call.0 == task then Call call.1 else work_for task calls

-- the member with its call among these, or with nothing to do
abbrev pub given : List (ℕ × Op) → MemberState → MemberState
given calls member = record { seat = member.seat; work = work_for member.seat.task calls }

-- the member that is to go on with its call in flight
abbrev pub resuming : MemberState → MemberState
resuming member = record { seat = member.seat; work = Resume }

-- whether the task has a member
abbrev pub has_member : (task : ℕ) → List MemberState → Bool
has_member task members = list_any (λ (d : MemberState). d.seat.task == task) members

-- the work at the task's member; nothing, where it has none
abbrev pub work_at : (task : ℕ) → List MemberState → Work
work_at task [] = Idle
work_at task (member ∷ members) = if member.seat.task == task then member.work else work_at task members

-- the seats of the members
abbrev pub seats_at : List MemberState → List SeatState
seats_at members = map (λ (d : MemberState). d.seat) members

-- the members of these seats, which have nothing to do
abbrev pub members_of : List SeatState → List MemberState
members_of seats = map (λ (s : SeatState). record { seat = s; work = Idle }) seats

-- the seats of the tasks from 1 to n, which made no entry yet
abbrev pub new_seats : ℕ → List SeatState
new_seats n = map (λ task. new_seat (task + 1)) (range_with_len 0 n)

-- Whatever carries a crew through its work does nothing else, and can always be called.
module _ {F C R : Type 0} (g : Shared F (MutBor C × (Bor R × Unit {0})) (Unit {0} × (MutBor C × Unit {0})))
    (members : C → List MemberState) where
  abbrev pub AllRun : Type 0
  AllRun =
      (f : F) (crew : MutBor C) (rt : Bor R)
      → g.pre f (crew, (rt, tt))
      × ((after : MutBor C) → g.post f (crew, (rt, tt)) (tt, (after, tt)) → AllWork (members crew.now) (members after.now))
