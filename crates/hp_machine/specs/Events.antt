-- The machine: what each event may do, and what a list of events leads to.
use Rattle.std.specs.Prelude.{◌≡◌, ℕ, ◌&&◌, Bool, true, false, not, Option, Some, None, List, [], ◌∷◌, MatchBool, MatchOption}
use Rattle.std.specs.Prelude.{nat_le, nat_lt, if◌then◌else◌}
use Rattle.hp_base.specs.Numbers.{put}
use Rattle.hp_base.specs.declared.event.Op.{Op}
use Rattle.hp_base.specs.declared.event.Op.TheVariants as op
use Rattle.hp_base.specs.declared.event.Event.{Event}
use Rattle.hp_base.specs.declared.event.Event.TheVariants.{Begin, Step, Kill, Resize}
use Rattle.hp_frames.specs.declared.frame.FrameState.TheVariants.{Free, Hand}
use Rattle.hp_machine.specs.State.{Geometry, Pool, State, pool_of, with_pool, is_alive, is_killed, is_dead}
use Rattle.hp_machine.specs.TouchRows.{TouchRow}
use Rattle.hp_machine.specs.MapRows.{MapRow}
use Rattle.hp_machine.specs.AllocRows.{AllocRow}
use Rattle.hp_machine.specs.PunchRows.{PunchRow}
use Rattle.hp_machine.specs.TruncateRows.{TruncateRow}
use Rattle.hp_machine.specs.UnmapRows.{UnmapRow}
use Rattle.hp_machine.specs.ExitRows.{ExitRow}
use Rattle.hp_machine.specs.Resizes.{ResizeRow}
use Rattle.hp_machine.specs.declared.touch.Access.TheVariants as access
use Rattle.hp_machine.specs.declared.touch.TouchPhase.TheVariants as touch
use Rattle.hp_machine.specs.declared.map.MapPhase.TheVariants as map
use Rattle.hp_machine.specs.declared.alloc.AllocPhase.TheVariants as alloc
use Rattle.hp_machine.specs.declared.punch.PunchPhase.TheVariants as punch
use Rattle.hp_machine.specs.declared.truncate.TruncatePhase.TheVariants as truncate
use Rattle.hp_machine.specs.declared.unmap.UnmapPhase.TheVariants as unmap
use Rattle.hp_machine.specs.declared.exit.ExitPhase.TheVariants as exit
use Rattle.hp_machine.specs.declared.phase.Phase.{Phase}
use Rattle.hp_machine.specs.declared.phase.Phase.TheVariants as word
use Rattle.hp_machine.specs.declared.outcome.Life.{Life}
use Rattle.hp_machine.specs.declared.outcome.Life.TheVariants as life
use Rattle.hp_machine.specs.declared.outcome.Outcome.{Outcome}
use Rattle.hp_machine.specs.declared.outcome.Outcome.TheVariants as outcome
use Rattle.hp_machine.specs.declared.outcome.Refusal.{Refusal}
use Rattle.hp_machine.specs.declared.outcome.Refusal.TheVariants as refusal
use Rattle.hp_machine.specs.declared.call.Call.{Call}
use Rattle.hp_machine.specs.declared.call.Call.TheVariants as call
use Rattle.hp_machine.specs.declared.call.Turn.{Turn}
use Rattle.hp_machine.specs.declared.call.Turn.TheVariants.{Moved, Blocked, Ended}

-- where a call of the operation begins
abbrev pub first : Op → Call
first (op.Map file from len) = call.Map (map.Start (record { map = record { reserve = true; file = file; from = from; len = len } }))
first (op.MapNoReserve file from len) =
    call.Map (map.Start (record { map = record { reserve = false; file = file; from = from; len = len } }))
first (op.Unmap base) = call.Unmap (unmap.Start (record { base = base }))
first (op.Load vpn) = call.Touch (touch.Look (record { vpn = vpn; access = access.Load }))
first (op.Store vpn new) = call.Touch (touch.Look (record { vpn = vpn; access = access.Store new }))
first (op.Alloc file from len keep) =
    call.Alloc (alloc.Start (record { allocation = record { file = file; from = from; len = len; keep = keep } }))
first (op.Punch file from len) = call.Punch (punch.Start (record { hole = record { file = file; from = from; len = len } }))
first (op.Truncate file new) = call.Truncate (truncate.Start (record { truncation = record { file = file; new = new } }))
first op.Exit = call.Exit exit.Start

abbrev pub is_exit : Op → Bool
is_exit op.Exit = true
is_exit other = false

-- a call is begun
abbrev pub is_begun : Outcome → Bool
is_begun outcome.Begun = true
is_begun (outcome.Moved phase) = false
is_begun (outcome.Blocked holder) = false
is_begun (outcome.Ended answer) = false
is_begun outcome.Marked = false
is_begun (outcome.Resized frames) = false
is_begun (outcome.Refused why) = false

-- the word of the phase in which a call stands
abbrev pub word_of : Call → Phase
word_of (call.Touch (touch.Look p)) = word.Look
word_of (call.Touch (touch.Want p)) = word.Want
word_of (call.Touch (touch.Locked p)) = word.Locked
word_of (call.Touch (touch.Missing p)) = word.Missing
word_of (call.Touch (touch.Changed p)) = word.Changed
word_of (call.Touch (touch.Abort p)) = word.Abort
word_of (call.Touch (touch.Taken p)) = word.Taken
word_of (call.Touch (touch.Settle p)) = word.Settle
word_of (call.Touch (touch.Committed p)) = word.Committed
word_of (call.Touch (touch.Restore p)) = word.Restore
word_of (call.Touch (touch.Found p)) = word.Found
word_of (call.Touch (touch.Leave p)) = word.Leave
word_of (call.Map (map.Start p)) = word.Start
word_of (call.Map (map.Room p)) = word.Room
word_of (call.Map (map.Missing p)) = word.Missing
word_of (call.Map (map.Changed p)) = word.Changed
word_of (call.Map (map.Abort p)) = word.Abort
word_of (call.Map (map.Accounted p)) = word.Accounted
word_of (call.Map (map.Settle p)) = word.Settle
word_of (call.Map (map.Enter p)) = word.Enter
word_of (call.Map (map.Leave p)) = word.Leave
word_of (call.Alloc (alloc.Start p)) = word.Start
word_of (call.Alloc (alloc.Head p)) = word.Head
word_of (call.Alloc (alloc.Want p)) = word.Want
word_of (call.Alloc (alloc.Locked p)) = word.Locked
word_of (call.Alloc (alloc.Missing p)) = word.Missing
word_of (call.Alloc (alloc.Changed p)) = word.Changed
word_of (call.Alloc (alloc.Abort p)) = word.Abort
word_of (call.Alloc (alloc.Taken p)) = word.Taken
word_of (call.Alloc (alloc.Settle p)) = word.Settle
word_of (call.Alloc (alloc.Committed p)) = word.Committed
word_of (call.Alloc (alloc.Restore p)) = word.Restore
word_of (call.Alloc (alloc.Unslot p)) = word.Unslot
word_of (call.Alloc (alloc.Extend p)) = word.Extend
word_of (call.Alloc (alloc.Leave p)) = word.Leave
word_of (call.Punch (punch.Start p)) = word.Start
word_of (call.Punch (punch.Want p)) = word.Want
word_of (call.Punch (punch.Locked p)) = word.Locked
word_of (call.Punch (punch.Unmap p)) = word.Unmap
word_of (call.Punch (punch.Evict p)) = word.Evict
word_of (call.Punch (punch.Delete p)) = word.Delete
word_of (call.Punch (punch.Free p)) = word.Free
word_of (call.Punch (punch.Unslot p)) = word.Unslot
word_of (call.Punch (punch.Leave p)) = word.Leave
word_of (call.Truncate (truncate.Start p)) = word.Start
word_of (call.Truncate (truncate.Size p)) = word.Size
word_of (call.Truncate (truncate.Want p)) = word.Want
word_of (call.Truncate (truncate.Locked p)) = word.Locked
word_of (call.Truncate (truncate.Unmap p)) = word.Unmap
word_of (call.Truncate (truncate.Evict p)) = word.Evict
word_of (call.Truncate (truncate.Free p)) = word.Free
word_of (call.Truncate (truncate.Unslot p)) = word.Unslot
word_of (call.Truncate (truncate.Tail p)) = word.Tail
word_of (call.Truncate (truncate.Settle p)) = word.Settle
word_of (call.Truncate (truncate.Leave p)) = word.Leave
word_of (call.Unmap (unmap.Start p)) = word.Start
word_of (call.Unmap (unmap.Clear p)) = word.Clear
word_of (call.Unmap (unmap.Drop p)) = word.Drop
word_of (call.Exit exit.Start) = word.Start
word_of (call.Exit (exit.Clear p)) = word.Clear
word_of (call.Exit (exit.Drop p)) = word.Drop
word_of (call.Exit exit.Leave) = word.Leave

-- the outcome of a turn
abbrev pub outcome_of : {P : Type 0} → (P → Call) → Turn P → Outcome
outcome_of call (Moved p) = outcome.Moved (word_of (call p))
outcome_of call (Blocked p holder) = outcome.Blocked holder
outcome_of call (Ended a) = outcome.Ended a

-- the call that a turn leaves in flight
abbrev pub left : {P : Type 0} → (P → Call) → Turn P → Option Call
left call (Moved p) = Some (call p)
left call (Blocked p holder) = Some (call p)
left call (Ended a) = None

-- a turn by the rows of an operation: its outcome, and the call that it leaves
abbrev pub TurnRow : {P : Type 0} → (P → Call) → (Turn P → Pool → Type 0) → Outcome → Pool → Option Call → Type 0
TurnRow {P} call row tells new next = (turn : Turn P) × row turn new × (tells ≡ outcome_of call turn) × (next ≡ left call turn)

-- what a step of a call may do, what a step of a task, what a resize, and what an event: the machine's own are below
abbrev pub CallRows : Type 1
CallRows = Pool → (task : ℕ) → (killed grant : Bool) → Call → Outcome → Pool → Option Call → Type 0

abbrev pub StepRows : Type 1
StepRows = State → (task : ℕ) → (grant : Bool) → Outcome → State → Type 0

abbrev pub ResizeRows : Type 1
ResizeRows = Pool → (frames : ℕ) → Outcome → Pool → Type 0

abbrev pub EventRows : Type 1
EventRows = State → Event → Outcome → State → Type 0

-- one step of a call: the rows of its operation
unfoldable pub CallRow : CallRows
CallRow s t killed grant (call.Touch p) = TurnRow call.Touch (TouchRow s t killed grant p)
CallRow s t killed grant (call.Map p) = TurnRow call.Map (MapRow s t killed grant p)
CallRow s t killed grant (call.Alloc p) = TurnRow call.Alloc (AllocRow s t killed grant p)
CallRow s t killed grant (call.Punch p) = TurnRow call.Punch (PunchRow s t killed grant p)
CallRow s t killed grant (call.Truncate p) = TurnRow call.Truncate (TruncateRow s t killed grant p)
CallRow s t killed grant (call.Unmap p) = TurnRow call.Unmap (UnmapRow s t killed grant p)
CallRow s t killed grant (call.Exit p) = TurnRow call.Exit (ExitRow s t killed grant p)

-- the event has that outcome, and leads to that state
abbrev pub Tells : Outcome → State → Outcome → State → Type 0
Tells wanted after tells new = (tells ≡ wanted) × (new ≡ after)

abbrev pub Refuses : Refusal → State → Outcome → State → Type 0
Refuses why s tells new = (tells ≡ outcome.Refused why) × (new ≡ s)

-- no such task, or dead: NotAlive. A call in flight: InCall. Killed, and it isn't an exit: NotAlive. Else the
-- call is in flight
unfoldable pub BeginRow : State → (task : ℕ) → Op → Outcome → State → Type 0
BeginRow s t op tells new =
    MatchBool (is_dead (s.life t))
    (Refuses refusal.NotAlive s tells new)
    (MatchOption (s.calls t)
    (MatchBool (is_killed (s.life t) && not (is_exit op))
    (Refuses refusal.NotAlive s tells new)
    (Tells outcome.Begun (record s { calls = put s.calls t (Some (first op)) }) tells new))
    (λ call. Refuses refusal.InCall s tells new))

-- a task is dead once its exit is over
abbrev pub lives_after : (ℕ → Life) → (task : ℕ) → Call → Option Call → ℕ → Life
lives_after lives t (call.Exit p) None = put lives t life.Dead
lives_after lives t (call.Exit p) (Some next) = lives
lives_after lives t (call.Touch p) next = lives
lives_after lives t (call.Map p) next = lives
lives_after lives t (call.Alloc p) next = lives
lives_after lives t (call.Punch p) next = lives
lives_after lives t (call.Truncate p) next = lives
lives_after lives t (call.Unmap p) next = lives

-- no such task, or dead: NotAlive. No call in flight: Idle. Else one of these rows, that of the call's phase
abbrev pub StepBy : CallRows → StepRows
StepBy rows s t grant tells new =
    MatchBool (is_dead (s.life t))
    (Refuses refusal.NotAlive s tells new)
    (MatchOption (s.calls t)
    (Refuses refusal.Idle s tells new)
    (λ call. (pool : Pool) × (next : Option Call) × rows (pool_of s) t (is_killed (s.life t)) grant call tells pool next
    × (new ≡ record (with_pool s pool) { life = lives_after s.life t call next; calls = put s.calls t next })))

-- a step by the rows of the operations
unfoldable pub StepRow : StepRows
StepRow s t grant tells new = StepBy CallRow s t grant tells new

-- no such task, killed or dead: NotAlive. Else the task is killed
unfoldable pub KillRow : State → (task : ℕ) → Outcome → State → Type 0
KillRow s t tells new =
    MatchBool (is_alive (s.life t))
    (Tells outcome.Marked (record s { life = put s.life t life.Killed }) tells new)
    (Refuses refusal.NotAlive s tells new)

-- what an event may do, by these rows of steps and of resizes
abbrev pub RowBy : StepRows → ResizeRows → EventRows
RowBy steps resizes s (Begin t op) tells new = BeginRow s t op tells new
RowBy steps resizes s (Step t grant) tells new = steps s t grant tells new
RowBy steps resizes s (Kill t) tells new = KillRow s t tells new
RowBy steps resizes s (Resize n) tells new = (pool : Pool) × resizes (pool_of s) n tells pool × (new ≡ with_pool s pool)

-- what an event may do
abbrev pub Row : EventRows
Row = RowBy StepRow ResizeRow

-- by these rows of events, the events with their outcomes lead from one state to the other
abbrev pub RunBy : EventRows → State → List (Event × Outcome) → State → Type 0
RunBy rows s [] new = new ≡ s
RunBy rows s (e ∷ es) new = (mid : State) × rows s e.0 e.1 mid × RunBy rows mid es new

-- the events with their outcomes lead from one state to the other
abbrev pub Run : State → List (Event × Outcome) → State → Type 0
Run = RunBy Row

-- All frames are free and the tasks 1 to `tasks` alive, and nothing else is. Frames that aren't there are in
-- no free set, and tasks that aren't there are dead
abbrev pub opening : Geometry → (frames : ℕ) → State
opening g frames = record {
  pool = record {
    geometry = g;
    frames = frames;
    frame = λ x. if nat_lt x frames then Free else Hand;
    resv = 0;
    used = 0;
    slots = λ _. None;
    locks = λ _. None;
    size = λ _. 0;
    pending = λ _. 0;
    spare = λ _. 0;
    reserved = λ _ _. false;
    pages = λ _ _. None;
    ready = λ _. false;
    mappings = λ _. [];
    entries = λ _ _. None;
  };
  life = λ t. if nat_le 1 t && nat_le t g.tasks then life.Alive else life.Dead;
  calls = λ _. None;
}

-- some run from the opening state with so many frames leads there
abbrev pub IsReachedFrom : (frames : ℕ) → State → Type 0
IsReachedFrom frames s = (events : List (Event × Outcome)) × Run (opening s.geometry frames) events s

-- with some number of frames
abbrev pub IsReached : State → Type 0
IsReached s = (frames : ℕ) × IsReachedFrom frames s
