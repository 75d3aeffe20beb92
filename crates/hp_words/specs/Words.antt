-- Configs, events and outcomes as numbers: those of the header hugepool.h.
use Rattle.std.specs.Prelude.{◌≡◌, ◌⊎◌, ℕ, ◌-◌, ◌&&◌, ◌==◌, nat_le, true, false, Bool, Option, Some, None, if◌then◌else◌, slice_index_or}
use Rattle.std.specs.Option.{option_map}
use Rattle.hp_base.specs.Text.{Sizes}
use Rattle.hp_base.specs.declared.event.Op.{Op}
use Rattle.hp_base.specs.declared.event.Op.TheVariants as op
use Rattle.hp_base.specs.declared.event.Event.{Event}
use Rattle.hp_base.specs.declared.event.Event.TheVariants.{Begin, Step, Kill, Resize}
use Rattle.hp_base.specs.declared.answer.Answer.{Answer}
use Rattle.hp_base.specs.declared.answer.Answer.TheVariants as answer
use Rattle.hp_machine.specs.declared.outcome.Life.{Life}
use Rattle.hp_machine.specs.declared.outcome.Life.TheVariants as life
use Rattle.hp_machine.specs.declared.outcome.Outcome.{Outcome}
use Rattle.hp_machine.specs.declared.outcome.Outcome.TheVariants as outcome
use Rattle.hp_machine.specs.declared.outcome.Refusal.{Refusal}
use Rattle.hp_machine.specs.declared.outcome.Refusal.TheVariants as refusal
use Rattle.hp_machine.specs.declared.phase.Phase.{Phase}
use Rattle.hp_machine.specs.declared.phase.Phase.TheVariants as phase
use Rattle.hp_phases.specs.Phases.{all_phases, phase_number}
use Rattle.hp_words.specs.declared.config_words.ConfigWords.{ConfigWords}
use Rattle.hp_words.specs.declared.event_words.EventWords.{EventWords}
use Rattle.hp_words.specs.declared.outcome_words.OutcomeWords.{OutcomeWords}

-- the sizes, with the quota where it counts
abbrev pub config_words : ConfigWords → Sizes
config_words c = record {
  frames = c.frames;
  files = c.files;
  slots = c.slots;
  tasks = c.tasks;
  quota = if c.has_quota then Some c.quota else None;
}

-- the call that the numbers name
abbrev pub op_named : EventWords → Option Op
op_named e =
    if e.op == 0 then Some (op.Map e.file e.from e.len)
    else if e.op == 1 then Some (op.MapNoReserve e.file e.from e.len)
    else if e.op == 2 then Some (op.Unmap e.page)
    else if e.op == 3 then Some (op.Load e.page)
    else if e.op == 4 then Some (op.Store e.page e.word)
    else if e.op == 5 then Some (op.Alloc e.file e.from e.len false)
    else if e.op == 6 then Some (op.Alloc e.file e.from e.len true)
    else if e.op == 7 then Some (op.Punch e.file e.from e.len)
    else if e.op == 8 then Some (op.Truncate e.file e.len)
    else if e.op == 9 then Some op.Exit
    else None

-- the event that they name
abbrev pub event_named : EventWords → Option Event
event_named e =
    if e.kind == 0 then option_map (Begin e.task) (op_named e)
    else if e.kind == 1 then Some (Step e.task true)
    else if e.kind == 2 then Some (Step e.task false)
    else if e.kind == 3 then Some (Kill e.task)
    else if e.kind == 4 then Some (Resize e.len)
    else None

-- all of it 0, but for the kind and the task
abbrev pub no_event : (kind task : ℕ) → EventWords
no_event kind task = record { word = 0; kind = kind; task = task; op = 0; file = 0; from = 0; len = 0; page = 0 }

-- the number of an allocation, which may raise the file's size, or keeps it
abbrev pub alloc_number : (keep : Bool) → ℕ
alloc_number false = 5
alloc_number true = 6

-- the number of a step, whose growth is granted, or is denied
abbrev pub step_number : (grant : Bool) → ℕ
step_number true = 1
step_number false = 2

-- a call that a task begins
abbrev pub op_words : (task : ℕ) → Op → EventWords
op_words t (op.Map file from len) = record (no_event 0 t) { op = 0; file = file; from = from; len = len }
op_words t (op.MapNoReserve file from len) = record (no_event 0 t) { op = 1; file = file; from = from; len = len }
op_words t (op.Unmap base) = record (no_event 0 t) { op = 2; page = base }
op_words t (op.Load vpn) = record (no_event 0 t) { op = 3; page = vpn }
op_words t (op.Store vpn word) = record (no_event 0 t) { op = 4; page = vpn; word = word }
op_words t (op.Alloc file from len keep) = record (no_event 0 t) { op = alloc_number keep; file = file; from = from; len = len }
op_words t (op.Punch file from len) = record (no_event 0 t) { op = 7; file = file; from = from; len = len }
op_words t (op.Truncate file new) = record (no_event 0 t) { op = 8; file = file; len = new }
op_words t op.Exit = record (no_event 0 t) { op = 9 }

-- an event
abbrev pub event_words : Event → EventWords
event_words (Begin task op) = op_words task op
event_words (Step task grant) = no_event (step_number grant) task
event_words (Kill task) = no_event 3 task
event_words (Resize frames) = record (no_event 4 0) { len = frames }

-- all of it 0, but for the kind
abbrev pub no_outcome : (kind : ℕ) → OutcomeWords
no_outcome kind = record { word = 0; kind = kind; phase = 0; task = 0; answer = 0; page = 0; frames = 0; refusal = 0 }

-- why an event was refused, counted from 1
abbrev pub refusal_number : Refusal → ℕ
refusal_number refusal.NotAlive = 1
refusal_number refusal.InCall = 2
refusal_number refusal.Idle = 3
refusal_number refusal.BadSize = 4

-- how a task lives
abbrev pub life_number : Life → ℕ
life_number life.Alive = 0
life_number life.Killed = 1
life_number life.Dead = 2

-- an answer that names nothing else
abbrev pub answered : (answer : ℕ) → OutcomeWords
answered answer = record (no_outcome 3) { answer = answer }

-- an answer
abbrev pub answer_words : Answer → OutcomeWords
answer_words (answer.Mapped base) = record (answered 1) { page = base }
answer_words (answer.Word word) = record (answered 2) { word = word }
answer_words answer.Done = answered 3
answer_words answer.Segv = answered 4
answer_words answer.Beyond = answered 5
answer_words answer.NoFrame = answered 6
answer_words answer.NoQuota = answered 7
answer_words answer.NoMemory = answered 8
answer_words answer.Interrupted = answered 9
answer_words answer.Killed = answered 10
answer_words answer.BadFile = answered 11
answer_words answer.BadRange = answered 12
answer_words answer.NotMapped = answered 13
answer_words answer.NoAddress = answered 14

-- an outcome
abbrev pub outcome_words : Outcome → OutcomeWords
outcome_words outcome.Begun = no_outcome 0
outcome_words (outcome.Moved p) = record (no_outcome 1) { phase = phase_number p }
outcome_words (outcome.Blocked t) = record (no_outcome 2) { task = t }
outcome_words (outcome.Ended a) = answer_words a
outcome_words outcome.Marked = no_outcome 4
outcome_words (outcome.Resized n) = record (no_outcome 5) { frames = n }
outcome_words (outcome.Refused r) = record (no_outcome 6) { refusal = refusal_number r }

-- numbers of an outcome of which nothing came: a step that is blocked, or an event that is refused
abbrev pub IsHeldBack : OutcomeWords → Type 0
IsHeldBack o = (o.kind ≡ 2) ⊎ (o.kind ≡ 6)

-- the phase of that number
abbrev pub phase_numbered : ℕ → Option Phase
phase_numbered n = if nat_le 1 n && nat_le n 27 then Some (slice_index_or all_phases (n - 1) phase.Start) else None

-- the refusal of that number
abbrev pub refusal_numbered : ℕ → Option Refusal
refusal_numbered n =
    if n == 1 then Some refusal.NotAlive
    else if n == 2 then Some refusal.InCall
    else if n == 3 then Some refusal.Idle
    else if n == 4 then Some refusal.BadSize
    else None

-- the answer that the numbers name
abbrev pub answer_named : OutcomeWords → Option Answer
answer_named o =
    if o.answer == 1 then Some (answer.Mapped o.page)
    else if o.answer == 2 then Some (answer.Word o.word)
    else if o.answer == 3 then Some answer.Done
    else if o.answer == 4 then Some answer.Segv
    else if o.answer == 5 then Some answer.Beyond
    else if o.answer == 6 then Some answer.NoFrame
    else if o.answer == 7 then Some answer.NoQuota
    else if o.answer == 8 then Some answer.NoMemory
    else if o.answer == 9 then Some answer.Interrupted
    else if o.answer == 10 then Some answer.Killed
    else if o.answer == 11 then Some answer.BadFile
    else if o.answer == 12 then Some answer.BadRange
    else if o.answer == 13 then Some answer.NotMapped
    else if o.answer == 14 then Some answer.NoAddress
    else None

-- the outcome that they name
abbrev pub outcome_named : OutcomeWords → Option Outcome
outcome_named o =
    if o.kind == 0 then Some outcome.Begun
    else if o.kind == 1 then option_map outcome.Moved (phase_numbered o.phase)
    else if o.kind == 2 then Some (outcome.Blocked o.task)
    else if o.kind == 3 then option_map outcome.Ended (answer_named o)
    else if o.kind == 4 then Some outcome.Marked
    else if o.kind == 5 then Some (outcome.Resized o.frames)
    else if o.kind == 6 then option_map outcome.Refused (refusal_numbered o.refusal)
    else None
