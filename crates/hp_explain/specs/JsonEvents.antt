-- The keys of an event and of its outcome, in an object of JSON. Each begins with a comma, since the line's number stands before it.
use Rattle.std.specs.Prelude.{ℕ, ◌==◌, Bool, true, false, List, [], ◌∷◌, ◌++◌, Option, None, Some, codes, if◌then◌else◌}
use Rattle.std.specs.Fmt.{decimal}
use Rattle.hp_base.specs.Text.{answer_text, alloc_word, step_word}
use Rattle.hp_base.specs.declared.answer.Answer.{Answer}
use Rattle.hp_base.specs.declared.answer.Answer.TheVariants as answer
use Rattle.hp_base.specs.declared.event.Event.{Event}
use Rattle.hp_base.specs.declared.event.Event.TheVariants.{Begin, Step, Kill, Resize}
use Rattle.hp_base.specs.declared.event.Op.{Op}
use Rattle.hp_base.specs.declared.event.Op.TheVariants.{Map, MapNoReserve, Unmap, Load, Store, Alloc, Punch, Truncate, Exit}
use Rattle.hp_text.specs.Columns.{column_of}
use Rattle.hp_machine.specs.Text.{phase_word, refusal_word}
use Rattle.hp_machine.specs.declared.outcome.Outcome.{Outcome}
use Rattle.hp_machine.specs.declared.outcome.Outcome.TheVariants as outcome
use Rattle.hp_machine.specs.declared.outcome.Refusal.{Refusal}
use Rattle.hp_machine.specs.declared.phase.Phase.{Phase}
use Rattle.hp_watch.specs.Linux.{linux_of_step}
use Rattle.hp_core.specs.Acquiring.{acquired_of}
use Rattle.hp_core.specs.Holding.{holding_of}
use Rattle.hp_core.specs.Readers.{config_of}
use Rattle.hp_core.specs.State.{CoreState}
use Rattle.hp_core.specs.declared.acquiring.Acquired.{Acquired}
use Rattle.hp_core.specs.declared.acquiring.Acquired.TheVariants as wanted

-- the operation's word in a trace
abbrev pub op_word : Op → List ℕ
op_word (Map file from len) = codes "map"
op_word (MapNoReserve file from len) = codes "mapn"
op_word (Unmap base) = codes "unmap"
op_word (Load vpn) = codes "load"
op_word (Store vpn word) = codes "store"
op_word (Alloc file from len keep) = alloc_word keep
op_word (Punch file from len) = codes "punch"
op_word (Truncate file new) = codes "trunc"
op_word Exit = codes "exit"

-- the numbers behind it there
abbrev pub op_numbers : Op → List ℕ
op_numbers (Map file from len) = file ∷ from ∷ len ∷ []
op_numbers (MapNoReserve file from len) = file ∷ from ∷ len ∷ []
op_numbers (Unmap base) = base ∷ []
op_numbers (Load vpn) = vpn ∷ []
op_numbers (Store vpn word) = vpn ∷ word ∷ []
op_numbers (Alloc file from len keep) = file ∷ from ∷ len ∷ []
op_numbers (Punch file from len) = file ∷ from ∷ len ∷ []
op_numbers (Truncate file new) = file ∷ new ∷ []
op_numbers Exit = []

-- numbers, with a comma between two
abbrev pub numbers_text : List ℕ → List ℕ
numbers_text [] = []
numbers_text (n ∷ []) = decimal n
numbers_text (n ∷ m ∷ more) = decimal n ++ (codes "," ++ numbers_text (m ∷ more))

-- `,"op":"map","numbers":[0,0,4]`
unfoldable pub op_keys : Op → List ℕ
op_keys op = codes ",\"op\":\"" ++ (op_word op ++ (codes "\",\"numbers\":[" ++ (numbers_text (op_numbers op) ++ codes "]")))

-- `,"task":1`
unfoldable pub task_key : (task : ℕ) → List ℕ
task_key task = codes ",\"task\":" ++ decimal task

-- `,"event":"begin"`
unfoldable pub event_key : (word : List ℕ) → List ℕ
event_key word = codes ",\"event\":\"" ++ (word ++ codes "\"")

-- `,"frames":6`
unfoldable pub frames_key : (frames : ℕ) → List ℕ
frames_key frames = codes ",\"frames\":" ++ decimal frames

-- the task, the event's word in a trace, and what stands behind it there
abbrev pub event_keys : Event → List ℕ
event_keys (Begin task op) = task_key task ++ (event_key (codes "begin") ++ op_keys op)
event_keys (Step task granted) = task_key task ++ event_key (step_word granted)
event_keys (Kill task) = task_key task ++ event_key (codes "kill")
event_keys (Resize frames) = event_key (codes "resize") ++ frames_key frames

-- `,"phase":"settle"`: where the call stands now
unfoldable pub phase_key : Phase → List ℕ
phase_key phase = codes ",\"phase\":\"" ++ (phase_word phase ++ codes "\"")

-- `,"linux":"region_add"`: what the step did in Linux. It was made from that phase, and led to that core
unfoldable pub linux_key : CoreState → (column : ℕ) → (from : Option Phase) → List ℕ
linux_key core column None = []
linux_key core column (Some from) = codes ",\"linux\":\"" ++ (linux_of_step core column from ++ codes "\"")

-- `,"file":0,"index":3`
abbrev pub place_keys : (file index : ℕ) → List ℕ
place_keys file index = codes ",\"file\":" ++ (decimal file ++ (codes ",\"index\":" ++ decimal index))

-- the same where a call holds the slot of that index, or else wants it
abbrev pub place_of : (held : Option (ℕ × ℕ)) → Acquired → List ℕ
place_of (Some at) wants = place_keys at.0 at.1
place_of None wanted.Nothing = []
place_of None (wanted.Lock file) = []
place_of None (wanted.Slot file index) = place_keys file index

-- the place at which the call of the task in that column works
unfoldable pub place_in : CoreState → (column : ℕ) → List ℕ
place_in core column = if column == 0 then [] else place_of (holding_of core column).slot (acquired_of core column)

-- `,"answer":"done"`
abbrev pub answer_key : Answer → List ℕ
answer_key answer = codes ",\"answer\":\"" ++ (answer_text answer ++ codes "\"")

-- the answer's word, and its number where it has one
unfoldable pub answer_keys : Answer → List ℕ
answer_keys (answer.Mapped base) = codes ",\"answer\":\"mapped\",\"number\":" ++ decimal base
answer_keys (answer.Word word) = codes ",\"answer\":\"word\",\"number\":" ++ decimal word
answer_keys answer.Done = answer_key answer.Done
answer_keys answer.Segv = answer_key answer.Segv
answer_keys answer.Beyond = answer_key answer.Beyond
answer_keys answer.NoFrame = answer_key answer.NoFrame
answer_keys answer.NoQuota = answer_key answer.NoQuota
answer_keys answer.NoMemory = answer_key answer.NoMemory
answer_keys answer.Interrupted = answer_key answer.Interrupted
answer_keys answer.Killed = answer_key answer.Killed
answer_keys answer.BadFile = answer_key answer.BadFile
answer_keys answer.BadRange = answer_key answer.BadRange
answer_keys answer.NotMapped = answer_key answer.NotMapped
answer_keys answer.NoAddress = answer_key answer.NoAddress

-- `,"outcome":"moved"`
unfoldable pub outcome_key : (word : List ℕ) → List ℕ
outcome_key word = codes ",\"outcome\":\"" ++ (word ++ codes "\"")

-- `,"by":1`
unfoldable pub by_key : (holder : ℕ) → List ℕ
by_key holder = codes ",\"by\":" ++ decimal holder

-- `,"number":6`
unfoldable pub number_key : ℕ → List ℕ
number_key n = codes ",\"number\":" ++ decimal n

-- `,"reason":"idle"`
unfoldable pub reason_key : Refusal → List ℕ
reason_key refusal = codes ",\"reason\":\"" ++ (refusal_word refusal ++ codes "\"")

-- what came of an event: the outcome's word, and what stands behind it in words
abbrev pub outcome_keys : CoreState → Event → (from : Option Phase) → Outcome → List ℕ
outcome_keys core event from outcome.Begun = outcome_key (codes "begun")
outcome_keys core event from (outcome.Moved phase) =
    outcome_key (codes "moved")
    ++ (phase_key phase
    ++ (linux_key core (column_of (config_of core).tasks event) from ++ place_in core (column_of (config_of core).tasks event)))
outcome_keys core event from (outcome.Blocked holder) = outcome_key (codes "blocked") ++ by_key holder
outcome_keys core event from (outcome.Ended answer) = outcome_key (codes "ended") ++ answer_keys answer
outcome_keys core event from outcome.Marked = outcome_key (codes "marked")
outcome_keys core event from (outcome.Resized frames) = outcome_key (codes "resized") ++ number_key frames
outcome_keys core event from (outcome.Refused refusal) = outcome_key (codes "refused") ++ reason_key refusal
