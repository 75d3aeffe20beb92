-- Scripts of either form, line by line: calls alone behind the word `pool`, calls that may wait behind the word `script`.
use Rattle.std.specs.Prelude.{◌≡◌, ◌≢◌, ℕ, ◌+◌, ◌<◌, ◌≤◌, ◌⊎◌, ◌==◌, Bool, true, false, not, List, [], ◌∷◌, ◌++◌, length}
use Rattle.std.specs.Prelude.{Option, Some, None, codes, if◌then◌else◌}
use Rattle.std.specs.List.{flat_map, list_any}
use Rattle.std.specs.Option.{option_map}
use Rattle.std.specs.Io.KnownBytes.{Consumes, IsAtEnd}
use Rattle.hp_base.specs.Text.{Sizes, sizes_text, event_text, field, quota_field}
use Rattle.hp_base.specs.declared.event.Op.{Op}
use Rattle.hp_base.specs.declared.event.Event.{Event}
use Rattle.hp_base.specs.declared.event.Event.TheVariants.{Begin, Step, Kill, Resize}
use Rattle.hp_text.specs.declared.fault.ReplayFault.{ReplayFault}
use Rattle.hp_text.specs.declared.fault.ReplayFault.TheVariants.{BadLine, BadHeader, Read, Write, Memory}
use Rattle.hp_text.specs.declared.script.Wait.{Wait}
use Rattle.hp_text.specs.declared.script_lines.ScriptForm.{ScriptForm}
use Rattle.hp_text.specs.declared.script_lines.ScriptForm.TheVariants.{Plain, Waiting}
use Rattle.hp_text.specs.declared.script_lines.ScriptLine.{ScriptLine}
use Rattle.hp_text.specs.declared.script_lines.ScriptLine.TheVariants.{Call, After}
use Rattle.hp_text.specs.Fits.{IsShort, EventFits}
use Rattle.hp_text.specs.Reading.{◌>>=◌, behind, last_at, event_at, header_behind, option_or}
use Rattle.hp_text.specs.Traces.{AreWithinLimits}

-- ---- what the lines say

-- the calls, in the order of their lines
abbrev pub calls_in : List ScriptLine → List (ℕ × Op)
calls_in [] = []
calls_in (Call task op ∷ lines) = (task, op) ∷ calls_in lines
calls_in (After task ∷ lines) = calls_in lines

abbrev pub wait_of : (call task : ℕ) → Wait
wait_of call task = record { call = call; task = task }

-- which calls wait for which tasks; so many calls stand before these lines
abbrev pub waits_from : (calls : ℕ) → List ScriptLine → List Wait
waits_from calls [] = []
waits_from calls (Call task op ∷ lines) = waits_from (calls + 1) lines
waits_from calls (After task ∷ lines) = wait_of calls task ∷ waits_from calls lines

-- the tasks for which the next call waits, behind a line more
abbrev pub awaited_behind : (awaited : List ℕ) → ScriptLine → List ℕ
awaited_behind awaited (Call task op) = []
awaited_behind awaited (After task) = awaited ++ task ∷ []

-- and behind these lines
abbrev pub awaited_after : (awaited : List ℕ) → List ScriptLine → List ℕ
awaited_after awaited [] = awaited
awaited_after awaited (line ∷ lines) = awaited_after (awaited_behind awaited line) lines

-- the line of a call
abbrev pub call_line : ℕ × Op → ScriptLine
call_line call = Call call.0 call.1

-- ---- the text

abbrev pub head_text : ScriptForm → Sizes → List ℕ
head_text Plain s = sizes_text s
head_text Waiting s =
    codes "script" ++ field s.frames ++ field s.files ++ field s.slots ++ field s.tasks ++ quota_field s.quota

abbrev pub line_text : ScriptLine → List ℕ
line_text (Call task op) = event_text (Begin task op)
line_text (After task) = codes "after" ++ field task

-- the lines, each with its end
abbrev pub head_line : ScriptForm → Sizes → List ℕ
head_line form s = head_text form s ++ 10 ∷ []

abbrev pub script_line : ScriptLine → List ℕ
script_line line = line_text line ++ 10 ∷ []

-- the one text of a script of this form with these lines
abbrev pub script_text : ScriptForm → Sizes → List ScriptLine → List ℕ
script_text form s lines = head_line form s ++ flat_map script_line lines

-- ---- which lines are a script

-- the task is one of these
abbrev pub is_awaited : (awaited : List ℕ) → (task : ℕ) → Bool
is_awaited awaited task = list_any (λ other. other == task) awaited

-- the line may stand where the next call waits for these tasks: a call that doesn't wait for its own task, or a wait if
-- the form has them
abbrev pub MayStand : ScriptForm → (awaited : List ℕ) → ScriptLine → Type 0
MayStand Plain awaited (Call task op) = EventFits (Begin task op) × (is_awaited awaited task ≡ false)
MayStand Plain awaited (After task) = ⊥
MayStand Waiting awaited (Call task op) = EventFits (Begin task op) × (is_awaited awaited task ≡ false)
MayStand Waiting awaited (After task) = IsShort task

-- each of the lines may stand behind those before it
abbrev pub AreStanding : ScriptForm → (awaited : List ℕ) → List ScriptLine → Type 0
AreStanding form awaited [] = Unit {0}
AreStanding form awaited (line ∷ lines) = MayStand form awaited line × AreStanding form (awaited_behind awaited line) lines

-- the header and the lines that a script may begin with
pub record AreOfScript (form : ScriptForm) (s : Sizes) (lines : List ScriptLine) : Type 0 where
  pub within : AreWithinLimits s
  pub each : AreStanding form [] lines
  pub few : length lines ≤ 1000000

-- the bytes are the text of this script: no call is awaited behind its lines
pub record SpellsLines (bytes : List ℕ) (form : ScriptForm) (s : Sizes) (lines : List ScriptLine) : Type 0 where
  pub text : bytes ≡ script_text form s lines
  pub script : AreOfScript form s lines
  pub whole : awaited_after [] lines ≡ []

-- the bytes are the text of some script, of either form
pub record SpellsSomeLines (bytes : List ℕ) : Type 0 where
  pub form : ScriptForm
  pub sizes : Sizes
  pub lines : List ScriptLine
  pub spells : SpellsLines bytes form sizes lines

-- the reader's bytes were the text of a script of either form, which has these calls and waits
pub record ReadsScript (from to : Option (List ℕ)) (s : Sizes) (calls : List (ℕ × Op)) (waits : List Wait) : Type 0 where
  pub form : ScriptForm
  pub lines : List ScriptLine
  pub script : AreOfScript form s lines
  pub whole : awaited_after [] lines ≡ []
  pub calls_are : calls_in lines ≡ calls
  pub waits_are : waits_from 0 lines ≡ waits
  pub reads : Consumes from to (script_text form s lines)
  pub all : IsAtEnd to

-- ---- what is wrong with bytes that are none

-- no header of either form stands at the front of the bytes
abbrev pub BeginsNoHead : List ℕ → Type 0
BeginsNoHead bytes = (form : ScriptForm) (s : Sizes) (more : List ℕ) → AreWithinLimits s → bytes ≢ head_line form s ++ more

-- no line that may stand there stands at the front of the bytes
abbrev pub BeginsNoLine : ScriptForm → (awaited : List ℕ) → List ℕ → Type 0
BeginsNoLine form awaited bytes =
    (line : ScriptLine) (more : List ℕ) → MayStand form awaited line → bytes ≢ script_line line ++ more

-- behind these lines something is left or a call is awaited, and no more line of the script comes
abbrev pub IsBadBehind : ScriptForm → List ScriptLine → (rest : List ℕ) → Type 0
IsBadBehind form lines rest =
    (0 < length rest + length (awaited_after [] lines))
    × ((length lines ≡ 1000000) ⊎ BeginsNoLine form (awaited_after [] lines) rest)

-- line n is the first bad one: the lines before it are of a script
pub record HasBadScriptLine (n : ℕ) (bytes : List ℕ) : Type 0 where
  pub form : ScriptForm
  pub sizes : Sizes
  pub lines : List ScriptLine
  pub rest : List ℕ
  pub parts : bytes ≡ script_text form sizes lines ++ rest
  pub script : AreOfScript form sizes lines
  pub number : n ≡ length lines + 2
  pub bad : IsBadBehind form lines rest

-- this is what is wrong with the bytes; the last three are no faults of bytes
abbrev pub HasLinesFault : List ℕ → ReplayFault → Type 0
HasLinesFault bytes BadHeader = BeginsNoHead bytes
HasLinesFault bytes (BadLine n) = HasBadScriptLine n bytes
HasLinesFault bytes Read = Unit {0}
HasLinesFault bytes Write = Unit {0}
HasLinesFault bytes Memory = Unit {0}

-- ---- how a line is read

-- what a header says
pub record Head : Type 0 where
  pub form : ScriptForm
  pub sizes : Sizes

-- the header of either form
abbrev pub head_at : List ℕ → Option Head
head_at bytes =
    option_or (option_map (λ s. record { form = Plain; sizes = s }) (header_behind (codes "pool ") bytes))
    (option_map (λ s. record { form = Waiting; sizes = s }) (header_behind (codes "script ") bytes))

-- an event that begins a call
abbrev pub call_of : Event → Option ScriptLine
call_of (Begin task op) = Some (Call task op)
call_of (Step task granted) = None
call_of (Kill task) = None
call_of (Resize frames) = None

abbrev pub call_at : List ℕ → Option ScriptLine
call_at bytes = event_at bytes >>= call_of

-- a line behind the header, without its end
abbrev pub line_in : ScriptForm → List ℕ → Option ScriptLine
line_in Plain bytes = call_at bytes
line_in Waiting bytes = behind (codes "after ") bytes (λ rest. last_at rest >>= λ task. Some (After task)) (call_at bytes)

-- ---- a script while it is read

-- what was taken so far: the header, what its lines say, and what has come of the next line
pub record ScriptState : Type 0 where
  pub head : Option Head
  pub calls : List (ℕ × Op)
  pub waits : List Wait
  pub awaited : List ℕ
  pub rest : List ℕ

abbrev pub opening_script : ScriptState
opening_script = record { head = None; calls = []; waits = []; awaited = []; rest = [] }

-- how many lines stand behind the header
abbrev pub lines_of : ScriptState → ℕ
lines_of d = length d.calls + length d.waits

abbrev pub headed_fault : Option Head → (lines : ℕ) → ReplayFault
headed_fault None lines = BadHeader
headed_fault (Some head) lines = BadLine (lines + 2)

-- the fault of the line that comes next
abbrev pub next_fault : ScriptState → ReplayFault
next_fault d = headed_fault d.head (lines_of d)

-- the line may come there, whatever the form
abbrev pub may_come : (awaited : List ℕ) → ScriptLine → Bool
may_come awaited (Call task op) = not (is_awaited awaited task)
may_come awaited (After task) = true

-- the line that the rest spells
abbrev pub next_line : ScriptState → ScriptForm → Option ScriptLine
next_line d form =
    if lines_of d == 1000000 then None
    else (line_in form d.rest >>= λ line. if may_come d.awaited line then Some line else None)

-- with a line more
abbrev pub with_line : ScriptState → ScriptLine → ScriptState
with_line d (Call task op) = record d { calls = d.calls ++ (task, op) ∷ []; awaited = []; rest = [] }
with_line d (After task) =
    record d { waits = d.waits ++ wait_of (length d.calls) task ∷ []; awaited = d.awaited ++ task ∷ []; rest = [] }

abbrev pub with_head : ScriptState → Head → ScriptState
with_head d head = record d { head = Some head; rest = [] }

-- a line's end: the rest is the next line, or else it is bad
abbrev pub ended_line : Option Head → ScriptState → Option ScriptState
ended_line None d = option_map (with_head d) (head_at d.rest)
ended_line (Some head) d = option_map (with_line d) (next_line d head.form)
