-- What bytes of a script were taken, and what a piece more does.
use Rattle.std.specs.Prelude.{◌≡◌, ℕ, ◌+◌, ◌-◌, ◌*◌, ◌<◌, ◌⊎◌, List, [], ◌++◌, length, Option, Some, None}
use Rattle.hp_base.specs.Text.{Sizes}
use Rattle.hp_base.specs.declared.event.Op.{Op}
use Rattle.hp_text.specs.declared.fault.ReplayFault.{ReplayFault}
use Rattle.hp_text.specs.declared.fault.ReplayFault.TheVariants.{BadLine, BadHeader, Read, Write, Memory}
use Rattle.hp_text.specs.declared.script.Wait.{Wait}
use Rattle.hp_text.specs.declared.script_lines.ScriptForm.{ScriptForm}
use Rattle.hp_text.specs.declared.script_lines.ScriptLine.{ScriptLine}
use Rattle.hp_text.specs.ScriptLines.{ScriptState, Head, AreOfScript, HasLinesFault, script_text, calls_in, waits_from, awaited_after}
use Rattle.hp_text.specs.ScriptLines.{lines_of}
use Rattle.hp_text.specs.Traces.{HasNoEnd}

-- the bytes are the header and these lines, and what has come of the next line
pub record TookLines (bytes : List ℕ) (d : ScriptState) : Type 0 where
  pub head : Head
  pub lines : List ScriptLine
  pub headed : d.head ≡ Some head
  pub text : bytes ≡ script_text head.form head.sizes lines ++ d.rest
  pub script : AreOfScript head.form head.sizes lines
  pub calls : calls_in lines ≡ d.calls
  pub waits : waits_from 0 lines ≡ d.waits
  pub awaited : awaited_after [] lines ≡ d.awaited

-- the bytes are the front of a header
pub record TookNoLine (bytes : List ℕ) (d : ScriptState) : Type 0 where
  pub headless : d.head ≡ None
  pub text : bytes ≡ d.rest
  pub calls : d.calls ≡ []
  pub waits : d.waits ≡ []
  pub awaited : d.awaited ≡ []

-- this is what was taken of the bytes
abbrev pub Took : List ℕ → ScriptState → Type 0
Took bytes d = HasNoEnd d.rest × (TookNoLine bytes d ⊎ TookLines bytes d)

-- behind whatever was taken, these bytes lead to the second state
abbrev pub Takes : (old : ScriptState) → List ℕ → (new : ScriptState) → Type 0
Takes old piece new = (bytes : List ℕ) → Took bytes old → Took (bytes ++ piece) new

-- behind whatever was taken, these bytes have this fault, whatever follows
abbrev pub FaultsAt : ScriptState → List ℕ → ReplayFault → Type 0
FaultsAt old piece fault = (bytes later : List ℕ) → Took bytes old → HasLinesFault (bytes ++ (piece ++ later)) fault

-- how many bytes may come behind so many lines, and behind none
abbrev pub headed_room : Option Head → (lines : ℕ) → ℕ
headed_room None lines = 57000113
headed_room (Some head) lines = 57000056 - 57 * lines

-- how many bytes a script may have from there on
abbrev pub script_room : ScriptState → ℕ
script_room d = headed_room d.head (lines_of d) - length d.rest

-- the faults of reading a script of which nothing is kept
abbrev pub IsTakeFault : ReplayFault → Type 0
IsTakeFault BadHeader = Unit {0}
IsTakeFault (BadLine n) = Unit {0}
IsTakeFault Read = ⊥
IsTakeFault Write = ⊥
IsTakeFault Memory = Unit {0}

-- the bytes are over, and this state is no script
abbrev pub IsCut : ScriptState → Type 0
IsCut d = (d.head ≡ None) ⊎ (0 < length d.rest + length d.awaited)

-- the state is this script
pub record IsWholeAs (d : ScriptState) (s : Sizes) (calls : List (ℕ × Op)) (waits : List Wait) : Type 0 where
  pub form : ScriptForm
  pub head : d.head ≡ Some (record { form = form; sizes = s })
  pub rest : d.rest ≡ []
  pub awaited : d.awaited ≡ []
  pub calls_are : calls ≡ d.calls
  pub waits_are : waits ≡ d.waits
