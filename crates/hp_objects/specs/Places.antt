-- Lines as objects of JSON: where words stand in a line, and how each is written.
use Rattle.std.specs.Prelude.{◌++◌, ◌∷◌, [], ◌&&◌, ◌==◌, ℕ, Bool, List, Option, Some, None, true, false, not, codes, bytes_eq, length}
use Rattle.std.specs.Prelude.{if◌then◌else◌}
use Rattle.std.specs.Char.{is_ascii_digit}
use Rattle.std.specs.List.{list_all}
use Rattle.hp_objects.specs.declared.places.Output.{Output}
use Rattle.hp_objects.specs.declared.places.Output.TheVariants.{Explore, Find, Schedule, Minimize, Race, Work, WorkTrace, Check, Audit}
use Rattle.hp_objects.specs.declared.places.Place.{Place}
use Rattle.hp_objects.specs.declared.places.Place.TheVariants.{Pair, RunLine, TableLine, HeldUpLine, MetLine, FactLine, PoolLine}
use Rattle.hp_objects.specs.declared.places.Place.TheVariants.{BeginLine, EventLine, ResizeLine, Workload, Finding, Key, Value}
use Rattle.hp_objects.specs.declared.places.Place.TheVariants.{RunNumber, Ending, Position, HeldUp, Met, With, Runs, Worked}
use Rattle.hp_objects.specs.declared.places.Place.TheVariants.{FirstCall, NextCall, Task, Call, Answer, Number, Frames, Files, Slots}
use Rattle.hp_objects.specs.declared.places.Place.TheVariants.{Tasks, Quota, BeginTask, Operation, Numbers, More, EventTask, NewFrames}
use Rattle.hp_objects.specs.declared.places.Place.TheVariants.{FindingLine, Wrong, MoreWrong}
use Rattle.hp_objects.specs.declared.places.Form.{Form}
use Rattle.hp_objects.specs.declared.places.Form.TheVariants.{Nothing, Inside, Quoted, Valued, Named, Numbered}
use Rattle.hp_objects.specs.declared.places.Next.{Next}
use Rattle.hp_objects.specs.declared.places.Next.TheVariants.{At, LineStart, FindingStart, KeyOrCalls, PositionOrKey, NumberOrCall}
use Rattle.hp_objects.specs.declared.places.Next.TheVariants.{LineOrWrong}

-- what stands before a word, how it is written, what the next word is, and what ends the object if the line ends before it
pub record Writing : Type 0 where
  pub front : List ℕ
  pub form : Form
  pub next : Next
  pub without : List ℕ

abbrev pub written_as : (front : List ℕ) → Form → Next → (without : List ℕ) → Writing
written_as front form next without = record { front = front; form = form; next = next; without = without }

-- how the word of each place is written
abbrev pub writing_of : Place → Writing
writing_of Pair = written_as (codes "{") Quoted (At Value) []
writing_of RunLine = written_as (codes "{") Quoted (At RunNumber) []
writing_of TableLine = written_as (codes "{\"count\"") Nothing (At Value) []
writing_of HeldUpLine = written_as (codes "{\"held_up\"") Nothing (At HeldUp) []
writing_of MetLine = written_as (codes "{") Quoted (At Met) []
writing_of FactLine = written_as (codes "{\"fact\":") Quoted KeyOrCalls []
writing_of PoolLine = written_as (codes "{") Quoted (At Frames) []
writing_of BeginLine = written_as (codes "{\"event\":") Quoted (At BeginTask) []
writing_of EventLine = written_as (codes "{\"event\":") Quoted (At EventTask) []
writing_of ResizeLine = written_as (codes "{\"event\":") Quoted (At NewFrames) []
writing_of Workload = written_as (codes "{\"workload\":") Quoted (At Worked) []
writing_of Finding = written_as (codes "{\"finding\":") Named LineOrWrong []
writing_of Key = written_as (codes ",") Quoted (At Value) (codes "}")
writing_of Value = written_as (codes ":") Valued KeyOrCalls (codes ":true}")
writing_of RunNumber = written_as (codes ":") Valued (At Ending) (codes ":true}")
writing_of Ending = written_as (codes ",\"ending\":") Quoted PositionOrKey (codes "}")
writing_of Position = written_as (codes ",\"position\":") Valued KeyOrCalls (codes "}")
writing_of HeldUp = written_as (codes ":") Valued (At Runs) (codes ":true}")
writing_of Met = written_as (codes ":") Quoted (At With) (codes ":true}")
writing_of With = written_as (codes ",\"with\":") Quoted (At Runs) (codes "}")
writing_of Runs = written_as (codes ",\"runs\":") Valued KeyOrCalls (codes "}")
writing_of Worked = written_as (codes ",\"ending\":") Quoted KeyOrCalls (codes "}")
writing_of FirstCall = written_as (codes ",\"calls\":[{\"task\":") Nothing (At Task) (codes "}")
writing_of NextCall = written_as (codes "},{\"task\":") Nothing (At Task) (codes "}]}")
writing_of Task = written_as [] Valued (At Call) (codes "null}]}")
writing_of Call = written_as (codes ",\"call\":") Quoted (At Answer) (codes "}]}")
writing_of Answer = written_as (codes ",\"answer\":") Quoted NumberOrCall (codes "}]}")
writing_of Number = written_as (codes ",\"number\":") Valued NumberOrCall (codes "}]}")
writing_of Frames = written_as (codes ":{\"frames\":") Valued (At Files) (codes ":true}")
writing_of Files = written_as (codes ",\"files\":") Valued (At Slots) (codes "}}")
writing_of Slots = written_as (codes ",\"slots\":") Valued (At Tasks) (codes "}}")
writing_of Tasks = written_as (codes ",\"tasks\":") Valued (At Quota) (codes "}}")
writing_of Quota = written_as (codes ",\"quota\":") Valued (At Quota) (codes "}}")
writing_of BeginTask = written_as (codes ",\"task\":") Valued (At Operation) (codes "}")
writing_of Operation = written_as (codes ",\"op\":") Quoted (At Numbers) (codes "}")
writing_of Numbers = written_as (codes ",\"numbers\":[") Valued (At More) (codes "}")
writing_of More = written_as (codes ",") Valued (At More) (codes "]}")
writing_of EventTask = written_as (codes ",\"task\":") Valued KeyOrCalls (codes "}")
writing_of NewFrames = written_as (codes ",\"frames\":") Valued KeyOrCalls (codes "}")
writing_of FindingLine = written_as (codes ",\"number\":") Numbered (At Wrong) (codes "}")
writing_of Wrong = written_as (codes ",\"wrong\":\"") Inside (At MoreWrong) (codes "}")
writing_of MoreWrong = written_as (codes " ") Inside (At MoreWrong) (codes "\"}")

-- the name of the command
abbrev pub command : Output → List ℕ
command Explore = codes "explore"
command Find = codes "find"
command Schedule = codes "schedule"
command Minimize = codes "minimize"
command Race = codes "race"
command Work = codes "work"
command WorkTrace = codes "work"
command Check = codes "check"
command Audit = codes "audit"

-- what the first word of a line is
abbrev pub opening : Output → Next
opening Explore = LineStart
opening Find = LineStart
opening Schedule = LineStart
opening Minimize = LineStart
opening Race = LineStart
opening Work = At Workload
opening WorkTrace = LineStart
opening Check = LineStart
opening Audit = FindingStart

-- what a line is about, by its first word
abbrev pub first_place : List ℕ → Place
first_place word =
    if bytes_eq word (codes "run") then RunLine
    else (if bytes_eq word (codes "ending") then TableLine
    else (if bytes_eq word (codes "held-up") then HeldUpLine
    else (if bytes_eq word (codes "met") then MetLine
    else (if bytes_eq word (codes "turns") then FactLine
    else (if bytes_eq word (codes "pool") then PoolLine
    else (if bytes_eq word (codes "begin") then BeginLine
    else (if bytes_eq word (codes "step") then EventLine
    else (if bytes_eq word (codes "deny") then EventLine
    else (if bytes_eq word (codes "kill") then EventLine
    else (if bytes_eq word (codes "resize") then ResizeLine
    else Pair))))))))))

-- it has digits alone, and one at least
abbrev pub is_number : List ℕ → Bool
is_number word = not (length word == 0) && list_all is_ascii_digit word

abbrev pub begins_with_digit : List ℕ → Bool
begins_with_digit [] = false
begins_with_digit (b ∷ bs) = is_ascii_digit b

-- what a word is
abbrev pub place_at : Next → List ℕ → Place
place_at (At place) word = place
place_at LineStart word = first_place word
place_at FindingStart word = if bytes_eq word (codes "findings") then Pair else Finding
place_at KeyOrCalls word = if bytes_eq word (codes "|") then FirstCall else Key
place_at PositionOrKey word = if is_number word then Position else Key
place_at NumberOrCall word = if bytes_eq word (codes "|") then NextCall else Number
place_at LineOrWrong word = if begins_with_digit word then FindingLine else Wrong

-- what ends the object of a line that ends here
abbrev pub closing : Next → List ℕ
closing (At place) = (writing_of place).without
closing LineStart = []
closing FindingStart = []
closing KeyOrCalls = codes "}"
closing PositionOrKey = codes "}"
closing NumberOrCall = codes "}]}"
closing LineOrWrong = codes "}"
