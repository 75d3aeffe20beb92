-- The status with which the program ends.
use Rattle.std.specs.Prelude.{◌≡◌, ℕ, ◌==◌, Bool, true, false, Result, Ok, Err, if◌then◌else◌}
use Rattle.hp_command.specs.declared.request.Request.{Request}
use Rattle.hp_command.specs.declared.request.Request.TheVariants as request
use Rattle.hp_command.specs.declared.request.ScriptRequest.{ScriptRequest}
use Rattle.hp_command.specs.declared.request.ScriptRequest.TheVariants as script
use Rattle.hugepool.specs.declared.stop.Stop.{Stop}
use Rattle.hugepool.specs.declared.stop.Stop.TheVariants.{Usage, Replay, Work, Missed, Loose, Untold, UntoldLoose, Picture}
use Rattle.hugepool.specs.declared.stop.Stop.TheVariants.{Cut, CutTable, Long, LongTable}
use Rattle.hp_pool_commands.specs.Working.{work_status}

-- 3 where a limit was reached before an answer; 2 where the words ask for nothing, and where an audit or a search couldn't tell; 1 after
-- another fault, where a run didn't come to its end, and where nothing meets the conditions
abbrev pub status_of : Stop → ℕ
status_of (Usage error) = 2
status_of (Replay fault) = 1
status_of (Work fault) = work_status fault
status_of (Missed what) = 1
status_of (Loose fault) = 1
status_of (Untold fault) = 2
status_of (UntoldLoose fault) = 2
status_of (Picture fault) = 2
status_of (Cut turns) = 3
status_of (CutTable turns) = 3
status_of Long = 3
status_of LongTable = 3

-- why a search that was cut at so many turns ends: no search goes on to a million, whatever its other limits are
abbrev pub cut_at : (turns : ℕ) → Stop
cut_at turns = if turns == 1000000 then Long else Cut turns

abbrev pub table_cut_at : (turns : ℕ) → Stop
table_cut_at turns = if turns == 1000000 then LongTable else CutTable turns

-- and 0 where what was asked is done
abbrev pub status_at : Result (Unit {0}) Stop → ℕ
status_at (Ok x) = 0
status_at (Err stop) = status_of stop

-- it searches for something: a fault must not be taken for an answer
abbrev pub searches_script : ScriptRequest → Bool
searches_script (script.Explore exploration) = false
searches_script (script.Summarize survey) = false
searches_script (script.Schedule scheduling) = false
searches_script (script.ScheduleEvery choice) = true
searches_script (script.Find search) = true
searches_script (script.ExploreEvery bounds) = true
searches_script (script.FindEvery search) = true
searches_script (script.Minimize conditions) = true
searches_script (script.Race r) = false

abbrev pub searches : Request → Bool
searches (request.Trace r) = false
searches (request.Script r) = searches_script r
searches (request.Pool r) = false
searches request.Audit = false

-- the status after a text in the loose form that can't be read
abbrev pub status_of_loose : (is_search : Bool) → ℕ
status_of_loose true = 2
status_of_loose false = 1

-- the status where the input can't be opened
abbrev pub status_unopened : Request → ℕ
status_unopened (request.Trace r) = 1
status_unopened (request.Script r) = status_of_loose (searches_script r)
status_unopened (request.Pool r) = 1
status_unopened request.Audit = 2

-- the status with which the program ends is that of an answer of which P holds
abbrev pub EndsWith : {A : Type 0} → (status_of : A → ℕ) → (status : ℕ) → (A → Type 0) → Type 0
EndsWith {A} status_of status P = (answer : A) × (status ≡ status_of answer) × P answer
