-- A run as lines of JSON: an object for the pool, one for each event, and one for the state at the end.
use Rattle.std.specs.Prelude.{ℕ, zero, suc, ◌==◌, List, [], ◌∷◌, ◌++◌, Option, None, Some, codes, if◌then◌else◌}
use Rattle.std.specs.Fmt.{decimal}
use Rattle.hp_base.specs.Text.{Sizes}
use Rattle.hp_text.specs.Columns.{column_of}
use Rattle.hp_machine.specs.Text.{life_word}
use Rattle.hp_core.specs.Readers.{config_of, calls_of, size_of, reserved_of, regions_of, pages_of, changes_of, spare_of}
use Rattle.hp_core.specs.Readers.{life_of, mappings_of, entries_of}
use Rattle.hp_core.specs.State.{CoreState}
use Rattle.hp_watch.specs.Happenings.{Happening}
use Rattle.hp_explain.specs.Happenings.{Telling, texts_of}
use Rattle.hp_explain.specs.JsonCalls.{call_keys_in, call_keys_of, count_keys, waits_key, waits_objects}
use Rattle.hp_explain.specs.JsonEvents.{event_keys, outcome_keys}
use Rattle.hp_explain.specs.Views.{is_shown}
use Rattle.hp_explain.specs.declared.view.View.{View}

-- `,"quota":8`, where there is one
abbrev pub quota_key : Option ℕ → List ℕ
quota_key None = []
quota_key (Some pages) = codes ",\"quota\":" ++ decimal pages

-- `{"pool":{"frames":4,"files":1,"slots":4,"tasks":2}}`: the trace's header
abbrev pub pool_object : Sizes → List ℕ
pool_object s =
    codes "{\"pool\":{\"frames\":" ++ (decimal s.frames
    ++ (codes ",\"files\":" ++ (decimal s.files
    ++ (codes ",\"slots\":" ++ (decimal s.slots
    ++ (codes ",\"tasks\":" ++ (decimal s.tasks ++ (quota_key s.quota ++ codes "}}\n"))))))))

-- | the line's number | the event | what came of it | its task's call | the counts | the waits that changed |. Before the event tasks
-- waited for these holders
abbrev pub object_text : (line : ℕ) → (before : List (Option ℕ)) → Happening → List ℕ
object_text line before h =
    codes "{\"line\":" ++ (decimal line
    ++ (event_keys h.event
    ++ (outcome_keys h.core h.event h.from h.outcome
    ++ (call_keys_in h.core (column_of (config_of h.core).tasks h.event)
    ++ (count_keys h.core
    ++ (waits_key (waits_objects h.core before h.holders (config_of h.core).tasks) ++ codes "}\n"))))))

-- the same, if the event is shown
abbrev pub shown_object : View → Telling
shown_object v line before h = if is_shown v line h.event then object_text line before h else []

-- the objects of these lines, which begin with that one
abbrev pub objects_text : View → (line : ℕ) → (before : List (Option ℕ)) → List Happening → List ℕ
objects_text v line before list = texts_of (shown_object v) line before list

-- a comma before all but the first
abbrev pub comma_before : (n : ℕ) → List ℕ
comma_before n = if n == 0 then [] else codes ","

-- `"file":0,"size":4,"reserved":4,"regions":1`
unfoldable pub file_keys : CoreState → (file : ℕ) → List ℕ
file_keys core file =
    codes "\"file\":" ++ (decimal file
    ++ (codes ",\"size\":" ++ (decimal (size_of core file)
    ++ (codes ",\"reserved\":" ++ (decimal (reserved_of core file) ++ (codes ",\"regions\":" ++ decimal (regions_of core file)))))))

-- `,"pages":0,"changes":0,"spare":0`
unfoldable pub page_keys : CoreState → (file : ℕ) → List ℕ
page_keys core file =
    codes ",\"pages\":" ++ (decimal (pages_of core file)
    ++ (codes ",\"changes\":" ++ (decimal (changes_of core file) ++ (codes ",\"spare\":" ++ decimal (spare_of core file)))))

-- a file
unfoldable pub file_object : CoreState → (file : ℕ) → List ℕ
file_object core file = codes "{" ++ (file_keys core file ++ (page_keys core file ++ codes "}"))

-- `"task":1,"life":"alive","mappings":1,"entries":0`
unfoldable pub task_keys : CoreState → (task : ℕ) → List ℕ
task_keys core task =
    codes "\"task\":" ++ (decimal task
    ++ (codes ",\"life\":\"" ++ (life_word (life_of core task)
    ++ (codes "\",\"mappings\":" ++ (decimal (mappings_of core task) ++ (codes ",\"entries\":" ++ decimal (entries_of core task)))))))

-- a task, with the keys of its call where one is in flight
unfoldable pub task_object : CoreState → (task : ℕ) → List ℕ
task_object core task = codes "{" ++ (task_keys core task ++ (call_keys_of core task ++ codes "}"))

-- the first n files, and the first n tasks
unfoldable pub files_objects : CoreState → (n : ℕ) → List ℕ
files_objects core zero = []
files_objects core (suc n) = files_objects core n ++ (comma_before n ++ file_object core n)

unfoldable pub tasks_objects : CoreState → (n : ℕ) → List ℕ
tasks_objects core zero = []
tasks_objects core (suc n) = tasks_objects core n ++ (comma_before n ++ task_object core (suc n))

-- `"calls":3`
unfoldable pub calls_key : CoreState → List ℕ
calls_key core = codes "\"calls\":" ++ decimal (calls_of core)

-- `,"files":[..]`
unfoldable pub files_key : CoreState → List ℕ
files_key core = codes ",\"files\":[" ++ (files_objects core (config_of core).files ++ codes "]")

-- `,"tasks":[..]`
unfoldable pub tasks_key : CoreState → List ℕ
tasks_key core = codes ",\"tasks\":[" ++ (tasks_objects core (config_of core).tasks ++ codes "]")

-- the state: the calls in flight, the counts, each file and each task
unfoldable pub end_object : CoreState → List ℕ
end_object core = codes "{\"end\":{" ++ (calls_key core ++ (count_keys core ++ (files_key core ++ (tasks_key core ++ codes "}}\n"))))
