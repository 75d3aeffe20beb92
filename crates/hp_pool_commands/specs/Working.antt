-- What comes of `hugepool work`.
use Rattle.std.specs.Prelude.{◌≡◌, ◌≢◌, ◌⊎◌, ℕ, List, [], ◌∷◌, ◌++◌, Option, Some, None, IsSome, Result, Ok, Err, codes, string_bytes}
use Rattle.std.specs.Fmt.{decimal}
use Rattle.std.specs.Io.KnownBytes.{Appends, Keeps}
use Rattle.hp_base.specs.Text.{sizes}
use Rattle.hp_base.specs.declared.config.Config.{Config}
use Rattle.hp_client.specs.Carrying.{IsNewCore, RunOverCore, RunOverPool, StoppedOverCore, StoppedOverPool, core_rounds}
use Rattle.hp_client.specs.Heard.{DriverState}
use Rattle.hp_client.specs.Tables.{IsReport, name_of, sizes_of, table_of}
use Rattle.hp_client.specs.declared.fault.ClientFault.{ClientFault}
use Rattle.hp_client.specs.declared.fault.ClientFault.TheVariants.{Memory}
use Rattle.hp_client.specs.declared.table.Workload.{Workload}
use Rattle.hp_client.specs.declared.work.Report.{Report}
use Rattle.hp_format.specs.Drafts.{IsLed}
use Rattle.hp_shared.specs.States.{tally_of}
use Rattle.hp_text.specs.Traces.{trace_text}
use Rattle.hp_text.specs.Writing.{Wrote}
use Rattle.hp_text.specs.declared.trace.Trace.{Trace}
use Rattle.hp_text.specs.declared.fault.ReplayFault.TheVariants.{Write}
use Rattle.hp_pool_commands.specs.declared.carrying.Carrier.{Carrier}
use Rattle.hp_pool_commands.specs.declared.carrying.Carrier.TheVariants.{Core, Pool}
use Rattle.hp_pool_commands.specs.declared.working.WorkFault.{WorkFault}
use Rattle.hp_pool_commands.specs.declared.working.WorkFault.TheVariants.{NoWorkload, NoDriver, Client, Stream, Bad}
use Rattle.hp_pool_commands.specs.declared.working.WorkWords.{WorkWords}

-- 2 where the words name no workload or no driver, 1 after a fault and where the workload is bad
abbrev pub work_status : WorkFault → ℕ
work_status (NoWorkload name) = 2
work_status (NoDriver name) = 2
work_status (Client fault) = 1
work_status (Stream fault) = 1
work_status Bad = 1

-- the status with which the program ends
abbrev pub status_of_work : Result (Unit {0}) WorkFault → ℕ
status_of_work (Ok x) = 0
status_of_work (Err fault) = work_status fault

-- the word for what carries a workload's calls
abbrev pub carrier_name : Carrier → List ℕ
carrier_name Core = codes "core"
carrier_name Pool = codes "pool"

-- the words name this workload, and this carries its calls
abbrev pub IsAsked : WorkWords → Workload → Carrier → Type 0
IsAsked words workload carrier = (name_of workload ≡ string_bytes words.name) × (carrier_name carrier ≡ string_bytes words.driver)

-- no workload has the name; or one has it, and no driver has the other
abbrev pub IsUnknown : WorkWords → WorkFault → Type 0
IsUnknown words (NoWorkload name) = (name ≡ words.name) × ((workload : Workload) → name_of workload ≢ string_bytes words.name)
IsUnknown words (NoDriver name) =
    (name ≡ words.driver) × ((workload : Workload) × (name_of workload ≡ string_bytes words.name))
    × ((carrier : Carrier) → carrier_name carrier ≢ string_bytes words.driver)
IsUnknown words (Client fault) = ⊥
IsUnknown words (Stream fault) = ⊥
IsUnknown words Bad = ⊥

-- the workload's lines ran over a new driver of this kind, and this is what came of it
abbrev pub IsRun : Carrier → Workload → Report → Type 0
IsRun Core workload report = RunOverCore workload report
IsRun Pool workload report = RunOverPool workload report

-- memory was refused, or the workload's lines ran over a new driver of this kind up to one that stopped with this fault
abbrev pub IsStopped : Carrier → Workload → ClientFault → Type 0
IsStopped Core workload fault = (fault ≡ Memory) ⊎ StoppedOverCore workload fault
IsStopped Pool workload fault = (fault ≡ Memory) ⊎ StoppedOverPool workload fault

-- `ok calls N`, or `bad call K`
abbrev pub outcome : (calls : ℕ) → (bad : Option ℕ) → List ℕ
outcome calls None = codes " ok calls " ++ decimal calls
outcome calls (Some number) = codes " bad call " ++ decimal number

-- the line that tells what came of a workload: `NAME ok calls N`, or `NAME bad call K`
abbrev pub report_line : (name : List ℕ) → Report → List ℕ
report_line name report = name ++ (outcome report.calls report.bad ++ 10 ∷ [])

-- what the words ask for was run, and this line tells of it
pub record Reports (words : WorkWords) (report : Report) (line : List ℕ) : Type 0 where
  pub workload : Workload
  pub carrier : Carrier
  pub asked : IsAsked words workload carrier
  pub run : IsRun carrier workload report
  pub is : line ≡ report_line (name_of workload) report

-- there is nothing to be told: the words name nothing, or what they name was stopped by this fault
abbrev pub Unreported : WorkWords → WorkFault → Type 0
Unreported words (NoWorkload name) = IsUnknown words (NoWorkload name)
Unreported words (NoDriver name) = IsUnknown words (NoDriver name)
Unreported words (Client fault) =
    (workload : Workload) × (carrier : Carrier) × IsAsked words workload carrier × IsStopped carrier workload fault
Unreported words (Stream fault) = ⊥
Unreported words Bad = ⊥

-- The workload's lines ran over a new pool of its sizes, this is what came of it, and the trace's events are all that happened to the
-- pool, and led to the tally of the report
pub record IsTraced (workload : Workload) (report : Report) (trace : Trace) : Type 0 where
  pub old : DriverState
  pub new : DriverState
  pub is_new : IsNewCore workload old
  pub is : IsReport core_rounds (table_of workload).lines (table_of workload).tally old new report
  pub tally : report.tally ≡ tally_of new.core
  pub sizes_are : sizes trace.config ≡ sizes_of workload
  pub config : Config
  pub same : sizes config ≡ sizes trace.config
  pub led : IsLed config new.core trace.events.items

-- the words name a workload, it was run, and this is the text of such a trace
pub record TracesWork (words : WorkWords) (report : Report) (text : List ℕ) : Type 0 where
  pub workload : Workload
  pub named : name_of workload ≡ string_bytes words.name
  pub trace : Trace
  pub traced : IsTraced workload report trace
  pub is : text ≡ trace_text (sizes trace.config) trace.events.items

-- no workload has the name, or the one that has it was stopped
abbrev pub Untraced : WorkWords → WorkFault → Type 0
Untraced words (NoWorkload name) = IsUnknown words (NoWorkload name)
Untraced words (NoDriver name) = ⊥
Untraced words (Client fault) = (workload : Workload) × (name_of workload ≡ string_bytes words.name)
Untraced words (Stream fault) = ⊥
Untraced words Bad = ⊥

-- What is answered where a workload is run, of which a text is told: a good report or a bad one is told; a failed write leaves a front
-- of the text; else nothing is written. An output held `before`, and now holds `after`.
abbrev pub AnsweredReport : (Told : Report → List ℕ → Type 0) → (Untold : WorkFault → Type 0) → Result (Unit {0}) WorkFault
    → (before after : Option (List ℕ)) → Type 0
AnsweredReport Told Untold (Ok x) before after =
    (report : Report) × (report.bad ≡ None) × ((text : List ℕ) × Told report text × Appends before after text)
AnsweredReport Told Untold (Err Bad) before after =
    (report : Report) × IsSome report.bad × ((text : List ℕ) × Told report text × Appends before after text)
AnsweredReport Told Untold (Err (NoWorkload name)) before after = Untold (NoWorkload name) × Keeps before after
AnsweredReport Told Untold (Err (NoDriver name)) before after = Untold (NoDriver name) × Keeps before after
AnsweredReport Told Untold (Err (Client fault)) before after = Untold (Client fault) × Keeps before after
AnsweredReport Told Untold (Err (Stream fault)) before after =
    (fault ≡ Write) × ((report : Report) × (text : List ℕ) × Told report text × Wrote before after text)

-- what `work` answers, and what `work --trace` does
abbrev pub AnsweredWork : WorkWords → Result (Unit {0}) WorkFault → (before after : Option (List ℕ)) → Type 0
AnsweredWork words answer before after = AnsweredReport (Reports words) (Unreported words) answer before after

abbrev pub AnsweredTrace : WorkWords → Result (Unit {0}) WorkFault → (before after : Option (List ℕ)) → Type 0
AnsweredTrace words answer before after = AnsweredReport (TracesWork words) (Untraced words) answer before after
