-- What the program does at each request, and the status with which it ends.
use Rattle.std.specs.Prelude.{◌≡◌, ◌≢◌, ℕ, Bool, true, false, List, Option, Some, None, ◌⊎◌, Result, Ok, Err, IfOk, IfErr}
use Rattle.std.specs.Io.KnownBytes.{Keeps}
use Rattle.clap.specs.Values.{kind_of}
use Rattle.clap.specs.declared.error.Error.{Error}
use Rattle.clap.specs.declared.error.kind.ErrorKind.TheVariants.{OutOfMemory, DisplayHelp, DisplayVersion}
use Rattle.hp_command.specs.declared.request.Asked.{Asked}
use Rattle.hp_command.specs.declared.request.Request.{Request}
use Rattle.hp_command.specs.declared.request.Request.TheVariants.{Trace, Script, Pool, Audit}
use Rattle.hp_command.specs.declared.request.ScriptRequest.{ScriptRequest}
use Rattle.hp_command.specs.declared.request.ScriptRequest.TheVariants as script
use Rattle.hp_command.specs.declared.request.PoolRequest.{PoolRequest}
use Rattle.hp_command.specs.declared.request.PoolRequest.TheVariants as pool
use Rattle.hp_picture_commands.specs.Auditing.{AnsweredAudit, status_of_audit}
use Rattle.hp_pool_commands.specs.Stepping.{AnsweredStep}
use Rattle.hp_pool_commands.specs.Working.{AnsweredTrace, AnsweredWork, status_of_work}
use Rattle.hp_program.specs.Answers.{IfThere, status_of_runs, status_of_text}
use Rattle.hp_script_commands.specs.Choosing.{AnsweredChoice}
use Rattle.hp_script_commands.specs.Hunting.{AnsweredFind, AnsweredMinimize, status_of_hunt}
use Rattle.hp_script_commands.specs.Runs.{AnsweredExplore, AnsweredRace, AnsweredSchedule, AnsweredSummary}
use Rattle.hp_script_commands.specs.Searching.{AnsweredEvery, status_of_every}
use Rattle.hp_script_commands.specs.Tabling.{AnsweredTable}
use Rattle.hp_text.specs.declared.fault.ReplayFault.{ReplayFault}
use Rattle.hp_text.specs.declared.fault.ReplayFault.TheVariants.{Write}
use Rattle.hp_format.specs.Loose.{loose_at}
use Rattle.hp_format.specs.declared.fault.LooseFault.{LooseFault}
use Rattle.hp_trace_commands.specs.Strict.{IsUnread, ReadsStrict}
use Rattle.hugepool.specs.Status.{EndsWith, searches, status_of_loose}
use Rattle.hugepool.specs.Shown.{shown_as, shown_of_pool, shown_of_script}
use Rattle.hugepool.specs.Traces.{EndsTrace, shown_of_trace}
use Rattle.hugepool.specs.declared.shown.Shown.{Shown}
use Rattle.hp_objects.specs.declared.places.Output.TheVariants as output

-- A reader had the bytes `from` left, and now has `to`; whether it had failed, and whether it has now; an output held `before`, and now
-- holds `after`.

-- how it ends at each request for something to be done with a script, or with a trace that a run of one left
unfoldable pub EndsScript : ScriptRequest → (status : ℕ) → (from to : Option (List ℕ)) → (old new : ℕ)
    → (before : Option (List ℕ)) → (after : Option (Option (List ℕ))) → Type 0
EndsScript (script.Explore e) status from to old new before after =
    EndsWith status_of_runs status (λ answer. AnsweredExplore e answer from to old new before after)
EndsScript (script.Summarize v) status from to old new before after =
    EndsWith status_of_runs status (λ answer. AnsweredSummary v answer from to old new before after)
EndsScript (script.Schedule s) status from to old new before after =
    EndsWith status_of_text status (λ answer. AnsweredSchedule s answer from to old new before after)
EndsScript (script.ScheduleEvery c) status from to old new before after =
    (cut : Option ℕ) × EndsWith (status_of_every cut) status (λ answer. AnsweredChoice c cut answer from to old new before after)
EndsScript (script.Find s) status from to old new before after =
    EndsWith status_of_hunt status (λ answer. AnsweredFind s answer from to old new before after)
EndsScript (script.ExploreEvery b) status from to old new before after =
    (cut : Option ℕ) × EndsWith (status_of_every cut) status (λ answer. AnsweredTable b cut answer from to old new before after)
EndsScript (script.FindEvery s) status from to old new before after =
    (cut : Option ℕ) × EndsWith (status_of_every cut) status (λ answer. AnsweredEvery s cut answer from to old new before after)
EndsScript (script.Minimize conditions) status from to old new before after =
    EndsWith status_of_hunt status (λ answer. AnsweredMinimize conditions.items answer from to old new before after)
EndsScript (script.Race r) status from to old new before after =
    EndsWith status_of_runs status (λ answer. AnsweredRace r answer from to old new before after)

-- with a pool that runs
unfoldable pub EndsPool : PoolRequest → (status : ℕ) → (from to : Option (List ℕ)) → (old new : ℕ)
    → (before : Option (List ℕ)) → (after : Option (Option (List ℕ))) → Type 0
EndsPool (pool.Step file is_typed) status from to old new before after =
    EndsWith status_of_text status (λ answer. AnsweredStep answer old new after)
EndsPool (pool.Work name driver) status from to old new before after =
    EndsWith status_of_work status (λ answer. (new ≡ old) × Keeps from to
    × IfThere after (AnsweredWork (record { name = name; driver = driver }) answer before))
EndsPool (pool.TraceWork name driver) status from to old new before after =
    EndsWith status_of_work status (λ answer. (new ≡ old) × Keeps from to
    × IfThere after (AnsweredTrace (record { name = name; driver = driver }) answer before))

-- how it ends at each request
unfoldable pub Ends : Request → (status : ℕ) → (from to : Option (List ℕ)) → (old new : ℕ) → (before : Option (List ℕ))
    → (after : Option (Option (List ℕ))) → Type 0
Ends (Trace r) status from to old new before after = EndsTrace r status from to old new before after
Ends (Script r) status from to old new before after = EndsScript r status from to old new before after
Ends (Pool r) status from to old new before after = EndsPool r status from to old new before after
Ends Audit status from to old new before after =
    EndsWith status_of_audit status (λ answer. AnsweredAudit answer from to old new before after)

-- how it ends where the input is in the loose form: as the request does with the strict text that it asks for; or it can't be read, for
-- such a reason, and nothing is written
abbrev pub EndsWithStrict : Request → (status : ℕ) → (from to : Option (List ℕ)) → (old new : ℕ) → (before : Option (List ℕ))
    → (after : Option (Option (List ℕ))) → Type 0
EndsWithStrict r status from to old new before after =
    (strict : List ℕ) × ReadsStrict from to strict × (new ≡ old)
    × ((left : Option (List ℕ)) × (was failed : ℕ) × Ends r status (Some strict) left was failed before after)

abbrev pub EndsUnread : Request → (status : ℕ) → (from to : Option (List ℕ)) → (old new : ℕ) → (before : Option (List ℕ))
    → (after : Option (Option (List ℕ))) → Type 0
EndsUnread r status from to old new before after =
    (fault : LooseFault) × IsUnread from to fault × (new ≡ loose_at fault old) × (status ≡ status_of_loose (searches r))
    × IfThere after (λ held. Keeps before held)

abbrev pub EndsLoosely : Request → (status : ℕ) → (from to : Option (List ℕ)) → (old new : ℕ) → (before : Option (List ℕ))
    → (after : Option (Option (List ℕ))) → Type 0
EndsLoosely r status from to old new before after =
    EndsWithStrict r status from to old new before after ⊎ EndsUnread r status from to old new before after

-- the words ask for help
abbrev pub IsHelp : Error → Type 0
IsHelp error = (kind_of error ≡ DisplayHelp) ⊎ (kind_of error ≡ DisplayVersion)

-- what is answered where they ask for help: that it was written, or that it wasn't
abbrev pub AnsweredHelp : Result (Unit {0}) ReplayFault → Type 0
AnsweredHelp (Ok x) = Unit {0}
AnsweredHelp (Err fault) = fault ≡ Write

-- and where they ask for nothing, or there was no memory to read them: that, and nothing is written
pub record Refused (error : Error) (status : ℕ) (before : Option (List ℕ)) (after : Option (Option (List ℕ))) : Type 0 where
  pub memory : kind_of error ≡ OutOfMemory → status ≡ 1
  pub usage : kind_of error ≢ OutOfMemory → status ≡ 2
  pub kept : IfThere after (λ held. Keeps before held)

-- how it ends where the words were not read as a request: nothing is read
pub record EndsUnasked (error : Error) (status : ℕ) (from to : Option (List ℕ)) (old new : ℕ) (before : Option (List ℕ))
    (after : Option (Option (List ℕ))) : Type 0 where
  pub unfailed : new ≡ old
  pub unread : Keeps from to
  pub help : IsHelp error → EndsWith status_of_text status AnsweredHelp
  pub refused : ¬ IsHelp error → Refused error status before after

-- how it ends at a request, as its input is read
abbrev pub EndsRead : (is_loose : Bool) → Request → (status : ℕ) → (from to : Option (List ℕ)) → (old new : ℕ)
    → (before : Option (List ℕ)) → (after : Option (Option (List ℕ))) → Type 0
EndsRead true r status from to old new before after = EndsLoosely r status from to old new before after
EndsRead false r status from to old new before after = Ends r status from to old new before after

-- how it ends, as the words were read
abbrev pub EndsAsAsked : Result Asked Error → (status : ℕ) → (from to : Option (List ℕ)) → (old new : ℕ)
    → (before : Option (List ℕ)) → (after : Option (Option (List ℕ))) → Type 0
EndsAsAsked asked status from to old new before after =
    IfOk asked (λ it. EndsRead it.is_loose it.request status from to old new before after)
    × IfErr asked (λ error. EndsUnasked error status from to old new before after)

-- how what is written at each request is shown
abbrev pub shown_at : Request → Shown
shown_at (Trace r) = shown_of_trace r
shown_at (Script r) = shown_of_script r
shown_at (Pool r) = shown_of_pool r
shown_at Audit = shown_as None (Some output.Audit)
