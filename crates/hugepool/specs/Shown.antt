-- How what is written of scripts and pools is shown: the words that are coloured, and whose lines are written as objects of JSON.
use Rattle.std.specs.Prelude.{Option, Some, None}
use Rattle.hugepool.specs.declared.shown.Shown.{Shown}
use Rattle.hp_command.specs.declared.request.ScriptRequest.{ScriptRequest}
use Rattle.hp_command.specs.declared.request.ScriptRequest.TheVariants as script
use Rattle.hp_command.specs.declared.request.PoolRequest.{PoolRequest}
use Rattle.hp_command.specs.declared.request.PoolRequest.TheVariants as pool
use Rattle.hp_command.specs.declared.request.Racing.{Racing}
use Rattle.hp_command.specs.declared.request.Racing.TheVariants as racing
use Rattle.hp_objects.specs.declared.places.Output.{Output}
use Rattle.hp_objects.specs.declared.places.Output.TheVariants as output
use Rattle.hp_paint.specs.declared.palette.Palette.{Palette}
use Rattle.hp_paint.specs.declared.palette.Palette.TheVariants.{Outcomes, Runs, Races, Work}

-- these words are coloured, and these lines are objects
abbrev pub shown_as : Option Palette → Option Output → Shown
shown_as palette output = record { palette = palette; output = output }

-- lines of races have words to be coloured, and the trace of one has none
abbrev pub shown_of_racing : Racing → Shown
shown_of_racing (racing.Times times cut chances) = shown_as (Some Races) (Some output.Race)
shown_of_racing (racing.Trace chances) = shown_as None (Some output.Race)

-- nor have other traces that are written of a script's runs
abbrev pub shown_of_script : ScriptRequest → Shown
shown_of_script (script.Explore exploration) = shown_as (Some Runs) (Some output.Explore)
shown_of_script (script.Summarize survey) = shown_as (Some Outcomes) (Some output.Explore)
shown_of_script (script.ExploreEvery bounds) = shown_as None (Some output.Explore)
shown_of_script (script.Schedule scheduling) = shown_as None (Some output.Schedule)
shown_of_script (script.ScheduleEvery choice) = shown_as None (Some output.Schedule)
shown_of_script (script.Find search) = shown_as None (Some output.Find)
shown_of_script (script.FindEvery search) = shown_as None (Some output.Find)
shown_of_script (script.Minimize conditions) = shown_as None (Some output.Minimize)
shown_of_script (script.Race r) = shown_of_racing r

-- nor has the trace of a workload
abbrev pub shown_of_pool : PoolRequest → Shown
shown_of_pool (pool.Step file is_typed) = shown_as (Some Outcomes) None
shown_of_pool (pool.Work name driver) = shown_as (Some Work) (Some output.Work)
shown_of_pool (pool.TraceWork name driver) = shown_as None (Some output.WorkTrace)
