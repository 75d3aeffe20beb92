-- Runs that were explored, and what the watches say of them.
use Rattle.std.proofs.Common.{ℕ, List}
use Rattle.std.specs.Prelude.{Bool, true, false, MatchBool}
use Rattle.hp_base.specs.declared.event.Event.{Event}
use Rattle.hp_explore.specs.Explored.{IsExplored}
use Rattle.hp_explore.specs.declared.line.RunLine.{RunLine}
use Rattle.hp_text.specs.declared.script.Script.{Script}
use Rattle.hp_hunt.specs.Conditions.{SomeRunMeets, SomeRunMisses}
use Rattle.hp_hunt.specs.Hunting.{RunMeets, RunMisses}
use Rattle.hp_hunt.specs.declared.condition.Condition.{Condition}

-- a run that was explored is judged by its own moments
pub run_judged : (script : Script) (seed deny kill run : ℕ) (conditions : List Condition) (events : List Event) (met : Bool)
    → (line : RunLine) × IsExplored script seed deny kill run events line
    → MatchBool met (SomeRunMeets script.config events conditions) (SomeRunMisses script.config events conditions)
    → MatchBool met (RunMeets script seed deny kill conditions run events) (RunMisses script seed deny kill conditions run)
run_judged script seed deny kill run conditions events true (line, explored) judged =
    record { line = line; explored = explored; meets = judged }
run_judged script seed deny kill run conditions events false (line, explored) judged =
    record { events = events; line = line; explored = explored; misses = judged }
