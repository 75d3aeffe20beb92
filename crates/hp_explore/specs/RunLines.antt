-- The text of explored runs, and what an exploration writes.
use Rattle.std.specs.Prelude.{◌≡◌, ◌≤◌, ℕ, Bool, true, false, List, [], ◌∷◌, ◌++◌, Option}
use Rattle.std.specs.List.{AllZip, flat_map, list_all, range_with_len}
use Rattle.std.specs.Io.KnownBytes.{Appends}
use Rattle.hp_explore.specs.Explored.{IsLine}
use Rattle.hp_explore.specs.Text.{run_text}
use Rattle.hp_explore.specs.declared.line.Finish.{Finish}
use Rattle.hp_explore.specs.declared.line.Finish.TheVariants.{Finished}
use Rattle.hp_explore.specs.declared.line.RunLine.{RunLine}
use Rattle.hp_text.specs.declared.script.Script.{Script}
use Rattle.hp_explore.specs.declared.exploration.Exploration.{Exploration}
use Rattle.hp_text.specs.Writing.{Wrote}

abbrev pub run_line : RunLine → List ℕ
run_line line = run_text line ++ 10 ∷ []

abbrev pub lines_text : List RunLine → List ℕ
lines_text lines = flat_map run_line lines

-- the run came to its end
abbrev pub is_finish : Finish → Bool
is_finish Finished = true
is_finish other = false

abbrev pub is_finished : RunLine → Bool
is_finished line = is_finish line.finish

-- these are the lines of the exploration's first runs
abbrev pub AreLinesOf : Script → Exploration → (runs : ℕ) → List RunLine → Type 0
AreLinesOf script e runs lines = AllZip (IsLine script e.seed e.chances.deny e.chances.kill) (range_with_len 0 runs) lines

-- a line was written for each run, and it is known whether all came to their ends
pub record WroteRuns (script : Script) (e : Exploration) (finished : Bool) (before after : Option (List ℕ)) : Type 0 where
  pub lines : List RunLine
  pub are : AreLinesOf script e e.runs lines
  pub wrote : Appends before after (lines_text lines)
  pub ends : finished ≡ list_all is_finished lines

-- a front of the lines of some runs was written
pub record WroteSomeRuns (script : Script) (e : Exploration) (before after : Option (List ℕ)) : Type 0 where
  pub runs : ℕ
  pub few : runs ≤ e.runs
  pub lines : List RunLine
  pub are : AreLinesOf script e runs lines
  pub wrote : Wrote before after (lines_text lines)
