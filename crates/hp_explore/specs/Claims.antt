-- Runs are explored each by itself, by whoever claims it.
use Rattle.std.specs.Prelude.{◌≡◌, ◌+◌, ◌<◌, ◌^◌, ℕ, List}
use Rattle.std.specs.List.{AllZip, range_with_len}
use Rattle.hp_explore.specs.declared.claims.RunRange.{RunRange}
use Rattle.hp_explore.specs.declared.line.RunLine.{RunLine}
use Rattle.hp_explore.specs.Schedule.{plan_of}
use Rattle.hp_explore.specs.Explored.{EndsWell, IsLine}

-- the runs are numbered in 32 bits, and go by the script's plan
pub record AreRuns (runs : RunRange) : Type 0 where
  pub planned : runs.plan.now ≡ plan_of runs.script.now runs.plan.now.deny runs.plan.now.kill
  pub fits : runs.first + runs.count < 2 ^ 32

-- that run has this line, and came to its end or to the limit of turns
unfoldable pub IsLineOf : RunRange → (run : ℕ) → RunLine → Type 0
IsLineOf runs run line =
    IsLine runs.script.now runs.seed runs.plan.now.deny runs.plan.now.kill run line × EndsWell line.finish

-- all runs have these lines, in order
abbrev pub AreLinesOf : RunRange → List RunLine → Type 0
AreLinesOf runs lines = AllZip (IsLineOf runs) (range_with_len runs.first runs.count) lines
