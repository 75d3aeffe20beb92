-- The facts of runs are gathered by whoever claims the runs.
use Rattle.std.specs.Prelude.{◌≡◌, ◌+◌, ◌<◌, ◌^◌, ℕ, List}
use Rattle.std.specs.List.{AllZip, range_with_len}
use Rattle.hp_explore.specs.Schedule.{plan_of}
use Rattle.hp_summary.specs.Facts.{IsFactsOf}
use Rattle.hp_summary.specs.Summaries.{IsSized, IsTallyOf}
use Rattle.hp_summary.specs.declared.facts.RunFacts.{RunFacts}
use Rattle.hp_summary.specs.declared.gathering.Batch.{Batch}
use Rattle.hp_summary.specs.declared.tally.Tally.{Tally}

-- the runs are numbered in 32 bits, and go by the script's plan
pub record AreRuns (b : Batch) : Type 0 where
  pub planned : b.plan.now ≡ plan_of b.script.now b.plan.now.deny b.plan.now.kill
  pub fits : b.first + b.count < 2 ^ 32

-- that run has these facts
unfoldable pub AreFactsAt : Batch → (run : ℕ) → RunFacts → Type 0
AreFactsAt b run facts = IsFactsOf b.script.now b.seed b.plan.now.deny b.plan.now.kill run facts

-- the runs below that number have been counted
pub record AreCounted (b : Batch) (runs : ℕ) (t : Tally) : Type 0 where
  pub facts : List RunFacts
  pub are : AllZip (AreFactsAt b) (range_with_len 0 runs) facts
  pub is : IsTallyOf facts t
  pub sized : IsSized t b.script.now.config.tasks
