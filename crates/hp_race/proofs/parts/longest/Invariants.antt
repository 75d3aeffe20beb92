use Rattle.std.proofs.Common.{◌≤◌, ℕ, length}
use Rattle.hp_text.specs.Scripts.{calls_of}
use Rattle.hp_race.proofs.parts.longest.Given as goal

abbrev pub invariant-loop-number : goal.invariant-loop-number
invariant-loop-number l = record {
  all : (task : ℕ) → 1 ≤ task → task ≤ l.number → length (calls_of l.script.calls.items task) ≤ l.longest;
  few : l.longest ≤ length l.script.calls.items;
}
