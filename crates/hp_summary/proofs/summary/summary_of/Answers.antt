use Rattle.std.proofs.Common.{◌≡◌, ◌-◌, ℕ, List, length, ap, subst, arith}
use Rattle.std.specs.List.Sorted.{IsPermutation}
use Rattle.std.proofs.lemmas.List.{length-map}
use Rattle.hp_summary.specs.declared.facts.RunFacts.{RunFacts}
use Rattle.hp_summary.proofs.summary.summary_of.Goals as goal

pub returns-clause-summary : goal.returns-clause-summary
returns-clause-summary c = λ facts is.
    let tally = c.args.tally in
    let sorted = c.sort_unstable.new.self.items in
    let runs : c.len-runs.result ≡ length facts = omega (
      arith,
      c.len-runs.ensures,
      ap (λ (xs : List ℕ). length xs) is.turns,
      length-map facts (λ (f : RunFacts). f.line.turns),
      tally.turns.ok.0,
    ) in
    let last : c.saturating_sub-last.result ≡ length facts - 1 = omega (arith, c.saturating_sub-last.ensures, runs) in
    record {
      runs = runs;
      finished = is.finished;
      turns = record {
        sorted = sorted;
        same = subst (λ (xs : List ℕ). IsPermutation xs sorted) is.turns c.sort_unstable.ensures.permutation;
        rising = c.sort_unstable.ensures.sorted;
        first = rw c.as_slice.ensures.value at c.turns_at.ensures;
        middle = rw (c.as_slice-2.ensures.value, last) at c.turns_at-2.ensures;
        last = rw (c.as_slice-3.ensures.value, last) at c.turns_at-3.ensures;
      };
      some_held = is.some_held;
      held = is.held;
      pairs = c.requires.pairs;
      met = is.met;
      kept = tally.endings.items;
      endings = is.endings;
      shown = c.sort_endings.ensures.same;
      order = c.in_ok-sort_endings.ensures.order;
    }
