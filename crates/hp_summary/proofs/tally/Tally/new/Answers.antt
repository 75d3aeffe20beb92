-- Nothing is counted yet.
use Rattle.std.proofs.Common.{◌∙◌, ℕ, List, refl, ap}
use Rattle.std.specs.Prelude.{length}
use Rattle.std.proofs.lemmas.List.{length-replicate}
use Rattle.hp_summary.specs.Summaries.{IsFinished, IsSet, IsSomeHeld}
use Rattle.hp_summary.specs.declared.facts.RunFacts.{RunFacts}
use Rattle.hp_summary.proofs.Counted.{no_count, no_counts, no_endings}
use Rattle.hp_summary.proofs.tally.Tally.new.Goals as goal

pub returns-clause-sized : goal.returns-clause-sized
returns-clause-sized c =
    let held = c.in_ok-vec.ensures.items_if_clones_equal (λ y h. h) in
    let met = c.in_ok-vec-2.ensures.items_if_clones_equal (λ y h. h) in
    record {
      held = ap (λ (xs : List ℕ). length xs) held ∙ length-replicate {A = ℕ} c.args.tasks 0;
      met = ap (λ (xs : List ℕ). length xs) met ∙ length-replicate {A = ℕ} 729 0;
    }

pub returns-clause-none : goal.returns-clause-none
returns-clause-none c =
    let held = c.in_ok-vec.ensures.items_if_clones_equal (λ y h. h) in
    let met = c.in_ok-vec-2.ensures.items_if_clones_equal (λ y h. h) in
    record {
      turns = c.new.ensures.items;
      finished = no_count IsFinished;
      some_held = no_count IsSomeHeld;
      held = no_counts c.args.tasks _ held (λ k (f : RunFacts). IsSet k f.held.items);
      met = no_counts 729 _ met (λ k (f : RunFacts). IsSet k f.met.items);
      endings = rw c.new-2.ensures.items (no_endings 0 refl);
    }
