-- A batch more is counted; all of them are what is summed up.
use Rattle.std.proofs.Common.{◌≡◌, ◌+◌, ◌≤◌, ◌∙◌, ℕ, refl, subst, arith}
use Rattle.hp_summary.specs.Summaries.{AreFactsOf}
use Rattle.hp_summary.proofs.Gathered.{batch_begins, batch_ends, surveyed_few}
use Rattle.hp_summary.proofs.summary.summarize.Goals as goal

pub count_batch-requires-clause-counted : goal.count_batch-requires-clause-counted
count_batch-requires-clause-counted g c = λ κs outlives.
    batch_begins c.args.script.now c.args.survey _ refl refl c.in_ok-plan.ensures c.loop-first.first c.loop-first.tally
    c.loop-first.invariant.counted

pub loop-first-preserved : goal.loop-first-preserved
loop-first-preserved g c =
    let within : c.loop-first.first + c.min-count.result ≤ c.args.survey.runs = omega (arith, c.min-count.ensures, c.loop-first-test.true) in
    record {
      some = c.next_part-part.ensures.some;
      within = within;
      counted = batch_ends c.args.script.now c.args.survey _ refl refl c.in_ok-plan.ensures (c.loop-first.first + c.min-count.result)
          c.count_batch.new.tally c.in_ok-count_batch.ensures;
    }

pub summary_of-requires : goal.summary_of-requires
summary_of-requires g c = record {
  few = omega (
    arith,
    surveyed_few c.args.script.now c.args.survey c.loop-first.first c.loop-first.tally c.loop-first.invariant.counted,
    c.loop-first.auto.first-fits,
  );
  pairs = c.loop-first.invariant.counted.sized.met;
}

pub returns-clause-summary : goal.returns-clause-summary
returns-clause-summary g c =
    let was = c.loop-first.invariant in
    let all : c.loop-first.first ≡ c.args.survey.runs = omega (arith, was.within, c.loop-first-test.false) in
    record {
      facts = was.counted.facts;
      are = subst (λ (n : ℕ). AreFactsOf c.args.script.now c.args.survey n was.counted.facts) all was.counted.are;
      is = c.in_ok-summary_of.ensures.summary was.counted.facts was.counted.is;
      tasks = c.in_ok-summary_of.ensures.tasks ∙ was.counted.sized.held;
    }
