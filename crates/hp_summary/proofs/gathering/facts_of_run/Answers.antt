-- Each turn is a moment more; where there is none, the run is over, and what was noted are its facts.
use Rattle.std.proofs.Common.{rules, ◌≡◌, ◌+◌, ◌<◌, ◌∷◌, ◌∙◌, ℕ, List, refl, sym, subst, arith}
use Rattle.std.specs.Prelude.{IfSome, Option}
use Rattle.std.proofs.lemmas.List.Sorted.{answers_always}
use Rattle.hp_core.specs.Readers.{config_of}
use Rattle.hp_core.specs.Runs.{Row}
use Rattle.hp_core.specs.State.{CoreState}
use Rattle.hp_explore.specs.SoFar.{GoesOn}
use Rattle.hp_explore.specs.declared.turned.Turned.{Turned}
use Rattle.hp_watch.specs.Moments.{Moment}
use Rattle.hp_summary.specs.Noting.{AreLong, AreNotes}
use Rattle.hp_watch.proofs.Moments.{none_told}
use Rattle.hp_summary.proofs.Gathered.{are_facts, long_at_first, noted_goes_on, noted_same, noted_starts, same_tasks}
use Rattle.hp_summary.proofs.gathering.facts_of_run.Goals as goal

pub loop-turns-init : goal.loop-turns-init
loop-turns-init c =
    let plan = c.args.plan.now in
    let long = long_at_first c.args.script.now.config c.in_ok-turns.turns.world.core c.in_ok-notes.notes c.in_ok-turns.ensures.opening
    c.in_ok-notes.ensures.long in
    record {
      between = c.in_ok-turns.ensures.between;
      noted = noted_starts c.args.script.now c.args.seed plan.deny plan.kill c.args.run c.in_ok-turns.turns c.in_ok-notes.notes
          c.in_ok-turns.ensures.so_far c.in_ok-turns.ensures.opening
          (c.in_ok-notes.ensures.knows c.args.script.now.config c.in_ok-turns.turns.world.core c.in_ok-turns.ensures.opening);
      long = long.0;
      sized = long.1;
      few = omega (arith, c.in_ok-turns.ensures.turns);
    }

pub see-requires-clause-long : goal.see-requires-clause-long
see-requires-clause-long c =
    let old = c.loop-turns.turns in
    let new = c.turn.new.self in
    let t = c.in-Some.turned in
    let row = subst (λ (o : Option Turned). IfSome o (λ x. Row old.world.core x.event x.outcome new.world.core)) c.in-Some.is
    c.in_ok-turned.ensures.row in
    subst (λ (s : CoreState). AreLong c.loop-turns.notes (config_of s).tasks) (sym c.core.ensures)
    (subst (λ (n : ℕ). AreLong c.loop-turns.notes n) (sym (same_tasks old.world.core new.world.core t.event t.outcome row))
    c.loop-turns.invariant.long)

pub see-requires-clause-came : goal.see-requires-clause-came
see-requires-clause-came c =
    let old = c.loop-turns.turns in
    let new = c.turn.new.self in
    let t = c.in-Some.turned in
    let row = subst (λ (o : Option Turned). IfSome o (λ x. Row old.world.core x.event x.outcome new.world.core)) c.in-Some.is
    c.in_ok-turned.ensures.row in
    record {
      old = old.world.core;
      reached = c.loop-turns.invariant.noted.are.reached;
      row = subst (λ (s : CoreState). Row old.world.core t.event t.outcome s) (sym c.core.ensures) row;
      were = c.loop-turns.invariant.noted.are.phases;
    }

pub loop-turns-preserved : goal.loop-turns-preserved
loop-turns-preserved c =
    let plan = c.args.plan.now in
    let old = c.loop-turns.turns in
    let new = c.turn.new.self in
    let t = c.in-Some.turned in
    let was = c.loop-turns.invariant in
    let told = c.in_ok-turned.ensures in
    let is = c.in-Some.is in
    let turns = subst (λ (o : Option Turned). IfSome o (λ x. new.world.turns ≡ old.world.turns + 1)) is told.turns in
    let row = subst (λ (o : Option Turned). IfSome o (λ x. Row old.world.core x.event x.outcome new.world.core)) is told.row in
    let goes = subst (λ (o : Option Turned). IfSome o (λ x. GoesOn plan old x.event new)) is told.goes_on in
    record {
      between = told.between;
      noted = noted_goes_on c.args.script.now c.args.seed plan.deny plan.kill c.args.run plan old new c.loop-turns.notes c.see.new.self
          t.event t.outcome was.noted c.requires row goes
          (subst (λ (s : CoreState). (o : CoreState) (before : List Moment) → Row o t.event t.outcome s → AreNotes c.loop-turns.notes o before
          → AreNotes c.see.new.self s (record { event = t.event; outcome = t.outcome; core = s } ∷ before)) c.core.ensures
          c.in_ok-see.ensures.knows);
      long = subst (λ (s : CoreState). AreLong c.see.new.self (config_of s).tasks) c.core.ensures c.in_ok-see.ensures.long;
      sized = same_tasks old.world.core new.world.core t.event t.outcome row ∙ was.sized;
      few = omega (arith, turns, subst (λ (o : Option Turned). IfSome o (λ x. old.world.turns < 1000000)) is told.few);
    }

pub returns : goal.returns
returns c =
    let plan = c.args.plan.now in
    let none = none_told c.in_ok-turned.field-0 c.in_default.not-Some in
    let was = c.loop-turns.invariant in
    let noted = noted_same c.args.script.now c.args.seed plan.deny plan.kill c.args.run c.loop-turns.turns c.turn.new.self
    c.loop-turns.notes was.noted (c.in_ok-turned.ensures.stays none) in
    are_facts c.args.script.now c.args.seed plan.deny plan.kill c.args.run plan c.turn.new.self c.loop-turns.notes _ noted c.requires
    (subst (λ (n : ℕ). AreLong c.loop-turns.notes n) was.sized was.long) c.line-line.ensures.line c.line-line.ensures.ends
    (c.in_ok-sort_by_key.ensures.sorted (λ x. x.task) (answers_always _ _ _ (λ f a r q k. search rules)))
    (c.in_ok-sort_by_key.ensures.stable (λ x. x.task) (answers_always _ _ _ (λ f a r q k. search rules))) refl refl
