-- Each turn leaves a run of one turn less, and the last world ends it.
use Rattle.std.proofs.Common.{◌≡◌, ◌+◌, ◌-◌, ◌∙◌, List, [], ◌∷◌, ◌++◌, append_assoc, sym, ap}
use Rattle.std.proofs.Common.{subst, length, refl, arith}
use Rattle.std.proofs.lemmas.Grind.{common_steps}
use Rattle.std.proofs.lemmas.List.{append-nil}
use Rattle.hp_explore.specs.Schedule.{Turn}
use Rattle.std.specs.Prelude.{Option, IfSome}
use Rattle.hp_base.specs.declared.event.Event.{Event}
use Rattle.hp_explore.specs.declared.turned.Turned.{Turned}
use Rattle.hp_explore.specs.Explored.{IsExplored, line_of, idle_finish, last_finish}
use Rattle.hp_explore.proofs.Runs.{by_turn, by_idling, by_limit, explored, seed_alone}
use Rattle.hp_explore.proofs.Awaiting.{start_long, turn_long}
use Rattle.hp_explore.proofs.exploring.events_of.Goals as goal

pub loop-made-init : goal.loop-made-init
loop-made-init c =
    let plan = c.args.plan.now in
    let script = c.args.script.now in
    record {
      turns = c.in_ok-walk.ensures.turns;
      runnable = c.list_runnable.ensures.tasks;
      in_range = c.list_runnable.ensures.in_range;
      many = start_long c.args.script.now _ c.in_ok-walk.walk c.in_ok-walk.ensures;
      count = ap (λ (es : List Event). length es) c.new-events.ensures.items;
      goes_on = λ rest line run. subst (λ (es : List Event). IsExplored script c.args.seed plan.deny plan.kill 0 (es ++ rest) line)
          (sym c.new-events.ensures.items)
          (explored script c.args.seed plan.deny plan.kill 0 c.args.seed 1000000 plan c.in_ok-walk.walk rest line c.requires
          (seed_alone c.args.seed c.ranges.seed.fits) refl c.in_ok-walk.ensures run);
    }

pub returns-in-None : goal.returns-in-None
returns-in-None c =
    let plan = c.args.plan.now in
    let w = c.loop-made.walk in
    let left = 1000000 - c.loop-made.made in
    let line = line_of 0 (idle_finish plan w) w in
    record {
      line = (
        line,
        subst (λ (es : List Event). IsExplored c.args.script.now c.args.seed plan.deny plan.kill 0 es line)
            (append-nil c.loop-made.events.items)
            (c.loop-made.invariant.goes_on [] line (by_idling plan 0 left w (c.in_ok-turned.ensures.idle c.in-None.is))),
      );
      few = omega (arith, c.loop-made.invariant.count);
    }

pub loop-made-preserved : goal.loop-made-preserved
loop-made-preserved c =
    let plan = c.args.plan.now in
    let w = c.loop-made.walk in
    let v = c.turn.new.self in
    let i = c.loop-made.made in
    let e = c.in-Some.turned.event in
    let old = c.loop-made.events.items in
    let new = c.push.new.self.items in
    let is : new ≡ old ++ e ∷ [] = c.in_ok-push-in-Some.ensures.items in
    let longer : length (old ++ e ∷ []) ≡ length old + 1 = grind (arith, common_steps) in
    let long : length new ≡ length (old ++ e ∷ []) = ap (λ (es : List Event). length es) is in
    let turn : Turn plan w e v =
    subst (λ (o : Option Turned). IfSome o (λ turned. Turn plan w turned.event v)) c.in-Some.is c.in_ok-turned.ensures.turn in
    record {
      turns = omega (arith, turn.turns, c.loop-made.invariant.turns);
      runnable = c.in_ok-turned.ensures.runnable;
      in_range = c.in_ok-turned.ensures.in_range;
      many = turn_long plan w v _ turn ∙ c.loop-made.invariant.many;
      count = omega (arith, long, longer, c.loop-made.invariant.count);
      goes_on = λ rest line run. subst (λ (es : List Event). IsExplored c.args.script.now c.args.seed plan.deny plan.kill 0 es line)
          (sym (append_assoc old (e ∷ []) rest) ∙ ap (λ (es : List Event). es ++ rest) (sym is))
          (c.loop-made.invariant.goes_on (e ∷ rest) line
          (by_turn plan 0 (1000000 - (i + 1)) (1000000 - i) w v e rest line (omega (arith, c.loop-made-test.true)) turn
          c.is_clean.ensures run));
    }

pub returns : goal.returns
returns c =
    let plan = c.args.plan.now in
    let w = c.loop-made.walk in
    let left = 1000000 - c.loop-made.made in
    let tasks = c.loop-made.tasks in
    let none : left ≡ 0 = omega arith in
    let line = line_of 0 (last_finish plan w tasks) w in
    record {
      line = (
        line,
        subst (λ (es : List Event). IsExplored c.args.script.now c.args.seed plan.deny plan.kill 0 es line)
            (append-nil c.loop-made.events.items)
            (c.loop-made.invariant.goes_on [] line (by_limit plan 0 left w tasks none c.loop-made.invariant.runnable)),
      );
      few = omega (arith, c.loop-made.invariant.count);
    }
