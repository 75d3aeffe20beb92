-- Each turn is a moment more; where there is none, the run is explored, and its moments judge it.
use Rattle.std.proofs.Common.{◌≡◌, ◌+◌, ◌<◌, ◌∷◌, ◌∙◌, ℕ, List, length, sym, ap, subst, arith}
use Rattle.std.specs.Prelude.{IfSome, Option}
use Rattle.std.proofs.lemmas.List.{length_push}
use Rattle.hp_base.specs.declared.event.Event.{Event}
use Rattle.hp_core.specs.Runs.{Row}
use Rattle.hp_core.specs.State.{CoreState}
use Rattle.hp_explore.specs.Schedule.{World}
use Rattle.hp_explore.specs.SoFar.{GoesOn, IsSoFar}
use Rattle.hp_explore.specs.declared.turned.Turned.{Turned}
use Rattle.hp_watch.specs.Moments.{Moment}
use Rattle.hp_hunt.specs.Watching.{AllKnow, known_of}
use Rattle.hp_hunt.specs.declared.condition.Condition.{Condition}
use Rattle.hp_watch.proofs.Moments.{none_told}
use Rattle.hp_hunt.proofs.Explored.{run_judged}
use Rattle.hp_hunt.proofs.Watched.{IsWatched, judged, watch_goes_on, watch_starts}
use Rattle.hp_hunt.proofs.finding.explore_run.Goals as goal

pub loop-turns-init : goal.loop-turns-init
loop-turns-init c =
    let plan = c.args.plan.now in
    record {
      between = c.in_ok-turns.ensures.between;
      so_far = subst (λ (es : List Event). IsSoFar c.args.script.now c.args.seed plan.deny plan.kill c.args.run es c.in_ok-turns.turns)
          (sym c.clear.ensures.items) c.in_ok-turns.ensures.so_far;
      watched = watch_starts c.args.script.now.config c.args.conditions.now c.clear.new.self.items c.in_ok-turns.turns.world.core
          (known_of c.in_ok-watches.watches) c.in_ok-turns.ensures.opening c.clear.ensures.items c.in_ok-watches.ensures;
      count = ap (λ (es : List Event). length es) c.clear.ensures.items ∙ sym c.in_ok-turns.ensures.turns;
      few = omega (arith, c.in_ok-turns.ensures.turns);
    }

pub loop-turns-preserved : goal.loop-turns-preserved
loop-turns-preserved c =
    let plan = c.args.plan.now in
    let old = c.loop-turns.turns in
    let new = c.turn.new.self in
    let t = c.in-Some.turned in
    let was = c.loop-turns.invariant in
    let told = c.in_ok-turned.ensures in
    let is = c.in-Some.is in
    let pushed = c.in_ok-push.ensures.items in
    let turns = subst (λ (o : Option Turned). IfSome o (λ x. new.world.turns ≡ old.world.turns + 1)) is told.turns in
    let row = subst (λ (o : Option Turned). IfSome o (λ x. Row old.world.core x.event x.outcome new.world.core)) is told.row in
    let goes = subst (λ (o : Option Turned). IfSome o (λ x. GoesOn plan old x.event new)) is told.goes_on in
    let long = ap (λ (es : List Event). length es) pushed ∙ length_push c.loop-turns.events.items t.event in
    record {
      between = told.between;
      so_far = subst (λ (es : List Event). IsSoFar c.args.script.now c.args.seed plan.deny plan.kill c.args.run es new) (sym pushed)
          (goes c.args.script.now c.args.seed plan.deny plan.kill c.args.run c.loop-turns.events.items c.requires was.so_far);
      watched = watch_goes_on c.args.script.now.config c.args.conditions.now c.loop-turns.events.items c.push.new.self.items
          old.world.core new.world.core (known_of c.loop-turns.watches) (known_of c.see.new.self) t.event t.outcome was.watched row pushed
          (subst (λ (s : CoreState). (cs : List Condition) (before : List Moment) → AllKnow cs (known_of c.loop-turns.watches) before
          → AllKnow cs (known_of c.see.new.self) (record { event = t.event; outcome = t.outcome; core = s } ∷ before)) c.core.ensures
          c.in_ok-see.ensures);
      count = long ∙ ap (λ (n : ℕ). n + 1) was.count ∙ sym turns;
      few = omega (arith, turns, subst (λ (o : Option Turned). IfSome o (λ x. old.world.turns < 1000000)) is told.few);
    }

pub returns-clause-met : goal.returns-clause-met
returns-clause-met c =
    let plan = c.args.plan.now in
    let script = c.args.script.now in
    let events = c.loop-turns.events.items in
    let was = c.loop-turns.invariant in
    let none = none_told c.in_ok-turned.field-0 c.in_default.not-Some in
    let same = c.core-2.ensures ∙ ap (λ (w : World). w.core) (c.in_ok-turned.ensures.stays none) in
    let watched = subst (λ (s : CoreState). IsWatched script.config c.args.conditions.now events s (known_of c.loop-turns.watches)) (sym same)
    was.watched in
    run_judged script c.args.seed plan.deny plan.kill c.args.run c.args.conditions.now events c.are_met.result
    (c.in_ok-turned.ensures.ends none script c.args.seed plan.deny plan.kill c.args.run events c.requires was.so_far)
    (judged script.config c.args.conditions.now events c.core-2.result.now (known_of c.loop-turns.watches) c.are_met.result watched
    c.are_met.ensures.met c.are_met.ensures.missed)
