-- The walk's turn is one of the run; where there is none, the run is over.
use Rattle.std.proofs.Common.{◌∙◌, [], ap, sym, subst, length, arith, inl, inr}
use Rattle.std.specs.Prelude.{IfSome}
use Rattle.hp_explore.specs.SoFar.{RunState, Ends, GoesOn}
use Rattle.hp_explore.specs.Schedule.{World, AreRunnable, IsPlan}
use Rattle.hp_explore.proofs.Awaiting.{stays_planned}
use Rattle.hp_explore.proofs.SoFar.{goes_on_if, ends_idle, ends_late}
use Rattle.hp_explore.proofs.scheduled_run.ScheduledRun.turn.Goals as goal

pub returns-then-turns-ge-TURN_LIMIT-clause-ends : goal.returns-then-turns-ge-TURN_LIMIT-clause-ends
returns-then-turns-ge-TURN_LIMIT-clause-ends c =
    let seen = ap (λ (r : RunState). r.world.turns) c.self.view_is in
    λ none. ends_late c.args.plan.now c.args.self.now
    (omega (arith, c.if-turns-ge-TURN_LIMIT.true, c.turns.ensures, seen)) c.requires.runnable

pub returns-clause-goes_on : goal.returns-clause-goes_on
returns-clause-goes_on c =
    let plan = c.args.plan.now in
    let told = c.in_ok-turned.turned in
    let new : RunState = record { world = c.turn.new.self; tasks = c.turn.new.tasks } in
    subst (λ (old : RunState). IfSome told (λ turned. GoesOn plan old turned.event new)) c.self.view_is
    (goes_on_if plan _ new told c.in_ok-turned.ensures.turn (omega (arith, c.if-turns-ge-TURN_LIMIT.false, c.turns.ensures))
    c.is_clean.ensures)

pub returns-clause-ends : goal.returns-clause-ends
returns-clause-ends c =
    let plan = c.args.plan.now in
    λ none. subst (λ (r : RunState). Ends plan r) c.self.view_is
    (ends_idle plan (record { world = c.self.inside.walk; tasks = c.self.inside.tasks }) (c.in_ok-turned.ensures.idle none))

pub returns-clause-stays : goal.returns-clause-stays
returns-clause-stays c =
    λ none. c.in_ok-turned.ensures.stays none ∙ ap (λ (r : RunState). r.world) c.self.view_is

pub returns-then-turns-ge-TURN_LIMIT-clause-over : goal.returns-then-turns-ge-TURN_LIMIT-clause-over
returns-then-turns-ge-TURN_LIMIT-clause-over c =
    let seen = ap (λ (r : RunState). r.world.turns) c.self.view_is in
    λ none. inr (omega (arith, c.if-turns-ge-TURN_LIMIT.true, c.turns.ensures, seen))

pub returns-clause-over : goal.returns-clause-over
returns-clause-over c =
    λ none. inl (subst (λ (w : World). AreRunnable c.args.plan.now w []) (sym (c.in_ok-turned.ensures.stays none))
    (c.in_ok-turned.ensures.idle none))

pub returns-clause-between : goal.returns-clause-between
returns-clause-between c =
    let plan = c.args.plan.now in
    record {
      runnable = c.in_ok-turned.ensures.runnable;
      in_range = c.in_ok-turned.ensures.in_range;
      planned =
          stays_planned plan c.self.inside.walk c.turn.new.self c.in_ok-turned.turned
          (subst (λ (r : RunState). IsPlan plan (length r.world.made)) (sym c.self.view_is) c.requires.planned)
          c.in_ok-turned.ensures.turn c.in_ok-turned.ensures.stays;
    }
