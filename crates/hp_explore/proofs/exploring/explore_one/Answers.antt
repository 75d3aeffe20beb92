-- Each turn leaves a run of one turn less, and the last world ends it.
use Rattle.std.proofs.Common.{◌≡◌, ◌+◌, ◌-◌, ◌%◌, ◌^◌, ◌∙◌, ℕ, [], ◌∷◌, sym, ap, subst}
use Rattle.std.proofs.Common.{refl, arith, length}
use Rattle.std.specs.Prelude.{Option, not, IfSome}
use Rattle.hp_explore.specs.declared.turned.Turned.{Turned}
use Rattle.hp_explore.specs.declared.line.Finish.{Finish}
use Rattle.hp_explore.specs.declared.line.RunLine.{RunLine}
use Rattle.hp_explore.specs.Schedule.{Turn, World}
use Rattle.hp_explore.specs.Explored.{IsRun, line_of}
use Rattle.hp_explore.proofs.Runs.{by_turn, by_idling, by_limit, explored, none_told, some_told, idle_line}
use Rattle.hp_explore.proofs.Awaiting.{is_planned, start_long, turn_long}
use Rattle.hp_explore.proofs.exploring.explore_one.Goals as goal

pub loop-turn-init : goal.loop-turn-init
loop-turn-init c =
    let plan = c.args.plan.now in
    record {
      turns = c.in_ok-walk.ensures.turns;
      runnable = c.list_runnable.ensures.tasks;
      in_range = c.list_runnable.ensures.in_range;
      many = start_long c.args.script.now _ c.in_ok-walk.walk c.in_ok-walk.ensures;
      goes_on = λ events line run. (
        events,
        explored c.args.script.now c.args.seed plan.deny plan.kill c.args.run _ 1000000 plan c.in_ok-walk.walk events line c.requires
            (ap (λ (n : ℕ). (c.args.seed + n) % 2 ^ 64) c.from.ensures) refl c.in_ok-walk.ensures run,
      );
    }

pub returns-then-is_none-clause-line : goal.returns-then-is_none-clause-line
returns-then-is_none-clause-line c =
    let plan = c.args.plan.now in
    let run = c.args.run in
    let w = c.loop-turn.walk in
    let left = 1000000 - c.loop-turn.turn in
    let none = none_told c.in_ok-turned.turned (c.is_none.ensures ∙ ap not c.if-is_none.true) in
    let is = idle_line plan run w c.turn.new.self c.idle_finish.result c.line.result c.line.ensures c.idle_finish.ensures.finish
    (c.in_ok-turned.ensures.stays none) in
    c.loop-turn.invariant.goes_on [] c.line.result
    (subst (λ (l : RunLine). IsRun plan run left w [] l) (sym is) (by_idling plan run left w (c.in_ok-turned.ensures.idle none)))

pub loop-turn-preserved : goal.loop-turn-preserved
loop-turn-preserved c =
    let plan = c.args.plan.now in
    let w = c.loop-turn.walk in
    let v = c.turn.new.self in
    let i = c.loop-turn.turn in
    let some = some_told c.in_ok-turned.turned (c.is_none.ensures ∙ ap not c.if-is_none.false) in
    let turn : Turn plan w some.0.event v =
    subst (λ (o : Option Turned). IfSome o (λ turned. Turn plan w turned.event v)) some.1 c.in_ok-turned.ensures.turn in
    record {
      turns = omega (arith, turn.turns, c.loop-turn.invariant.turns);
      runnable = c.in_ok-turned.ensures.runnable;
      in_range = c.in_ok-turned.ensures.in_range;
      many = turn_long plan w v _ turn ∙ c.loop-turn.invariant.many;
      goes_on = λ events line rest. c.loop-turn.invariant.goes_on (some.0.event ∷ events) line
          (by_turn plan c.args.run (1000000 - (i + 1)) (1000000 - i) w v some.0.event events line (omega
          (arith, c.loop-turn-test.true)) turn
          c.is_clean.ensures rest);
    }

pub returns-clause-line : goal.returns-clause-line
returns-clause-line c =
    let plan = c.args.plan.now in
    let run = c.args.run in
    let w = c.loop-turn.walk in
    let left = 1000000 - c.loop-turn.turn in
    let none : left ≡ 0 = omega arith in
    let is = c.line-2.ensures ∙ ap (λ (f : Finish). line_of run f w) c.last_finish-finish.ensures.finish in
    c.loop-turn.invariant.goes_on [] c.line-2.result
    (subst (λ (l : RunLine). IsRun plan run left w [] l) (sym is)
    (by_limit plan run left w c.loop-turn.tasks none c.loop-turn.invariant.runnable))

pub last_finish-finish-requires-clause-planned : goal.last_finish-finish-requires-clause-planned
last_finish-finish-requires-clause-planned c =
    is_planned c.args.plan.now c.args.script.now (length c.loop-turn.walk.made) c.requires c.loop-turn.invariant.many

pub idle_finish-requires-clause-planned : goal.idle_finish-requires-clause-planned
idle_finish-requires-clause-planned c =
    let none = none_told c.in_ok-turned.turned (c.is_none.ensures ∙ ap not c.if-is_none.true) in
    is_planned c.args.plan.now c.args.script.now (length c.turn.new.self.made) c.requires
    (ap (λ (x : World). length x.made) (c.in_ok-turned.ensures.stays none) ∙ c.loop-turn.invariant.many)
