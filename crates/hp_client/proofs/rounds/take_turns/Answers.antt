use Rattle.std.proofs.Common.{◌≡◌, ◌+◌, true, false, Ok, ap, sym, ◌∙◌}
use Rattle.hp_client.proofs.Running.{turns_none, turns_next}
use Rattle.hp_client.proofs.Standing.{never_stuck}
use Rattle.hp_client.proofs.rounds.take_turns.Goals as goal

pub turns-init : goal.turns-init
turns-init c = record {
  made = (0, turns_none _ _);
  apart = c.requires.apart;
  in_flight = c.requires.in_flight;
  all = λ before. before;
}

pub turns-preserved : goal.turns-preserved
turns-preserved c = record {
  made = (
    c.turns.invariant.made.0 + 1,
    turns_next c.turns.invariant.made.0 c.args.core.now c.turns.core c.turn.new.core
        c.args.asked.now c.turns.asked c.turn.new.asked c.turns.invariant.made.1 c.in_ok-turn.ensures.ok,
  );
  apart = c.in_ok-turn.ensures.apart;
  in_flight = c.in_ok-turn.ensures.in_flight;
  all = λ before. c.in_ok-turn.ensures.all (c.turns.invariant.all before);
}

pub returns-then-not-branch-clause-free : goal.returns-then-not-branch-clause-free
returns-then-not-branch-clause-free c =
    let blocked = c.turn.ensures.blocked (c.in_ok-turn.was ∙ ap Ok c.if-not-branch.true) in
    λ all stuck. never_stuck c.turns.core c.turn.new.core c.turns.asked c.a_blocked_step_waits_for_a_holder.ensures
    c.some_call_is_not_blocked.ensures
    (λ ended. (let no : true ≡ false = sym (c.all_ended.ensures.1 ended) ∙ c.turns-test.true in cc))
    c.turns.invariant.in_flight (c.turns.invariant.all all) blocked
