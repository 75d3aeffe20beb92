use Rattle.std.proofs.Common.{◌≡◌, ℕ, ◌<◌, true, false, Ok, length, get_or, ◌∙◌, sym, ap, arith}
use Rattle.std.proofs.lemmas.Result.{err_from_is_err_and}
use Rattle.hp_core.specs.State.{as_state}
use Rattle.hp_client.proofs.Running.{turn_next, others_next, turn_stops, blocked_next, near_on, near_off}
use Rattle.hp_client.proofs.Standing.{advance_follows, in_flight_at, apart_next, in_flight_next, all_next}
use Rattle.hp_client.proofs.rounds.turn.Goals as goal
use Rattle.hp_client.proofs.rounds.turn.Goals.{then-branch, else-branch}

pub advance-requires : goal.advance-requires
advance-requires c = in_flight_at c.loop-call.core c.loop-call.asked c.loop-call.call-index c.call-item.result
    (omega (arith, c.loop-call.auto.asked, c.loop-call-test.true)) c.loop-call.invariant.in_flight

pub loop-call-preserved : goal.loop-call-preserved
loop-call-preserved c =
    let i : ℕ = c.loop-call.call-index in
    let d = c.call-item.result in
    let asked = c.loop-call.asked in
    let after = c.advance.new.asked in
    let new = c.advance.new.core in
    let within : i < length asked = omega (arith, c.loop-call.auto.asked, c.loop-call-test.true) in
    let there = in_flight_at c.loop-call.core asked i d within c.loop-call.invariant.in_flight in
    let follows =
    advance_follows c.loop-call.core new (get_or asked i d) after (c.others_stay.ensures (as_state c.loop-call.core))
    (c.a_call_in_flight_makes_its_step.ensures (as_state c.loop-call.core) c.is_reached.ensures) there
    c.in_ok-advance.ensures.ok in
    record {
      made = turn_next _ _ _ i c.args.asked.now asked d _ c.loop-call.auto.asked c.loop-call-test.true
          c.loop-call.invariant.others c.loop-call.invariant.made c.in_ok-advance.ensures.ok;
      others = others_next i c.args.asked.now asked _ c.loop-call.invariant.others;
      blocked = λ still. elim c.if-branch.branch [
        | then-branch w ↦ (let no : true ≡ false = sym w.moved-is ∙ still in cc)
        | else-branch w ↦ blocked_next _ _ _ i c.args.asked.now asked d c.loop-call-test.true c.loop-call.invariant.others
            (c.loop-call.invariant.blocked (sym w.moved-is ∙ still))
            (c.advance.ensures.blocked (c.in_ok-advance.was ∙ ap Ok w.if-branch.false))
      ];
      nearer = elim c.if-branch.branch [
        | then-branch w ↦ near_on c.in_ok-advance.field-0 c.if-branch.moved _ _ _ _ w.moved-is w.if-branch.true
            c.loop-call.invariant.nearer c.in_ok-advance.ensures.nearer
        | else-branch w ↦ near_off c.in_ok-advance.field-0 c.loop-call.moved c.if-branch.moved _ _ _ w.moved-is
            c.loop-call.invariant.nearer c.in_ok-advance.ensures.nearer
      ];
      apart = apart_next asked i d after within follows.task c.loop-call.invariant.apart;
      in_flight = in_flight_next c.loop-call.core new asked i d after within c.loop-call.invariant.apart follows
          c.loop-call.invariant.in_flight;
      all = λ before. all_next c.loop-call.core new asked i d after within follows (c.loop-call.invariant.all before);
    }

pub returns-in_err-advance-clause-err : goal.returns-in_err-advance-clause-err
returns-in_err-advance-clause-err c =
    let p = err_from_is_err_and c.from_residual.result c.from_residual.ensures.1 in
    let same : c.advance.new.core ≡ c.loop-call.core = c.in_err-advance.ensures.same in
    rw (p.1, same)
    (turn_stops c.args.core.now c.loop-call.core c.loop-call.call-index c.args.asked.now c.loop-call.asked c.call-item.result
    c.loop-call-test.true c.loop-call.invariant.others c.loop-call.invariant.made c.in_err-advance.ensures.wanted)
