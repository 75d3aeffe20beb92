use Rattle.std.proofs.Common.{List, sym, subst, ◌∙◌}
use Rattle.std.proofs.lemmas.Result.{err_from_is_err_and}
use Rattle.hp_client.specs.Rounds.{AreAll, AreInFlight, AreOfDistinctTasks}
use Rattle.hp_client.specs.declared.rounds.Asked.{Asked}
use Rattle.hp_client.proofs.Beginning.{asked_all, asked_apart, asked_fly}
use Rattle.hp_core.specs.State.{as_state}
use Rattle.hp_core.proofs.InFlight.{none_counts}
use Rattle.hp_client.proofs.Standing.{none_flies}
use Rattle.hp_client.proofs.rounds.run_round.Goals as goal

pub take_turns-requires-clause-apart : goal.take_turns-requires-clause-apart
take_turns-requires-clause-apart c =
    subst AreOfDistinctTasks (sym (c.deref_mut.ensures.value
    ∙ c.in_ok-asked.ensures.asked)) (asked_apart c.args.calls.now c.requires)

pub take_turns-requires-clause-in_flight : goal.take_turns-requires-clause-in_flight
take_turns-requires-clause-in_flight c =
    subst (λ (asked : List Asked). AreInFlight c.begin_calls.new.core asked)
    (sym (c.deref_mut.ensures.value ∙ c.in_ok-asked.ensures.asked))
    (asked_fly c.a_begin_begins_or_is_refused.ensures c.others_stay.ensures c.args.core.now c.begin_calls.new.core
    c.args.calls.now
    c.in_default.ensures.ok c.requires)

pub returns-in_err-take_turns-clause-free : goal.returns-in_err-take_turns-clause-free
returns-in_err-take_turns-clause-free c = λ none.
    let all = subst (λ (asked : List Asked). AreAll c.begin_calls.new.core asked)
    (sym (c.deref_mut.ensures.value ∙ c.in_ok-asked.ensures.asked))
    (asked_all c.others_stay.ensures c.args.core.now c.begin_calls.new.core c.args.calls.now c.in_default.ensures.ok
    (c.callers_live.ensures (as_state c.args.core.now) c.is_reached.ensures) none) in
    let p = err_from_is_err_and c.from_residual-in_err-take_turns.result c.from_residual-in_err-take_turns.ensures.1 in
    rw (p.1, p.2) (c.in_err-take_turns.ensures.free all)

pub returns-clause-done : goal.returns-clause-done
returns-clause-done c = λ none.
    let all = subst (λ (asked : List Asked). AreAll c.begin_calls.new.core asked)
    (sym (c.deref_mut.ensures.value ∙ c.in_ok-asked.ensures.asked))
    (asked_all c.others_stay.ensures c.args.core.now c.begin_calls.new.core c.args.calls.now c.in_default.ensures.ok
    (c.callers_live.ensures (as_state c.args.core.now) c.is_reached.ensures) none) in
    none_counts c.take_turns.new.core (none_flies c.take_turns.new.core c.take_turns.new.asked c.in_ok-take_turns.ensures.ok.ended
    (c.in_ok-take_turns.ensures.all all))
