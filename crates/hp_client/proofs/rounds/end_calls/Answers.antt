use Rattle.std.proofs.Common.{◌≡◌, List, sym, subst, ◌∙◌}
use Rattle.std.proofs.lemmas.Result.{err_from_is_err_and}
use Rattle.hp_core.specs.State.{as_state}
use Rattle.hp_client.specs.Rounds.{in_flight, AreAll, AreInFlight, AreOfDistinctTasks, TurnsFail}
use Rattle.hp_client.specs.declared.rounds.Asked.{Asked}
use Rattle.hp_client.proofs.Beginning.{flying_apart, flying_fly, flying_all}
use Rattle.hp_core.proofs.InFlight.{none_counts}
use Rattle.hp_client.proofs.Standing.{none_flies, finish_stops}
use Rattle.hp_client.proofs.rounds.end_calls.Goals as goal

pub take_turns-requires-clause-apart : goal.take_turns-requires-clause-apart
take_turns-requires-clause-apart c =
    subst AreOfDistinctTasks (sym (c.deref_mut.ensures.value ∙ c.in_ok-asked.ensures)) (flying_apart c.args.core.now)

pub take_turns-requires-clause-in_flight : goal.take_turns-requires-clause-in_flight
take_turns-requires-clause-in_flight c =
    subst (λ (asked : List Asked). AreInFlight c.args.core.now asked) (sym (c.deref_mut.ensures.value ∙ c.in_ok-asked.ensures))
    (flying_fly c.args.core.now)

pub returns-clause-calls : goal.returns-clause-calls
returns-clause-calls c =
    let all = subst (λ (asked : List Asked). AreAll c.args.core.now asked) (sym (c.deref_mut.ensures.value
    ∙ c.in_ok-asked.ensures))
    (flying_all c.args.core.now (c.callers_live.ensures (as_state c.args.core.now) c.is_reached.ensures)
    c.always.ensures.config) in
    none_counts c.take_turns.new.core (none_flies c.take_turns.new.core c.take_turns.new.asked c.in_ok-take_turns.ensures.ok.ended
    (c.in_ok-take_turns.ensures.all all))

pub returns-in_err-take_turns-clause-stopped : goal.returns-in_err-take_turns-clause-stopped
returns-in_err-take_turns-clause-stopped c =
    let same : c.deref_mut.result.now ≡ in_flight c.args.core.now = c.deref_mut.ensures.value ∙ c.in_ok-asked.ensures in
    let fault = c.in_err-take_turns.field-0.0 in
    let all = subst (λ (asked : List Asked). AreAll c.args.core.now asked) (sym same)
    (flying_all c.args.core.now (c.callers_live.ensures (as_state c.args.core.now) c.is_reached.ensures)
    c.always.ensures.config) in
    let fails = subst (λ (asked : List Asked). TurnsFail fault c.args.core.now asked c.take_turns.new.core) same
    c.in_err-take_turns.ensures.err in
    let p = err_from_is_err_and c.from_residual-in_err-take_turns.result c.from_residual-in_err-take_turns.ensures.1 in
    rw (p.1, p.2) (finish_stops fault c.args.core.now c.take_turns.new.core fails (c.in_err-take_turns.ensures.free all))
