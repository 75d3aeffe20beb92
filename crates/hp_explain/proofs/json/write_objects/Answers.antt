use Rattle.std.proofs.Common.{List, ap, subst, ◌∙◌}
use Rattle.std.proofs.lemmas.Result.{err_from_is_err_and}
use Rattle.hp_base.specs.Text.{sizes}
use Rattle.hp_base.specs.declared.event.Event.{Event}
use Rattle.hp_explain.specs.JsonRuns.{WroteSomeObjects}
use Rattle.hp_explain.specs.Views.{events_until}
use Rattle.hp_explain.proofs.JsonTexts.{OpenedPool, pool_stopped, events_stopped, all_wrote, stopped_at_the_end}
use Rattle.hp_explain.proofs.json.write_objects.Goals as goal

pub returns-in_err-write_pool-clause-err : goal.returns-in_err-write_pool-clause-err
returns-in_err-write_pool-clause-err g c =
    let p = err_from_is_err_and c.from_residual-in_err-write_pool.result c.from_residual-in_err-write_pool.ensures.1 in
    let o : OpenedPool c.args.trace.now.config c.in_ok-run.run'.core c.in_ok-run.run'.holders.items =
    record { opening = c.in_ok-run.ensures.opening; are_holders = c.in_ok-run.ensures.holders } in
    let same = c.until-events.ensures ∙ ap (events_until c.args.view.now) c.as_slice.ensures.value in
    rw (p.1, p.2) (
      c.in_err-write_pool.ensures.err.0,
      subst (λ (list : List Event). WroteSomeObjects c.args.view.now (sizes c.args.trace.now.config) list
          (g.W.Sink.contents c.args.writer.now) (g.W.Sink.contents c.write_pool.new.writer)) same
          (pool_stopped c.args.view.now c.args.trace.now.config c.until-events.result.now c.in_ok-run.run'.core _ _ _ o
          c.in_err-write_pool.ensures.err.1),
    )

pub returns-in_err-write_events-clause-err : goal.returns-in_err-write_events-clause-err
returns-in_err-write_events-clause-err g c =
    let p = err_from_is_err_and c.from_residual-in_err-write_events.result c.from_residual-in_err-write_events.ensures.1 in
    let o : OpenedPool c.args.trace.now.config c.in_ok-run.run'.core c.in_ok-run.run'.holders.items =
    record { opening = c.in_ok-run.ensures.opening; are_holders = c.in_ok-run.ensures.holders } in
    let same = c.until-events.ensures ∙ ap (events_until c.args.view.now) c.as_slice.ensures.value in
    rw (p.1, p.2) (
      c.in_err-write_events.ensures.err.0,
      subst (λ (list : List Event). WroteSomeObjects c.args.view.now (sizes c.args.trace.now.config) list
          (g.W.Sink.contents c.args.writer.now) (g.W.Sink.contents c.write_events.new.writer)) same
          (events_stopped c.args.view.now c.args.trace.now.config c.until-events.result.now c.in_ok-run.run'.core _ _ _ _ o
          c.in_ok-write_pool.ensures.ok c.in_err-write_events.ensures.err.1),
    )

pub returns-clause-ok : goal.returns-clause-ok
returns-clause-ok g c =
    let o : OpenedPool c.args.trace.now.config c.in_ok-run.run'.core c.in_ok-run.run'.holders.items =
    record { opening = c.in_ok-run.ensures.opening; are_holders = c.in_ok-run.ensures.holders } in
    let same = c.until-events.ensures ∙ ap (events_until c.args.view.now) c.as_slice.ensures.value in
    all_wrote c.write_state.result c.args.view.now c.args.trace.now.config (events_until c.args.view.now c.args.trace.now.events.items)
    c.until-events.result.now c.in_ok-run.run'.core c.write_events.new.run.core _ _ _ _ _ same o
    c.in_ok-write_pool.ensures.ok c.in_ok-write_events.ensures.ok c.write_state.ensures.ok

pub returns-clause-err : goal.returns-clause-err
returns-clause-err g c =
    let o : OpenedPool c.args.trace.now.config c.in_ok-run.run'.core c.in_ok-run.run'.holders.items =
    record { opening = c.in_ok-run.ensures.opening; are_holders = c.in_ok-run.ensures.holders } in
    let same = c.until-events.ensures ∙ ap (events_until c.args.view.now) c.as_slice.ensures.value in
    stopped_at_the_end c.write_state.result c.args.view.now c.args.trace.now.config
    (events_until c.args.view.now c.args.trace.now.events.items)
    c.until-events.result.now c.in_ok-run.run'.core c.write_events.new.run.core _ _ _ _ _ same o
    c.in_ok-write_pool.ensures.ok c.in_ok-write_events.ensures.ok c.write_state.ensures.err
