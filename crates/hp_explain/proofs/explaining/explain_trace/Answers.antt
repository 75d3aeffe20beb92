use Rattle.std.proofs.Common.{List, ap, refl, subst, ◌∙◌}
use Rattle.std.proofs.lemmas.Result.{err_from_is_err_and}
use Rattle.hp_base.specs.Text.{sizes}
use Rattle.hp_base.specs.declared.event.Event.{Event}
use Rattle.hp_explain.specs.Explaining.{PartlyExplained}
use Rattle.hp_explain.specs.Views.{events_until}
use Rattle.hp_explain.proofs.Texts.{opened, head_stopped, rows_stopped, explained_to_the_end, stopped_at_the_end}
use Rattle.hp_explain.proofs.explaining.explain_trace.Goals as goal

pub returns-in_err-write_head-clause-err : goal.returns-in_err-write_head-clause-err
returns-in_err-write_head-clause-err g c =
    let p = err_from_is_err_and c.from_residual-in_err-write_head.result c.from_residual-in_err-write_head.ensures.1 in
    let o = opened c.args.view.now c.args.trace.now.config c.until-events.result.now c.until-events.result.now c.as_slice-widths.result.now
    c.in_ok-widths.widths.items c.in_ok-run.run'.core c.in_ok-run.run'.holders.items refl c.in_ok-run.ensures.opening
    c.in_ok-run.ensures.holders c.as_slice-widths.ensures.value
    c.in_ok-widths.ensures.count c.in_ok-widths.ensures.rooms in
    let same = c.until-events.ensures ∙ ap (events_until c.args.view.now) c.as_slice.ensures.value in
    rw (p.1, p.2) (
      c.in_err-write_head.ensures.err.0,
      subst (λ (list : List Event). PartlyExplained c.args.view.now (sizes c.args.trace.now.config) list
          (g.W.Sink.contents c.args.writer.now) (g.W.Sink.contents c.write_head.new.writer)) same
          (head_stopped c.args.view.now c.args.trace.now.config c.until-events.result.now c.as_slice-widths.result.now
          c.in_ok-run.run'.core _ _ _ o c.in_err-write_head.ensures.err.1),
    )

pub returns-in_err-write_rows-clause-err : goal.returns-in_err-write_rows-clause-err
returns-in_err-write_rows-clause-err g c =
    let p = err_from_is_err_and c.from_residual-in_err-write_rows.result c.from_residual-in_err-write_rows.ensures.1 in
    let o = opened c.args.view.now c.args.trace.now.config c.until-events.result.now c.until-events.result.now c.as_slice-widths.result.now
    c.in_ok-widths.widths.items c.in_ok-run.run'.core c.in_ok-run.run'.holders.items refl c.in_ok-run.ensures.opening
    c.in_ok-run.ensures.holders c.as_slice-widths.ensures.value
    c.in_ok-widths.ensures.count c.in_ok-widths.ensures.rooms in
    let same = c.until-events.ensures ∙ ap (events_until c.args.view.now) c.as_slice.ensures.value in
    rw (p.1, p.2) (
      c.in_err-write_rows.ensures.err.0,
      subst (λ (list : List Event). PartlyExplained c.args.view.now (sizes c.args.trace.now.config) list
          (g.W.Sink.contents c.args.writer.now) (g.W.Sink.contents c.write_rows.new.writer)) same
          (rows_stopped c.args.view.now c.args.trace.now.config c.until-events.result.now c.as_slice-widths.result.now
          c.in_ok-run.run'.core _ _ _ _ o c.in_ok-write_head.ensures.ok c.in_err-write_rows.ensures.err.1),
    )

pub returns-clause-ok : goal.returns-clause-ok
returns-clause-ok g c =
    let o = opened c.args.view.now c.args.trace.now.config c.until-events.result.now c.until-events.result.now c.as_slice-widths.result.now
    c.in_ok-widths.widths.items c.in_ok-run.run'.core c.in_ok-run.run'.holders.items refl c.in_ok-run.ensures.opening
    c.in_ok-run.ensures.holders
    c.as_slice-widths.ensures.value c.in_ok-widths.ensures.count c.in_ok-widths.ensures.rooms in
    let same = c.until-events.ensures ∙ ap (events_until c.args.view.now) c.as_slice.ensures.value in
    explained_to_the_end c.write_end.result c.args.view.now c.args.trace.now.config
    (events_until c.args.view.now c.args.trace.now.events.items) c.until-events.result.now
    c.as_slice-widths.result.now c.in_ok-run.run'.core c.write_rows.new.run.core _ _ _ _ _ same o
    c.in_ok-write_head.ensures.ok c.in_ok-write_rows.ensures.ok c.write_end.ensures.ok

pub returns-clause-err : goal.returns-clause-err
returns-clause-err g c =
    let o = opened c.args.view.now c.args.trace.now.config c.until-events.result.now c.until-events.result.now c.as_slice-widths.result.now
    c.in_ok-widths.widths.items c.in_ok-run.run'.core c.in_ok-run.run'.holders.items refl c.in_ok-run.ensures.opening
    c.in_ok-run.ensures.holders
    c.as_slice-widths.ensures.value c.in_ok-widths.ensures.count c.in_ok-widths.ensures.rooms in
    let same = c.until-events.ensures ∙ ap (events_until c.args.view.now) c.as_slice.ensures.value in
    stopped_at_the_end c.write_end.result c.args.view.now c.args.trace.now.config
    (events_until c.args.view.now c.args.trace.now.events.items) c.until-events.result.now
    c.as_slice-widths.result.now c.in_ok-run.run'.core c.write_rows.new.run.core _ _ _ _ _ same o
    c.in_ok-write_head.ensures.ok c.in_ok-write_rows.ensures.ok c.write_end.ensures.err
