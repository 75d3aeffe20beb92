use Rattle.std.proofs.lemmas.Result.{err_from_is_err_and}
use Rattle.hp_base.specs.Text.{sizes}
use Rattle.hp_html.specs.HtmlPages.{in_head}
use Rattle.hp_html.proofs.Writing.{objects_stopped, page_wrote, tail_stopped}
use Rattle.hp_html.proofs.paging.write_html_page.Goals as goal

pub returns-in_err-write_head-clause-err : goal.returns-in_err-write_head-clause-err
returns-in_err-write_head-clause-err g c =
    let p = err_from_is_err_and c.from_residual.result c.from_residual.ensures.1 in
    rw (p.1, p.2) (c.in_err-write_head.ensures.err.0, in_head c.in_err-write_head.ensures.err.1)

pub returns-in_err-write_objects-clause-err : goal.returns-in_err-write_objects-clause-err
returns-in_err-write_objects-clause-err g c =
    let p = err_from_is_err_and c.from_residual-in_err-write_objects.result c.from_residual-in_err-write_objects.ensures.1 in
    rw (p.1, p.2) (
      c.in_err-write_objects.ensures.err.0,
      objects_stopped c.whole.result (sizes c.args.trace.now.config) c.args.trace.now.events.items _ _ _ c.whole.ensures
          c.requires c.in_ok-write_head.ensures.ok c.in_err-write_objects.ensures.err.1,
    )

pub returns-clause-ok : goal.returns-clause-ok
returns-clause-ok g c =
    page_wrote c.write_tail.result c.whole.result (sizes c.args.trace.now.config) c.args.trace.now.events.items _ _ _ _ c.whole.ensures
    c.requires c.in_ok-write_head.ensures.ok c.in_ok-write_objects.ensures.ok c.write_tail.ensures.ok

pub returns-clause-err : goal.returns-clause-err
returns-clause-err g c =
    tail_stopped c.write_tail.result c.whole.result (sizes c.args.trace.now.config) c.args.trace.now.events.items _ _ _ _ c.whole.ensures
    c.requires c.in_ok-write_head.ensures.ok c.in_ok-write_objects.ensures.ok c.write_tail.ensures.err
