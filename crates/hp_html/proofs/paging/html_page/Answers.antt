use Rattle.hp_html.proofs.Writing.{not_paged}
use Rattle.hp_html.proofs.paging.html_page.Goals as goal

pub returns-clause-err : goal.returns-clause-err
returns-clause-err g c = not_paged c.write_html_page.result _ _ _ _ _ _ c.in_ok-trace.ensures.ok c.write_html_page.ensures.err
