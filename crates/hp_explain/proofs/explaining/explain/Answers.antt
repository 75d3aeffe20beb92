use Rattle.hp_explain.proofs.Texts.{not_explained}
use Rattle.hp_explain.proofs.explaining.explain.Goals as goal

pub returns-clause-err : goal.returns-clause-err
returns-clause-err g c =
    not_explained c.explain_trace.result c.args.view.now _ _ _ _ _ _ c.in_ok-trace.ensures.ok c.explain_trace.ensures.err
