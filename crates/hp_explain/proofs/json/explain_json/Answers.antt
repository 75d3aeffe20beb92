use Rattle.hp_explain.proofs.JsonTexts.{not_explained}
use Rattle.hp_explain.proofs.json.explain_json.Goals as goal

pub returns-clause-err : goal.returns-clause-err
returns-clause-err g c =
    not_explained c.write_objects.result c.args.view.now _ _ _ _ _ _ c.in_ok-trace.ensures.ok c.write_objects.ensures.err
