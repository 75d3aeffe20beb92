use Rattle.std.proofs.lemmas.Result.{on_ok_weaker}
use Rattle.hp_judge.proofs.AllKinds.{all_lines}
use Rattle.hp_judge.proofs.judging.add_all_lines.Goals as goal

pub returns : goal.returns
returns c =
    on_ok_weaker c.add_lines-5.result (λ last. all_lines c.args.places.now _ _ _ _ _ _ c.in_ok-add_lines.ensures c.in_ok-add_lines-2.ensures
    c.in_ok-add_lines-3.ensures c.in_ok-add_lines-4.ensures last) c.add_lines-5.ensures
