use Rattle.std.proofs.lemmas.Result.{on_ok_weaker}
use Rattle.hp_judge.specs.Findings.{IsBoundFinding}
use Rattle.hp_judge.proofs.Adding.{adds_both, adds_if}
use Rattle.hp_judge.proofs.judging.add_bounds.Goals as goal

pub returns : goal.returns
unfolding IsBoundFinding
returns c =
    on_ok_weaker c.add_if-2.result (λ last. adds_both _ _ _ _ _ (adds_if _ _ _ _ _ c.is_above_free.ensures c.in_ok-add_if.ensures)
    (adds_if _ _ _ _ _ c.is_above_quota.ensures last)) c.add_if-2.ensures
