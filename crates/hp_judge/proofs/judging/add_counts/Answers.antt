use Rattle.std.proofs.lemmas.Result.{on_ok_weaker}
use Rattle.hp_judge.specs.Findings.{IsCountFinding}
use Rattle.hp_judge.proofs.Adding.{adds_both, adds_some}
use Rattle.hp_judge.proofs.judging.add_counts.Goals as goal

pub returns : goal.returns
unfolding IsCountFinding
returns c =
    on_ok_weaker c.add_some-2.result (λ last. adds_both _ _ _ _ _
    (adds_some _ _ _ _ _ c.wrong_count.ensures.some (λ none other. other (c.wrong_count.ensures.none none)) c.in_ok-add_some.ensures)
    (adds_some _ _ _ _ _ c.wrong_used.ensures.some (λ none other. other (c.wrong_used.ensures.none none)) last)) c.add_some-2.ensures
