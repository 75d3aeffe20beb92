use Rattle.std.proofs.Common.{◌≡◌, false, true, sym, ◌∙◌}
use Rattle.hp_judge.proofs.AllKinds.{no_counts, some_counts}
use Rattle.hp_judge.proofs.judging.add_counts_that_can_be.Goals.{else-all_keep-via-then-all_keep+else-all_keep-2, else-all_keep-via-else-all_keep}
use Rattle.hp_judge.proofs.judging.add_counts_that_can_be.Goals as goal

pub returns-in_ok-add_counts : goal.returns-in_ok-add_counts
returns-in_ok-add_counts c =
    some_counts c.args.counts c.args.places.now _ _ (
      c.all_keep.ensures.0 c.if-all_keep.true,
      c.all_keep-then-all_keep.ensures.0 c.if-all_keep-2.true,
    ) c.in_ok-add_counts.ensures

pub returns-else-all_keep : goal.returns-else-all_keep
returns-else-all_keep c =
    no_counts c.args.counts c.args.places.now _ (λ can. elim c.else-all_keep.branch [
      | else-all_keep-via-then-all_keep+else-all_keep-2 w ↦
          (let z : false ≡ true = sym w.if-all_keep-2.false ∙ w.all_keep-then-all_keep.ensures.1 can.1 in absurd (cc))
      | else-all_keep-via-else-all_keep w ↦ (let z : false ≡ true = sym w.if-all_keep.false ∙ c.all_keep.ensures.1 can.0 in absurd (cc))
    ])
