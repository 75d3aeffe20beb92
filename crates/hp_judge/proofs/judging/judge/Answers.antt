use Rattle.hp_judge.proofs.AllKinds.{judged}
use Rattle.hp_judge.proofs.judging.judge.Goals as goal

pub returns-clause-each : goal.returns-clause-each
returns-clause-each c =
    (judged c.args.picture.now.counts c.args.picture.now.places c.new-findings.result.items _ _ _ _ c.new-findings.ensures.items
    c.in_ok-add_all_lines.ensures c.in_ok-add_frames.ensures c.in_ok-add_counts_that_can_be.ensures c.in_ok-add_bounds.ensures).0

pub returns-clause-every : goal.returns-clause-every
returns-clause-every c =
    (judged c.args.picture.now.counts c.args.picture.now.places c.new-findings.result.items _ _ _ _ c.new-findings.ensures.items
    c.in_ok-add_all_lines.ensures c.in_ok-add_frames.ensures c.in_ok-add_counts_that_can_be.ensures c.in_ok-add_bounds.ensures).1
