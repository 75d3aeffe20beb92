use Rattle.std.proofs.Common.{arith}
use Rattle.hp_judge.proofs.Adding.{adds_same, no_line_yet, one_line_more}
use Rattle.hp_judge.specs.Findings.{IsUnkept}
use Rattle.hp_judge.proofs.lines.add_lines.Goals as goal

pub loop-number-init : goal.loop-number-init
loop-number-init c = no_line_yet c.args.places.now c.args.clause c.args.findings.now.items

pub loop-number-preserved : goal.loop-number-preserved
loop-number-preserved c =
    one_line_more c.args.places.now c.args.clause c.loop-number.number c.args.findings.now.items c.loop-number.findings.items _ c.loop-number.invariant
    c.in_ok-add_line.ensures

pub returns : goal.returns
unfolding IsUnkept
returns c =
    adds_same _ _ c.args.findings.now.items c.loop-number.findings.items c.loop-number.invariant (λ f q. (
      q.0,
      q.1,
      omega (arith, q.2, c.loop-number.auto.number-end, c.lines_of-number-end.ensures),
      q.3,
    )) (λ f q. (
      q.0,
      q.1,
      omega (arith, q.2, c.loop-number-test.false, c.lines_of-number-end.ensures),
      q.3,
    ))
