use Rattle.std.proofs.Common.{◌≡◌, length, arith, ◌∙◌, sym}
use Rattle.hp_summary.proofs.Noted.{none_more, one_below}
use Rattle.hp_summary.proofs.phases.mark_all.Goals as goal
use Rattle.hp_summary.proofs.phases.mark_all.Goals.{in-Some-beside, in_default-beside}

pub loop-other-preserved : goal.loop-other-preserved
loop-other-preserved c = elim c.match-beside.branch [
  | in-Some-beside w ↦ rw w.met-is (one_below c.args.phases.now c.args.met.now c.loop-other.met w.mark_pair.new.met
      c.args.place c.loop-other.other c.in-Some.at w.in-Some-beside.standing c.in-Some.is (sym c.beside.ensures ∙ w.in-Some-beside.is)
      w.mark_pair.ensures.long w.mark_pair.ensures.marked c.loop-other.invariant)
  | in_default-beside w ↦ rw w.met-is (none_more c.args.phases.now c.args.met.now c.loop-other.met c.args.place
      c.loop-other.other (λ b e. w.in_default-beside.not-Some b (c.beside.ensures ∙ e)) c.loop-other.invariant)
]

pub returns-clause-marked : goal.returns-clause-marked
returns-clause-marked c =
    let all : c.loop-other.other ≡ length c.args.phases.now = omega (arith, c.loop-other-test.false, c.loop-other.auto.other-end) in
    λ p q. rw (sym all) (c.loop-other.invariant.marked p q)
