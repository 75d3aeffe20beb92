-- One run more misses.
use Rattle.std.proofs.Common.{ℕ, arith, inl, inr, subst, sym}
use Rattle.hp_base.proofs.Puts.{same_or_other}
use Rattle.hp_explore.specs.Schedule.{Plan}
use Rattle.hp_hunt.specs.Hunting.{RunMisses}
use Rattle.hp_hunt.proofs.finding.find_alone.Goals as goal

pub loop-run-preserved : goal.loop-run-preserved
loop-run-preserved c = λ run within.
    let Misses : ℕ → Type 0 =
    λ k. RunMisses c.args.script.now c.args.hunt.seed c.args.hunt.chances.deny c.args.hunt.chances.kill c.args.conditions.now k
    in
    let missed = rw c.if-branch.false at c.in_ok-explore_run.ensures.met in
    elim (same_or_other run c.loop-run.run) [
      | inl same ↦ subst Misses (sym same)
          (subst (λ (q : Plan). RunMisses c.args.script.now c.args.hunt.seed q.deny q.kill c.args.conditions.now c.loop-run.run)
          c.in_ok-plan.ensures missed)
      | inr other ↦ c.loop-run.invariant run (omega (arith, within, other))
    ]
