use Rattle.std.proofs.Common.{arith}
use Rattle.std.specs.List.{flat_map}
use Rattle.hp_machine.specs.declared.phase.Phase.TheVariants as phase
use Rattle.hp_phases.specs.Phases.{all_phases}
use Rattle.hp_summary.specs.SummaryText.{met_line}
use Rattle.hp_summary.proofs.Laid.{laid_all, laid_more}
use Rattle.hp_summary.proofs.summary_text.push_met.Goals as goal

pub loop-place-preserved : goal.loop-place-preserved
loop-place-preserved c =
    laid_more (λ p. flat_map (met_line c.args.met.now p) all_phases) all_phases c.loop-place.place c.phase_at.result phase.Start _ _ _
    (omega (arith, c.loop-place-test.true)) c.phase_at.ensures c.loop-place.invariant c.in_ok-push_pairs.ensures

pub returns : goal.returns
returns c =
    laid_all (λ p. flat_map (met_line c.args.met.now p) all_phases) all_phases c.loop-place.place _ _
    (omega (arith, c.loop-place-test.false)) c.loop-place.invariant
