use Rattle.std.proofs.Common.{◌∙◌, ◌-◌, arith}
use Rattle.std.proofs.lemmas.List.{length-set}
use Rattle.hp_watch.proofs.Phases.{outcome_agrees, phases_after}
use Rattle.hp_summary.proofs.Noted.{met_more, met_same, phases_stay}
use Rattle.hp_summary.proofs.noting.note_phase.Goals as goal

pub phase_after-requires-clause-agrees : goal.phase_after-requires-clause-agrees
phase_after-requires-clause-agrees c =
    let came = c.requires.came in
    outcome_agrees came.old c.args.core.now c.args.event.now c.args.outcome.now c.in-Some.task came.reached came.row c.in-Some.ensures.some

pub returns-in-Some-clause-phases : goal.returns-in-Some-clause-phases
returns-in-Some-clause-phases c =
    let came = c.requires.came in
    rw c.place.ensures (phases_after came.old c.args.core.now c.args.event.now c.args.outcome.now c.in-Some.task c.args.phases.now.items
    c.phase_after.result came.row c.in-Some.ensures.some c.in-Some.ensures.there.0 c.phase_after.ensures came.were)

pub returns-in-Some-clause-met : goal.returns-in-Some-clause-met
returns-in-Some-clause-met c =
    let marked = rw (c.as_slice.ensures.value, c.place-in-Some.ensures, c.place.ensures) at c.mark_meetings.ensures.marked in
    let are = rw c.place.ensures at (returns-in-Some-clause-phases c) in
    let long = length-set c.args.phases.now.items (c.in-Some.task - 1) c.phase_after.result ∙ c.requires.tasks ∙ c.requires.sized in
    λ old before row met. met_more old c.args.core.now c.args.event.now c.args.outcome.now c.in-Some.task _ c.args.met.now.items
    c.mark_meetings.new.met.items before row c.in-Some.ensures.some c.is_reached.ensures c.always.ensures.config long are
    c.in-Some.ensures.there.0 marked met

pub returns-in_default-clause-phases : goal.returns-in_default-clause-phases
returns-in_default-clause-phases c =
    let came = c.requires.came in
    phases_stay came.old c.args.core.now c.args.event.now c.args.outcome.now c.args.phases.now.items came.row
    (λ u one there. c.task_among.ensures.none c.in_default.is u one (omega (arith, there, c.requires.tasks))) came.were

pub returns-in_default-clause-met : goal.returns-in_default-clause-met
returns-in_default-clause-met c =
    λ old before row met. met_same old c.args.core.now c.args.event.now c.args.outcome.now c.args.tasks c.args.met.now.items before row
    (c.task_among.ensures.none c.in_default.is) c.is_reached.ensures c.always.ensures.config c.requires.sized met
