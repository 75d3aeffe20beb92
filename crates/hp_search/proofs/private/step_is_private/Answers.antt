use Rattle.std.proofs.Common.{◌∙◌, ◌<◌, List, ap, subst, arith, length}
use Rattle.std.specs.Prelude.{◌↔◌, IsTrue}
use Rattle.hp_parts.specs.State.{PartsState, state_of}
use Rattle.hp_core.specs.Readers.{config_of}
use Rattle.hp_every.specs.Private.{StepIsPrivate}
use Rattle.hp_core.specs.declared.task_state.TaskState.{TaskState}
use Rattle.hp_search.proofs.Wanted.{private_at}
use Rattle.hp_search.proofs.private.step_is_private.Goals as goal

pub bounds-task_states-place : goal.bounds-task_states-place
unfolding config_of
bounds-task_states-place c =
    let long = ap (λ (xs : List TaskState). length xs) c.task_states.ensures ∙ c.parts-parts.ensures.kept.task_states in
    omega (arith, c.place.ensures, c.requires, long)

pub call_is_private-requires : goal.call_is_private-requires
unfolding config_of
call_is_private-requires c =
    let long = ap (λ (p : PartsState). length p.spaces) c.parts-parts.ensures.parts ∙ c.parts-parts.ensures.kept.spaces in
    (c.requires.0, omega (arith, c.requires, long))

pub returns-in-Some : goal.returns-in-Some
unfolding config_of
returns-in-Some c =
    let long = ap (λ (xs : List TaskState). length xs) c.task_states.ensures ∙ c.parts-parts.ensures.kept.task_states in
    let within : c.place.result < length c.task_states.result.now = omega (arith, c.place.ensures, c.requires, long) in
    subst (λ (p : PartsState). IsTrue c.call_is_private.result ↔ StepIsPrivate p c.args.core.now.task_states c.args.task) c.parts-parts.ensures.parts
    (subst (λ (states : List TaskState). IsTrue c.call_is_private.result ↔ StepIsPrivate (state_of c.parts-parts.result.now) states c.args.task)
    c.task_states.ensures
    (private_at (state_of c.parts-parts.result.now) c.task_states.result.now c.args.task c.place.result c.index-task_states-place.result
    c.in-Some.call c.call_is_private.result c.requires.0 c.place.ensures within c.in-Some.is c.call_is_private.ensures))
