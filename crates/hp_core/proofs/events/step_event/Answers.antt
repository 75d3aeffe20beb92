use Rattle.std.proofs.Common.{List, ap, sym, ◌∙◌}
use Rattle.hp_parts.specs.State.{state_of}
use Rattle.hp_core.specs.declared.task_state.TaskState.{TaskState}
use Rattle.hp_core.specs.Refusals.{refusal_of}
use Rattle.hp_core.proofs.Refusals.{refused_event, admitted_event}
use Rattle.hp_core.proofs.events.step_event.Goals as goal

pub returns-in-Some-clause-row : goal.returns-in-Some-clause-row
returns-in-Some-clause-row c =
    refused_event (state_of c.args.parts.now) c.args.task_states.now.items c.args.event c.in-Some.why
    (sym (c.refusal.ensures ∙ ap (λ (task_states : List TaskState). refusal_of task_states c.args.event) c.deref.ensures.value)
    ∙ c.in-Some.is)

pub returns-in-None-clause-row : goal.returns-in-None-clause-row
returns-in-None-clause-row c =
    admitted_event _ _ c.args.task_states.now.items _ c.args.event c.step_admitted.result
    (sym (c.refusal.ensures ∙ ap (λ (task_states : List TaskState). refusal_of task_states c.args.event) c.deref.ensures.value)
    ∙ c.in-None.is) c.step_admitted.ensures.row
