use Rattle.std.proofs.Common.{◌∙◌, List, Option, sym, subst, ap}
use Rattle.hp_machine.specs.declared.outcome.Outcome.{Outcome}
use Rattle.hp_parts.specs.State.{state_of}
use Rattle.hp_core.specs.declared.task_state.TaskState.{TaskState}
use Rattle.hp_core.specs.HeldBack.{HeldBack, event_blocker}
use Rattle.hp_core.specs.Refusals.{refusal_of}
use Rattle.hp_core.proofs.HeldBack.{read_back}
use Rattle.hp_core.proofs.Waits.{locks_fit}
use Rattle.hp_core.proofs.core_state.Core.held_back.Goals as goal

pub event_blocker-holder-requires : goal.event_blocker-holder-requires
event_blocker-holder-requires c = locks_fit _ c.self.invariant

pub returns : goal.returns
returns c =
    subst (λ (held : Option Outcome). HeldBack c.args.self.now c.args.event held) (sym c.idle_outcome.ensures)
    (read_back _ _ c.args.event c.refusal-refusal.result c.event_blocker-holder.result c.self.view_is c.self.invariant
    (c.refusal-refusal.ensures ∙ ap (λ (task_states : List TaskState). refusal_of task_states c.args.event) c.deref.ensures.value)
    (c.event_blocker-holder.ensures
    ∙ ap (λ (task_states : List TaskState). event_blocker (state_of c.self.inside.parts) task_states c.args.event) c.deref-2.ensures.value))
