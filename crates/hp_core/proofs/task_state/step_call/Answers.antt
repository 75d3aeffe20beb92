use Rattle.std.proofs.Common.{sym, ap, ◌∙◌}
use Rattle.std.specs.Prelude.{Some, Ok}
use Rattle.hp_machine.specs.declared.call.Call.TheVariants as call
use Rattle.hp_parts.specs.View.{view}
use Rattle.hp_core.proofs.Rows.{touch_row, map_row, alloc_row, punch_row, truncate_row, unmap_row, exit_row, task_state_row}
use Rattle.hp_core.proofs.Rows.{task_state_wants}
use Rattle.hp_core.proofs.Blocked.{settled_blocked}
use Rattle.hp_core.proofs.task_state.step_call.Goals as goal

pub returns-in-Some-Touch-clause-row : goal.returns-in-Some-Touch-clause-row
returns-in-Some-Touch-clause-row c =
    task_state_row _ _ _ _ _ _ _ _ _ _ (sym c.take.ensures.value ∙ c.in-Some-Touch.is ∙ ap (λ it. Some it) c.in-Some-Touch.field-0-is)
    c.is_killed-killed.ensures (touch_row _ _ _ _ _ _ _ _ _ c.settle.ensures.call c.step_touch-turn.ensures.row)

pub returns-in-Some-Map-clause-row : goal.returns-in-Some-Map-clause-row
returns-in-Some-Map-clause-row c =
    task_state_row _ _ _ _ _ _ _ _ _ _ (sym c.take.ensures.value ∙ c.in-Some-Map.is ∙ ap (λ it. Some it) c.in-Some-Map.field-0-is)
    c.is_killed-killed.ensures (map_row _ _ _ _ _ _ _ _ _ c.settle-in-Some-Map.ensures.call c.step_map-turn.ensures.row)

pub returns-in-Some-Alloc-clause-row : goal.returns-in-Some-Alloc-clause-row
returns-in-Some-Alloc-clause-row c =
    task_state_row _ _ _ _ _ _ _ _ _ _ (sym c.take.ensures.value ∙ c.in-Some-Alloc.is ∙ ap (λ it. Some it) c.in-Some-Alloc.field-0-is)
    c.is_killed-killed.ensures (alloc_row _ _ _ _ _ _ _ _ _ c.settle-in-Some-Alloc.ensures.call c.step_alloc-turn.ensures.row)

pub returns-in-Some-Punch-clause-row : goal.returns-in-Some-Punch-clause-row
returns-in-Some-Punch-clause-row c =
    task_state_row _ _ _ _ _ _ _ _ _ _ (sym c.take.ensures.value ∙ c.in-Some-Punch.is ∙ ap (λ it. Some it) c.in-Some-Punch.field-0-is)
    c.is_killed-killed.ensures (punch_row _ _ _ _ _ _ _ _ _ c.settle-in-Some-Punch.ensures.call c.step_punch-turn.ensures.row)

pub returns-in-Some-Truncate-clause-row : goal.returns-in-Some-Truncate-clause-row
returns-in-Some-Truncate-clause-row c =
    task_state_row _ _ _ _ _ _ _ _ _ _ (sym c.take.ensures.value ∙ c.in-Some-Truncate.is ∙ ap (λ it. Some it) c.in-Some-Truncate.field-0-is)
    c.is_killed-killed.ensures (truncate_row _ _ _ _ _ _ _ _ _ c.settle-in-Some-Truncate.ensures.call c.step_truncate-turn.ensures.row)

pub returns-in-Some-Unmap-clause-row : goal.returns-in-Some-Unmap-clause-row
returns-in-Some-Unmap-clause-row c =
    task_state_row _ _ _ _ _ _ _ _ _ _ (sym c.take.ensures.value ∙ c.in-Some-Unmap.is ∙ ap (λ it. Some it) c.in-Some-Unmap.field-0-is)
    c.is_killed-killed.ensures (unmap_row _ _ _ _ _ _ _ _ _ c.settle-in-Some-Unmap.ensures.call c.step_unmap-turn.ensures.row)

pub returns-in-Some-Exit-clause-row : goal.returns-in-Some-Exit-clause-row
returns-in-Some-Exit-clause-row c =
    task_state_row _ _ _ _ _ _ _ _ _ _ (sym c.take.ensures.value ∙ c.in-Some-Exit.is ∙ ap (λ it. Some it) c.in-Some-Exit.field-0-is)
    c.is_killed-killed.ensures (exit_row _ _ _ _ _ _ _ _ _ c.settle-in-Some-Exit.ensures.call c.step_exit-turn.ensures.row)

pub returns-in-Some-Punch-clause-memory : goal.returns-in-Some-Punch-clause-memory
returns-in-Some-Punch-clause-memory c =
    record {
      sizes = c.step_punch-turn.ensures.memory.sizes;
      capacity = λ no. c.step_punch-turn.ensures.memory.capacity
          (λ yes. no (
            yes.0,
            task_state_wants (view c.args.parts.now) c.args.task c.args.task_state.now.call (call.Punch c.in-Some-Punch.phase)
                (sym c.take.ensures.value ∙ c.in-Some-Punch.is ∙ ap (λ it. Some it) c.in-Some-Punch.field-0-is) yes.1,
          ));
    }

pub returns-in-Some-Touch-clause-blocked : goal.returns-in-Some-Touch-clause-blocked
returns-in-Some-Touch-clause-blocked c =
    settled_blocked call.Touch _ _ _ _ _ _ (sym c.take.ensures.value ∙ c.in-Some-Touch.is ∙ ap (λ it. Some it) c.in-Some-Touch.field-0-is)
    c.settle.ensures.life c.settle.ensures.call c.step_touch-turn.ensures.blocked

pub returns-in-Some-Map-clause-blocked : goal.returns-in-Some-Map-clause-blocked
returns-in-Some-Map-clause-blocked c =
    settled_blocked call.Map _ _ _ _ _ _ (sym c.take.ensures.value ∙ c.in-Some-Map.is ∙ ap (λ it. Some it) c.in-Some-Map.field-0-is)
    c.settle-in-Some-Map.ensures.life c.settle-in-Some-Map.ensures.call c.step_map-turn.ensures.blocked

pub returns-in-Some-Alloc-clause-blocked : goal.returns-in-Some-Alloc-clause-blocked
returns-in-Some-Alloc-clause-blocked c =
    settled_blocked call.Alloc _ _ _ _ _ _ (sym c.take.ensures.value ∙ c.in-Some-Alloc.is ∙ ap (λ it. Some it) c.in-Some-Alloc.field-0-is)
    c.settle-in-Some-Alloc.ensures.life c.settle-in-Some-Alloc.ensures.call c.step_alloc-turn.ensures.blocked

pub returns-in-Some-Punch-clause-blocked : goal.returns-in-Some-Punch-clause-blocked
returns-in-Some-Punch-clause-blocked c =
    settled_blocked call.Punch _ _ _ _ _ _ (sym c.take.ensures.value ∙ c.in-Some-Punch.is ∙ ap (λ it. Some it) c.in-Some-Punch.field-0-is)
    c.settle-in-Some-Punch.ensures.life c.settle-in-Some-Punch.ensures.call c.step_punch-turn.ensures.blocked

pub returns-in-Some-Truncate-clause-blocked : goal.returns-in-Some-Truncate-clause-blocked
returns-in-Some-Truncate-clause-blocked c =
    settled_blocked call.Truncate _ _ (Ok c.step_truncate-turn.result) _ _ _
    (sym c.take.ensures.value ∙ c.in-Some-Truncate.is ∙ ap (λ it. Some it) c.in-Some-Truncate.field-0-is)
    c.settle-in-Some-Truncate.ensures.life c.settle-in-Some-Truncate.ensures.call c.step_truncate-turn.ensures.blocked
