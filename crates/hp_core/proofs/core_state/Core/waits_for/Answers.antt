use Rattle.std.proofs.Common.{◌∙◌, ap, arith}
use Rattle.hp_parts.specs.State.{state_of}
use Rattle.hp_core.specs.declared.task_state.TaskState.{TaskState}
use Rattle.hp_core.specs.Blockers.{task_blocker}
use Rattle.hp_core.proofs.Reading.{task_state_in, task_state_read}
use Rattle.hp_core.proofs.Waits.{waits, locks_fit}
use Rattle.hp_core.proofs.core_state.Core.waits_for.Goals as goal

pub index-requires : goal.index-requires
index-requires c =
    let l = task_state_in c.self.view_is c.self.invariant c.place.ensures c.requires.first c.requires.last in
    omega (arith, l)

pub task_state_blocker-requires : goal.task_state_blocker-requires
task_state_blocker-requires c = locks_fit _ c.self.invariant

pub returns : goal.returns
returns c =
    let read = task_state_read c.self.view_is c.self.invariant c.place.ensures c.requires.first c.requires.last c.index.ensures in
    waits c.args.task _ c.self.view_is c.self.invariant
    (c.task_state_blocker.ensures ∙ ap (λ (y : TaskState). task_blocker (state_of c.self.inside.parts) y) read)
