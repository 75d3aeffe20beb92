use Rattle.std.proofs.Common.{arith, ◌∙◌, ap}
use Rattle.hp_core.specs.declared.task_state.TaskState.{TaskState}
use Rattle.hp_core.specs.declared.standing.Standing.{Standing}
use Rattle.hp_core.specs.State.{calls_of}
use Rattle.hp_core.specs.Acquiring.{wanted_by, acquired_of}
use Rattle.hp_core.proofs.Reading.{task_state_in, task_state_read}
use Rattle.hp_core.proofs.core_state.Core.acquiring.Goals as goal

pub index-requires : goal.index-requires
index-requires c =
    let l = task_state_in c.self.view_is c.self.invariant c.place.ensures c.requires.first c.requires.last in
    omega (arith, l)

pub returns : goal.returns
unfolding acquired_of calls_of
returns c =
    let read = task_state_read c.self.view_is c.self.invariant c.place.ensures c.requires.first c.requires.last c.index.ensures in
    ap (λ (s : Standing). s.wants) c.standing_of.ensures.standing ∙ ap (λ (y : TaskState). wanted_by y.call) read
