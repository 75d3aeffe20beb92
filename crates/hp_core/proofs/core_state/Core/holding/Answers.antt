use Rattle.std.proofs.Common.{arith, ◌∙◌, ap}
use Rattle.hp_core.specs.declared.task_state.TaskState.{TaskState}
use Rattle.hp_core.specs.declared.holding.Holding.{Holding}
use Rattle.hp_core.specs.declared.standing.Standing.{Standing}
use Rattle.hp_core.specs.State.{calls_of}
use Rattle.hp_core.specs.Holding.{held_by, holding_of}
use Rattle.hp_core.proofs.Reading.{task_state_in, task_state_read}
use Rattle.hp_core.proofs.core_state.Core.holding.Goals as goal

pub index-requires : goal.index-requires
index-requires c =
    let l = task_state_in c.self.view_is c.self.invariant c.place.ensures c.requires.first c.requires.last in
    omega (arith, l)

pub returns : goal.returns
unfolding holding_of calls_of
returns c =
    let read = task_state_read c.self.view_is c.self.invariant c.place.ensures c.requires.first c.requires.last c.index.ensures in
    ap {B = Holding} (λ (s : Standing). record { slot = s.slot; lock = s.lock }) c.standing_of-standing.ensures.standing
    ∙ ap (λ (y : TaskState). held_by y.call) read
