use Rattle.std.proofs.Common.{◌≡◌, arith, rules, ◌∙◌, ap}
use Rattle.std.specs.Prelude.{pos, ◌-ℤ◌}
use Rattle.hp_core.specs.declared.task_state.TaskState.{TaskState}
use Rattle.hp_core.specs.declared.standing.Standing.{Standing}
use Rattle.hp_core.specs.State.{calls_of}
use Rattle.hp_core.specs.Acquiring.{owed_by_call, owed_by_of}
use Rattle.hp_core.proofs.Reading.{task_state_in, task_state_read}
use Rattle.hp_core.proofs.core_state.Core.owed_by.Goals as goal

pub index-requires : goal.index-requires
index-requires c =
    let l = task_state_in c.self.view_is c.self.invariant c.place.ensures c.requires.first c.requires.last in
    omega (arith, l)

pub returns : goal.returns
unfolding owed_by_of calls_of
returns c =
    let read = task_state_read c.self.view_is c.self.invariant c.place.ensures c.requires.first c.requires.last c.index.ensures in
    let owes = ap (λ (s : Standing). pos s.ahead -ℤ pos s.behind) c.standing_of-standing.ensures.standing in
    let kept : (pos c.from.result -ℤ pos c.from-2.result)
    ≡ (pos c.standing_of-standing.result.ahead -ℤ pos c.standing_of-standing.result.behind) =
    λ i. pos (c.from.ensures i) -ℤ pos (c.from-2.ensures i) in
    let is = c.difference.ensures ∙ (kept ∙ (owes ∙ ap (λ (y : TaskState). owed_by_call y.call) read)) in
    search (rules, is)
