use Rattle.std.proofs.Common.{rules, arith, ◌∙◌, ap, length}
use Rattle.hp_core.specs.Readers.{owed_of}
use Rattle.hp_core.proofs.Sums.{owed_is}
use Rattle.hp_core.proofs.Reading.{few_task_states}
use Rattle.hp_core.proofs.core_state.Core.owed.Goals as goal

pub sums-behind-requires : goal.sums-behind-requires
sums-behind-requires c =
    let few = few_task_states _ c.self.invariant in
    let same = ap length c.deref.ensures.value in
    omega (arith, few, same)

pub returns : goal.returns
returns c =
    let is = c.difference.ensures
    ∙ (owed_is _ _ _ _ c.self.invariant c.deref.ensures.value c.sums-behind.ensures.behind c.sums-behind.ensures.ahead
    ∙ ap owed_of c.self.view_is) in
    search (rules, is)
