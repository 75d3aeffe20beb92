use Rattle.std.proofs.Common.{rules, arith, ◌∙◌, ap, length}
use Rattle.hp_core.specs.State.{CoreState}
use Rattle.hp_core.specs.Readers.{used_owed_of}
use Rattle.hp_core.proofs.Sums.{used_owed_is}
use Rattle.hp_core.proofs.Reading.{few_task_states}
use Rattle.hp_core.proofs.core_state.Core.used_owed.Goals as goal

pub all_uses-requires : goal.all_uses-requires
all_uses-requires c =
    let few = few_task_states _ c.self.invariant in
    let same = ap length c.deref.ensures.value in
    omega (arith, few, same)

pub returns : goal.returns
returns c =
    let is = c.signed.ensures
    ∙ (used_owed_is _ _ _ c.self.invariant c.deref.ensures.value c.all_uses.ensures.sum
    ∙ ap (λ (z : CoreState). used_owed_of z) c.self.view_is) in
    search (rules, is)
