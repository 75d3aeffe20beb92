use Rattle.std.proofs.Common.{◌∙◌, ap, subst}
use Rattle.hp_frames.specs.Bank.{BankState, is_retired, retired_frames, AreThose}
use Rattle.hp_frames.specs.Records.{chained}
use Rattle.hp_frames.proofs.Chains.{chained_all}
use Rattle.hp_frames.proofs.bank.Bank.retired.Goals as goal

pub invariant_of-result : goal.invariant_of-result
invariant_of-result c =
    let all = chained_all is_retired _ _ _ c.deref.ensures.value c.self.invariant.kept.retired in
    record { within = all.within; counted = all.counted }

pub returns-clause-those : goal.returns-clause-those
returns-clause-those c =
    let all = chained_all is_retired _ _ _ c.deref.ensures.value c.self.invariant.kept.retired in
    subst
    (λ (b : BankState). AreThose is_retired b.frames (chained c.deref.result.now c.self.inside.retired.count c.self.inside.retired.first))
    c.self.view_is
    all.those

pub returns-clause-count : goal.returns-clause-count
returns-clause-count c =
    let all = chained_all is_retired _ _ _ c.deref.ensures.value c.self.invariant.kept.retired in
    all.count ∙ ap (λ (b : BankState). retired_frames b.frames) c.self.view_is
