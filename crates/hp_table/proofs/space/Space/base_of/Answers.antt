use Rattle.std.proofs.Common.{Some, sym, ◌∙◌}
use Rattle.hp_base.specs.declared.limits.TheConstants.{VPNS}
use Rattle.hp_table.proofs.Spread.{base_of_is, base_of-is_base}
use Rattle.hp_table.proofs.space.Space.base_of.Goals as goal

pub returns-in_err-holder-clause-base : goal.returns-in_err-holder-clause-base
returns-in_err-holder-clause-base c =
    rw (← c.self.view_is, ← c.deref.ensures.value)
    (c.from_residual.ensures ∙ sym (base_of_is c.deref.result.now c.args.vpn _ (c.in_err-holder.ensures {u = tt})))

pub returns-in_err-holder-clause-begins : goal.returns-in_err-holder-clause-begins
returns-in_err-holder-clause-begins c =
    let base = base_of_is c.deref.result.now c.args.vpn _ (c.in_err-holder.ensures {u = tt}) in
    let both = base_of-is_base VPNS 0 c.deref.result.now c.args.vpn (rw c.deref.ensures.value c.self.invariant.spread) in
    rw (← c.self.view_is, ← c.deref.ensures.value)
    (λ h. both.0 (base ∙ (sym c.from_residual.ensures ∙ h)), λ h. c.from_residual.ensures ∙ (sym base ∙ both.1 h))

pub returns-clause-base : goal.returns-clause-base
returns-clause-base c =
    rw (← c.self.view_is, ← c.deref.ensures.value)
    (sym (base_of_is c.deref.result.now c.args.vpn (Some c.in_ok-holder.holder) (c.in_ok-holder.ensures {u = tt})))

pub returns-clause-begins : goal.returns-clause-begins
returns-clause-begins c =
    let base = base_of_is c.deref.result.now c.args.vpn (Some c.in_ok-holder.holder) (c.in_ok-holder.ensures {u = tt}) in
    let both = base_of-is_base VPNS 0 c.deref.result.now c.args.vpn (rw c.deref.ensures.value c.self.invariant.spread) in
    rw (← c.self.view_is, ← c.deref.ensures.value) (λ h. both.0 (base ∙ h), λ h. sym base ∙ both.1 h)
