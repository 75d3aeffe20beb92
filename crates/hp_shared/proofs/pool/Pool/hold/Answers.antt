use Rattle.std.proofs.Common.{◌≡◌, ◌∙◌, rules, subst, sym}
use Rattle.std.specs.Prelude.{◌&&◌}
use Rattle.hp_core.specs.Passing.{may_release}
use Rattle.hp_core.specs.State.{as_state}
use Rattle.hp_machine.specs.Events.{IsReached}
use Rattle.hp_shared.specs.Journal.{is_made}
use Rattle.hp_shared.specs.States.{PoolState}
use Rattle.hp_shared.proofs.Waking.{others_waiting, still_waiting}
use Rattle.hp_shared.proofs.pool.Pool.hold.Goals as goal

pub returns-clause-waiting : goal.returns-clause-waiting
returns-clause-waiting g c none =
    let old = c.args.self.now in
    let outcome = c.in_ok-outcome.outcome in
    let released : c.if-may_release.result ≡ (may_release old.core c.args.event && is_made outcome) = search rules in
    still_waiting old c.advance.new.self c.args.event outcome
    (subst (λ (p : PoolState). IsReached (as_state p.core)) c.self.view_is c.is_reached.ensures) c.in_ok-outcome.ensures.row
    (λ held. (c.in_ok-outcome.ensures.held held).0) (sym released ∙ none)

pub returns-clause-others : goal.returns-clause-others
returns-clause-others g c none =
    let old = c.args.self.now in
    let outcome = c.in_ok-outcome.outcome in
    let released : c.if-may_release.result ≡ (may_release old.core c.args.event && is_made outcome) = search rules in
    others_waiting c.args.seat.now.task old c.advance.new.self c.args.event outcome
    (subst (λ (p : PoolState). IsReached (as_state p.core)) c.self.view_is c.is_reached.ensures) c.in_ok-outcome.ensures.row
    (λ held. (c.in_ok-outcome.ensures.held held).0) c.requires (sym released ∙ none)
