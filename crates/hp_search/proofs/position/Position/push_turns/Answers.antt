use Rattle.std.proofs.Common.{ℕ, subst}
use Rattle.std.specs.Prelude.{◌↔◌, IsTrue}
use Rattle.hp_every.specs.declared.turn.Turn.TheVariants as turn
use Rattle.hp_every.specs.Schedules.{MayTurn}
use Rattle.hp_search.specs.Searching.{place_of}
use Rattle.hp_search.proofs.Made.{apart_task, listed_task}
use Rattle.hp_search.proofs.position.Position.push_turns.Goals as goal

pub returns-clause-listed : goal.returns-clause-listed
returns-clause-listed c =
    let plan = c.args.plan.now in
    let p = place_of c.args.self.now in
    listed_task plan p c.args.task c.args.turns.now.items c.push_if.new.turns.items c.push_if-2.new.turns.items c.push_if-3.new.turns.items
    c.may_go_on.result c.may_deny.result c.may_kill.result c.in_ok-push_if.ensures.listed c.in_ok-push_if-2.ensures.listed
    c.in_ok-push_if-3.ensures.listed
    (subst (λ (k : ℕ). IsTrue c.may_go_on.result ↔ MayTurn plan p (turn.Next k)) c.from-number.ensures c.may_go_on.ensures)
    (subst (λ (k : ℕ). IsTrue c.may_deny.result ↔ MayTurn plan p (turn.Denied k)) c.from-number.ensures c.may_deny.ensures)
    (subst (λ (k : ℕ). IsTrue c.may_kill.result ↔ MayTurn plan p (turn.Killed k)) c.from-number.ensures c.may_kill.ensures)

pub returns-clause-apart : goal.returns-clause-apart
returns-clause-apart c = apart_task c.args.task c.args.turns.now.items c.push_if.new.turns.items c.push_if-2.new.turns.items
    c.push_if-3.new.turns.items c.may_go_on.result c.may_deny.result c.may_kill.result c.in_ok-push_if.ensures.added
    c.in_ok-push_if-2.ensures.added c.in_ok-push_if-3.ensures.added c.in_ok-push_if.ensures.listed c.in_ok-push_if-2.ensures.listed
