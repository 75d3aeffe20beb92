use Rattle.std.proofs.Common.{ap, arith, inl, inr}
use Rattle.hp_base.specs.Text.{Sizes}
use Rattle.hp_core.specs.State.{as_state}
use Rattle.hp_shared.proofs.Held.{held_by_none, held_up}
use Rattle.hp_shared.proofs.Waking.{nobody_holds_up}
use Rattle.hp_shared.proofs.pool.Pool.holds_up.Goals as goal

pub returns-then-number-eq0-clause-held_up : goal.returns-then-number-eq0-clause-held_up
returns-then-number-eq0-clause-held_up g c low high = absurd (omega (arith, low, c.number-number.ensures, c.if-number-eq0.true))

pub returns-then-number-eq0-clause-free : goal.returns-then-number-eq0-clause-free
returns-then-number-eq0-clause-free g c _ =
    let core = c.self.inside.core in
    rw (← c.self.view_is)
    (nobody_holds_up core c.args.task c.always.ensures.config (c.callers_live.ensures (as_state core) c.is_reached.ensures)
    (inl (omega (arith, c.number-number.ensures, c.if-number-eq0.true))))

pub returns-then-number-config-clause-held_up : goal.returns-then-number-config-clause-held_up
returns-then-number-config-clause-held_up g c low high =
    let tasks = ap (λ (z : Sizes). z.tasks) c.config.ensures in
    absurd (omega (arith, (rw (← c.self.view_is) at high), tasks, c.number-number.ensures, c.if-number-config.true))

pub returns-then-number-config-clause-free : goal.returns-then-number-config-clause-free
returns-then-number-config-clause-free g c _ =
    let core = c.self.inside.core in
    let tasks = ap (λ (z : Sizes). z.tasks) c.config.ensures in
    rw (← c.self.view_is)
    (nobody_holds_up core c.args.task c.always.ensures.config (c.callers_live.ensures (as_state core) c.is_reached.ensures)
    (inr (omega (arith, tasks, c.number-number.ensures, c.if-number-config.true))))

pub returns-clause-held_up : goal.returns-clause-held_up
returns-clause-held_up g c =
    rw (← c.self.view_is)
    (held_up c.self.inside.core c.args.task c.waits_for.result c.is_some.result c.is_some.ensures c.waits_for.ensures)

pub returns-clause-free : goal.returns-clause-free
returns-clause-free g c free =
    rw (← c.self.view_is)
    (held_by_none c.self.inside.core c.args.task c.waits_for.result c.is_some.result c.is_some.ensures c.waits_for.ensures free)
