use Rattle.std.proofs.Common.{ap, arith, inl, inr}
use Rattle.hp_base.specs.Text.{Sizes}
use Rattle.hp_core.specs.State.{as_state}
use Rattle.hp_shared.proofs.Waking.{leaves_nothing}
use Rattle.hp_shared.proofs.pool.Pool.may_leave.Goals as goal
use Rattle.hp_shared.proofs.pool.Pool.may_leave.Goals.{then-number-eq0-via-then-number-eq0}
use Rattle.hp_shared.proofs.pool.Pool.may_leave.Goals.{then-number-eq0-via-else-number-eq0+then-number-config}

-- a task that isn't there
pub returns-then-number-eq0 : goal.returns-then-number-eq0
returns-then-number-eq0 g c =
    let core = c.self.inside.core in
    rw (← c.self.view_is)
    (leaves_nothing core c.args.task c.always.ensures.config (c.callers_live.ensures (as_state core) c.is_reached.ensures)
    (elim c.then-number-eq0.branch [
      | then-number-eq0-via-then-number-eq0 w ↦ inl (omega (arith, c.number-number.ensures, w.if-number-eq0.true))
      | then-number-eq0-via-else-number-eq0+then-number-config w ↦
          inr (omega (arith, c.number-number.ensures, ap (λ (z : Sizes). z.tasks) w.config.ensures, w.if-number-config.true))
    ]))
