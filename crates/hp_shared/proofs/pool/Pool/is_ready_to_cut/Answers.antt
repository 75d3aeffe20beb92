use Rattle.std.proofs.Common.{ℕ, ap, subst, arith}
use Rattle.hp_base.specs.Text.{Sizes}
use Rattle.hp_shared.specs.Cutting.{LeastInFlight, NoneInFlight}
use Rattle.hp_shared.specs.Seats.{AllSeated, LeastMissing}
use Rattle.hp_shared.proofs.pool.Pool.is_ready_to_cut.Goals as goal

pub returns-in-Some-clause-refused : goal.returns-in-Some-clause-refused
returns-in-Some-clause-refused g c =
    let tasks = ap (λ (z : Sizes). z.tasks) c.config-tasks.ensures in
    rw (← c.self.view_is) (subst (λ (n : ℕ). LeastMissing n c.args.seats.now c.in-Some.task) tasks c.in-Some.ensures)

pub returns-in-Some-in_flight-clause-refused : goal.returns-in-Some-in_flight-clause-refused
returns-in-Some-in_flight-clause-refused g c =
    let tasks = ap (λ (z : Sizes). z.tasks) c.config-tasks.ensures in
    rw (← c.self.view_is) (
      subst (λ (n : ℕ). AllSeated n c.args.seats.now) tasks c.in_default.ensures,
      subst (λ (n : ℕ). LeastInFlight c.self.inside.core c.args.seats.now n c.in-Some-in_flight.task) tasks
          c.in-Some-in_flight.ensures,
    )

pub returns-then-self-len-ge-LAST-clause-refused : goal.returns-then-self-len-ge-LAST-clause-refused
returns-then-self-len-ge-LAST-clause-refused g c =
    let tasks = ap (λ (z : Sizes). z.tasks) c.config-tasks.ensures in
    rw (← c.self.view_is) (
      (
        subst (λ (n : ℕ). AllSeated n c.args.seats.now) tasks c.in_default.ensures,
        subst (λ (n : ℕ). NoneInFlight c.self.inside.core c.args.seats.now n) tasks c.in_default-in_flight.ensures,
      ),
      omega (arith, c.if-self-len-ge-LAST.true, c.len.ensures, c.self.inside.journal.ok),
    )
