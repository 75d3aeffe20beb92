use Rattle.hp_shared.proofs.Runs.{came_to}
use Rattle.hp_shared.proofs.pool.Pool.always.Goals as goal

pub returns-clause-origin : goal.returns-clause-origin
returns-clause-origin g c = rw (← c.self.view_is) c.self.invariant.origin

pub returns-clause-came : goal.returns-clause-came
returns-clause-came g c =
    let pool = c.self.inside in
    rw (← c.self.view_is)
    (came_to pool.first pool.start pool.core pool.journal.items c.self.invariant.origin c.self.invariant.run)
