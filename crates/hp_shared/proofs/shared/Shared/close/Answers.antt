-- Behind the look for a missing seat all are there, and behind that at the sizes they are the config's.
use Rattle.std.proofs.Common.{◌≡◌, ◌∙◌, rules}
use Rattle.hp_base.specs.Text.{sizes}
use Rattle.hp_core.specs.Readers.{config_of}
use Rattle.hp_shared.proofs.Runs.{came_to, closes_pool_of}
use Rattle.hp_shared.proofs.Shares.{refuses}
use Rattle.hp_shared.proofs.shared.Shared.close.Goals as goal

pub returns-then-not-same_sizes-clause-refused : goal.returns-then-not-same_sizes-clause-refused
returns-then-not-same_sizes-clause-refused g c =
    let pool = c.pool.inside in (
      rw c.as_slice.ensures.value at c.in_default.ensures,
      (
        pool.core,
        came_to pool.first pool.start pool.core pool.journal.items c.pool.invariant.origin c.pool.invariant.run,
        λ same. c.if-not-same_sizes.ensures (c.config.ensures ∙ same),
      ),
    )

pub returns-in-Ok-clause-seated : goal.returns-in-Ok-clause-seated
returns-in-Ok-clause-seated g c = rw c.as_slice.ensures.value at c.in_default.ensures

pub returns-in-Ok-clause-run : goal.returns-in-Ok-clause-run
returns-in-Ok-clause-run g c =
    let closed = c.in-Ok.closed in
    let same : config_of closed.core ≡ sizes c.args.self.config = search rules in
    closes_pool_of c.args.self.config c.args.seats.items closed.core closed.last.first closed.last.entries.items same c.in-Ok.ensures.run

pub returns-clause-refused : goal.returns-clause-refused
returns-clause-refused g c =
    rw c.reopened.ensures.fault
    (refuses c.into_pool-pool.result c.args.self.config c.args.seats.items c.in-Err.kept.fault
    (rw c.as_slice.ensures.value at c.in_default.ensures) c.in-Err.ensures.refused)
