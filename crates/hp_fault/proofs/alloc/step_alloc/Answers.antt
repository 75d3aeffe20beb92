use Rattle.hp_parts.proofs.Carrying.{ok_kept}
use Rattle.hp_fault.proofs.alloc.step_alloc.Goals as goal

pub returns-in-Committed-clause-memory : goal.returns-in-Committed-clause-memory
returns-in-Committed-clause-memory c = rw c.in-Committed.is c.from_committed.ensures.memory

pub returns-in-Missing-clause-row : goal.returns-in-Missing-clause-row
returns-in-Missing-clause-row c =
    rw c.in-Missing.is (ok_kept c.from_missing.result c.map_err.result _ _ c.map_err.ensures.cases
    c.map_err.ensures.variant c.from_missing.ensures.row)
