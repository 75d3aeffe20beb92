use Rattle.hp_parts.proofs.Carrying.{ok_kept}
use Rattle.hp_fault.proofs.touch.step_touch.Goals as goal

pub returns-in-Found-clause-row : goal.returns-in-Found-clause-row
returns-in-Found-clause-row c =
    rw c.in-Found.is (ok_kept c.from_found.result c.map_err-in-Found.result _ _ c.map_err-in-Found.ensures.cases
    c.map_err-in-Found.ensures.variant c.from_found.ensures.row)
