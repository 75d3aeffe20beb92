use Rattle.hp_parts.proofs.Carrying.{ok_kept}
use Rattle.hp_fault.proofs.map.step_map.Goals as goal

pub returns-in-Room-clause-row : goal.returns-in-Room-clause-row
returns-in-Room-clause-row c =
    rw c.in-Room.is (ok_kept c.from_room.result c.map_err.result _ _ c.map_err.ensures.cases
    c.map_err.ensures.variant c.from_room.ensures.row)
