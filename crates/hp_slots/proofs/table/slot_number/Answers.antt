use Rattle.std.proofs.Common.{◌+◌, ◌*◌, ◌∙◌}
use Rattle.hp_slots.proofs.Powers.{mask_is_remainder}
use Rattle.hp_slots.specs.Holders.{slot_number}
use Rattle.hp_slots.proofs.table.slot_number.Goals as goal

pub returns-then-is_power_of_two-clause-number : goal.returns-then-is_power_of_two-clause-number
returns-then-is_power_of_two-clause-number c =
    mask_is_remainder (c.from.result + 31 * c.from-2.result) c.from-places.result c.if-is_power_of_two.ensures
    ∙ (λ i. slot_number (c.from-places.ensures i) ((c.from-2.ensures ∙ c.number-2.ensures) i) ((c.from.ensures ∙ c.number.ensures) i))
