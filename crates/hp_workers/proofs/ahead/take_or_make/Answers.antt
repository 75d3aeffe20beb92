-- What stood in the slot is right at the place, and the slots stay right without it.
use Rattle.std.proofs.Common.{◌<◌, length}
use Rattle.std.proofs.lemmas.Grind.{common_steps}
use Rattle.std.proofs.Common.{arith}
use Rattle.hp_workers.proofs.Slots.{ok_or_not, slot_left, slot_taken}
use Rattle.hp_workers.proofs.ahead.take_or_make.Goals as goal

pub found_or_made-requires-clause-own : goal.found_or_made-requires-clause-own
found_or_made-requires-clause-own g c κs within =
    let slots = c.args.slots.now.items in
    let there : c.args.place < length slots = grind (arith, common_steps, c.if-len-at.false, c.len.ensures) in
    slot_taken (g.W.Work.is_right c.args.work.now) slots c.args.place c.index_mut.result.now c.take-slot.result c.requires.own there
    c.index_mut.ensures.value c.take-slot.ensures.value

pub returns-clause-own : goal.returns-clause-own
returns-clause-own g c =
    let slots = c.args.slots.now.items in
    let there : c.args.place < length slots = grind (arith, common_steps, c.if-len-at.false, c.len.ensures) in
    ok_or_not c.found_or_made.result _
    (slot_left (g.W.Work.is_right c.args.work.now) slots c.args.place c.take-slot.new.self c.requires.own there c.take-slot.ensures.after)
