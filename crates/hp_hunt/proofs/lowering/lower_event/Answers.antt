use Rattle.hp_hunt.proofs.Lefts.{all_lowest, left_left}
use Rattle.hp_hunt.proofs.lowering.lower_event.Goals as goal

pub returns-then-second-clause-left : goal.returns-then-second-clause-left
returns-then-second-clause-left g c =
    let zero = c.args.events.now.items in
    let one = c.lower_number.new.events.items in
    let two = c.lower_number-2.new.events.items in
    let three = c.lower_number-3.new.events.items in
    left_left three two zero c.in_ok-third.ensures.left (left_left two one zero c.in_ok-second.ensures.left c.in_ok-first.ensures.left)

pub returns-else-second-clause-lowest : goal.returns-else-second-clause-lowest
returns-else-second-clause-lowest g c = λ third which. all_lowest c.args.config c.args.conditions.now c.args.place
    c.lower_number.new.events.items c.lower_number-2.new.events.items c.lower_number-3.new.events.items
    (c.in_ok-second.ensures.same c.if-second.false.1) (c.in_ok-third.ensures.same third)
    c.in_ok-first.ensures.lowest c.in_ok-second.ensures.lowest c.in_ok-third.ensures.lowest which
