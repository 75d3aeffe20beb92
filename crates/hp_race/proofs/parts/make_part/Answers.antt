use Rattle.std.proofs.Common.{◌∙◌, ap, sym, length, arith}
use Rattle.hp_race.specs.Calls.{is_mortal}
use Rattle.hp_race.proofs.Parting.{all_emptied, all_seated, part_made, same_items}
use Rattle.hp_race.proofs.parts.make_part.Goals as goal

pub returns-clause-new : goal.returns-clause-new
returns-clause-new g c =
    let seats = c.in_ok-ran.ran.seats in
    λ gone.
    same_items c.cut_part.new.seats seats.items seats.len
    (omega (arith, seats.ok)) (c.in_ok-cut_part.ensures.count ∙ ap length c.deref_mut.ensures.value)
    (all_emptied _ c.cut_part.new.seats (c.in_ok-cut_part.ensures.seats c.if-not-branch.false))

pub returns-clause-part : goal.returns-clause-part
returns-clause-part g c =
    let ran = c.in_ok-ran.ran in
    λ gone.
    part_made (is_mortal c.args.track.now.chances) c.args.script.now c.args.call_range c.args.again.now.entries c.cut_part.new.again.entries
    c.args.again.now.core
    c.cut_part.new.again.core ran.found ran.seats.items c.is_made.result c.if-not-is_made.false c.is_made.ensures c.in_ok-ran.ensures.calls
    (rw (← c.as_slice-2.ensures.value) (sym c.are_gone-gone.ensures ∙ gone))
    (rw (← c.as_slice.ensures.value)
    (all_seated _ _ c.missing_seat.result (sym c.is_some.ensures ∙ c.if-is_some.false) c.missing_seat.ensures))
    (c.in_ok-ran.ensures.count ∙ c.requires.count)
    (rw (← c.deref_mut.ensures.value) (c.in_ok-cut_part.ensures.part c.if-not-branch.false))
