use Rattle.std.proofs.Common.{◌≡◌, ◌+◌, length}
use Rattle.std.specs.Prelude.{All}
use Rattle.std.specs.Vec.Iter.{into_iter_items, into_iter_len}
use Rattle.hp_race.specs.Calls.{is_mortal}
use Rattle.hp_race.specs.Racers.{AreFoundInAs, HasRun}
use Rattle.hp_race.proofs.racer.gather_seats.Given as goal

abbrev pub invariant-loop-racer : goal.invariant-loop-racer
invariant-loop-racer g l =
    let mortal = is_mortal l.fn.chances in
    (goal.iterator-loop-racer g).can_next l.racer-iterator
    × (goal.iterator-loop-racer g).is_finite l.racer-iterator
    × All (λ d. HasRun mortal l.script l.fn.call_range d.ending d.seat) (into_iter_items l.racer-iterator)
    × AreFoundInAs mortal l.astray l.late l.script l.fn.call_range l.refused.items l.seats.items
    × (length l.seats.items + length (into_iter_items l.racer-iterator) ≡ length l.fn.racers.items + length l.fn.idle.items)
    × (into_iter_len l.racer-iterator ≡ length (into_iter_items l.racer-iterator))
