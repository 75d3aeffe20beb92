use Rattle.std.proofs.Common.{◌≡◌, ◌+◌, Bool, length}
use Rattle.std.specs.Prelude.{All, false}
use Rattle.std.specs.Vec.Iter.{into_iter_items, into_iter_len}
use Rattle.hp_race.specs.Racers.{HasMadeIn, IsNew, IsSet}
use Rattle.hp_race.proofs.racer.set_racers.Given as goal

abbrev pub invariant-loop-seat : goal.invariant-loop-seat
invariant-loop-seat g l =
    (goal.iterator-loop-seat g).can_next l.seat-iterator
    × (goal.iterator-loop-seat g).is_finite l.seat-iterator
    × All IsNew (into_iter_items l.seat-iterator)
    × All (λ d. IsSet l.script d.calls.items d.seat) l.racers.items
    × ((mortal : Bool) → All (HasMadeIn mortal false l.script l.call_range) l.idle.items)
    × (length l.racers.items + length l.idle.items + length (into_iter_items l.seat-iterator) ≡ length l.fn.seats.items)
    × (into_iter_len l.seat-iterator ≡ length (into_iter_items l.seat-iterator))
