-- The sum of what seats made, seat by seat; and why a pool isn't closed.
use Rattle.std.proofs.Common.{◌≡◌, ◌+◌, List, [], ◌∷◌, ◌++◌, length, refl, arith}
use Rattle.std.proofs.lemmas.List.Sums.{sum_by-cons}
use Rattle.hp_base.specs.declared.config.Config.{Config}
use Rattle.hp_shared.specs.Closing.{Disagrees, RefusesClose, entries_of}
use Rattle.hp_shared.specs.Seats.{AllSeated}
use Rattle.hp_shared.specs.States.{PoolState, SeatState}
use Rattle.hp_shared.specs.declared.fault.CloseFault.{CloseFault}
use Rattle.hp_shared.specs.declared.fault.CloseFault.TheVariants.{SeatMissing, Disagree, OtherSizes, Memory}

pub entries_first : (s : SeatState) (seats : List SeatState) → entries_of (s ∷ seats) ≡ s.entries + entries_of seats
entries_first s seats = sum_by-cons (λ (x : SeatState). x.entries) s seats

pub entries_last : (seats : List SeatState) (s : SeatState) → entries_of (seats ++ s ∷ []) ≡ entries_of seats + s.entries
entries_last [] s = omega (arith, entries_first s [])
entries_last (x ∷ seats) s =
    let rest = entries_last seats s in
    let both = entries_first x (seats ++ s ∷ []) in
    let first = entries_first x seats in
    omega (arith, rest, both, first)

pub entries_none : (seats : List SeatState) → length seats ≡ 0 → entries_of seats ≡ 0
entries_none [] none = refl
entries_none (s ∷ seats) none = absurd (omega (arith, none))

-- why a pool with all seats isn't closed, to whoever doesn't see its journal
pub refuses : (p : PoolState) (config : Config) (seats : List SeatState) (fault : CloseFault) → AllSeated config.tasks seats
    → Disagrees p seats fault → RefusesClose config seats fault
refuses p config seats (SeatMissing task) seated why = absurd why
refuses p config seats (Disagree position) seated why = (seated, (p.first, p.journal, why))
refuses p config seats OtherSizes seated why = absurd why
refuses p config seats Memory seated why = seated
