-- What a pool is closed with, and why one isn't.
use Rattle.std.specs.Prelude.{◌≡◌, ℕ, List, length, sum_by}
use Rattle.hp_base.specs.Text.{sizes}
use Rattle.hp_base.specs.declared.config.Config.{Config}
use Rattle.hp_core.specs.Readers.{config_of}
use Rattle.hp_core.specs.State.{CoreState}
use Rattle.hp_shared.specs.declared.entry.Entry.{Entry}
use Rattle.hp_shared.specs.declared.fault.CloseFault.{CloseFault}
use Rattle.hp_shared.specs.declared.fault.CloseFault.TheVariants.{SeatMissing, Disagree, OtherSizes, Memory}
use Rattle.hp_shared.specs.Journal.{Follows, IsCameTo, IsFromOpening, IsFromOpeningOf, Interleaves, FirstFailsAt}
use Rattle.hp_shared.specs.declared.pool.Closed.{Closed}
use Rattle.hp_shared.specs.Cutting.{tasks_of}
use Rattle.hp_shared.specs.States.{PoolState, SeatState, next}
use Rattle.hp_shared.specs.Seats.{AllSeated, LeastMissing, lists_of}

-- The journal, whose positions begin at first, is an interleaving of the lists, and leads from the core of the last cut to
-- this one; as many entries as first says led to that core from an opening state
abbrev pub ClosesWith : List SeatState → CoreState → (first : ℕ) → (journal : List Entry) → Type 0
ClosesWith seats core first journal =
    (earlier : List Entry) × (start : CoreState)
    × (length earlier ≡ first)
    × IsFromOpening earlier start
    × Interleaves first journal (lists_of seats)
    × Follows start journal core

-- As `ClosesWith`, of a pool of this config: as many entries as first says led to the core of the last cut from its
-- opening state
abbrev pub ClosesPoolOf : Config → List SeatState → CoreState → (first : ℕ) → (journal : List Entry) → Type 0
ClosesPoolOf config seats core first journal =
    (earlier : List Entry) × (start : CoreState)
    × (length earlier ≡ first)
    × IsFromOpeningOf config earlier start
    × Interleaves first journal (lists_of seats)
    × Follows start journal core

-- how many entries these seats made in all, by their shares of the ledger
abbrev pub entries_of : List SeatState → ℕ
entries_of seats = sum_by (λ (s : SeatState). s.entries) seats

-- the journal was the interleaving of the lists; the pool's core, its journal and the number of all entries are left
pub record IsClosed (p : PoolState) (seats : List SeatState) (closed : Closed) : Type 0 where
  pub order : Interleaves p.first p.journal (lists_of seats)
  pub core : closed.core ≡ p.core
  pub first : closed.last.first ≡ p.first
  pub journal : closed.last.entries.items ≡ p.journal
  pub entries : closed.entries ≡ next p

-- where none is missing: the journal first fails there to be an interleaving of the lists, or memory ran out
abbrev pub Disagrees : PoolState → List SeatState → CloseFault → Type 0
Disagrees p seats (SeatMissing task) = ⊥
Disagrees p seats (Disagree position) = FirstFailsAt p.first p.journal (lists_of seats) position
Disagrees p seats OtherSizes = ⊥
Disagrees p seats Memory = Unit {0}

-- a seat is missing, or none is, and the journal first fails there to be an interleaving of the lists, or memory ran out
abbrev pub RefusesToClose : PoolState → List SeatState → CloseFault → Type 0
RefusesToClose p seats (SeatMissing task) = LeastMissing (tasks_of p) seats task
RefusesToClose p seats (Disagree position) =
    AllSeated (tasks_of p) seats × FirstFailsAt p.first p.journal (lists_of seats) position
RefusesToClose p seats OtherSizes = ⊥
RefusesToClose p seats Memory = AllSeated (tasks_of p) seats

-- a seat is missing, or none is, and the pool was of other sizes, the lists aren't those of the journal or memory ran out
abbrev pub RefusesClose : Config → List SeatState → CloseFault → Type 0
RefusesClose config seats (SeatMissing task) = LeastMissing config.tasks seats task
RefusesClose config seats (Disagree position) =
    AllSeated config.tasks seats × ((first : ℕ) × (journal : List Entry) × FirstFailsAt first journal (lists_of seats) position)
RefusesClose config seats OtherSizes =
    AllSeated config.tasks seats × ((core : CoreState) × IsCameTo core × (¬ (config_of core ≡ sizes config)))
RefusesClose config seats Memory = AllSeated config.tasks seats

-- after it neither pool nor seats are handed back
abbrev pub IsForGood : CloseFault → Type 0
IsForGood (SeatMissing task) = ⊥
IsForGood (Disagree position) = Unit {0}
IsForGood OtherSizes = Unit {0}
IsForGood Memory = ⊥
