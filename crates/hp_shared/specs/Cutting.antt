-- What a cut of the journal does, and why a journal isn't cut.
use Rattle.std.specs.Prelude.{◌≡◌, ℕ, ◌+◌, ◌-◌, ◌<◌, ◌≤◌, ◌^◌, ◌==◌, ◌&&◌, ◌||◌, Bool, true, false, List, [], length, is_some}
use Rattle.std.specs.List.{list_any}
use Rattle.hp_core.specs.Readers.{config_of, phase_of}
use Rattle.hp_core.specs.State.{CoreState, as_state}
use Rattle.hp_shared.specs.declared.fault.CutFault.{CutFault}
use Rattle.hp_shared.specs.declared.fault.CutFault.TheVariants.{SeatMissing, InFlight, Full, Disagree, Memory}
use Rattle.hp_shared.specs.Calls.{in_call}
use Rattle.hp_shared.specs.Journal.{Interleaves, FirstFailsAt, IsCameTo}
use Rattle.hp_shared.specs.States.{PoolState, SeatState, next}
use Rattle.hp_shared.specs.Seats.{AllSeated, LeastMissing, lists_of}

-- the seat after a cut: its entries so far are earlier ones
abbrev pub emptied : SeatState → SeatState
emptied s = record s { earlier = s.earlier + length s.list; list = [] }

-- whether a seat of the task is in a call, by its list
abbrev pub is_seat_in_call : (task : ℕ) → List SeatState → Bool
is_seat_in_call task seats = list_any (λ (s : SeatState). s.task == task && in_call s.list) seats

-- whether the task has a call in flight, in the core or by its seat's list
abbrev pub is_in_flight : CoreState → List SeatState → (task : ℕ) → Bool
is_in_flight core seats task = is_some (phase_of core task) || is_seat_in_call task seats

-- of the tasks from 1 to n none has a call in flight
abbrev pub NoneInFlight : CoreState → List SeatState → ℕ → Type 0
NoneInFlight core seats n = (task : ℕ) → 1 ≤ task → task ≤ n → is_in_flight core seats task ≡ false

-- of these tasks it is the least that has
abbrev pub LeastInFlight : CoreState → List SeatState → ℕ → (task : ℕ) → Type 0
LeastInFlight core seats n task =
    (1 ≤ task) × (task ≤ n) × (is_in_flight core seats task ≡ true) × NoneInFlight core seats (task - 1)

-- how many tasks the pool has
abbrev pub tasks_of : PoolState → ℕ
tasks_of p = (config_of p.core).tasks

-- all seats are there, and no call is in flight
abbrev pub IsAtRest : PoolState → List SeatState → Type 0
IsAtRest p seats = AllSeated (tasks_of p) seats × NoneInFlight p.core seats (tasks_of p)

-- The journal was the interleaving of the lists; it is empty, its positions go on where they were, and the pool keeps its
-- core as it is now
pub record IsCut (old : PoolState) (seats : List SeatState) (new : PoolState) : Type 0 where
  pub rest : IsAtRest old seats
  pub order : Interleaves old.first old.journal (lists_of seats)
  pub core : new.core ≡ old.core
  pub start : as_state new.start ≡ as_state old.core
  pub config : config_of new.start ≡ config_of old.core
  pub first : new.first ≡ next old
  pub journal : new.journal ≡ []
  pub entries : new.entries ≡ old.entries

-- the first that applies: a seat is missing, a call is in flight, no position is left, the lists aren't those of the journal
-- or memory ran out
abbrev pub RefusesCut : PoolState → List SeatState → CutFault → Type 0
RefusesCut p seats (SeatMissing task) = LeastMissing (tasks_of p) seats task
RefusesCut p seats (InFlight task) =
    AllSeated (tasks_of p) seats × LeastInFlight p.core seats (tasks_of p) task
RefusesCut p seats Full = IsAtRest p seats × (2 ^ 63 ≤ next p)
RefusesCut p seats (Disagree position) =
    IsAtRest p seats × (next p < 2 ^ 63) × FirstFailsAt p.first p.journal (lists_of seats) position
RefusesCut p seats Memory = IsAtRest p seats × (next p < 2 ^ 63)

-- some pool, whose core a pool came to, refuses it so; of what a lock holds no clause can say more
abbrev pub MayRefuseCut : List SeatState → CutFault → Type 0
MayRefuseCut seats fault = (p : PoolState) × IsCameTo p.core × RefusesCut p seats fault
