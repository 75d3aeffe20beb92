-- What contracts see of a running pool and of a seat.
use Rattle.std.specs.Prelude.{ℕ, ◌+◌, List, ◌++◌, length}
use Rattle.hp_base.specs.declared.event.Event.{Event}
use Rattle.hp_machine.specs.declared.outcome.Outcome.{Outcome}
use Rattle.hp_core.specs.Readers.{free_of, resv_of, all_reserved_of, all_pages_of}
use Rattle.hp_core.specs.State.{CoreState}
use Rattle.hp_core.specs.declared.readers.Tally.{Tally}
use Rattle.hp_shared.specs.declared.entry.Entry.{Entry}
use Rattle.hp_shared.specs.Journal.{gained}

-- The core, as it is and as it was at the last cut; how many entries were made up to that cut; those that were made since;
-- and how many the ledger's book counts in all
pub record PoolState : Type 0 where
  pub core : CoreState
  pub start : CoreState
  pub first : ℕ
  pub journal : List Entry
  pub entries : ℕ

-- A task; how many entries its seat made up to the last cut; those that it made since; and how many its share of the
-- ledger counts in all
pub record SeatState : Type 0 where
  pub task : ℕ
  pub earlier : ℕ
  pub list : List Entry
  pub entries : ℕ

-- the position of the next entry
abbrev pub next : PoolState → ℕ
next p = p.first + length p.journal

-- the pool after an event with this outcome, which left that core
abbrev pub pool_with : PoolState → Event → Outcome → CoreState → PoolState
pool_with p event outcome core = record p {
  core = core;
  journal = p.journal ++ gained (next p) event outcome;
  entries = p.entries + length (gained (next p) event outcome);
}

-- the seat that made that event, whose entry, if there is one, has this position
abbrev pub seat_with : SeatState → (position : ℕ) → Event → Outcome → SeatState
seat_with s position event outcome = record s {
  list = s.list ++ gained position event outcome;
  entries = s.entries + length (gained position event outcome);
}

-- the numbers of a core as a whole
abbrev pub tally_of : CoreState → Tally
tally_of s = record { free = free_of s; resv = resv_of s; reserved = all_reserved_of s; pages = all_pages_of s }
