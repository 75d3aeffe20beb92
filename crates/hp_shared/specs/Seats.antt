-- The seats of a pool.
use Rattle.std.specs.Prelude.{◌≡◌, ℕ, ◌-◌, ◌≤◌, List, [], map, Bool, true, false, ◌==◌}
use Rattle.std.specs.List.{list_any}
use Rattle.hp_shared.specs.declared.entry.Entry.{Entry}
use Rattle.hp_shared.specs.States.{SeatState}

-- the seat of a task that made no entry yet
abbrev pub new_seat : (task : ℕ) → SeatState
new_seat task = record { task = task; earlier = 0; list = []; entries = 0 }

abbrev pub lists_of : List SeatState → List (List Entry)
lists_of seats = map (λ (s : SeatState). s.list) seats

-- whether the seat of the task is there
abbrev pub has_seat : (task : ℕ) → List SeatState → Bool
has_seat task seats = list_any (λ (s : SeatState). s.task == task) seats

-- the seats of the tasks from 1 to n are there
abbrev pub AllSeated : ℕ → List SeatState → Type 0
AllSeated n seats = (task : ℕ) → 1 ≤ task → task ≤ n → has_seat task seats ≡ true

-- of these tasks it is the least without a seat
abbrev pub LeastMissing : ℕ → List SeatState → (task : ℕ) → Type 0
LeastMissing n seats task =
    (1 ≤ task) × (task ≤ n) × (has_seat task seats ≡ false) × AllSeated (task - 1) seats
