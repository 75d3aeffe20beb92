-- The seats of a new pool are all there.
use Rattle.std.proofs.Common.{◌≡◌, ℕ, zero, suc, ◌+◌, ◌-◌, ◌<◌, ◌≤◌, ◌==◌, List, [], ◌∷◌, length, map, sym, ap, refl, ◌∙◌}
use Rattle.std.proofs.Common.{arith, Some, true}
use Rattle.std.specs.Prelude.{slice_get}
use Rattle.std.specs.List.{range_with_len}
use Rattle.std.proofs.lemmas.Bool.Decides.{nat_tests}
use Rattle.std.proofs.lemmas.List.Folds.{list_any_at}
use Rattle.std.proofs.lemmas.Option.{get_or_from_slice_get}
use Rattle.hp_shared.specs.Seats.{new_seat, AllSeated}
use Rattle.hp_shared.specs.States.{SeatState}
use Rattle.hp_client.specs.Crew.{new_seats}

seats_from : (a n : ℕ) (seats : List SeatState) → length seats ≡ n
    → ((k : ℕ) → k < n → slice_get seats k ≡ Some (new_seat (a + k + 1)))
    → seats ≡ map (λ task. new_seat (task + 1)) (range_with_len a n)
seats_from a zero [] long each = refl
seats_from a zero (x ∷ xs) long each = absurd (omega (arith, long))
seats_from a (suc n) [] long each = absurd (omega (arith, long))
seats_from a (suc n) (x ∷ xs) long each =
    let first : x ≡ new_seat (a + 1) =
    sym (get_or_from_slice_get (x ∷ xs) 0 x x refl) ∙ get_or_from_slice_get (x ∷ xs) 0 (new_seat (a + 0 + 1)) x (each 0 (omega arith))
    ∙ ap (λ (t : ℕ). new_seat t) (omega arith) in
    let rest : xs ≡ map (λ task. new_seat (task + 1)) (range_with_len (a + 1) n) =
    seats_from (a + 1) n xs (omega (arith, long))
    (λ k within. each (suc k) (omega (arith, within)) ∙ ap (λ (t : ℕ). Some (new_seat t)) (omega arith)) in
    ap (λ (s : SeatState). s ∷ xs) first ∙ ap (λ (ss : List SeatState). new_seat (a + 1) ∷ ss) rest

-- they are those of the tasks, in order
pub are_new : (n : ℕ) (seats : List SeatState) → length seats ≡ n
    → ((k : ℕ) → k < n → slice_get seats k ≡ Some (new_seat (k + 1))) → seats ≡ new_seats n
are_new n seats long each = seats_from 0 n seats long (λ k within. each k within ∙ ap (λ (t : ℕ). Some (new_seat t)) (omega arith))

here : (n task : ℕ) → 1 ≤ task → n ≡ task - 1 + 1 → (n == task) ≡ true
here n task low is = grind (arith, nat_tests)

-- each task has its seat
pub are_all : (n : ℕ) (seats : List SeatState) → length seats ≡ n
    → ((k : ℕ) → k < n → slice_get seats k ≡ Some (new_seat (k + 1))) → AllSeated n seats
are_all n seats long each task low high =
    list_any_at (λ (s : SeatState). s.task == task) seats (task - 1) (new_seat 0) (omega (arith, long, low, high))
    (ap (λ (s : SeatState). s.task == task)
    (get_or_from_slice_get seats (task - 1) (new_seat (task - 1 + 1)) (new_seat 0) (each (task - 1) (omega (arith, low, high))))
    ∙ here (task - 1 + 1) task low refl)
