-- What a hold makes of a pool and of a seat.
use Rattle.std.proofs.Common.{◌≡◌, ℕ, ◌+◌, List, [], ◌∷◌, ◌++◌, length, true, false, Some, None, sym, ap, ◌∙◌}
use Rattle.std.proofs.Common.{arith}
use Rattle.std.specs.Prelude.{Result, Ok, Err, OnErr}
use Rattle.std.proofs.lemmas.List.{append-nil}
use Rattle.hp_base.specs.declared.event.Event.{Event}
use Rattle.hp_machine.specs.declared.outcome.Outcome.{Outcome}
use Rattle.hp_core.specs.HeldBack.{HeldBack}
use Rattle.hp_core.specs.Runs.{Row, IsIdle}
use Rattle.hp_core.specs.State.{CoreState}
use Rattle.hp_shared.specs.declared.entry.Entry.{Entry}
use Rattle.hp_shared.specs.Journal.{entry, is_made}
use Rattle.hp_shared.specs.States.{PoolState, SeatState, next, pool_with, seat_with}
use Rattle.hp_shared.proofs.OutcomeKinds.{made, unmade_idle}
use Rattle.hp_shared.proofs.Runs.{gained_made, gained_none}

-- what holds anyway holds of a fault
pub on_err : {A E : Type 0} (r : Result A E) (P : Type 0) → P → OnErr r P
on_err (Ok x) P p = tt
on_err (Err e) P p = p

-- what is told of an event that is held back
pub held_outcome : (s : CoreState) (event : Event) (outcome : Outcome) → HeldBack s event (Some outcome)
    → (is_made outcome ≡ false) × Row s event outcome s
unfolding HeldBack
held_outcome s event outcome held = (unmade_idle outcome held.0, held.1)

pub not_held : (s : CoreState) (event : Event) → HeldBack s event None
    → (outcome : Outcome) (new : CoreState) → Row s event outcome new → IsIdle outcome → ⊥
unfolding HeldBack
not_held s event none = none

-- so what is told of an event that isn't is made
pub is_made_then : (s : CoreState) (event : Event) (outcome : Outcome) (new : CoreState) → HeldBack s event None
    → Row s event outcome new → is_made outcome ≡ true
is_made_then s event outcome new none row = made outcome (not_held s event none outcome new row)

none_more : (n : ℕ) → n + length {A = Entry} [] ≡ n
none_more n = omega arith

-- nothing came of it: the pool is as it was
pub pool_same : (p : PoolState) (event : Event) (outcome : Outcome) → is_made outcome ≡ false → p ≡ pool_with p event outcome p.core
pool_same p event outcome none =
    let with_list : List Entry → PoolState = λ l. record p { journal = p.journal ++ l; entries = p.entries + length l } in
    let with_journal : List Entry → PoolState = λ j. record p { journal = j; entries = p.entries + length {A = Entry} [] } in
    let with_entries : ℕ → PoolState = λ n. record p { entries = n } in
    sym (ap with_list (gained_none (next p) event outcome none) ∙ ap with_journal (append-nil p.journal)
    ∙ ap with_entries (none_more p.entries))

pub seat_same : (s : SeatState) (position : ℕ) (event : Event) (outcome : Outcome) → is_made outcome ≡ false
    → s ≡ seat_with s position event outcome
seat_same s position event outcome none =
    let with_list : List Entry → SeatState = λ l. record s { list = s.list ++ l; entries = s.entries + length l } in
    let with_more : List Entry → SeatState = λ j. record s { list = j; entries = s.entries + length {A = Entry} [] } in
    let with_entries : ℕ → SeatState = λ n. record s { entries = n } in
    sym (ap with_list (gained_none position event outcome none) ∙ ap with_more (append-nil s.list)
    ∙ ap with_entries (none_more s.entries))

-- something came of it: it has one entry more
pub pool_grown : (p : PoolState) (core : CoreState) (now : List Entry) (more position : ℕ) (event : Event) (outcome : Outcome)
    → is_made outcome ≡ true → position ≡ next p → now ≡ p.journal ++ entry position event outcome ∷ [] → more ≡ p.entries + 1
    → record p { core = core; journal = now; entries = more } ≡ pool_with p event outcome core
pool_grown p core now more position event outcome made at is counted =
    let one : List Entry = entry (next p) event outcome ∷ [] in
    let with_journal : List Entry → PoolState = λ j. record p { core = core; journal = j; entries = more } in
    let with_entries : ℕ → PoolState = λ n. record p { core = core; journal = p.journal ++ one; entries = n } in
    let with_list : List Entry → PoolState = λ l. record p
    { core = core; journal = p.journal ++ l; entries = p.entries + length l } in
    ap with_journal (is ∙ ap (λ (n : ℕ). p.journal ++ entry n event outcome ∷ []) at)
    ∙ ap with_entries counted
    ∙ ap with_list (sym (gained_made (next p) event outcome made))

pub seat_grown : (s : SeatState) (now : List Entry) (more position next : ℕ) (event : Event) (outcome : Outcome)
    → is_made outcome ≡ true → position ≡ next → now ≡ s.list ++ entry position event outcome ∷ [] → more ≡ s.entries + 1
    → record s { list = now; entries = more } ≡ seat_with s next event outcome
seat_grown s now more position next event outcome made at is counted =
    let one : List Entry = entry next event outcome ∷ [] in
    let with_list : List Entry → SeatState = λ j. record s { list = j; entries = more } in
    let with_entries : ℕ → SeatState = λ n. record s { list = s.list ++ one; entries = n } in
    let with_gained : List Entry → SeatState = λ l. record s { list = s.list ++ l; entries = s.entries + length l } in
    ap with_list (is ∙ ap (λ (n : ℕ). s.list ++ entry n event outcome ∷ []) at)
    ∙ ap with_entries counted
    ∙ ap with_gained (sym (gained_made next event outcome made))
