-- Events that are repeated, once more.
use Rattle.std.proofs.Common.{arith, ◌≡◌, ◌+◌, ◌++◌, ℕ, suc, List, length, replicate, length-append, refl, ap, subst, ◌∙◌}
use Rattle.std.specs.Prelude.{Bool, true, false, IsTrue}
use Rattle.std.proofs.lemmas.List.{length-replicate}
use Rattle.hp_base.specs.declared.event.Event.{Event}
use Rattle.hp_core.specs.Runs.{Row}
use Rattle.hp_core.specs.State.{CoreState}
use Rattle.hp_machine.specs.declared.outcome.Outcome.{Outcome}
use Rattle.hp_format.specs.Following.{Repeats}

-- none happened yet
pub repeats_none : (P : Outcome → Type 0) (core : CoreState) (event : Event) → Repeats P core event 0 core
unfolding Repeats
repeats_none P core event = refl

-- one more does
pub repeats_more : (P : Outcome → Type 0) (core : CoreState) (event : Event) (n : ℕ) (mid new : CoreState) (outcome : Outcome)
    → Repeats P core event n mid → Row mid event outcome new → P outcome → Repeats P core event (n + 1) new
unfolding Repeats
repeats_more P core event n mid new outcome before row holds =
    let next : suc n ≡ n + 1 = omega arith in
    subst (λ (k : ℕ). Repeats P core event k new) next (mid, outcome, before, row, holds)

-- so many events are there then
pub repeated_length : (old now : List Event) (event : Event) (n : ℕ) → now ≡ old ++ replicate n event → length now ≡ length old + n
repeated_length old now event n is =
    ap length is ∙ length-append old (replicate n event) ∙ ap (λ (k : ℕ). length old + k) (length-replicate n event)

-- what reaches nothing isn't told as reaching it
pub misses : (done : Bool) (P : Type 0) → (P → IsTrue done) → done ≡ false → P → ⊥
misses true P reached e p = absurd cc
misses false P reached e p = let t = reached p in absurd cc
