-- A task that lies down.
use Rattle.std.proofs.Common.{◌≡◌, ℕ, ◌+◌, List, inl, inr, sym, ap, subst, ◌∙◌, slice_set}
use Rattle.std.specs.Prelude.{Some}
use Rattle.std.proofs.lemmas.Bool.Decides.{eqb_tells}
use Rattle.std.proofs.lemmas.List.{get_or-set_other}
use Rattle.hp_core.specs.State.{CoreState}
use Rattle.hp_core.specs.Waiting.{WaitsFor}
use Rattle.hp_shared.specs.Waking.{AreWatched, NoneCalled, stance_in}
use Rattle.hp_shared.specs.declared.waiting_room.Stance.{Stance}
use Rattle.hp_shared.specs.declared.waiting_room.Stance.TheVariants.{Up, Asleep, Called}

-- a task that was up lies down where it is held up: whoever sleeps then is held up
pub lies_watched : (core : CoreState) (stances : List Stance) (place task holder : ℕ) → place + 1 ≡ task → stance_in stances place ≡ Up
    → WaitsFor core task (Some holder) → AreWatched core stances → AreWatched core (slice_set stances place Asleep)
lies_watched core stances place task holder own up waits watched none k asleep = elim (eqb_tells k place) [
  | inl same ↦ (holder, subst (λ (t : ℕ). WaitsFor core t (Some holder)) (sym own ∙ ap (λ (n : ℕ). n + 1) (sym same.1)) waits)
  | inr differ ↦ watched before k (sym (get_or-set_other stances place k Asleep Up differ.1) ∙ asleep)
]
  where
    before : NoneCalled stances
    before j called = elim (eqb_tells j place) [
      | inl same ↦ (let e : Up ≡ Called = sym up ∙ ap (stance_in stances) (sym same.1) ∙ called in absurd (cc))
      | inr differ ↦ none j (get_or-set_other stances place j Asleep Up differ.1 ∙ called)
    ]
