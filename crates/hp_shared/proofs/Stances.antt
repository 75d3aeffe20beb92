-- Lists of stances, of which one is set.
use Rattle.std.proofs.Common.{◌≡◌, ◌≢◌, ◌<◌, ◌≤◌, ℕ, List, sym, ◌∙◌, arith, length, slice_set, inl, inr, subst, replicate}
use Rattle.std.proofs.lemmas.Bool.Decides.{eqb_tells, leb_tells}
use Rattle.std.proofs.lemmas.List.{get_or_past, get_or-set_same, get_or-set_other, get_or-replicate, length-replicate}
use Rattle.hp_shared.specs.Waking.{NoneCalled, stance_in}
use Rattle.hp_shared.specs.declared.waiting_room.Stance.{Stance}
use Rattle.hp_shared.specs.declared.waiting_room.Stance.TheVariants.{Up, Asleep, Called}

-- who has no place is up
pub past_up : (stances : List Stance) (place : ℕ) → length stances ≤ place → stance_in stances place ≡ Up
past_up stances place past = get_or_past stances place Up past

-- and doesn't sleep
pub past_not_asleep : (stances : List Stance) (place : ℕ) → length stances ≤ place → stance_in stances place ≢ Asleep
past_not_asleep stances place past asleep = (let up = sym (past_up stances place past) ∙ asleep in absurd (cc))

-- a task that was called is among those called
pub one_called : (stances : List Stance) (place : ℕ) → place < length stances → NoneCalled (slice_set stances place Called) → ⊥
one_called stances place within none = none place (get_or-set_same stances place Called Up within)

-- where none is called beside one that gets up, and it wasn't, none was
pub none_before : (stances : List Stance) (place : ℕ) → stance_in stances place ≢ Called → NoneCalled (slice_set stances place Up) → NoneCalled stances
none_before stances place not none other is = elim (eqb_tells other place) [
  | inl same ↦ not (subst (λ (k : ℕ). stance_in stances k ≡ Called) same.1 is)
  | inr differ ↦ none other (get_or-set_other stances place other Up Up differ.1 ∙ is)
]

-- where all are up none sleeps
pub all_up : (place : ℕ) → stance_in (replicate 64 Up) place ≢ Asleep
all_up place asleep = elim (leb_tells 64 place) [
  | inl past ↦ past_not_asleep (replicate 64 Up) place (omega (arith, past.1, length-replicate 64 Up)) asleep
  | inr within ↦ (let up = sym (get_or-replicate 64 place Up Up within.1) ∙ asleep in absurd (cc))
]
