-- What workers found of runs.
use Rattle.std.proofs.Common.{◌≡◌, ℕ, zero, suc, ◌+◌, ◌<◌, ◌≤◌, List, length, sym, ap, subst, ◌∙◌, arith, inl, inr}
use Rattle.std.specs.Prelude.{◌⊎◌, Bool, true, false, MatchBool, Option, None, Some}
use Rattle.std.specs.Global.{Vec}
use Rattle.hp_base.proofs.Puts.{same_or_other}
use Rattle.hp_base.specs.Text.{sizes}
use Rattle.hp_base.specs.declared.event.Event.{Event}
use Rattle.hp_explore.specs.Schedule.{Plan, plan_of}
use Rattle.hp_text.specs.declared.script.Script.{Script}
use Rattle.hp_hunt.specs.Claims.{AllMiss, FirstsMiss, IsFirstOf, MeetsAt, MissesAt, TellsOf}
use Rattle.hp_hunt.specs.Hunting.{IsFound, NoneMeets, RunMeets, RunMisses}
use Rattle.hp_hunt.specs.declared.claims.Batch.{Batch}
use Rattle.hp_hunt.specs.declared.condition.Condition.{Condition}
use Rattle.hp_hunt.specs.declared.finding.Found.{Found}
use Rattle.hp_hunt.specs.declared.finding.Hunt.{Hunt}

-- a run that meets all conditions is told by its events
pub told_met : (p : Batch) (place : ℕ) (met : Bool) (events : Vec Event) → MatchBool met
    (RunMeets p.script.now p.seed p.plan.now.deny p.plan.now.kill p.conditions.now (p.first + place) events.items)
    (RunMisses p.script.now p.seed p.plan.now.deny p.plan.now.kill p.conditions.now (p.first + place))
    → length events.items ≤ 1000000 → met ≡ true → TellsOf p place (Some events)
unfolding TellsOf MeetsAt
told_met p place true events judged few is = (judged, few)
told_met p place false events judged few is = (let bad : ⊥ = cc in absurd bad)

-- and one that misses a condition by none
pub told_missed : (p : Batch) (place : ℕ) (met : Bool) (events : Vec Event) → MatchBool met
    (RunMeets p.script.now p.seed p.plan.now.deny p.plan.now.kill p.conditions.now (p.first + place) events.items)
    (RunMisses p.script.now p.seed p.plan.now.deny p.plan.now.kill p.conditions.now (p.first + place))
    → met ≡ false → TellsOf p place None
unfolding TellsOf MissesAt
told_missed p place true events judged is = (let bad : ⊥ = cc in absurd bad)
told_missed p place false events judged is = judged

pub tells_missed : (p : Batch) (place : ℕ) (told : Option (Vec Event)) → TellsOf p place told → told ≡ None → MissesAt p place
unfolding TellsOf
tells_missed p place None misses is = misses
tells_missed p place (Some events) tells is = (let bad : ⊥ = cc in absurd bad)

pub tells_met : (p : Batch) (place : ℕ) (told : Option (Vec Event)) (events : Vec Event) → TellsOf p place told → told ≡ Some events
    → MeetsAt p place events.items × (length events.items ≤ 1000000)
unfolding TellsOf
tells_met p place told events tells is = subst (TellsOf p place) is tells

-- one run more misses
pub one_more_misses : (p : Batch) (n : ℕ) → FirstsMiss p n → MissesAt p n → FirstsMiss p (n + 1)
one_more_misses p n misses here k within =
    elim (same_or_other k n) [
      | inl same ↦ subst (MissesAt p) (sym same) here
      | inr other ↦ misses k (omega (arith, within, other))
    ]

-- ---- all batches

-- a number is below another, or so much above it
below_or_from : (a b : ℕ) → (a < b) ⊎ ((k : ℕ) × (b + k ≡ a))
below_or_from a zero = inr (a, omega arith)
below_or_from zero (suc b) = inl (omega arith)
below_or_from (suc a) (suc b) = elim (below_or_from a b) [
  | inl below ↦ inl (omega (arith, below))
  | inr from ↦ inr (from.0, omega (arith, from.1))
]

module _ (script : Script) (hunt : Hunt) (conditions : List Condition) (p : Batch)
    (planned : p.plan.now ≡ plan_of script hunt.chances.deny hunt.chances.kill) (of : p.script.now ≡ script)
    (seeded : p.seed ≡ hunt.seed) (asked : p.conditions.now ≡ conditions) where
  misses_in : (k : ℕ) → MissesAt p k
      → RunMisses script hunt.seed hunt.chances.deny hunt.chances.kill conditions (p.first + k)
  unfolding MissesAt
  misses_in k h =
      subst (λ (x : Script). RunMisses x hunt.seed hunt.chances.deny hunt.chances.kill conditions (p.first + k)) of
      (subst (λ (x : ℕ). RunMisses p.script.now x hunt.chances.deny hunt.chances.kill conditions (p.first + k)) seeded
      (subst (λ (x : List Condition). RunMisses p.script.now p.seed hunt.chances.deny hunt.chances.kill x (p.first + k)) asked
      (subst (λ (x : Plan). RunMisses p.script.now p.seed x.deny x.kill p.conditions.now (p.first + k)) planned h)))

  meets_in : (k : ℕ) (events : List Event) → MeetsAt p k events
      → RunMeets script hunt.seed hunt.chances.deny hunt.chances.kill conditions (p.first + k) events
  unfolding MeetsAt
  meets_in k events h =
      subst (λ (x : Script). RunMeets x hunt.seed hunt.chances.deny hunt.chances.kill conditions (p.first + k) events) of
      (subst (λ (x : ℕ). RunMeets p.script.now x hunt.chances.deny hunt.chances.kill conditions (p.first + k) events) seeded
      (subst (λ (x : List Condition). RunMeets p.script.now p.seed hunt.chances.deny hunt.chances.kill x (p.first + k) events) asked
      (subst (λ (x : Plan). RunMeets p.script.now p.seed x.deny x.kill p.conditions.now (p.first + k) events) planned h)))

  -- the runs of one batch more miss
  pub batch_misses : (n : ℕ) → NoneMeets script hunt conditions p.first → FirstsMiss p n → NoneMeets script hunt conditions (p.first + n)
  batch_misses n before misses run within = elim (below_or_from run p.first) [
    | inl below ↦ before run below
    | inr from ↦ subst (λ (x : ℕ). RunMisses script hunt.seed hunt.chances.deny hunt.chances.kill conditions x) from.1
        (misses_in from.0 (misses from.0 (omega (arith, within, from.1))))
  ]

  -- the first of a batch is the first of all
  pub batch_found : (found : Found) → NoneMeets script hunt conditions p.first → p.first + p.count ≤ hunt.limit → IsFirstOf p found
      → IsFound script hunt conditions found
  batch_found found before within is =
      record {
        within = omega (arith, within, is.there, is.number);
        meets =
            subst (λ (x : ℕ). RunMeets script hunt.seed hunt.chances.deny hunt.chances.kill conditions x found.trace.events.items)
            (sym is.number) (meets_in is.place found.trace.events.items is.meets);
        first = subst (λ (x : ℕ). NoneMeets script hunt conditions x) (sym is.number) (batch_misses is.place before is.before);
        config = is.config ∙ ap (λ (x : Script). sizes x.config) of;
        few = is.few;
      }

-- the same, of a batch that is told by what is known of it
pub found_first : (p : Batch) (found : Found) → IsFirstOf p found → (script : Script) (hunt : Hunt) (conditions : List Condition)
    → p.plan.now ≡ plan_of script hunt.chances.deny hunt.chances.kill → p.script.now ≡ script → p.seed ≡ hunt.seed
    → p.conditions.now ≡ conditions → NoneMeets script hunt conditions p.first → p.first + p.count ≤ hunt.limit
    → IsFound script hunt conditions found
found_first p found is script hunt conditions planned of seeded asked before within =
    batch_found script hunt conditions p planned of seeded asked found before within is

pub all_missed : (p : Batch) → AllMiss p → (script : Script) (hunt : Hunt) (conditions : List Condition)
    → p.plan.now ≡ plan_of script hunt.chances.deny hunt.chances.kill → p.script.now ≡ script → p.seed ≡ hunt.seed
    → p.conditions.now ≡ conditions → NoneMeets script hunt conditions p.first → NoneMeets script hunt conditions (p.first + p.count)
all_missed p all script hunt conditions planned of seeded asked before =
    batch_misses script hunt conditions p planned of seeded asked p.count before all.each
