-- Runs of a core, event by event.
use Rattle.std.proofs.Common.{◌≡◌, ℕ, ◌+◌, ◌<◌, List, [], ◌∷◌, ◌++◌, length, take, get_or, ◌≤◌, refl, sym, ◌∙◌, ap, subst, arith}
use Rattle.std.specs.List.{zip, HoldsAt}
use Rattle.std.specs.Prelude.{true, ◌==◌}
use Rattle.std.proofs.lemmas.Bool.Decides.{nat_tests}
use Rattle.std.proofs.lemmas.List.Elements.{at_read}
use Rattle.std.proofs.lemmas.Grind.{common_steps}
use Rattle.std.proofs.lemmas.List.{take_more, take_all, length-take-le}
use Rattle.hp_base.specs.declared.event.Event.{Event}
use Rattle.hp_machine.specs.Events as rows
use Rattle.hp_machine.specs.declared.outcome.Outcome.{Outcome}
use Rattle.hp_core.specs.State.{CoreState, as_state}
use Rattle.hp_core.specs.Runs.{Row, Run, WantsGrowth}
use Rattle.hp_core.proofs.Steps.{run_on}

-- nothing happened yet
pub run_none : (s : CoreState) → Run s [] [] s
unfolding Run
run_none s = (refl, refl, refl)

-- lists of one length that each get one more are put together with one more
zip_more : (es : List Event) (os : List Outcome) (e : Event) (o : Outcome) → length os ≡ length es
    → zip (es ++ e ∷ []) (os ++ o ∷ []) ≡ zip es os ++ (e, o) ∷ []
zip_more [] [] e o l = refl
zip_more [] (p ∷ os) e o l = absurd (omega (arith, l))
zip_more (d ∷ es) [] e o l = absurd (omega (arith, l))
zip_more (d ∷ es) (p ∷ os) e o l = ap (λ (zs : List (Event × Outcome)). (d, p) ∷ zs) (zip_more es os e o (omega (arith, l)))

-- a list with one more is longer by one
longer : {A : Type 0} (xs : List A) (x : A) → length (xs ++ x ∷ []) ≡ length xs + 1
longer xs x = grind (arith, common_steps)

-- one more event happened
pub run_more : (s mid new : CoreState) (es : List Event) (os : List Outcome) (e : Event) (o : Outcome) → Run s es os mid
    → Row mid e o new → Run s (es ++ e ∷ []) (os ++ o ∷ []) new
unfolding Run Row
run_more s mid new es os e o run row =
    let long : length (os ++ o ∷ []) ≡ length (es ++ e ∷ []) = omega (arith, run.1, longer os o, longer es e) in (
      subst (λ (zs : List (Event × Outcome)). rows.Run (as_state s) zs (as_state new)) (sym (zip_more es os e o run.1))
          (run_on (as_state s) (as_state mid) (as_state new) (zip es os) e o run.0 row.0),
      long,
      row.1 ∙ run.2,
    )

-- a run tells one outcome for each event
pub run_long : (s new : CoreState) (es : List Event) (os : List Outcome) → Run s es os new → length os ≡ length es
unfolding Run
run_long s new es os run = run.1

-- at the start of the loop nothing happened
pub ran_none : (s : CoreState) (os : List Outcome) → os ≡ [] → Run s [] os s
ran_none s os e = subst (λ (xs : List Outcome). Run s [] xs s) (sym e) (run_none s)

-- a round of the loop is one more event of the run
pub ran_next : (s mid new : CoreState) (es : List Event) (i : ℕ) (os more : List Outcome) (e : Event) (o : Outcome)
    → i < length es → e ≡ get_or es i e → more ≡ os ++ o ∷ [] → Run s (take i es) os mid → Row mid e o new
    → Run s (take (i + 1) es) more new
ran_next s mid new es i os more e o within is longer run row =
    subst (λ (xs : List Outcome). Run s (take (i + 1) es) xs new) (sym longer)
    (subst (λ (xs : List Event). Run s xs (os ++ o ∷ []) new)
    (sym (take_more es i e within ∙ ap (λ (x : Event). take i es ++ x ∷ []) (sym is)))
    (run_more s mid new (take i es) os e o run row))

-- after i events of the loop i outcomes are told
pub told_long : (s new : CoreState) (es : List Event) (i : ℕ) (os : List Outcome) → i ≤ length es → Run s (take i es) os new → length os ≡ i
told_long s new es i os within run = run_long s new (take i es) os run ∙ length-take-le i es within

-- at the end of the loop all events happened
pub ran_all : (s new : CoreState) (es : List Event) (i : ℕ) (os : List Outcome) → length es ≤ i → Run s (take i es) os new → Run s es os new
ran_all s new es i os past run = subst (λ (xs : List Event). Run s xs os new) (take_all i es past) run

-- where it stopped those happened of which the outcome is told
pub ran_stopped : (s mid new : CoreState) (es : List Event) (i n : ℕ) (os : List Outcome) → i ≤ length es → n ≡ length os
    → new ≡ mid → Run s (take i es) os mid → (x : List Outcome) × Run s (take n es) x new
ran_stopped s mid new es i n os within long same run = (
  os,
  subst (λ (z : CoreState). Run s (take n es) os z) (sym same)
      (subst (λ (k : ℕ). Run s (take k es) os mid) (sym (long ∙ told_long s mid es i os within run)) run),
)

-- of no events nothing happened
pub ran_empty : (s : CoreState) (es : List Event) (os : List Outcome) → (length es == 0) ≡ true → os ≡ [] → Run s es os s
ran_empty s [] os e none = ran_none s os none
ran_empty s (x ∷ es) os e none = absurd (not_none (length (x ∷ es)) e (omega arith))
  where
    not_none : (n : ℕ) → (n == 0) ≡ true → 1 ≤ n → ⊥
    not_none n e some = grind (arith, nat_tests)

-- the event that didn't happen wanted growth, where the run stands
pub wanted_at : (mid new : CoreState) (es : List Event) (i n : ℕ) (e : Event) → i < length es → e ≡ get_or es i e → n ≡ i
    → new ≡ mid → WantsGrowth mid.parts mid.task_states e
    → HoldsAt (λ event. WantsGrowth new.parts new.task_states event) es n
wanted_at mid new es i n e within is long same wants =
    subst (λ (k : ℕ). HoldsAt (λ event. WantsGrowth new.parts new.task_states event) es k) (sym long)
    (at_read es (λ event. WantsGrowth new.parts new.task_states event) i e within is
    (subst (λ (s : CoreState). WantsGrowth s.parts s.task_states e) (sym same) wants))
