-- A run with a count that may go below zero, computed; and a state in which a take falls short.
use Rattle.std.proofs.Common.{◌≡◌, ℕ, ◌+◌, refl, ap, arith}
use Rattle.std.specs.Prelude.{Bool, true, false, ◌&&◌, ◌==◌, suc, nat_lt, Option, Some, None, List, [], ◌∷◌}
use Rattle.hp_base.specs.declared.event.Event.{Event}
use Rattle.hp_machine.specs.State.{Geometry, State}
use Rattle.hp_machine.specs.Events.{EventRows}
use Rattle.hp_machine.specs.Headline.{vacant_in}
use Rattle.hp_machine.specs.declared.touch.TouchPhase.TheVariants as touch
use Rattle.hp_machine.specs.declared.outcome.Outcome.{Outcome}
use Rattle.hp_machine.specs.declared.call.Call.{Call}
use Rattle.hp_machine.specs.declared.call.Call.TheVariants as call
use Rattle.hp_laws.specs.Laws.{NeverShort}
use Rattle.hp_laws.specs.Enough.{CanSettle}
use Rattle.hp_laws.specs.Histories.{events_of}
use Rattle.hp_counterexamples.proofs.Searching.{Clear, bind}
use Rattle.hp_counterexamples.proofs.Running.{Tries}
use Rattle.hp_counterexamples.proofs.Breaking.{rests, at_rest, both, equal, never, Fails, any_below, found_below, above}
use Rattle.hp_linux.specs.Whole.{Linux, begins, lacks, lent, paid, Overdraws, WholeRun}

-- these events lead somewhere by these rows, with their outcomes, where pages lie below the limit
abbrev pub WholeRan : EventRows → Linux → List Event → Type 0
WholeRan rows l events =
    (log : List (Event × Outcome)) × (n : Linux) × (events_of log ≡ events) × WholeRun rows l log n
    × Clear n.state.geometry.limit n.state.pages

abbrev pub whole_run : (rows : EventRows) → Tries rows → (l : Linux) (events : List Event)
    → Clear l.state.geometry.limit l.state.pages → Option (WholeRan rows l events)
whole_run rows tries l [] h = Some ([], l, refl, refl, h)
whole_run rows tries l (e ∷ es) h =
    bind (tries (lent l.state (lacks l.state e)) e h)
    (λ r. bind (whole_run rows tries (paid r.1 (l.debt + lacks l.state e)) es r.3)
    (λ rest. Some (
      (e, r.0) ∷ rest.0,
      rest.1,
      ap (λ (l : List Event). e ∷ l) rest.2,
      (paid r.1 (l.debt + lacks l.state e), (r.1, r.2, refl), rest.3),
      rest.4,
    )))

-- ---- the count at rest

abbrev pub overdraws : (debt waiting : ℕ) → Linux → Bool
overdraws debt waiting l =
    rests l.state && ((l.state.resv == 0) && ((l.debt == debt) && (vacant_in l.state == waiting)))

abbrev pub whole_ends : (rows : EventRows) (l : Linux) (events : List Event) → (Linux → Bool) → Option (WholeRan rows l events) → Bool
whole_ends rows l events test None = false
whole_ends rows l events test (Some r) = test r.1

pub overdraws_so : (rows : EventRows) (tries : Tries rows) (g : Geometry) (frames : ℕ) (events : List Event) (debt waiting : ℕ)
    → whole_ends rows (begins g frames) events (overdraws debt waiting) (whole_run rows tries (begins g frames) events (λ f i l. refl)) ≡ true
    → Overdraws rows g frames events debt waiting
overdraws_so rows tries g frames events debt waiting e =
    here (whole_run rows tries (begins g frames) events (λ f i l. refl)) e
  where
    here : (o : Option (WholeRan rows (begins g frames) events)) → whole_ends rows (begins g frames) events (overdraws debt waiting) o ≡ true
        → Overdraws rows g frames events debt waiting
    here None e = never e
    here (Some r) e =
        let a = both (rests r.1.state) _ e in let b = both (r.1.state.resv == 0) _ a.1 in let c = both (r.1.debt == debt) _ b.1 in
        (r.0, r.1, r.2, r.3, at_rest r.1.state a.0, equal _ _ b.0, equal _ _ c.0, equal _ _ c.1)

-- ---- a touch that is to take a reserved frame, and none is counted

abbrev pub is_short : State → Option Call → Bool
is_short s (Some (call.Touch (touch.Changed p))) = (p.pending.missing == 0) && nat_lt s.resv 1
is_short s other = false

abbrev pub takes_short : State → Bool
takes_short s = any_below (suc s.geometry.tasks) (λ t. is_short s (s.calls t))

pub took_short : Fails NeverShort takes_short
took_short s e h =
    let t = found_below (suc s.geometry.tasks) (λ t. is_short s (s.calls t)) e in
    short (s.calls t.0) t.2 (h t.0 (let l = t.1 in omega arith))
  where
    short : (c : Option Call) → is_short s c ≡ true → CanSettle s c → ⊥
    short (Some (call.Touch (touch.Changed p))) e l =
        let a = both (p.pending.missing == 0) _ e in above s.resv 1 a.1 (l (equal _ _ a.0))
    short other e l = never e
