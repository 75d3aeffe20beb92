-- A turn that leaves no slot and no lock makes nobody able to take one who couldn't: the tasks that can are some of those that could.
use Rattle.std.proofs.Common.{◌≡◌, ◌≢◌, ℕ, zero, suc, ◌≤◌, refl, ap, sym, ◌∙◌, subst, arith, inl, inr, true≢false}
use Rattle.std.specs.Prelude.{Bool, true, false, Option, None, Some, List, [], ◌∷◌, ◌++◌, MatchBool, filter, cond}
use Rattle.std.specs.Prelude.{is_none, is_some, length, if◌then◌else◌}
use Rattle.std.specs.Prelude.{◌⊎◌}
use Rattle.std.proofs.lemmas.List.{append-nil}
use Rattle.std.proofs.lemmas.List.Elements.{filter-append}
use Rattle.rand_pcg.specs.Lcg.{Lcg}
use Rattle.std.specs.Option.{option_map}
use Rattle.hp_base.proofs.Puts.{same_or_other}
use Rattle.hp_base.specs.declared.event.Event.{Event}
use Rattle.hp_machine.specs.Events.{IsReached, word_of}
use Rattle.hp_machine.specs.declared.call.Call.{Call}
use Rattle.hp_machine.specs.declared.outcome.Outcome.{Outcome}
use Rattle.hp_laws.specs.Laws.{IsOf}
use Rattle.hp_laws.proofs.Nearing.{others_stay}
use Rattle.hp_laws.proofs.Deciding.{never}
use Rattle.hp_core.specs.Blockers.{task_blocker}
use Rattle.hp_core.specs.Holding.{holding_of}
use Rattle.hp_core.specs.Readers.{phase_of}
use Rattle.hp_core.specs.Runs.{Row}
use Rattle.hp_core.specs.State.{CoreState, as_state, task_state_at, calls_of, lives_of}
use Rattle.hp_core.specs.Waiting.{WaitsFor}
use Rattle.hp_core.proofs.Growing.{HeldOn}
use Rattle.hp_core.proofs.Holds.{HoldOn, blocker, holds_on_all, keep_holders, names_nobody, still_for, waits_for_nobody}
use Rattle.hp_core.proofs.Waits.{nobody}
use Rattle.hp_explore.specs.Schedule.{Plan, World, CanTurn, AreRunnable, AreRunnableOf, in_call, may_begin, task_choice}
use Rattle.hp_explore.specs.CanNow.{can_now}
use Rattle.hp_explore.proofs.Others.{EndsNone, LeavesOthers, begins_on, can_same, choice_leaves, of_choice}

none_if : (a b : Option ℕ) → ((h : ℕ) → a ≡ Some h → b ≡ Some h) → b ≡ None → a ≡ None
none_if None b on e = refl
none_if (Some h) b on e = nobody h (sym e ∙ on h refl)

-- who waits for nobody in the second waits for nobody in the first, with the same call and life
free_before : (s v : CoreState) (t : ℕ) → HoldOn (as_state s) (as_state v) → (as_state v).calls t ≡ (as_state s).calls t
    → (as_state v).life t ≡ (as_state s).life t → WaitsFor v t None → WaitsFor s t None
unfolding calls_of lives_of
free_before s v t h calls life free =
    let task_state : blocker v.parts (task_state_at v.task_states t).life (task_state_at v.task_states t).call
    ≡ blocker v.parts (task_state_at s.task_states t).life (task_state_at s.task_states t).call = λ i. blocker v.parts (life i) (calls i) in
    waits_for_nobody s t (none_if _ _ (still_for s.parts v.parts (keep_holders s v h) (task_state_at s.task_states t).life
    (task_state_at s.task_states t).call)
    (sym task_state ∙ names_nobody v t free))

could_before : (plan : Plan) (w v : World) (t : ℕ) → HoldOn (as_state w.core) (as_state v.core)
    → (as_state v.core).calls t ≡ (as_state w.core).calls t → (as_state v.core).life t ≡ (as_state w.core).life t
    → may_begin plan v t ≡ may_begin plan w t → CanTurn plan v t → CanTurn plan w t
unfolding phase_of
could_before plan w v t h calls life begins can =
    can_same (in_call v t) (in_call w t) (ap (λ (c : Option Call). is_some (option_map word_of c)) (sym calls))
    (free_before w.core v.core t h calls life) (λ may. sym begins ∙ may) can

by_word : {A B : Type 0} (b c d : Bool) → ((c ≡ true → A) × (A → c ≡ true)) → ((d ≡ true → B) × (B → d ≡ true))
    → (((if b then c else d) ≡ true → MatchBool b A B) × (MatchBool b A B → (if b then c else d) ≡ true))
by_word true c d first second = first
by_word false c d first second = second

is_nobody : (o : Option ℕ) → is_none o ≡ true → o ≡ None
is_nobody None e = refl
is_nobody (Some h) e = never e

-- The test is true exactly where the task may take a turn,
pub tells_can : (plan : Plan) (w : World) (t : ℕ) → (can_now plan w t ≡ true → CanTurn plan w t)
    × (CanTurn plan w t → can_now plan w t ≡ true)
tells_can plan w t =
    by_word (in_call w t) (is_none (task_blocker w.core.parts (task_state_at w.core.task_states t))) (may_begin plan w t)
    ((λ e. waits_for_nobody w.core t (is_nobody _ e)), (λ free. ap (λ (o : Option ℕ). is_none o) (names_nobody w.core t free)))
    ((λ e. e), (λ e. e))

-- so an answer that is right is the test's
pub is_told : (plan : Plan) (w : World) (t : ℕ) (can : Bool) → (can ≡ true → CanTurn plan w t) → (can ≡ false → ¬ CanTurn plan w t)
    → can ≡ can_now plan w t
is_told plan w t true on off = sym ((tells_can plan w t).1 (on refl))
is_told plan w t false on off = by (can_now plan w t) refl
  where
    by : (b : Bool) → can_now plan w t ≡ b → false ≡ can_now plan w t
    by true told = absurd (off refl ((tells_can plan w t).0 told))
    by false told = sym told

-- of the tasks that could take a turn those that can are all that can, where nobody else can
struck : (plan : Plan) (w v : World) (n : ℕ) (tasks : List ℕ) → ((t : ℕ) → 1 ≤ t → t ≤ n → CanTurn plan v t → CanTurn plan w t)
    → AreRunnableOf plan w n tasks → AreRunnableOf plan v n (filter (can_now plan v) tasks)
unfolding AreRunnableOf
struck plan w v zero tasks back h = ap (filter (can_now plan v)) h
struck plan w v (suc n) tasks back (front, before, last) =
    let rest = struck plan w v n front (λ t one within. back t one (omega (arith, within))) before in (
      filter (can_now plan v) front,
      rest,
      elim last [
        | inl l ↦ by (can_now plan v (suc n)) refl front
            (ap (filter (can_now plan v)) l.1 ∙ filter-append (can_now plan v) front (suc n ∷ []))
        | inr l ↦ inr ((λ can. l.0 (back (suc n) (omega arith) (omega arith) can)), ap (filter (can_now plan v)) l.1)
      ],
    )
  where
    by : (b : Bool) → can_now plan v (suc n) ≡ b → (front : List ℕ)
        → filter (can_now plan v) tasks ≡ filter (can_now plan v) front ++ filter (can_now plan v) (suc n ∷ [])
        → (CanTurn plan v (suc n) × (filter (can_now plan v) tasks ≡ filter (can_now plan v) front ++ suc n ∷ []))
        ⊎ ((¬ CanTurn plan v (suc n)) × (filter (can_now plan v) tasks ≡ filter (can_now plan v) front))
    by true e front is =
        inl ((tells_can plan v (suc n)).0 e, is ∙ ap (λ (b : Bool). filter (can_now plan v) front ++ cond b (suc n ∷ []) []) e)
    by false e front is = inr (
      (λ can. absurd (true≢false (sym ((tells_can plan v (suc n)).1 can) ∙ e))),
      is ∙ ap (λ (b : Bool). filter (can_now plan v) front ++ cond b (suc n ∷ []) []) e ∙ append-nil (filter (can_now plan v) front),
    )

-- So after a turn behind which its task's call holds all that it held: those of the tasks that can take a turn now are all that can.
pub list_struck : (plan : Plan) (w v : World) (core : CoreState) (made : List ℕ) (event : Event) (o : Outcome) (t : ℕ) (busy alive : Bool)
    (rng : Lcg) (tasks : List ℕ) → core ≡ w.core → made ≡ w.made → IsReached (as_state core) → Row core event o v.core
    → event ≡ (task_choice plan busy alive made t rng).event → v.made ≡ (task_choice plan busy alive made t rng).made
    → busy ≡ in_call w t → EndsNone plan busy v t
    → 1 ≤ t → HeldOn (holding_of core t) (holding_of v.core t) → CanTurn plan w t
    → AreRunnable plan w tasks → AreRunnable plan v (filter (can_now plan v) tasks)
unfolding Row
list_struck plan w v core made event o t busy alive rng tasks same_core same_made reached row chosen begun flight quiet one held could listed =
    subst (λ (n : ℕ). AreRunnableOf plan v n (filter (can_now plan v) tasks)) (sym long) (struck plan w v (length w.made) tasks back listed)
  where
    of : (u : ℕ) → IsOf u event → u ≡ t
    of u h = of_choice plan busy alive made t rng u (subst (λ (e : Event). IsOf u e) chosen h)

    leaves : LeavesOthers made t (task_choice plan busy alive made t rng)
    leaves = choice_leaves plan busy alive made t rng

    long : length v.made ≡ length w.made
    long = ap (λ (m : List ℕ). length m) begun ∙ leaves.long ∙ ap (λ (m : List ℕ). length m) same_made

    on : HoldOn (as_state w.core) (as_state v.core)
    on = subst (λ (s : CoreState). HoldOn (as_state s) (as_state v.core)) same_core (holds_on_all core v.core event o t reached row of held)

    stay : (u : ℕ) → u ≢ t → ((as_state v.core).calls u ≡ (as_state w.core).calls u) × ((as_state v.core).life u ≡ (as_state w.core).life u)
    stay u other =
        subst (λ (s : CoreState). ((as_state v.core).calls u ≡ (as_state s).calls u) × ((as_state v.core).life u ≡ (as_state s).life u))
        same_core
        (others_stay (as_state core) (as_state v.core) event o u row.0 (λ is. other (of u is)))

    next : (u : ℕ) → 1 ≤ u → u ≢ t → may_begin plan v u ≡ may_begin plan w u
    next u above other =
        begins_on plan w v made t u busy alive rng quiet same_made flight begun (λ n away. (stay n away).0) one above other

    back : (u : ℕ) → 1 ≤ u → u ≤ length w.made → CanTurn plan v u → CanTurn plan w u
    back u above within is = elim (same_or_other u t) [
      | inl e ↦ subst (CanTurn plan w) (sym e) could
      | inr other ↦ could_before plan w v u on (stay u other).0 (stay u other).1 (next u above other) is
    ]
