-- The words of the phases in which calls stand, kept beside the core: what they say of it, and that an event's outcome
-- tells the word of its task's call.
use Rattle.std.proofs.Common.{◌≡◌, ℕ, ◌-◌, ◌≤◌, ◌<◌, refl, ap, sym, ◌∙◌, subst, inl, inr, arith, true≢false}
use Rattle.std.specs.Prelude.{Bool, true, false, not, is_some, Option, None, Some, List, length, replicate, slice_index_or}
use Rattle.std.specs.Prelude.{slice_set, if◌then◌else◌}
use Rattle.std.specs.Option.{option_map}
use Rattle.std.proofs.lemmas.List.{get_or-set_same, get_or-set_other, get_or-replicate, length-replicate, length-set}
use Rattle.hp_base.proofs.Puts.{same_or_other}
use Rattle.hp_base.specs.declared.config.Config.{Config}
use Rattle.hp_base.specs.declared.event.Event.{Event}
use Rattle.hp_base.specs.declared.event.Event.TheVariants.{Begin, Step, Kill, Resize}
use Rattle.hp_machine.specs.State.{State, is_dead, is_killed}
use Rattle.hp_machine.specs.Events as machine
use Rattle.hp_machine.specs.Events.{IsReached, word_of, first}
use Rattle.hp_machine.specs.declared.phase.Phase.{Phase}
use Rattle.hp_machine.specs.declared.call.Call.{Call}
use Rattle.hp_machine.specs.declared.call.Call.TheVariants as call
use Rattle.hp_machine.specs.declared.touch.TouchPhase.TheVariants as touch
use Rattle.hp_machine.specs.declared.map.MapPhase.TheVariants as map
use Rattle.hp_machine.specs.declared.alloc.AllocPhase.TheVariants as alloc
use Rattle.hp_machine.specs.declared.punch.PunchPhase.TheVariants as punch
use Rattle.hp_machine.specs.declared.truncate.TruncatePhase.TheVariants as truncate
use Rattle.hp_machine.specs.declared.outcome.Life.{Life}
use Rattle.hp_machine.specs.declared.outcome.Outcome.{Outcome}
use Rattle.hp_machine.specs.declared.outcome.Outcome.TheVariants as outcome
use Rattle.hp_laws.specs.Laws.{IsOf}
use Rattle.hp_laws.proofs.Nearing.{others_stay}
use Rattle.hp_laws.proofs.Reading.{begin_cases, step_cases, kill_cases}
use Rattle.hp_laws.proofs.Resizing.{resize_cases}
use Rattle.hp_laws.proofs.Telling.{call_steps_on}
use Rattle.hp_laws.proofs.Waiting.{moved_tells}
use Rattle.hp_laws.proofs.Deciding.{never}
use Rattle.hp_parts.specs.State.{PartsState}
use Rattle.hp_core.specs.Blockers.{call_blocker, task_state_call_blocker}
use Rattle.hp_core.specs.Readers.{phase_of}
use Rattle.hp_core.specs.Runs.{Row, IsOpening}
use Rattle.hp_core.specs.State.{CoreState, as_state, task_state_at, calls_of}
use Rattle.hp_core.specs.Waiting.{WaitsFor}
use Rattle.hp_core.specs.Passing.{may_wait}
use Rattle.hp_watch.specs.Phases.{Agrees, ArePhases}
use Rattle.hp_core.proofs.Holds.{waits_for_nobody}

-- a call whose word doesn't say otherwise is blocked by nobody
unblocked : (p : PartsState) (killed : Bool) (c : Call) → may_wait (word_of c) ≡ false → call_blocker p killed c ≡ None
unblocked p killed (call.Touch (touch.Want s)) q = absurd (true≢false q)
unblocked p killed (call.Map (map.Start s)) q = absurd (true≢false q)
unblocked p killed (call.Alloc (alloc.Start s)) q = absurd (true≢false q)
unblocked p killed (call.Alloc (alloc.Want s)) q = absurd (true≢false q)
unblocked p killed (call.Punch (punch.Start s)) q = absurd (true≢false q)
unblocked p killed (call.Punch (punch.Want s)) q = absurd (true≢false q)
unblocked p killed (call.Truncate (truncate.Start s)) q = absurd (true≢false q)
unblocked p killed (call.Truncate (truncate.Want s)) q = absurd (true≢false q)
unblocked p killed c q = refl

either_none : (b : Bool) (o : Option ℕ) → o ≡ None → (if b then None else o) ≡ None
either_none true o e = refl
either_none false o e = e

by_call : (p : PartsState) (life : Life) (o : Option Call) (w : Phase) → option_map word_of o ≡ Some w → may_wait w ≡ false
    → (if is_dead life then None else task_state_call_blocker p (is_killed life) o) ≡ None
by_call p life None w e q = either_none (is_dead life) None refl
by_call p life (Some c) w e q = either_none (is_dead life) _ (unblocked p (is_killed life) c (ap may_wait (same e) ∙ q))
  where
    same : {a b : Phase} → Some a ≡ Some b → a ≡ b
    same z = cc

-- so its task waits for nobody
pub waits_not : (s : CoreState) (t : ℕ) (w : Phase) → phase_of s t ≡ Some w → may_wait w ≡ false → WaitsFor s t None
unfolding phase_of calls_of
waits_not s t w e q = waits_for_nobody s t (by_call s.parts (task_state_at s.task_states t).life (task_state_at s.task_states t).call w e q)

-- what a step's outcome tells of its call
step_agrees : (s n : State) (u : ℕ) (grant : Bool) (c : Call) (o : Outcome) → IsReached s → s.calls u ≡ Some c
    → machine.Row s (Step u grant) o n → Agrees o (option_map word_of (n.calls u))
step_agrees s n u grant c (outcome.Moved p) reached e row =
    let m = moved_tells s u grant p n reached row in
    ap (λ (x : Option Call). option_map word_of x) m.1 ∙ ap (λ (w : Phase). Some w) m.2
step_agrees s n u grant c (outcome.Ended a) reached e row =
    ap (λ (x : Option Call). option_map word_of x) (call_steps_on s u grant c (outcome.Ended a) n reached e row)
step_agrees s n u grant c (outcome.Blocked h) reached e row = tt
step_agrees s n u grant c outcome.Begun reached e row = tt
step_agrees s n u grant c (outcome.Refused why) reached e row = tt
step_agrees s n u grant c outcome.Marked reached e row = tt
step_agrees s n u grant c (outcome.Resized m) reached e row = tt

-- and any event's of its task's
event_agrees : (s n : State) (event : Event) (o : Outcome) (t : ℕ) → IsReached s → machine.Row s event o n
    → ((u : ℕ) → IsOf u event → u ≡ t) → Agrees o (option_map word_of (n.calls t))
event_agrees s n (Begin u p) o t reached row of =
    let Told : Outcome → Type 0 = λ m. Agrees m (option_map word_of (n.calls t)) in
    begin_cases s u p o n (Told o) row (λ why e d. subst Told (sym e) tt) (λ lives none may e d. subst Told (sym e) tt)
event_agrees s n (Step u grant) o t reached row of =
    let Told : Outcome → Type 0 = λ m. Agrees m (option_map word_of (n.calls t)) in
    step_cases s u grant o n (Told o) row
    (λ why e d. subst Told (sym e) tt)
    (λ c lives e pool next r d. subst (λ (k : ℕ). Agrees o (option_map word_of (n.calls k))) (of u refl)
    (step_agrees s n u grant c o reached e row))
event_agrees s n (Kill u) o t reached row of =
    let Told : Outcome → Type 0 = λ m. Agrees m (option_map word_of (n.calls t)) in
    kill_cases s u o n (Told o) row (λ why e d. subst Told (sym e) tt) (λ alive e d. subst Told (sym e) tt)
event_agrees s n (Resize size) o t reached row of =
    let Told : Outcome → Type 0 = λ m. Agrees m (option_map word_of (n.calls t)) in
    resize_cases s size o n (Told o) row
    (λ why e d. subst Told (sym e) tt)
    (λ told m frame e shifts _ d. subst Told (sym e) tt)

pub outcome_agrees : (s v : CoreState) (event : Event) (o : Outcome) (t : ℕ) → IsReached (as_state s) → Row s event o v
    → ((u : ℕ) → IsOf u event → u ≡ t) → Agrees o (phase_of v t)
unfolding Row phase_of
outcome_agrees s v event o t reached row of = event_agrees (as_state s) (as_state v) event o t reached row.0 of

-- with the word of its task's call the words are those of the core after the event
pub phases_after : (s v : CoreState) (event : Event) (o : Outcome) (t : ℕ) (phases : List (Option Phase)) (at : Option Phase)
    → Row s event o v → ((u : ℕ) → IsOf u event → u ≡ t) → 1 ≤ t → at ≡ phase_of v t
    → ArePhases s phases → ArePhases v (slice_set phases (t - 1) at)
unfolding Row phase_of ArePhases
phases_after s v event o t phases at row of first is were =
    λ u d one within. elim (same_or_other u t) [
      | inl e ↦ subst (λ (k : ℕ). slice_index_or (slice_set phases (t - 1) at) (k - 1) d ≡ phase_of v k) (sym e)
          (own d (omega (arith, one, within, long, e)))
      | inr other ↦ get_or-set_other phases (t - 1) (u - 1) at d (λ e. other (omega (arith, e, one, first)))
          ∙ (were u d one (omega (arith, within, long))
          ∙ sym (ap (λ (x : Option Call). option_map word_of x)
          (others_stay (as_state s) (as_state v) event o u row.0 (λ z. other (of u z))).0))
    ]
  where
    long : length (slice_set phases (t - 1) at) ≡ length phases
    long = length-set phases (t - 1) at

    own : (d : Option Phase) → t - 1 < length phases → slice_index_or (slice_set phases (t - 1) at) (t - 1) d ≡ phase_of v t
    own d within = get_or-set_same phases (t - 1) at d within ∙ is

-- no call is in flight in a pool that opens
pub no_phases : (config : Config) (s : CoreState) (n : ℕ) (phases : List (Option Phase)) → IsOpening config s
    → phases ≡ replicate n None → ArePhases s phases
unfolding IsOpening phase_of ArePhases
no_phases config s n phases opens none = subst (ArePhases s) (sym none) all
  where
    long : length (replicate {A = Option Phase} n None) ≡ n
    long = length-replicate {A = Option Phase} n None

    all : ArePhases s (replicate n None)
    all t d one within = get_or-replicate n (t - 1) None d (omega (arith, one, within, long))
        ∙ sym (ap (λ (m : State). option_map word_of (m.calls t)) opens.1)

-- the holder that a reader names
pub some_holder : (o : Option ℕ) → is_some o ≡ true → (holder : ℕ) × (o ≡ Some holder)
some_holder None e = never e
some_holder (Some h) e = (h, refl)

pub not_so : (b : Bool) → not b ≡ true → b ≡ false
not_so true e = never e
not_so false e = refl
