-- Who may go on behind a hold.
use Rattle.std.proofs.Common.{◌≡◌, ℕ, ◌+◌, ◌<◌, ◌⊎◌, List, inl, inr, refl, sym, ap, ◌∙◌, subst, arith, true≢false}
use Rattle.std.specs.Prelude.{Bool, true, false, ◌&&◌, Option, None, Some, OnErr, OnOk, Result, Ok, Err}
use Rattle.std.specs.Option.{option_map}
use Rattle.hp_base.specs.declared.event.Event.{Event}
use Rattle.hp_base.specs.declared.event.Event.TheVariants.{Begin, Step, Kill, Resize}
use Rattle.hp_machine.specs.Events.{IsReached, word_of}
use Rattle.hp_machine.specs.State as machine
use Rattle.hp_machine.specs.declared.call.Call.{Call}
use Rattle.hp_machine.specs.declared.outcome.Refusal.{Refusal}
use Rattle.hp_machine.specs.declared.outcome.Outcome.TheVariants.{Blocked, Refused}
use Rattle.hp_machine.specs.declared.outcome.Outcome.{Outcome}
use Rattle.hp_laws.specs.Laws.{CallersLive}
use Rattle.hp_laws.proofs.Reading.{step_cases}
use Rattle.hp_core.specs.Passing.{WaitOn, may_release, task_may_leave}
use Rattle.hp_core.specs.Readers.{config_of, phase_of}
use Rattle.hp_core.specs.Runs.{IsOfConfig, Row}
use Rattle.hp_core.specs.State.{CoreState, as_state}
use Rattle.hp_core.specs.Waiting.{WaitsFor}
use Rattle.hp_core.proofs.Holds.{waits_on}
use Rattle.hp_shared.specs.Calls.{IsOwn}
use Rattle.hp_shared.specs.Cutting.{IsCut}
use Rattle.hp_shared.specs.Journal.{is_made}
use Rattle.hp_shared.specs.States.{PoolState, SeatState}
use Rattle.hp_shared.specs.Waking.{AreHeldUpBut, AreWatched, NoneCalled, OthersWaitOn}
use Rattle.hp_shared.specs.declared.cutting.Part.{Part}
use Rattle.hp_shared.specs.declared.fault.CutFault.{CutFault}
use Rattle.hp_shared.specs.declared.waiting_room.Stance.{Stance}

-- a task that isn't there leaves nothing
pub leaves_nothing : (s : CoreState) (t : ℕ) → IsOfConfig s → CallersLive (as_state s) → ((t ≡ 0) ⊎ ((config_of s).tasks < t))
    → false ≡ task_may_leave (phase_of s t)
unfolding phase_of config_of
leaves_nothing s t config live away = by ((as_state s).calls t) refl
  where
    tasks : (as_state s).geometry.tasks ≡ s.sizes.tasks
    tasks = ap (λ (g : machine.Geometry). g.tasks) config.0

    there : (c : Call) → (as_state s).calls t ≡ Some c → ((t ≡ 0) ⊎ (s.sizes.tasks < t)) → false ≡ task_may_leave (Some (word_of c))
    there c e (inl none) = let lives = live t c e in absurd (omega (arith, none, lives.0))
    there c e (inr above) = let lives = live t c e in absurd (omega (arith, above, tasks, lives.1))

    by : (o : Option Call) → (as_state s).calls t ≡ o → false ≡ task_may_leave (option_map word_of ((as_state s).calls t))
    by None e = sym (ap (λ (x : Option Call). task_may_leave (option_map word_of x)) e)
    by (Some c) e = there c e away ∙ sym (ap (λ (x : Option Call). task_may_leave (option_map word_of x)) e)

-- where a hold may let nobody go on, whoever waited waits on
pub still_waiting : (old new : PoolState) (event : Event) (outcome : Outcome) → IsReached (as_state old.core)
    → Row old.core event outcome new.core → (is_made outcome ≡ false → new ≡ old)
    → (may_release old.core event && is_made outcome) ≡ false → WaitOn event old.core new.core
still_waiting old new event outcome reached row same none = by (may_release old.core event) (is_made outcome) refl refl none
  where
    by : (released made : Bool) → may_release old.core event ≡ released → is_made outcome ≡ made → (released && made) ≡ false
        → WaitOn event old.core new.core
    by false made e f g = waits_on old.core new.core event outcome reached row e
    by true false e f g = subst (λ (p : PoolState). WaitOn event old.core p.core) (sym (same f)) (λ t h other waits. waits)
    by true true e f g = absurd (true≢false g)

-- so does each but the task by whose seat the hold was made, be it killed or not
pub others_waiting : (own : ℕ) (old new : PoolState) (event : Event) (outcome : Outcome) → IsReached (as_state old.core)
    → Row old.core event outcome new.core → (is_made outcome ≡ false → new ≡ old) → IsOwn own event
    → (may_release old.core event && is_made outcome) ≡ false → OthersWaitOn own old.core new.core
others_waiting own old new (Begin t op) outcome reached row same is none task holder other =
    still_waiting old new (Begin t op) outcome reached row same none task holder (λ at. other (at ∙ is))
others_waiting own old new (Step t grant) outcome reached row same is none task holder other =
    still_waiting old new (Step t grant) outcome reached row same none task holder (λ at. other (at ∙ is))
others_waiting own old new (Kill t) outcome reached row same is none task holder other =
    subst (λ (p : PoolState). WaitsFor p.core task (Some holder)) (sym (same none))
others_waiting own old new (Resize frames) outcome reached row same is none task holder other =
    still_waiting old new (Resize frames) outcome reached row same none task holder (λ at. at)

-- so where whoever sleeps was held up, all but that task are
pub held_up_still : (own : ℕ) (old new : CoreState) (stances : List Stance) → AreWatched old stances → OthersWaitOn own old new
    → NoneCalled stances → AreHeldUpBut own new stances
held_up_still own old new stances watched waiting none place other asleep =
    let holder = watched none place asleep in (holder.0, waiting (place + 1) holder.0 other holder.1)

-- a cut leaves the core
pub cut_core : (cut : Result Part CutFault) (old new : PoolState) (seats after : List SeatState) → OnOk cut (IsCut old seats new)
    → OnErr cut ((new ≡ old) × (after ≡ seats)) → new.core ≡ old.core
cut_core (Ok part) old new seats after made same = made.core
cut_core (Err fault) old new seats after made same = ap (λ (p : PoolState). p.core) same.0

-- nobody holds up a task that isn't there
pub nobody_holds_up : (s : CoreState) (t : ℕ) → IsOfConfig s → CallersLive (as_state s) → ((t ≡ 0) ⊎ ((config_of s).tasks < t))
    → WaitsFor s t None
unfolding WaitsFor Row config_of
nobody_holds_up s t config live away grant holder new row =
    step_cases (as_state s) t grant (Blocked holder) (as_state new) ⊥ row.0 (λ why told _. refused why told)
    (λ c lives some pool next _ _. there c some away)
  where
    tasks : (as_state s).geometry.tasks ≡ s.sizes.tasks
    tasks = ap (λ (g : machine.Geometry). g.tasks) config.0

    there : (c : Call) → (as_state s).calls t ≡ Some c → ((t ≡ 0) ⊎ (s.sizes.tasks < t)) → ⊥
    there c e (inl none) = let lives = live t c e in omega (arith, none, lives.0)
    there c e (inr above) = let lives = live t c e in omega (arith, above, tasks, lives.1)

    refused : (why : Refusal) → Blocked holder ≡ Refused why → ⊥
    refused why told = absurd cc

-- who is held up by somebody isn't held up by nobody
pub one_of_both : {A : Type 0} (s : CoreState) (t holder : ℕ) → WaitsFor s t (Some holder) → WaitsFor s t None → A
unfolding WaitsFor
one_of_both s t holder held free = absurd (free true holder s (held true))
