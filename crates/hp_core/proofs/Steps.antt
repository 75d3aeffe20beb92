-- A sound core after an event is sound, and the event is a row of the machine.
use Rattle.std.proofs.Common.{◌≡◌, ℕ, List, [], ◌∷◌, ◌++◌, length, refl, sym, ◌∙◌, subst, ap}
use Rattle.std.specs.Prelude.{Option, Some, IfSome, Result, Ok, Err, IfOk, OnErr}
use Rattle.std.specs.declared.alloc.AllocError.{AllocError}
use Rattle.hp_base.specs.declared.event.Event.{Event}
use Rattle.hp_machine.specs.State.{Geometry, State}
use Rattle.hp_machine.specs.Events as rows
use Rattle.hp_machine.specs.declared.outcome.Outcome.{Outcome}
use Rattle.hp_laws.proofs.Runs.{always, measures_stay}
use Rattle.hp_parts.specs.State.{PartsState, SizesStay}
use Rattle.hp_parts.specs.View.{geometry_of}
use Rattle.hp_core.specs.declared.task_state.TaskState.{TaskState}
use Rattle.hp_core.specs.State.{CoreState, state_with, as_state}
use Rattle.hp_core.specs.Fits.{EventFits}
use Rattle.hp_core.specs.TaskStates.{EventTaskStates}
use Rattle.hp_core.specs.Sound.{IsSound}
use Rattle.hp_core.specs.Runs.{Row}
use Rattle.hp_core.proofs.Refusals.{event_is}

-- what holds of the value, if there is one, holds of the one that is there
pub if_some : {A : Type 0} (P : A → Type 0) (o : Option A) (x : A) → o ≡ Some x → IfSome o P → P x
if_some {A} P o x e h = subst (λ (c : Option A). IfSome c P) e h

-- one more event of a run
pub run_on : (s mid new : State) (es : List (Event × Outcome)) (e : Event) (told : Outcome) → rows.Run s es mid
    → rows.Row mid e told new → rows.Run s (es ++ (e, told) ∷ []) new
run_on s mid new [] e told run row = (new, subst (λ (z : State). rows.Row z e told new) run row, refl)
run_on s mid new (x ∷ es) e told run row = (run.0, run.1, run_on run.0 mid new es e told run.2 row)

-- the state after an event is reached, where the one before it is
reached_after : (frames : ℕ) (s new : State) (e : Event) (told : Outcome) → rows.IsReachedFrom frames s → rows.Row s e told new
    → new.geometry ≡ s.geometry → rows.IsReachedFrom frames new
reached_after frames s new e told reached row same = (
  reached.0 ++ (e, told) ∷ [],
  subst (λ (o : State). rows.Run o (reached.0 ++ (e, told) ∷ []) new)
      (λ i. rows.opening (sym same i) frames)
      (run_on (rows.opening s.geometry frames) s new reached.0 e told reached.1 row),
)

-- what an event ensures of a core's fields
abbrev pub Stepped : CoreState → Event → Outcome → PartsState → List TaskState → Type 0
Stepped s e told after new =
    EventTaskStates s.parts s.task_states e told after new × SizesStay s.parts after × (length new ≡ length s.task_states)

-- the core with these parts and task states
abbrev pub with_fields : CoreState → PartsState → List TaskState → CoreState
with_fields s after new = record { sizes = s.sizes; parts = after; task_states = new; capacity = s.capacity }

-- what holds of a core whose list of task states has the capacity that it had, holds of it where that capacity is said anew
pub with_capacity : (P : CoreState → Type 0) (s : CoreState) (after : PartsState) (new : List TaskState) (capacity : ℕ)
    → capacity ≡ s.capacity
    → P (with_fields s after new) → P (record { sizes = s.sizes; parts = after; task_states = new; capacity = capacity })
with_capacity P s after new capacity same h =
    subst (λ (n : ℕ). P (record { sizes = s.sizes; parts = after; task_states = new; capacity = n })) (sym same) h

-- so an event keeps the core sound
sound_after : (s : CoreState) (e : Event) (told : Outcome) (after : PartsState) (new : List TaskState) → IsSound s
    → EventFits s.parts s.task_states e → Stepped s e told after new → IsSound (with_fields s after new)
unfolding IsSound
sound_after s e told after new h fits done =
    let z = done.1 in
    let kept = h.1 in
    let row = event_is s.parts after s.task_states new e told done.0 in
    let same : geometry_of after ≡ geometry_of s.parts =
    measures_stay (as_state s) e told (state_with after new) (always (as_state s) (s.sizes.frames, h.0)) row in (
      reached_after s.sizes.frames (as_state s) (state_with after new) e told h.0 row same,
      record {
        locks = z.locks ∙ (kept.locks ∙ sym z.files);
        files = z.files ∙ kept.files;
        slots = z.slots ∙ kept.slots;
        spaces = z.spaces ∙ kept.spaces;
        quota = ap (λ (g : Geometry). g.quota) same ∙ kept.quota;
        task_states = done.2 ∙ kept.task_states;
        limits = kept.limits;
      },
    )

-- a core stays sound, whether or not it found memory
pub sound_result : (s : CoreState) (e : Event) (result : Result Outcome AllocError) (after : PartsState) (new : List TaskState)
    → IsSound s → EventFits s.parts s.task_states e
    → IfOk result (λ told. EventTaskStates s.parts s.task_states e told after new) → SizesStay s.parts after
    → length new ≡ length s.task_states
    → OnErr result ((after ≡ s.parts) × (new ≡ s.task_states)) → IsSound (with_fields s after new)
sound_result s e (Ok told) after new h fits row sizes task_states err = sound_after s e told after new h fits (row, sizes, task_states)
sound_result s e (Err x) after new h fits row sizes task_states err =
    subst (λ (q : PartsState). IsSound (with_fields s q new)) (sym err.0)
    (subst (λ (ss : List TaskState). IsSound (with_fields s s.parts ss)) (sym err.1) h)

-- and the event is a row of the machine
pub row_result : (s : CoreState) (e : Event) (result : Result Outcome AllocError) (after : PartsState) (new : List TaskState)
    → EventFits s.parts s.task_states e → IfOk result (λ told. EventTaskStates s.parts s.task_states e told after new)
    → IfOk result (λ told. Row s e told (with_fields s after new))
unfolding Row
row_result s e (Ok told) after new fits row = (event_is s.parts after s.task_states new e told row, refl)
row_result s e (Err x) after new fits row = tt
