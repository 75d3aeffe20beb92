-- What a core does: one event is a row of the machine, and a list of events a run.
use Rattle.std.specs.Prelude.{◌≡◌, ◌<◌, ℕ, true, List, IsSomeAnd, length}
use Rattle.std.specs.List.{zip}
use Rattle.hp_base.specs.Text.{Sizes, sizes}
use Rattle.hp_base.specs.declared.config.Config.{Config}
use Rattle.hp_base.specs.declared.event.Event.{Event}
use Rattle.hp_base.specs.declared.event.Event.TheVariants.{Begin, Step, Kill, Resize}
use Rattle.hp_machine.specs.State as machine
use Rattle.hp_machine.specs.Events as events
use Rattle.hp_machine.specs.Headline as head
use Rattle.hp_machine.specs.Resizes.{is_size}
use Rattle.hp_machine.specs.Wants.{Wants}
use Rattle.hp_machine.specs.declared.outcome.Outcome.{Outcome}
use Rattle.hp_machine.specs.declared.outcome.Outcome.TheVariants.{Begun, Moved, Blocked, Ended, Marked, Resized, Refused}
use Rattle.hp_base.specs.declared.limits.TheConstants.{LIMIT, VPNS}
use Rattle.hp_parts.specs.Capacity.{CapacityStays}
use Rattle.hp_parts.specs.State.{PartsState}
use Rattle.hp_parts.specs.View.{pool_of}
use Rattle.hp_core.specs.declared.task_state.TaskState.{TaskState}
use Rattle.hp_core.specs.State.{CoreState, as_state, task_state_at}

-- the geometry of a pool of these sizes, with its quota
abbrev pub geometry : Sizes → machine.Geometry
geometry z = record { files = z.files; slots = z.slots; tasks = z.tasks; limit = LIMIT; space = VPNS; quota = z.quota }

-- the state of the machine has the sizes of the core's config, and was opened with as many frames
abbrev pub IsOfConfig : CoreState → Type 0
IsOfConfig s = ((as_state s).geometry ≡ geometry s.sizes) × events.IsReachedFrom s.sizes.frames (as_state s)

-- the core is the machine's opening state of that config
unfoldable pub IsOpening : Config → CoreState → Type 0
IsOpening config s = (s.sizes ≡ sizes config) × (as_state s ≡ events.opening (geometry (sizes config)) config.frames)

-- the event is a row of the machine, and the config stays
unfoldable pub Row : CoreState → Event → Outcome → CoreState → Type 0
Row s event outcome new = events.Row (as_state s) event outcome (as_state new) × (new.sizes ≡ s.sizes)

-- the events, one after the other, have these outcomes and lead there: a run of the machine
unfoldable pub Run : CoreState → List Event → List Outcome → CoreState → Type 0
Run s list outcomes new = events.Run (as_state s) (zip list outcomes) (as_state new) × (length outcomes ≡ length list)
    × (new.sizes ≡ s.sizes)

-- an outcome of which nothing came: the step was blocked, or the event refused
abbrev pub IsIdle : Outcome → Type 0
IsIdle Begun = ⊥
IsIdle (Moved p) = ⊥
IsIdle (Blocked holder) = Unit {0}
IsIdle (Ended a) = ⊥
IsIdle Marked = ⊥
IsIdle (Resized frames) = ⊥
IsIdle (Refused why) = Unit {0}

-- the headline of the machine's state
unfoldable pub Headline : CoreState → Type 0
Headline s = head.Headline (as_state s)

-- the task has a call in flight, whose row wants growth
abbrev pub StepWants : PartsState → List TaskState → (task : ℕ) → Type 0
StepWants p task_states t = IsSomeAnd (task_state_at task_states t).call (λ inflight. Wants (pool_of p) t inflight)

-- the event is a granted step whose row wants growth, or a resize that brings in new numbers
abbrev pub WantsGrowth : PartsState → List TaskState → Event → Type 0
WantsGrowth p task_states (Begin task op) = ⊥
WantsGrowth p task_states (Step task grant) = (grant ≡ true) × StepWants p task_states task
WantsGrowth p task_states (Kill task) = ⊥
WantsGrowth p task_states (Resize frames) = (is_size frames ≡ true) × ((pool_of p).frames < frames)

-- no memory was taken: no part has more capacity than before, and the list of task states has as much
abbrev pub TakesNoMemory : CoreState → CoreState → Type 0
TakesNoMemory old new = CapacityStays old.parts new.parts × (new.capacity ≡ old.capacity)
