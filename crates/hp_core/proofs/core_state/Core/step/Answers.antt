use Rattle.std.proofs.Common.{◌≡◌, ap, vec_capacity}
use Rattle.std.specs.Prelude.{IfOk}
use Rattle.hp_base.specs.Text.{sizes}
use Rattle.hp_parts.specs.State.{state_of}
use Rattle.hp_core.specs.State.{CoreState}
use Rattle.hp_core.specs.Readers.{config_of}
use Rattle.hp_core.specs.Runs.{Row, IsIdle, Headline}
use Rattle.hp_core.specs.Sound.{IsSound}
use Rattle.hp_core.proofs.Headlines.{headline_of}
use Rattle.hp_core.proofs.Meets.{fits_from_sound}
use Rattle.hp_core.proofs.Blocked.{idle_result}
use Rattle.hp_core.proofs.Steps.{with_capacity, sound_result, row_result}
use Rattle.hp_core.proofs.core_state.Core.step.Goals as goal

pub step_event-requires : goal.step_event-requires
step_event-requires c =
    fits_from_sound (record {
      sizes = sizes c.self.inside.config;
      parts = state_of c.self.inside.parts;
      task_states = c.self.inside.task_states.items;
      capacity = vec_capacity c.self.inside.task_states;
    }) c.args.event c.self.invariant

pub invariant_of-self : goal.invariant_of-self
invariant_of-self c =
    let s : CoreState = record {
      sizes = sizes c.self.inside.config;
      parts = state_of c.self.inside.parts;
      task_states = c.self.inside.task_states.items;
      capacity = vec_capacity c.self.inside.task_states;
    } in
    with_capacity IsSound s _ _ _ c.step_event.ensures.list
    (sound_result s c.args.event c.step_event.result _ _ c.self.invariant
    (fits_from_sound s c.args.event c.self.invariant) c.step_event.ensures.row c.step_event.ensures.sizes
    c.step_event.ensures.task_states c.step_event.ensures.err)

pub returns-clause-row : goal.returns-clause-row
returns-clause-row c =
    let s : CoreState = record {
      sizes = sizes c.self.inside.config;
      parts = state_of c.self.inside.parts;
      task_states = c.self.inside.task_states.items;
      capacity = vec_capacity c.self.inside.task_states;
    } in
    rw (← c.self.view_is)
    (with_capacity (λ n. IfOk c.step_event.result (λ told. Row s c.args.event told n)) s _ _ _ c.step_event.ensures.list
    (row_result s c.args.event c.step_event.result _ _ (fits_from_sound s c.args.event c.self.invariant) c.step_event.ensures.row))

pub returns-clause-headline : goal.returns-clause-headline
returns-clause-headline c =
    let s : CoreState = record {
      sizes = sizes c.self.inside.config;
      parts = state_of c.self.inside.parts;
      task_states = c.self.inside.task_states.items;
      capacity = vec_capacity c.self.inside.task_states;
    } in
    with_capacity Headline s _ _ _ c.step_event.ensures.list
    (headline_of _ (sound_result s c.args.event c.step_event.result _ _ c.self.invariant
    (fits_from_sound s c.args.event c.self.invariant) c.step_event.ensures.row c.step_event.ensures.sizes
    c.step_event.ensures.task_states c.step_event.ensures.err))

pub returns-clause-config : goal.returns-clause-config
unfolding config_of
returns-clause-config c = ap (λ (z : CoreState). z.sizes) c.self.view_is

pub returns-clause-idle : goal.returns-clause-idle
returns-clause-idle c =
    let s : CoreState = record {
      sizes = sizes c.self.inside.config;
      parts = state_of c.self.inside.parts;
      task_states = c.self.inside.task_states.items;
      capacity = vec_capacity c.self.inside.task_states;
    } in
    rw (← c.self.view_is)
    (with_capacity (λ n. IfOk c.step_event.result (λ told. IsIdle told → n ≡ s)) s _ _ _ c.step_event.ensures.list
    (idle_result s c.args.event c.step_event.result _ _ c.self.invariant
    (fits_from_sound s c.args.event c.self.invariant) c.step_event.ensures.row c.step_event.ensures.blocked))

pub returns-clause-capacity : goal.returns-clause-capacity
returns-clause-capacity c = rw (← c.self.view_is) (λ none. (c.step_event.ensures.capacity none, c.step_event.ensures.list))
