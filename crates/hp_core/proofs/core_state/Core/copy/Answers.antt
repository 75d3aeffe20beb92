use Rattle.std.proofs.Common.{◌≡◌, List, refl, ap, sym, subst, ◌∙◌}
use Rattle.std.specs.Prelude.{All, None}
use Rattle.hp_parts.specs.declared.parts.FileState.{FileState}
use Rattle.hp_parts.specs.State.{state_of}
use Rattle.hp_core.specs.declared.task_state.TaskState.{TaskState}
use Rattle.hp_core.specs.State.{CoreState, as_state}
use Rattle.hp_core.specs.Readers.{config_of}
use Rattle.hp_core.proofs.Duplicates.{can_copy, are_same, state_same, still_sound}
use Rattle.hp_core.proofs.core_state.Core.copy.Goals as goal

pub copy-requires : goal.copy-requires
copy-requires c = (can_copy c.a_pool_at_rest_holds_nothing.ensures _ _ c.self.view_is c.self.invariant c.requires).hands

pub copy_files-requires : goal.copy_files-requires
copy_files-requires c =
    subst (λ (xs : List FileState). All (λ (file : FileState). file.map.pending ≡ 0) xs) (sym c.deref.ensures.value)
    (can_copy c.a_pool_at_rest_holds_nothing.ensures _ _ c.self.view_is c.self.invariant c.requires).changes

pub copy_task_states-requires : goal.copy_task_states-requires
copy_task_states-requires c =
    subst (λ (xs : List TaskState). All (λ (task_state : TaskState). task_state.call ≡ None) xs) (sym c.deref-3.ensures.value)
    (can_copy c.a_pool_at_rest_holds_nothing.ensures _ _ c.self.view_is c.self.invariant c.requires).calls

pub invariant_of-result : goal.invariant_of-result
invariant_of-result c =
    still_sound _ _ c.self.invariant
    (are_same _ _ _ _ c.in_ok-copy.ensures c.deref.ensures.value c.in_ok-copy_files.ensures c.in_ok-copy-2.ensures
    c.in_ok-copy-3.ensures c.deref-2.ensures.value c.in_ok-copy_spaces.ensures)
    (c.in_ok-task_states.ensures ∙ c.deref-3.ensures.value) refl

pub returns-clause-state : goal.returns-clause-state
returns-clause-state c =
    state_same (state_of c.self.inside.parts) (state_of record {
      bank = c.in_ok-copy.field-0;
      files = c.in_ok-copy_files.field-0;
      slots = c.in_ok-copy-2.field-0;
      locks = c.in_ok-copy-3.field-0;
      spaces = c.in_ok-copy_spaces.field-0;
    }) _ _
    (are_same _ _ _ _ c.in_ok-copy.ensures c.deref.ensures.value c.in_ok-copy_files.ensures c.in_ok-copy-2.ensures
    c.in_ok-copy-3.ensures c.deref-2.ensures.value c.in_ok-copy_spaces.ensures)
    (c.in_ok-task_states.ensures ∙ c.deref-3.ensures.value)
    ∙ ap (λ (s : CoreState). as_state s) c.self.view_is

pub returns-clause-config : goal.returns-clause-config
unfolding config_of
returns-clause-config c = ap (λ (s : CoreState). config_of s) c.self.view_is
