use Rattle.hp_base.specs.Text.{sizes}
use Rattle.std.proofs.Common.{refl}
use Rattle.hp_core.specs.Readers.{config_of}
use Rattle.hp_core.proofs.Opens.{are_sound, none_in_flight, opens_as}
use Rattle.hp_core.proofs.core_state.Core.new.Goals as goal

pub invariant_of-result : goal.invariant_of-result
invariant_of-result c = are_sound (sizes c.args.config) _ _
    (record {
      all_frames = c.in_ok-new.ensures.frames;
      none_reserved = c.in_ok-new.ensures.resv;
      none_used = c.in_ok-new.ensures.used;
      same_quota = c.in_ok-new.ensures.quota;
      all_slots = c.in_ok-new-2.ensures;
      all_locks = c.in_ok-new-3.ensures;
      files_long = c.in_ok-new_files.ensures.count;
      all_files = c.in_ok-new_files.ensures.fresh;
      spaces_long = c.in_ok-new_spaces.ensures.count;
      all_spaces = c.in_ok-new_spaces.ensures.fresh;
      task_states_long = c.in_ok-task_states.ensures.count;
      all_task_states = c.in_ok-task_states.ensures.fresh;
    }) _ c.args.config.within_limits

pub returns-clause-opening : goal.returns-clause-opening
returns-clause-opening c = opens_as c.args.config _ _ _
    (record {
      all_frames = c.in_ok-new.ensures.frames;
      none_reserved = c.in_ok-new.ensures.resv;
      none_used = c.in_ok-new.ensures.used;
      same_quota = c.in_ok-new.ensures.quota;
      all_slots = c.in_ok-new-2.ensures;
      all_locks = c.in_ok-new-3.ensures;
      files_long = c.in_ok-new_files.ensures.count;
      all_files = c.in_ok-new_files.ensures.fresh;
      spaces_long = c.in_ok-new_spaces.ensures.count;
      all_spaces = c.in_ok-new_spaces.ensures.fresh;
      task_states_long = c.in_ok-task_states.ensures.count;
      all_task_states = c.in_ok-task_states.ensures.fresh;
    })

pub returns-clause-config : goal.returns-clause-config
unfolding config_of
returns-clause-config c = refl

pub returns-clause-calls : goal.returns-clause-calls
returns-clause-calls c = none_in_flight (sizes c.args.config) _ _ _ c.in_ok-task_states.ensures.fresh
