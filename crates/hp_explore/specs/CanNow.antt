-- Whether a task may take a turn, as a test.
use Rattle.std.specs.Prelude.{ℕ, Bool, is_none, if◌then◌else◌}
use Rattle.hp_core.specs.State.{task_state_at}
use Rattle.hp_core.specs.Blockers.{task_blocker}
use Rattle.hp_explore.specs.Schedule.{Plan, World, in_call, may_begin}

-- whether the task may take a turn, as a test
abbrev pub can_now : Plan → World → (task : ℕ) → Bool
can_now plan w t = if in_call w t then is_none (task_blocker w.core.parts (task_state_at w.core.task_states t))
    else may_begin plan w t
