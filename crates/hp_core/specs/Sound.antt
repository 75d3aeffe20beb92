-- What holds of every core: a run of the machine from the frames of its config reached it, and its lists fit.
use Rattle.std.specs.Prelude.{◌≡◌, length}
use Rattle.hp_base.specs.Limits.{IsWithinLimits}
use Rattle.hp_machine.specs.Events.{IsReachedFrom}
use Rattle.hp_parts.specs.State.{IsSized}
use Rattle.hp_core.specs.State.{CoreState, as_state}

-- what the machine doesn't see
pub record IsKept (s : CoreState) : Type 0 where
  pub locks : IsSized s.parts
  pub files : length s.parts.files ≡ s.sizes.files
  pub slots : length s.parts.slots ≡ s.sizes.slots
  pub spaces : length s.parts.spaces ≡ s.sizes.tasks
  pub quota : s.parts.bank.quota ≡ s.sizes.quota
  pub task_states : length s.task_states ≡ s.sizes.tasks
  pub limits : IsWithinLimits s.sizes.frames s.sizes.files s.sizes.slots s.sizes.tasks

unfoldable pub IsSound : CoreState → Type 0
IsSound s = IsReachedFrom s.sizes.frames (as_state s) × IsKept s
