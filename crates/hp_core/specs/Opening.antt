-- A core that nothing has happened to.
use Rattle.std.specs.Prelude.{◌≡◌, None, []}
use Rattle.std.specs.FinMap.{empty}
use Rattle.hp_machine.specs.declared.outcome.Life.TheVariants.{Alive}
use Rattle.hp_parts.specs.declared.parts.FileState.{FileState}
use Rattle.hp_core.specs.declared.task_state.TaskState.{TaskState}

-- an empty file, with no reservation and no page
pub record IsFresh (file : FileState) : Type 0 where
  pub size : file.size ≡ 0
  pub regions : file.map.regions ≡ []
  pub pending : file.map.pending ≡ 0
  pub spare : file.map.spare ≡ 0
  pub cache : file.cache.pages ≡ empty

-- a task that is alive and has no call
pub record IsVacant (task_state : TaskState) : Type 0 where
  pub life : task_state.life ≡ Alive
  pub call : task_state.call ≡ None
