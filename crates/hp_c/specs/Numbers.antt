-- The numbers that readers tell.
use Rattle.std.specs.Prelude.{◌≡◌, ◌⊎◌, ◌&&◌, ℕ, ◌<◌, ◌≤◌, nat_le, Bool, true, false, Option, Some, None, IsSomeAnd, if◌then◌else◌}
use Rattle.hp_core.specs.State.{CoreState}
use Rattle.hp_core.specs.Readers.{config_of, frames_of, free_of, resv_of, owed_of, used_of, used_owed_of, quota_of, calls_of}
use Rattle.hp_core.specs.Readers.{size_of, reserved_of, regions_of, pages_of, changes_of, spare_of}
use Rattle.hp_core.specs.Readers.{life_of, mappings_of, entries_of, translation_of, phase_of}
use Rattle.hp_core.specs.Acquiring.{acquired_of}
use Rattle.hp_core.specs.Waiting.{WaitsFor}
use Rattle.hp_core.specs.declared.acquiring.Acquired.{Acquired}
use Rattle.hp_core.specs.declared.acquiring.Acquired.TheVariants.{Nothing, Lock, Slot}
use Rattle.hp_machine.specs.declared.phase.Phase.{Phase}
use Rattle.hp_phases.specs.Phases.{phase_number}
use Rattle.hp_words.specs.Words.{life_number}
use Rattle.hp_c.specs.declared.readers.PoolWords.{PoolWords}
use Rattle.hp_c.specs.declared.readers.FileWords.{FileWords}
use Rattle.hp_c.specs.declared.readers.TaskWords.{TaskWords}
use Rattle.hp_c.specs.declared.readers.FrameWords.{FrameWords}
use Rattle.hp_c.specs.declared.readers.AcquiredWords.{AcquiredWords}
use Rattle.hp_c.specs.Codes.{is_closed, no_such}

-- a number that counts where the flag is true
abbrev pub flagged : Bool → ℕ → Option ℕ
flagged flag n = if flag then Some n else None

-- the numbers of the pool
pub record TellsPool (s : CoreState) (w : PoolWords) : Type 0 where
  pub frames : w.frames ≡ frames_of s
  pub free : w.free ≡ free_of s
  pub resv : w.resv ≡ resv_of s
  pub owed : w.owed ≡ owed_of s
  pub used : w.used ≡ used_of s
  pub used_owed : w.used_owed ≡ used_owed_of s
  pub quota : flagged w.has_quota w.quota ≡ quota_of s
  pub calls : w.calls ≡ calls_of s
  pub files : w.files ≡ (config_of s).files
  pub tasks : w.tasks ≡ (config_of s).tasks

-- the numbers of a file
pub record TellsFile (s : CoreState) (file : ℕ) (w : FileWords) : Type 0 where
  pub there : file < (config_of s).files
  pub size : w.size ≡ size_of s file
  pub reserved : w.reserved ≡ reserved_of s file
  pub pages : w.pages ≡ pages_of s file
  pub regions : w.regions ≡ regions_of s file
  pub changes : w.changes ≡ changes_of s file
  pub spare : w.spare ≡ spare_of s file

-- 0 where no call is in flight
abbrev pub phase_or_none : Option Phase → ℕ
phase_or_none None = 0
phase_or_none (Some p) = phase_number p

-- a task of the pool
abbrev pub is_task : CoreState → (task : ℕ) → Bool
is_task s task = nat_le 1 task && nat_le task (config_of s).tasks

-- the numbers of a task, and whom it waits for
pub record TellsTask (s : CoreState) (task : ℕ) (w : TaskWords) : Type 0 where
  pub there : is_task s task ≡ true
  pub life : w.life ≡ life_number (life_of s task)
  pub phase : w.phase ≡ phase_or_none (phase_of s task)
  pub waits : WaitsFor s task (flagged w.is_blocked w.holder)
  pub mappings : w.mappings ≡ mappings_of s task
  pub entries : w.entries ≡ entries_of s task

-- the frame that the task's page is translated to, if it is
pub record TellsFrame (s : CoreState) (task page : ℕ) (w : FrameWords) : Type 0 where
  pub there : is_task s task ≡ true
  pub frame : flagged w.is_there w.frame ≡ translation_of s task page

-- what a step has to take
abbrev pub acquired_words : Acquired → AcquiredWords
acquired_words Nothing = record { kind = 0; file = 0; index = 0 }
acquired_words (Lock f) = record { kind = 1; file = f; index = 0 }
acquired_words (Slot f i) = record { kind = 2; file = f; index = i }

-- what the next step of the task's call has to take
pub record TellsAcquired (s : CoreState) (task : ℕ) (w : AcquiredWords) : Type 0 where
  pub there : is_task s task ≡ true
  pub acquired : w ≡ acquired_words (acquired_of s task)

-- ---- where nothing is told

-- the pool is closed
abbrev pub IsClosed : (held : Option CoreState) → (code : ℕ) → Type 0
IsClosed held code = (code ≡ is_closed) × (held ≡ None)

-- nothing was read, since the pool is closed, or there is no such thing
abbrev pub IsUntold : {W : Type 0} → (read : Option (Option W)) → (code : ℕ) → Type 0
IsUntold read code = (code ≡ is_closed) × (read ≡ None) ⊎ (code ≡ no_such) × (read ≡ Some None)

-- the pool is closed, or has no such file
abbrev pub IsFileRefused : (held : Option CoreState) → (file code : ℕ) → Type 0
IsFileRefused held file code = IsClosed held code ⊎ (code ≡ no_such) × IsSomeAnd held (λ core. (config_of core).files ≤ file)

-- the pool is closed, or has no such task
abbrev pub IsTaskRefused : (held : Option CoreState) → (task code : ℕ) → Type 0
IsTaskRefused held task code = IsClosed held code ⊎ (code ≡ no_such) × IsSomeAnd held (λ core. is_task core task ≡ false)
