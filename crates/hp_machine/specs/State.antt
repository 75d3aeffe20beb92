-- The state of a pool, as functions of numbers: frames, files, slots, tasks and their calls.
use Rattle.std.specs.Prelude.{ℕ, ◌+◌, ◌*◌, ◌%◌, Bool, true, false, Option, List}
use Rattle.hp_base.specs.Indices.{count_below}
use Rattle.hp_base.specs.declared.mapping.Mapping.{Mapping}
use Rattle.hp_frames.specs.Bank.{exceeds, is_active, is_free, is_used_up}
use Rattle.hp_frames.specs.declared.frame.FrameState.{FrameState}
use Rattle.hp_frames.specs.declared.frame.FrameState.TheVariants.{Free, Hand, Placed, Retired}
use Rattle.hp_machine.specs.declared.outcome.Life.{Life}
use Rattle.hp_machine.specs.declared.outcome.Life.TheVariants.{Alive, Killed, Dead}
use Rattle.hp_machine.specs.declared.call.Call.{Call}

-- how large it all is: files, slots and tasks, the indices of a file, and the virtual pages of a task; and how many
-- pages all files together may use, where that is limited
pub record Geometry : Type 0 where
  pub files : ℕ
  pub slots : ℕ
  pub tasks : ℕ
  pub limit : ℕ
  pub space : ℕ
  pub quota : Option ℕ

-- What all calls share. Frames have the numbers below `frames`, those that are retired too. Per frame: where it is;
-- `resv` is the count of reserved pages, `used` that of used ones. Per slot and per file lock: the task that holds
-- it. Per file: size, open changes, spare descriptors, the set of reserved indices, and the frame of each page. Per
-- task: whether capacity for one mapping more is ready, its mappings and its translations.
pub record Pool : Type 0 where
  pub geometry : Geometry
  pub frames : ℕ
  pub frame : ℕ → FrameState
  pub resv : ℕ
  pub used : ℕ
  pub slots : ℕ → Option ℕ
  pub locks : ℕ → Option ℕ
  pub size : ℕ → ℕ
  pub pending : ℕ → ℕ
  pub spare : ℕ → ℕ
  pub reserved : ℕ → ℕ → Bool
  pub pages : ℕ → ℕ → Option ℕ
  pub ready : ℕ → Bool
  pub mappings : ℕ → List Mapping
  pub entries : ℕ → ℕ → Option ℕ

-- and with it how each task lives, and its call in flight. What the pool has is read off a state too: `s.size`
pub record State : Type 0 where
  pub pool : Pool
  pub open pool use *
  pub life : ℕ → Life
  pub calls : ℕ → Option Call

abbrev pub pool_of : State → Pool
pool_of s = s.pool

abbrev pub with_pool : State → Pool → State
with_pool s p = record s { pool = p }

-- how many of the first frames are free
unfoldable pub free_frames : (ℕ → FrameState) → (frames : ℕ) → ℕ
free_frames frame frames = count_below (λ x. is_free (frame x)) frames

abbrev pub frees : Pool → ℕ
frees s = free_frames s.frame s.frames

-- how many of the first frames aren't retired
unfoldable pub active_frames : (ℕ → FrameState) → (frames : ℕ) → ℕ
active_frames frame frames = count_below (λ x. is_active (frame x)) frames

-- how many frames the pool has (Linux: `nr_huge_pages`)
abbrev pub actives : Pool → ℕ
actives s = active_frames s.frame s.frames

-- n more pages are more than the quota has left (Linux: `hugepage_subpool_get_pages`)
abbrev pub exceeds_quota : Pool → ℕ → Bool
exceeds_quota s n = exceeds s.geometry.quota s.used n

-- the quota has nothing left
abbrev pub quota_is_used_up : Pool → Bool
quota_is_used_up s = is_used_up s.geometry.quota s.used

-- the slot of an index in the fault mutex table (Linux: `hugetlb_fault_mutex_hash`)
abbrev pub slot_of : Geometry → (file index : ℕ) → ℕ
slot_of g file index = (index + 31 * file) % g.slots

abbrev pub is_alive : Life → Bool
is_alive Alive = true
is_alive Killed = false
is_alive Dead = false

abbrev pub is_killed : Life → Bool
is_killed Alive = false
is_killed Killed = true
is_killed Dead = false

abbrev pub is_dead : Life → Bool
is_dead Alive = false
is_dead Killed = false
is_dead Dead = true
