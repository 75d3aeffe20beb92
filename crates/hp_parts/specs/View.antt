-- The parts as the machine sees them: each list of the code is a function of numbers.
use Rattle.std.specs.Prelude.{ℕ, ◌-◌, ◌==◌, Bool, false, List, [], Option, None, slice_index_or, length, if◌then◌else◌}
use Rattle.std.specs.FinMap.{get, empty}
use Rattle.hp_base.specs.declared.limits.TheConstants.{LIMIT, VPNS}
use Rattle.hp_base.specs.declared.mapping.Mapping.{Mapping}
use Rattle.hp_frames.specs.Bank.{frame_at}
use Rattle.hp_region.specs.Regions.{is_member}
use Rattle.hp_chunks.specs.Framed.{no_chunks}
use Rattle.hp_table.specs.Table.{no_capacity, Table}
use Rattle.hp_machine.specs.State.{Geometry, Pool}
use Rattle.hp_parts.specs.declared.parts.FileState.{FileState}
use Rattle.hp_parts.specs.declared.parts.Parts.{Parts}
use Rattle.hp_parts.specs.State.{PartsState, state_of}

-- stands for a file that isn't there
abbrev pub no_file : FileState
no_file = record {
  size = 0;
  map = record { regions = []; pending = 0; spare = 0; capacity = 0 };
  cache = record { pages = empty; capacity = no_chunks };
}

-- stands for the space of a task that isn't there
abbrev pub no_table : Table
no_table = record { mappings = []; entries = empty; ready = false; capacity = no_capacity }

unfoldable pub holders_of : List (Option ℕ) → ℕ → Option ℕ
holders_of holders k = slice_index_or holders k None

unfoldable pub sizes_of : List FileState → ℕ → ℕ
sizes_of files f = (slice_index_or files f no_file).size

unfoldable pub pendings_of : List FileState → ℕ → ℕ
pendings_of files f = (slice_index_or files f no_file).map.pending

unfoldable pub spares_of : List FileState → ℕ → ℕ
spares_of files f = (slice_index_or files f no_file).map.spare

unfoldable pub sets_of : List FileState → ℕ → ℕ → Bool
sets_of files f = is_member (slice_index_or files f no_file).map.regions

unfoldable pub pages_of : List FileState → ℕ → ℕ → Option ℕ
pages_of files f i = get (slice_index_or files f no_file).cache.pages i

-- tasks are counted from 1
abbrev pub table_of : List Table → ℕ → Table
table_of spaces t = if t == 0 then no_table else slice_index_or spaces (t - 1) no_table

unfoldable pub ready_by_task : List Table → ℕ → Bool
ready_by_task spaces t = (table_of spaces t).ready

unfoldable pub mappings_by_task : List Table → ℕ → List Mapping
mappings_by_task spaces t = (table_of spaces t).mappings

unfoldable pub entries_of : List Table → ℕ → ℕ → Option ℕ
entries_of spaces t v = get (table_of spaces t).entries v

-- how large the pool is, and how many pages its files may use
abbrev pub geometry_of : PartsState → Geometry
geometry_of p = record {
  files = length p.files;
  slots = length p.slots;
  tasks = length p.spaces;
  limit = LIMIT;
  space = VPNS;
  quota = p.bank.quota;
}

-- what all calls share, as the machine sees it
abbrev pub pool_of : PartsState → Pool
pool_of p = record {
  geometry = geometry_of p;
  frames = length p.bank.frames;
  frame = frame_at p.bank.frames;
  resv = p.bank.resv;
  used = p.bank.used;
  slots = holders_of p.slots;
  locks = holders_of p.locks;
  size = sizes_of p.files;
  pending = pendings_of p.files;
  spare = spares_of p.files;
  reserved = sets_of p.files;
  pages = pages_of p.files;
  ready = ready_by_task p.spaces;
  mappings = mappings_by_task p.spaces;
  entries = entries_of p.spaces;
}

abbrev pub view : Parts → Pool
view p = pool_of (state_of p)
