-- The memory that the parts have taken: to say that a step took none.
use Rattle.std.specs.Prelude.{◌≡◌, ℕ, Bool, true, List, slice_index_or}
use Rattle.hp_chunks.specs.Framed.{ChunkCapacity, NoMoreChunks}
use Rattle.hp_table.specs.Table.{SpaceCapacity, NoMoreCapacity, Table}
use Rattle.hp_parts.specs.declared.parts.FileState.{FileState}
use Rattle.hp_parts.specs.declared.parts.Parts.{Parts}
use Rattle.hp_parts.specs.State.{PartsState, SizesStay, state_of}
use Rattle.hp_parts.specs.View.{no_file, table_of}

-- the capacity of each file's reserve map
unfoldable pub map_capacities_of : List FileState → ℕ → ℕ
map_capacities_of files f = (slice_index_or files f no_file).map.capacity

-- the capacity of each file's page cache
unfoldable pub cache_capacities_of : List FileState → ℕ → ChunkCapacity
cache_capacities_of files f = (slice_index_or files f no_file).cache.capacity

-- the capacity of each task's space; tasks are counted from 1
unfoldable pub capacities_by_task : List Table → ℕ → SpaceCapacity
capacities_by_task spaces t = (table_of spaces t).capacity

-- no memory was taken: each list has the capacity that it had, and only chunks and places of translations may have been
-- given back, with the last page, or the last translation, of a chunk. Slots and locks have capacity for their places and no
-- more, so that `SizesStay` says it of them.
abbrev pub CapacityStays : PartsState → PartsState → Type 0
CapacityStays old new = record {
  bank : new.bank.capacity ≡ old.bank.capacity;
  maps : map_capacities_of new.files ≡ map_capacities_of old.files;
  caches : (file : ℕ) → NoMoreChunks (cache_capacities_of new.files file) (cache_capacities_of old.files file);
  spaces : (task : ℕ) → NoMoreCapacity (capacities_by_task new.spaces task) (capacities_by_task old.spaces task);
  files : new.listed_files ≡ old.listed_files;
  tasks : new.listed_tasks ≡ old.listed_tasks;
}

-- as many of each thing as before, and no memory was taken
abbrev pub MemoryStays : Parts → Parts → Type 0
MemoryStays old new = record {
  sizes : SizesStay (state_of old) (state_of new);
  capacity : CapacityStays (state_of old) (state_of new);
}

-- as many of each thing as before, and memory was taken only where growth is granted and wanted
abbrev pub MemoryStaysUnless : (grant : Bool) → (wants : Type 0) → Parts → Parts → Type 0
MemoryStaysUnless grant wants old new = record {
  sizes : SizesStay (state_of old) (state_of new);
  capacity : ¬ ((grant ≡ true) × wants) → CapacityStays (state_of old) (state_of new);
}
