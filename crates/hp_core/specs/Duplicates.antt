-- What is the same in a copy.
use Rattle.std.specs.Prelude.{◌≡◌}
use Rattle.hp_table.specs.Table.{Table}
use Rattle.hp_parts.specs.declared.parts.FileState.{FileState}

-- the same file, whatever memory its map and its cache have taken
abbrev pub IsSameFile : FileState → FileState → Type 0
IsSameFile file other =
    other ≡ record file {
      map = record file.map { capacity = other.map.capacity };
      cache = record file.cache { capacity = other.cache.capacity };
    }

-- the same space, whatever memory it has taken
abbrev pub IsSameTable : Table → Table → Type 0
IsSameTable table other = other ≡ record table { capacity = other.capacity }
