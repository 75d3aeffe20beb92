-- What the counts of a picture have to be.
use Rattle.std.specs.Prelude.{ℕ, ℤ, ◌-◌, ◌==◌, ◌&&◌, ◌||◌, nat_le, nat_lt, Bool, pos, ◌+ℤ◌, ◌-ℤ◌, List, count_by, sum_by}
use Rattle.std.specs.List.{list_any}
use Rattle.hp_base.specs.Indices.{is_within}
use Rattle.hp_picture.specs.Pictures.{PlacesState}
use Rattle.hp_picture.specs.declared.picture.Counts.{Counts}

-- how many indices a region has
abbrev pub size_of : ℕ × ℕ × ℕ → ℕ
size_of region = region.2 - region.1

-- how many indices are reserved, where no two regions share one
unfoldable pub reserved_in : PlacesState → ℕ
reserved_in p = sum_by size_of p.regions

-- the region has the index of the file
abbrev pub has_index : (file index : ℕ) → ℕ × ℕ × ℕ → Bool
has_index f i region = region.0 == f && is_within region.1 region.2 i

-- some region has it
unfoldable pub is_reserved : List (ℕ × ℕ × ℕ) → (file index : ℕ) → Bool
is_reserved regions f i = list_any (has_index f i) regions

-- the region begins at or before the index of the file
abbrev pub begins_by : (file index : ℕ) → ℕ × ℕ × ℕ → Bool
begins_by f i region = nat_lt region.0 f || (region.0 == f && nat_le region.1 i)

-- how many pages have an index that is reserved
unfoldable pub reserved_pages_in : PlacesState → ℕ
reserved_pages_in p = count_by (λ page. is_reserved p.regions page.0 page.1) p.pages

-- the reserve count: the reserved indices without a page, and what is owed
abbrev pub wanted_count : Counts → PlacesState → ℤ
wanted_count c p = (pos (reserved_in p) -ℤ pos (reserved_pages_in p)) +ℤ c.owed

-- the used count: the reserved indices, and what is owed
abbrev pub wanted_used : Counts → PlacesState → ℤ
wanted_used c p = pos (reserved_in p) +ℤ c.used_owed
