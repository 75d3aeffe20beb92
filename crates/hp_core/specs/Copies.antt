-- What a picture copies from the lists of a core.
use Rattle.std.specs.Prelude.{◌≡◌, ℕ, zero, suc, ◌<◌, Bool, Option, List, [], ◌++◌, map, filter_map, All}
use Rattle.std.specs.Option.{option_map}
use Rattle.std.specs.FinMap.{entries}
use Rattle.hp_base.specs.declared.limits.TheConstants.{LIMIT}
use Rattle.hp_base.specs.declared.mapping.Mapping.{Mapping}
use Rattle.hp_base.specs.Mappings.{find}
use Rattle.hp_region.specs.Regions.{IsApartFrom}
use Rattle.hp_table.specs.Table.{Table}
use Rattle.hp_audit.specs.declared.picture.FilePicture.{FilePicture}
use Rattle.hp_parts.specs.declared.parts.FileState.{FileState}
use Rattle.hp_parts.specs.View.{table_of}

-- the picture copies that file, whose lock is taken or not
pub record IsCopy (file : FileState) (taken : Bool) (p : FilePicture) : Type 0 where
  pub size : p.size ≡ file.size
  pub locked : p.locked ≡ taken
  pub regions : p.regions.items ≡ map (λ r. (r.from, r.to)) file.map.regions
  pub apart : IsApartFrom 0 file.map.regions
  pub pages : p.pages.items ≡ entries file.cache.pages
  pub in_file : All (λ page. page.0 < LIMIT) p.pages.items

-- what an entry of a task's table translates: a page of a file
abbrev pub translation : (task : ℕ) → List Mapping → ℕ × ℕ → Option (ℕ × ℕ × ℕ × ℕ)
translation t mappings entry = option_map (λ place. (t, place.0, place.1, entry.1)) (find mappings entry.0)

-- all entries of the table
unfoldable pub translations : (task : ℕ) → Table → List (ℕ × ℕ × ℕ × ℕ)
translations t table = filter_map (translation t table.mappings) (entries table.entries)

-- those of the first tasks
unfoldable pub all_translations : List Table → ℕ → List (ℕ × ℕ × ℕ × ℕ)
all_translations spaces zero = []
all_translations spaces (suc n) = all_translations spaces n ++ translations (suc n) (table_of spaces (suc n))
