-- What the lines of a picture have to keep, one by one.
use Rattle.std.specs.Prelude.{◌≡◌, ◌⊎◌, ◌↔◌, ℕ, ◌-◌, ◌^◌, ◌<◌, ◌≤◌, Bool, false, ◌&&◌, List, Contains, length, nat_eq, slice_get}
use Rattle.std.specs.Prelude.{slice_index_or, IfSome, IsTrue}
use Rattle.std.specs.HashSet.{HashSet, contains}
use Rattle.hp_picture.specs.Pictures.{PlacesState}
use Rattle.hp_judge.specs.declared.finding.Clause.{Clause}
use Rattle.hp_judge.specs.declared.finding.Clause.TheVariants.{Region, Page, File, Agree, Size}

-- files have fewer indices
abbrev pub most_indices : ℕ
most_indices = 2 ^ 31

abbrev pub region_at : PlacesState → (number : ℕ) → ℕ × ℕ × ℕ
region_at p n = slice_index_or p.regions n (0, 0, 0)

abbrev pub page_at : PlacesState → (number : ℕ) → ℕ × ℕ × ℕ
page_at p n = slice_index_or p.pages n (0, 0, 0)

abbrev pub translation_at : PlacesState → (number : ℕ) → ℕ × ℕ × ℕ × ℕ
translation_at p n = slice_index_or p.tables n (0, 0, 0, 0)

-- of two regions, the other is of a later file, or lies behind this one with an index between them
abbrev pub IsRegionBehind : (region other : ℕ × ℕ × ℕ) → Type 0
IsRegionBehind region other = (region.0 < other.0) ⊎ ((region.0 ≡ other.0) × (region.2 < other.1))

-- of two pages, the other is of a later file, or of a later index
abbrev pub IsPageBehind : (page other : ℕ × ℕ × ℕ) → Type 0
IsPageBehind page other = (page.0 < other.0) ⊎ ((page.0 ≡ other.0) × (page.1 < other.1))

-- a region is of a file that is there, isn't empty, ends at 2^31 at most, and lies behind the one before it
pub record IsRegion (p : PlacesState) (n : ℕ) : Type 0 where
  pub file : (region_at p n).0 < length p.files
  pub some : (region_at p n).1 < (region_at p n).2
  pub few : (region_at p n).2 ≤ most_indices
  pub behind : 0 < n → IsRegionBehind (region_at p (n - 1)) (region_at p n)

-- a page is of a file that is there, at an index below 2^31, and lies behind the one before it
pub record IsPage (p : PlacesState) (n : ℕ) : Type 0 where
  pub file : (page_at p n).0 < length p.files
  pub few : (page_at p n).1 < most_indices
  pub behind : 0 < n → IsPageBehind (page_at p (n - 1)) (page_at p n)

-- a translation is of a file that is there
abbrev pub HasFile : PlacesState → (number : ℕ) → Type 0
HasFile p n = (translation_at p n).1 < length p.files

-- it names its file's page at that index
abbrev pub Agrees : PlacesState → (number : ℕ) → Type 0
Agrees p n = Contains p.pages ((translation_at p n).1, (translation_at p n).2, (translation_at p n).3)

-- if its file is there and isn't locked, it lies below the file's size
abbrev pub IsBelow : PlacesState → (number : ℕ) → Type 0
IsBelow p n = IfSome (slice_get p.files (translation_at p n).1) (λ file. file.1 ≡ false → (translation_at p n).2 < file.0)

-- the line of that number keeps the clause
abbrev pub Keeps : PlacesState → Clause → (number : ℕ) → Type 0
Keeps p Region n = IsRegion p n
Keeps p Page n = IsPage p n
Keeps p File n = HasFile p n
Keeps p Agree n = Agrees p n
Keeps p Size n = IsBelow p n

-- how many lines have to keep it
abbrev pub lines_of : PlacesState → Clause → ℕ
lines_of p Region = length p.regions
lines_of p Page = length p.pages
lines_of p File = length p.tables
lines_of p Agree = length p.tables
lines_of p Size = length p.tables

-- all keep it
abbrev pub AllKeep : PlacesState → Clause → Type 0
AllKeep p clause = (n : ℕ) → n < lines_of p clause → Keeps p clause n

-- both are of one file, index and frame
abbrev pub same_page : (page other : ℕ × ℕ × ℕ) → Bool
same_page page other = (nat_eq page.0 other.0 && nat_eq page.1 other.1) && nat_eq page.2 other.2

-- the set has these pages and no other
unfoldable pub HasExactly : {S : Type 0} → HashSet (ℕ × ℕ × ℕ) S → List (ℕ × ℕ × ℕ) → Type 0
HasExactly set pages = (page : ℕ × ℕ × ℕ) → IsTrue (contains same_page set page) ↔ Contains pages page
