-- What is right with a picture: one fact for each finding.
use Rattle.std.specs.Prelude.{◌≡◌, ◌≢◌, ℕ, ◌+◌, ◌<◌, ◌≤◌, Bool, false, ◌==◌, ◌&&◌, not, pos, ◌+ℤ◌, List, length, All, AllPairs}
use Rattle.std.specs.Prelude.{Contains, count_by, sum_by, slice_get, IsSomeAnd, IfSome}
use Rattle.std.specs.List.{list_any}
use Rattle.hp_base.specs.Indices.{is_within, count_below}
use Rattle.hp_base.specs.declared.limits.TheConstants.{LIMIT}
use Rattle.hp_audit.specs.declared.picture.FilePicture.{FilePicture}
use Rattle.hp_audit.specs.declared.picture.Picture.{Picture}

-- some range has the index
abbrev pub is_reserved : (regions : List (ℕ × ℕ)) → ℕ → Bool
is_reserved regions i = list_any (λ region. is_within region.0 region.1 i) regions

-- some page has the index
abbrev pub has_page : (pages : List (ℕ × ℕ)) → ℕ → Bool
has_page pages i = list_any (λ page. page.0 == i) pages

-- each range and each page of the file lies below the limit, and no index has two pages
pub record IsFileShaped (file : FilePicture) : Type 0 where
  pub regions : All (λ region. (region.0 ≤ region.1) × (region.1 ≤ LIMIT)) file.regions.items
  pub pages : All (λ page. page.0 < LIMIT) file.pages.items
  pub once : AllPairs (λ page other. page.0 ≢ other.0) file.pages.items

-- each file is so, and each translation is of an index below the limit of a file that is there
pub record IsShaped (p : Picture) : Type 0 where
  pub files : All IsFileShaped p.files.items
  pub tables : All (λ entry. (entry.1 < length p.files.items) × (entry.2 < LIMIT)) p.tables.items

-- each translation is to the file's page at that index
abbrev pub Agrees : Picture → Type 0
Agrees p = All (λ entry. IsSomeAnd (slice_get p.files.items entry.1) (λ file. Contains file.pages.items (entry.2, entry.3))) p.tables.items

-- how often the frame stands in the list
abbrev pub times_in : (frames : List ℕ) → ℕ → ℕ
times_in frames x = count_by (λ frame. frame == x) frames

-- how many of the pages are in the frame
abbrev pub pages_in : (pages : List (ℕ × ℕ)) → ℕ → ℕ
pages_in pages x = count_by (λ page. page.1 == x) pages

-- how many places have the frame: free ones, retired ones, hands and pages
unfoldable pub place_count : Picture → ℕ → ℕ
place_count p x =
    times_in p.free.items x + times_in p.retired.items x + times_in p.hands.items x
    + sum_by (λ file. pages_in file.pages.items x) p.files.items

-- no frame is at two places
abbrev pub IsOnePlace : Picture → Type 0
IsOnePlace p = (x : ℕ) → place_count p x ≤ 1

-- each translation of a file that isn't locked is of an index below the file's size
abbrev pub IsBelow : Picture → Type 0
IsBelow p = All (λ entry. IfSome (slice_get p.files.items entry.1) (λ file. file.locked ≡ false → entry.2 < file.size)) p.tables.items

-- the index is reserved and has no page
abbrev pub is_vacant : FilePicture → ℕ → Bool
is_vacant file i = is_reserved file.regions.items i && not (has_page file.pages.items i)

-- how many indices of the file are reserved and have no page
unfoldable pub vacant_of : FilePicture → ℕ
vacant_of file = count_below (is_vacant file) LIMIT

-- how many indices of all files are reserved and have no page
abbrev pub vacant_in : Picture → ℕ
vacant_in p = sum_by vacant_of p.files.items

-- the reserve count is that number plus what is owed, and at most the number of free frames
pub record IsCounted (p : Picture) : Type 0 where
  pub exact : pos p.resv ≡ pos (vacant_in p) +ℤ p.owed
  pub enough : p.resv ≤ length p.free.items

-- how many indices of the file are reserved
unfoldable pub reserved_of : FilePicture → ℕ
reserved_of file = count_below (is_reserved file.regions.items) LIMIT

-- how many indices of all files are reserved
abbrev pub reserved_in : Picture → ℕ
reserved_in p = sum_by reserved_of p.files.items

-- the used count is that number plus what is owed to it, and at most the quota, where there is one
pub record IsUsedCounted (p : Picture) : Type 0 where
  pub exact : pos p.used ≡ pos (reserved_in p) +ℤ p.used_owed
  pub within : IfSome p.quota (λ most. p.used ≤ most)

-- nothing is wrong with the picture
abbrev pub IsRight : Picture → Type 0
IsRight p = IsShaped p × Agrees p × IsOnePlace p × IsBelow p × IsCounted p × IsUsedCounted p
