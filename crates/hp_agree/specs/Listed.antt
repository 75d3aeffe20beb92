-- Pictures whose files list what they have in order.
use Rattle.std.specs.Prelude.{◌<◌, ◌≤◌, All, AllPairs}
use Rattle.hp_audit.specs.declared.picture.FilePicture.{FilePicture}
use Rattle.hp_audit.specs.declared.picture.Picture.{Picture}
use Rattle.hp_base.specs.declared.limits.TheConstants.{LIMIT}

-- the file's regions stand in order, with an index in each and between two; its pages stand in order of their indices
pub record IsFileListed (file : FilePicture) : Type 0 where
  pub some : All (λ region. region.0 < region.1) file.regions.items
  pub apart : AllPairs (λ region other. region.1 < other.0) file.regions.items
  pub in_order : AllPairs (λ page other. page.0 < other.0) file.pages.items

-- each file is so
abbrev pub IsListed : Picture → Type 0
IsListed p = All IsFileListed p.files.items

-- the file's reserved indices and those of its pages lie below the limit
pub record IsFileInLimit (file : FilePicture) : Type 0 where
  pub regions : All (λ region. region.1 ≤ LIMIT) file.regions.items
  pub pages : All (λ page. page.0 < LIMIT) file.pages.items

-- each file is so, and each translation's index lies below the limit
pub record IsInLimit (p : Picture) : Type 0 where
  pub files : All IsFileInLimit p.files.items
  pub tables : All (λ entry. entry.2 < LIMIT) p.tables.items
