-- A picture whose files have lists of their own, as one of lines, in which each entry has its file's number.
use Rattle.std.specs.Prelude.{ℕ, ◌+◌, pos, List, [], ◌∷◌, ◌++◌, map}
use Rattle.hp_audit.specs.declared.picture.FilePicture.{FilePicture}
use Rattle.hp_audit.specs.declared.picture.Picture.{Picture}
use Rattle.hp_picture.specs.Pictures.{PlacesState}
use Rattle.hp_picture.specs.declared.picture.Counts.{Counts}

-- the entries of each file, with its number, which counts from n
unfoldable pub numbered : {A : Type 0} → (FilePicture → List (ℕ × A)) → (n : ℕ) → List FilePicture → List (ℕ × ℕ × A)
numbered of n [] = []
numbered of n (file ∷ files) = map (λ entry. (n, entry.0, entry.1)) (of file) ++ numbered of (n + 1) files

abbrev pub counts_of : Picture → Counts
counts_of p = record { resv = pos p.resv; owed = p.owed; used = pos p.used; used_owed = p.used_owed; quota = p.quota }

abbrev pub places_of : Picture → PlacesState
places_of p = record {
  free = p.free.items;
  retired = p.retired.items;
  hands = p.hands.items;
  files = map (λ file. (file.size, file.locked)) p.files.items;
  regions = numbered (λ file. file.regions.items) 0 p.files.items;
  pages = numbered (λ file. file.pages.items) 0 p.files.items;
  tables = p.tables.items;
}
