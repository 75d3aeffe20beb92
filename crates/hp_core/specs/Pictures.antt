-- A core as plain data.
use Rattle.std.specs.Prelude.{◌≡◌, ℕ, ◌+◌, ◌<◌, ◌≤◌, ◌==◌, Bool, false, ◌&&◌, Option, Some, None, length, is_some, IsTrue, All}
use Rattle.std.specs.Prelude.{AllPairs, HoldsAt, count_by}
use Rattle.std.specs.FinMap as map
use Rattle.std.specs.Ordering.{nat_cmp}
use Rattle.hp_base.specs.Numbers.{bit, total}
use Rattle.hp_base.specs.Indices.{count_below}
use Rattle.hp_base.specs.Mappings.{find, is_there}
use Rattle.hp_base.specs.declared.limits.TheConstants.{LIMIT, VPNS}
use Rattle.hp_frames.specs.Bank.{is_free, is_retired}
use Rattle.hp_machine.specs.State.{State}
use Rattle.hp_machine.specs.Views.{hand}
use Rattle.hp_audit.specs.Findings.{is_reserved}
use Rattle.hp_audit.specs.declared.picture.FilePicture.{FilePicture}
use Rattle.hp_audit.specs.declared.picture.Picture.{Picture}
use Rattle.hp_core.specs.State.{CoreState, as_state}
use Rattle.hp_core.specs.Readers.{free_of, resv_of, owed_of, used_of, used_owed_of, quota_of}

-- the picture is of file f: its size, whether its lock has a holder, its regions in order, no two of which
-- overlap or touch, and its pages in order of their indices
pub record IsFilePicture (s : State) (f : ℕ) (p : FilePicture) : Type 0 where
  pub size : p.size ≡ s.size f
  pub locked : p.locked ≡ is_some (s.locks f)
  pub reserved : (i : ℕ) → is_reserved p.regions.items i ≡ s.reserved f i
  pub ranges : All (λ region. (region.0 < region.1) × (region.1 ≤ LIMIT)) p.regions.items
  pub apart : AllPairs (λ region other. region.1 < other.0) p.regions.items
  pub pages : (i : ℕ) → map.find nat_cmp i p.pages.items ≡ s.pages f i
  pub in_order : IsTrue (map.is_sorted nat_cmp p.pages.items)
  pub in_file : All (λ page. page.0 < LIMIT) p.pages.items

-- whether that frame is there
abbrev pub is_that : (frame : ℕ) → Option ℕ → Bool
is_that x None = false
is_that x (Some y) = y == x

-- the entry is of that task, index of a file, and frame
abbrev pub is_entry : (task file index frame : ℕ) → ℕ × ℕ × ℕ × ℕ → Bool
is_entry t f i x entry = (entry.0 == t) && (entry.1 == f) && (entry.2 == i) && (entry.3 == x)

-- the virtual page of the task stands for that index of the file, and is translated to the frame
abbrev pub translates : State → (task file index frame vpn : ℕ) → Bool
translates s t f i x v = is_there (find (s.mappings t) v) f i && is_that x (s.entries t v)

-- The picture is of the core: each frame is among the free ones once where it is free, and never where it
-- isn't; among the retired ones so too; it is in as many hands as calls have it in theirs; and an entry stands there as often as virtual
-- pages of its task, all of which lie below VPNS, stand for its index and are translated to its frame.
pub record IsPicture (s : CoreState) (p : Picture) : Type 0 where
  pub free : (x : ℕ) → count_by (λ frame. frame == x) p.free.items ≡ bit (is_free ((as_state s).frame x))
  pub frees : length p.free.items ≡ free_of s
  pub retired : (x : ℕ) → count_by (λ frame. frame == x) p.retired.items ≡ bit (is_retired ((as_state s).frame x))
  pub resv : p.resv ≡ resv_of s
  pub owed : p.owed ≡ owed_of s
  pub used : p.used ≡ used_of s
  pub used_owed : p.used_owed ≡ used_owed_of s
  pub quota : p.quota ≡ quota_of s
  pub hands : (x : ℕ) → count_by (λ frame. frame == x) p.hands.items ≡ total ((as_state s).geometry.tasks + 1)
      (λ t. bit (is_that x (hand ((as_state s).calls t))))
  pub as_many : length p.files.items ≡ (as_state s).geometry.files
  pub files : (f : ℕ) → f < (as_state s).geometry.files → HoldsAt (IsFilePicture (as_state s) f) p.files.items f
  pub tables : (t f i x : ℕ) → count_by (is_entry t f i x) p.tables.items ≡ count_below (translates (as_state s) t f i x) VPNS
