-- What the code of a pool of huge pages keeps, whatever its calls look like: frames, pages, translations, slots and the counts.
use Rattle.std.specs.Prelude.{ℕ, ◌+◌, ◌-◌, Option, Some, None, List, [], is_some, nat_lt, Bool, false, if◌then◌else◌}
use Rattle.hp_base.specs.Indices.{count_below}
use Rattle.hp_base.specs.Numbers.{total}
use Rattle.hp_base.specs.declared.mapping.Mapping.{Mapping}
use Rattle.hp_frames.specs.declared.frame.FrameState.{FrameState}
use Rattle.hp_frames.specs.declared.frame.FrameState.TheVariants.{Free, Hand}
use Rattle.hp_machine.specs.State.{Geometry}

-- What a holder knows of the index whose slot it holds: nothing yet; there is no page; there is none, and the index is reserved; or no
-- task below `task` has a translation of it
pub data Mark : Type 0 where
  Away : Mark
  At : (file index : ℕ) → Mark
  Bare : (file index : ℕ) → Mark
  Entered : (file index : ℕ) → Mark
  Clearing : (file index task : ℕ) → Mark

-- the file and index whose slot is held
abbrev pub place_of : Mark → Option (ℕ × ℕ)
place_of Away = None
place_of (At f i) = Some (f, i)
place_of (Bare f i) = Some (f, i)
place_of (Entered f i) = Some (f, i)
place_of (Clearing f i n) = Some (f, i)

-- the file and index that is known to have no page
abbrev pub bare_of : Mark → Option (ℕ × ℕ)
bare_of Away = None
bare_of (At f i) = None
bare_of (Bare f i) = Some (f, i)
bare_of (Entered f i) = Some (f, i)
bare_of (Clearing f i n) = None

-- Frames are below `frames`; per slot its holder; per file its reserve map and its pages; per task its mappings and translations; per
-- holder the frame in its hand and what it knows. A holder is a task's call, or nothing but a hand that keeps a frame until it is freed.
--
-- The reserve count is `count` less `debt`. `owed` are reservations that are spent and whose page isn't there yet, or isn't there any
-- more, while the index is still in the map; `promised` are those that are counted, and whose index isn't in the map yet, or any more.
pub record Books : Type 0 where
  pub geometry : Geometry
  pub frames : ℕ
  pub frame : ℕ → FrameState
  pub slots : ℕ → Option ℕ
  pub reserved : ℕ → ℕ → Bool
  pub pages : ℕ → ℕ → Option ℕ
  pub mappings : ℕ → List Mapping
  pub entries : ℕ → ℕ → Option ℕ
  pub hands : ℕ → Option ℕ
  pub marks : ℕ → Mark
  pub count : ℕ
  pub debt : ℕ
  pub owed : ℕ
  pub promised : ℕ

-- how many indices of all files are in a reserve map
abbrev pub reserved_in : Books → ℕ
reserved_in b = total b.geometry.files (λ f. count_below (b.reserved f) b.geometry.limit)

-- how many indices of all files have a page
abbrev pub paged_in : Books → ℕ
paged_in b = total b.geometry.files (λ f. count_below (λ i. is_some (b.pages f i)) b.geometry.limit)

-- the count is lowered, and raised
abbrev pub lowered : Books → ℕ → Books
lowered b n = record b { count = b.count - n; debt = b.debt + (n - b.count) }

abbrev pub raised : Books → ℕ → Books
raised b n = record b { count = b.count + (n - b.debt); debt = b.debt - n }

-- all frames are free, and there is nothing else
abbrev pub opens : Geometry → (frames : ℕ) → Books
opens g frames = record {
  geometry = g;
  frames = frames;
  frame = λ x. if nat_lt x frames then Free else Hand;
  slots = λ _. None;
  reserved = λ _ _. false;
  pages = λ _ _. None;
  mappings = λ _. [];
  entries = λ _ _. None;
  hands = λ _. None;
  marks = λ _. Away;
  count = 0;
  debt = 0;
  owed = 0;
  promised = 0;
}
