-- The layout of a key: what the machine sees of a core but for the names of frames, as one list of numbers. A list begins with the number of
-- its items, and what may be there with 0 or 1, so that whoever reads from the front knows where each thing ends. No frame is named: the
-- frame of a page, or in the hand of a call, is told by where it is.
use Rattle.std.specs.Prelude.{ℕ, ◌++◌, ◌∷◌, [], List, length}
use Rattle.std.specs.FinMap.{entries}
use Rattle.hp_base.specs.Numbers.{bit}
use Rattle.hp_base.specs.declared.mapping.Mapping.{Mapping}
use Rattle.hp_frames.specs.Bank.{active_frames, frame_at, free_frames}
use Rattle.hp_frames.specs.declared.frame.FrameState.{FrameState}
use Rattle.hp_frames.specs.declared.frame.FrameState.TheVariants.{Free, Hand, Placed, Retired}
use Rattle.hp_region.specs.declared.region.Region.{Region}
use Rattle.hp_table.specs.Table.{Table}
use Rattle.hp_parts.specs.declared.parts.FileState.{FileState}
use Rattle.hp_core.specs.State.{CoreState}
use Rattle.hp_core.specs.declared.task_state.TaskState.{TaskState}
use Rattle.hp_key.specs.Carried.{call_words}
use Rattle.hp_key.specs.Numbers.{counted, life_number, maybe, number_words, wide}

-- the frames: how many numbers they have, how many are in the pool, and how many of these are free
abbrev pub frames_words : List FrameState → List ℕ
frames_words frames = length frames ∷ active_frames frames ∷ free_frames frames ∷ []

-- the word of a page's frame
abbrev pub word_in : FrameState → ℕ
word_in Free = 0
word_in Hand = 0
word_in (Placed word) = word
word_in Retired = 0

-- a page of a file: its index, and its frame's word
abbrev pub page_words : (frames : List FrameState) → ℕ × ℕ → List ℕ
page_words frames page = page.0 ∷ wide (word_in (frame_at frames page.1))

-- a region of a reserve map
abbrev pub region_words : Region → List ℕ
region_words r = r.from ∷ r.to ∷ []

-- a file: its size; the changes of its map that are in progress, and the spare descriptors; its regions; its pages
abbrev pub file_words : (frames : List FrameState) → FileState → List ℕ
file_words frames file =
    file.size
    ∷ (wide file.map.pending ++ (wide file.map.spare ++ (counted region_words file.map.regions
    ++ counted (page_words frames) (entries file.cache.pages))))

-- a mapping
abbrev pub mapping_words : Mapping → List ℕ
mapping_words m = m.base ∷ m.file ∷ m.from ∷ m.len ∷ []

-- A translation: the virtual page. Its frame is that of the page to which it leads.
abbrev pub entry_words : ℕ × ℕ → List ℕ
entry_words entry = entry.0 ∷ []

-- the space of a task: whether capacity for a mapping is ready, its mappings and its translations
abbrev pub space_words : Table → List ℕ
space_words t = bit t.ready ∷ (counted mapping_words t.mappings ++ counted entry_words (entries t.entries))

-- a task: how it lives, and its call in flight
abbrev pub task_words : TaskState → List ℕ
task_words task_state = life_number task_state.life ∷ maybe call_words task_state.call

-- the whole: the quota, the reserve count and the used count; the frames; who holds the slots, and the locks of the files; the files; the
-- spaces of the tasks; the tasks
unfoldable pub key_words : CoreState → List ℕ
key_words s =
    maybe number_words s.parts.bank.quota
    ++ (s.parts.bank.resv ∷ s.parts.bank.used ∷ (frames_words s.parts.bank.frames
    ++ (counted (maybe number_words) s.parts.slots ++ (counted (maybe number_words) s.parts.locks
    ++ (counted (file_words s.parts.bank.frames) s.parts.files
    ++ (counted space_words s.parts.spaces ++ counted task_words s.task_states))))))
