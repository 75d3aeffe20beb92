-- What the keys of two cores tell of them where the keys are equal.
use Rattle.std.proofs.Common.{◌≡◌, ℕ, ◌++◌, ◌∷◌, List, length, refl, sym}
use Rattle.std.specs.Prelude.{Bool, Option, map}
use Rattle.std.specs.Option.{option_map}
use Rattle.std.specs.FinMap as finite
use Rattle.hp_base.specs.declared.mapping.Mapping.{Mapping}
use Rattle.hp_frames.specs.Bank.{active_frames, frame_at, free_frames}
use Rattle.hp_frames.specs.declared.frame.FrameState.{FrameState}
use Rattle.hp_region.specs.declared.region.Region.{Region}
use Rattle.hp_table.specs.Table.{Table}
use Rattle.hp_machine.specs.declared.outcome.Life.{Life}
use Rattle.hp_parts.specs.declared.parts.FileState.{FileState}
use Rattle.hp_core.specs.State.{CoreState}
use Rattle.hp_core.specs.declared.task_state.TaskState.{TaskState}
use Rattle.hp_key.specs.Key.{entry_words, file_words, frames_words, key_words, mapping_words, page_words, region_words, space_words}
use Rattle.hp_key.specs.Key.{task_words, word_in}
use Rattle.hp_key.specs.Numbers.{counted, maybe, number_words}
use Rattle.hp_key.proofs.Calls.{Fields, own_back, own_counted, own_life, own_maybe, tells_call, told_of}
use Rattle.hp_key.proofs.Tells.{Own, Tells, cons_same, tells_at, tells_both, tells_counted, tells_flag, tells_maybe, tells_number}
use Rattle.hp_key.proofs.Tells.{tells_of, tells_then, tells_whole, tells_wide}

-- ---- what the words of each thing tell

own_region : Own region_words
own_region =
    own_back {words = region_words} (λ (r : Region). (r.from, r.to)) (λ (p : ℕ × ℕ). record { from = p.0; to = p.1 }) (λ r. refl)
    (tells_then (λ (r : Region). r.from) (tells_at (λ (r : Region). r.to) tells_number))

own_mapping : Own mapping_words
own_mapping =
    own_back {words = mapping_words} (λ (m : Mapping). (m.base, (m.file, (m.from, m.len))))
    (λ (p : ℕ × (ℕ × (ℕ × ℕ))). record { base = p.0; file = p.1.0; from = p.1.1.0; len = p.1.1.1 }) (λ m. refl)
    (tells_then (λ (m : Mapping). m.base) (tells_then (λ (m : Mapping). m.file) (tells_then (λ (m : Mapping). m.from)
    (tells_at (λ (m : Mapping). m.len) tells_number))))

-- of a translation, the virtual page
abbrev pub entry_view : ℕ × ℕ → ℕ
entry_view e = e.0

tells_entry : Tells entry_words entry_words entry_view entry_view
tells_entry = tells_at entry_view tells_number

-- of a task, how it lives, and its call but for the name of a frame
abbrev pub task_view : TaskState → Life × Option Fields
task_view t = (t.life, option_map told_of t.call)

tells_task : Tells task_words task_words task_view task_view
tells_task = tells_both (tells_at (λ (t : TaskState). t.life) own_life) (tells_at (λ (t : TaskState). t.call) (tells_maybe tells_call))

-- of a page, its index, and the word of its frame
abbrev pub page_view : List FrameState → ℕ × ℕ → ℕ × ℕ
page_view frames page = (page.0, word_in (frame_at frames page.1))

tells_page : (fs gs : List FrameState) → Tells (page_words fs) (page_words gs) (page_view fs) (page_view gs)
tells_page fs gs =
    tells_then (λ (p : ℕ × ℕ). p.0)
    (tells_of (λ (p : ℕ × ℕ). word_in (frame_at fs p.1)) (λ (p : ℕ × ℕ). word_in (frame_at gs p.1)) tells_wide)

abbrev pub FileView : Type 0
FileView = ℕ × (ℕ × (ℕ × (List Region × List (ℕ × ℕ))))

abbrev pub file_view : List FrameState → FileState → FileView
file_view frames f =
    (f.size, (f.map.pending, (f.map.spare, (f.map.regions, map (page_view frames) (finite.entries f.cache.pages)))))

tells_file : (fs gs : List FrameState) → Tells (file_words fs) (file_words gs) (file_view fs) (file_view gs)
tells_file fs gs =
    tells_then (λ (f : FileState). f.size)
    (tells_both (tells_at (λ (f : FileState). f.map.pending) tells_wide)
    (tells_both (tells_at (λ (f : FileState). f.map.spare) tells_wide)
    (tells_both (tells_at (λ (f : FileState). f.map.regions) (own_counted own_region))
    (tells_at (λ (f : FileState). finite.entries f.cache.pages) (tells_counted (tells_page fs gs))))))

abbrev pub SpaceView : Type 0
SpaceView = Bool × (List Mapping × List ℕ)

abbrev pub space_view : Table → SpaceView
space_view t = (t.ready, (t.mappings, map entry_view (finite.entries t.entries)))

tells_space : Tells space_words space_words space_view space_view
tells_space =
    tells_both (tells_at (λ (t : Table). t.ready) tells_flag)
    (tells_both (tells_at (λ (t : Table). t.mappings) (own_counted own_mapping))
    (tells_at (λ (t : Table). finite.entries t.entries) (tells_counted tells_entry)))

-- of the frames, how many there are, how many are in the pool, and how many are free
abbrev pub frames_view : List FrameState → ℕ × (ℕ × ℕ)
frames_view frames = (length frames, (active_frames frames, free_frames frames))

tells_frames : Tells frames_words frames_words frames_view frames_view
tells_frames =
    tells_then (λ (f : List FrameState). length f) (tells_then active_frames (tells_at free_frames tells_number))

-- ---- what the key tells of the two

-- all that is read from the two keys is the same
pub record AreSame (s n : CoreState) : Type 0 where
  pub quota : s.parts.bank.quota ≡ n.parts.bank.quota
  pub resv : s.parts.bank.resv ≡ n.parts.bank.resv
  pub used : s.parts.bank.used ≡ n.parts.bank.used
  pub frames : frames_view s.parts.bank.frames ≡ frames_view n.parts.bank.frames
  pub slots : s.parts.slots ≡ n.parts.slots
  pub locks : s.parts.locks ≡ n.parts.locks
  pub files : map (file_view s.parts.bank.frames) s.parts.files ≡ map (file_view n.parts.bank.frames) n.parts.files
  pub spaces : map space_view s.parts.spaces ≡ map space_view n.parts.spaces
  pub tasks : map task_view s.task_states ≡ map task_view n.task_states

-- read from the other side
pub turned_same : (s n : CoreState) → AreSame s n → AreSame n s
turned_same s n h = record {
  quota = sym h.quota;
  resv = sym h.resv;
  used = sym h.used;
  frames = sym h.frames;
  slots = sym h.slots;
  locks = sym h.locks;
  files = sym h.files;
  spaces = sym h.spaces;
  tasks = sym h.tasks;
}

-- what stands behind each of them
abbrev after_files : CoreState → List ℕ
after_files s = counted space_words s.parts.spaces ++ counted task_words s.task_states

abbrev after_locks : CoreState → List ℕ
after_locks s = counted (file_words s.parts.bank.frames) s.parts.files ++ after_files s

abbrev after_slots : CoreState → List ℕ
after_slots s = counted (maybe number_words) s.parts.locks ++ after_locks s

abbrev after_frames : CoreState → List ℕ
after_frames s = counted (maybe number_words) s.parts.slots ++ after_slots s

abbrev after_used : CoreState → List ℕ
after_used s = frames_words s.parts.bank.frames ++ after_frames s

abbrev after_quota : CoreState → List ℕ
after_quota s = s.parts.bank.resv ∷ s.parts.bank.used ∷ after_used s

own_holders : Own (counted (maybe number_words))
own_holders = own_counted (own_maybe tells_number)

pub same_of : (s n : CoreState) → key_words s ≡ key_words n → AreSame s n
unfolding key_words
same_of s n e =
    let p = s.parts in
    let q = n.parts in
    let quota = (own_maybe tells_number).tells p.bank.quota q.bank.quota (after_quota s) (after_quota n) e in
    let resv = cons_same p.bank.resv q.bank.resv (p.bank.used ∷ after_used s) (q.bank.used ∷ after_used n) quota.1 in
    let used = cons_same p.bank.used q.bank.used (after_used s) (after_used n) resv.1 in
    let frames = tells_frames.tells p.bank.frames q.bank.frames (after_frames s) (after_frames n) used.1 in
    let slots = own_holders.tells p.slots q.slots (after_slots s) (after_slots n) frames.1 in
    let locks = own_holders.tells p.locks q.locks (after_locks s) (after_locks n) slots.1 in
    let files = (tells_counted (tells_file p.bank.frames q.bank.frames)).tells p.files q.files (after_files s) (after_files n) locks.1 in
    let spaces = (tells_counted tells_space).tells p.spaces q.spaces (counted task_words s.task_states)
    (counted task_words n.task_states) files.1 in
    record {
      quota = quota.0;
      resv = resv.0;
      used = used.0;
      frames = frames.0;
      slots = slots.0;
      locks = locks.0;
      files = files.0;
      spaces = spaces.0;
      tasks = tells_whole (tells_counted tells_task) s.task_states n.task_states spaces.1;
    }
