-- What a core copies of its lists is its picture.
use Rattle.std.proofs.Common.{◌≡◌, ℕ, ◌+◌, ◌<◌, ◌≤◌, List, length, get_or, refl, sym, ◌∙◌, ap, subst, arith}
use Rattle.std.specs.Prelude.{cond, Option, Some, None, ◌==◌, HoldsAt, is_some, count_by, sum_by, filter_map}
use Rattle.hp_base.specs.Numbers.{bit, total}
use Rattle.hp_base.proofs.Sums.{passes, count_by-filter_map}
use Rattle.hp_base.proofs.Totals.{cond_bit}
use Rattle.hp_frames.specs.Bank as bank
use Rattle.hp_slots.specs.Holders.{holder_of}
use Rattle.hp_machine.specs.Views.{hand}
use Rattle.hp_machine.specs.declared.call.Call.{Call}
use Rattle.hp_audit.specs.declared.picture.Picture.{Picture}
use Rattle.hp_parts.specs.View.{no_file}
use Rattle.hp_parts.proofs.Laws.{free_frames_is}
use Rattle.hp_core.specs.declared.task_state.TaskState.{TaskState}
use Rattle.hp_core.specs.State.{CoreState, as_state}
use Rattle.hp_core.specs.Sound.{IsSound}
use Rattle.hp_core.specs.Copies.{IsCopy, all_translations}
use Rattle.hp_core.specs.Pictures.{IsPicture, is_entry, is_that}
use Rattle.hp_core.specs.Readers.{free_of, resv_of, owed_of, used_of, used_owed_of, quota_of}
use Rattle.hp_core.proofs.Reading.{few_tasks, few_files_of}
use Rattle.hp_core.proofs.Sums.{sum_is}
use Rattle.hp_core.proofs.FilePictures.{file_picture_of}
use Rattle.hp_core.proofs.Translations.{all_counted}

-- a frame is given as often as some task state has it
given_times : {X : Type 0} (h : X → Option ℕ) (x : ℕ) (ys : List X)
    → count_by (λ frame. frame == x) (filter_map h ys) ≡ sum_by (λ y. bit (is_that x (h y))) ys
given_times {X} h x ys = count_by-filter_map (λ frame. frame == x) h ys ∙ (λ i. sum_by (λ (y : X). as_bit (h y) i) ys)
  where
    as_bit : (o : Option ℕ) → cond (passes (λ frame. frame == x) o) 1 0 ≡ bit (is_that x o)
    as_bit None = refl
    as_bit (Some y) = cond_bit (y == x)

-- a frame is told in hands as often as calls have it
hands_of : (s : CoreState) (hands : List ℕ) (x : ℕ) → IsSound s → hands ≡ filter_map (λ task_state. hand task_state.call) s.task_states
    → count_by (λ frame. frame == x) hands ≡ total ((as_state s).geometry.tasks + 1) (λ t. bit (is_that x (hand ((as_state s).calls t))))
unfolding IsSound
hands_of s hands x h is =
    let n : length s.parts.spaces ≡ length s.task_states = h.1.spaces ∙ sym h.1.task_states in
    ap (λ (xs : List ℕ). count_by (λ frame. frame == x) xs) is
    ∙ (given_times (λ (task_state : TaskState). hand task_state.call) x s.task_states
    ∙ sum_is (λ (call : Option Call). bit (is_that x (hand call))) s.task_states (length s.parts.spaces) refl n)

-- a sound core has at most 16 files
pub few_files : (s : CoreState) → IsSound s → length s.parts.files ≤ 16
unfolding IsSound
few_files s h =
    (let l : length s.parts.files ≡ s.sizes.files = h.1.files in
    let m = few_files_of s.sizes.frames s.sizes.files s.sizes.slots s.sizes.tasks h.1.limits in omega (arith, l, m))

-- and at most 64 tasks
pub few_spaces : (s : CoreState) → IsSound s → length s.parts.spaces ≤ 64
unfolding IsSound
few_spaces s h =
    (let l : length s.parts.spaces ≡ s.sizes.tasks = h.1.spaces in
    let m = few_tasks s.sizes.frames s.sizes.files s.sizes.slots s.sizes.tasks h.1.limits in omega (arith, l, m))

-- what is copied, list by list
pub record AreCopies (s : CoreState) (p : Picture) : Type 0 where
  pub free : (x : ℕ) → count_by (λ frame. frame == x) p.free.items ≡ bit (bank.is_free (bank.frame_at s.parts.bank.frames x))
  pub frees : length p.free.items ≡ bank.free_frames s.parts.bank.frames
  pub retired : (x : ℕ) → count_by (λ frame. frame == x) p.retired.items ≡ bit (bank.is_retired (bank.frame_at s.parts.bank.frames x))
  pub resv : p.resv ≡ resv_of s
  pub owed : p.owed ≡ owed_of s
  pub used : p.used ≡ used_of s
  pub used_owed : p.used_owed ≡ used_owed_of s
  pub quota : p.quota ≡ quota_of s
  pub hands : p.hands.items ≡ filter_map (λ task_state. hand task_state.call) s.task_states
  pub as_many : length p.files.items ≡ length s.parts.files
  pub files : (f : ℕ) → f < length s.parts.files
      → HoldsAt (IsCopy (get_or s.parts.files f no_file) (is_some (holder_of s.parts.locks f))) p.files.items f
  pub tables : p.tables.items ≡ all_translations s.parts.spaces (length s.parts.spaces)

-- so what is copied of a sound core is its picture
pub picture_of : (s : CoreState) (p : Picture) → IsSound s → AreCopies s p → IsPicture s p
unfolding free_of
picture_of s p h c =
    record {
      free = c.free;
      frees = c.frees ∙ sym (free_frames_is s.parts.bank.frames);
      retired = c.retired;
      resv = c.resv;
      owed = c.owed;
      used = c.used;
      used_owed = c.used_owed;
      quota = c.quota;
      hands = λ x. hands_of s p.hands.items x h c.hands;
      as_many = c.as_many;
      files = λ f l d. file_picture_of s f (get_or p.files.items f d) (c.files f l d);
      tables = λ t f i x. ap (λ (xs : List (ℕ × ℕ × ℕ × ℕ)). count_by (is_entry t f i x) xs) c.tables ∙ all_counted s t f i x h;
    }

-- and so where the core is seen as that state
pub picture_seen : (s seen : CoreState) (p : Picture) → s ≡ seen → IsSound s → AreCopies s p → IsPicture seen p
picture_seen s seen p e h c = subst (λ (z : CoreState). IsPicture z p) e (picture_of s p h c)
