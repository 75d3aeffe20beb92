-- The key that is made of a core's parts is the core's.
use Rattle.std.proofs.Common.{◌≡◌, ◌∙◌, ℕ, ◌<◌, ◌++◌, ◌∷◌, [], List, length, get_or, sym, ap, subst}
use Rattle.std.specs.Prelude.{Some}
use Rattle.std.specs.FinMap.{get}
use Rattle.std.proofs.lemmas.List.{append_assoc, get_or_default}
use Rattle.hp_frames.specs.Bank.{BankState, IsPlaced}
use Rattle.hp_frames.specs.declared.frame.FrameState.TheVariants.{Placed}
use Rattle.hp_machine.specs.Events.{IsReached}
use Rattle.hp_laws.proofs.Meets.{page_placed}
use Rattle.hp_parts.specs.State.{PartsState}
use Rattle.hp_parts.specs.View.{no_file, pages_of}
use Rattle.hp_parts.specs.declared.parts.FileState.{FileState}
use Rattle.hp_parts.proofs.Laws.{frame_got}
use Rattle.hp_core.specs.State.{CoreState, as_state}
use Rattle.hp_core.specs.declared.task_state.TaskState.{TaskState}
use Rattle.hp_key.specs.Key.{file_words, frames_words, key_words, space_words, task_words}
use Rattle.hp_key.specs.Numbers.{counted, maybe, number_words}

-- a page of a reached core has a frame with a word
page_there : (s : CoreState) → IsReached (as_state s) → (k : ℕ) (d : FileState) → k < length s.parts.files → (i x : ℕ)
    → get (get_or s.parts.files k d).cache.pages i ≡ Some x → IsPlaced s.parts.bank x
unfolding pages_of
page_there s reached k d within i x e =
    let read = ap (λ (file : FileState). get file.cache.pages i) (get_or_default s.parts.files k no_file d within) ∙ e in
    let page = page_placed (as_state s) k i x reached read in
    (page.1.0, frame_got s.parts.bank.frames x (Placed page.1.0) page.0 page.1.1)

pub pages_there : (s : CoreState) (p : PartsState) (files : List FileState) → IsReached (as_state s) → p ≡ s.parts → files ≡ p.files
    → (k : ℕ) (d : FileState) → k < length files → (i x : ℕ) → get (get_or files k d).cache.pages i ≡ Some x → IsPlaced p.bank x
pages_there s p files reached is are k d within i x e =
    let same : files ≡ s.parts.files = are ∙ ap (λ (q : PartsState). q.files) is in
    subst (λ (bank : BankState). IsPlaced bank x) (sym (ap (λ (q : PartsState). q.bank) is))
    (page_there s reached k d (subst (λ (fs : List FileState). k < length fs) same within) i x
    (subst (λ (fs : List FileState). get (get_or fs k d).cache.pages i ≡ Some x) same e))

-- what is written behind the words that were there, part by part
pub record IsWritten (p : PartsState) (tasks : List TaskState) (w q r u fr sl lo fi sp all : List ℕ)
    : Type 0 where
  pub quota : q ≡ w ++ maybe number_words p.bank.quota
  pub resv : r ≡ q ++ p.bank.resv ∷ []
  pub used : u ≡ r ++ p.bank.used ∷ []
  pub frames : fr ≡ u ++ frames_words p.bank.frames
  pub slots : sl ≡ fr ++ counted (maybe number_words) p.slots
  pub locks : lo ≡ sl ++ counted (maybe number_words) p.locks
  pub files : fi ≡ lo ++ counted (file_words p.bank.frames) p.files
  pub spaces : sp ≡ fi ++ counted space_words p.spaces
  pub last : all ≡ sp ++ counted task_words tasks

-- nine lists, joined one behind the other from the left, as they are from the right
joined : (w q r u fr sl lo fi sp all a b c d e f g h i : List ℕ) → q ≡ w ++ a → r ≡ q ++ b → u ≡ r ++ c → fr ≡ u ++ d
    → sl ≡ fr ++ e → lo ≡ sl ++ f → fi ≡ lo ++ g → sp ≡ fi ++ h → all ≡ sp ++ i
    → all ≡ w ++ (a ++ (b ++ (c ++ (d ++ (e ++ (f ++ (g ++ (h ++ i))))))))
joined w q r u fr sl lo fi sp all a b c d e f g h i e1 e2 e3 e4 e5 e6 e7 e8 e9 =
    let one : fr ≡ w ++ (a ++ (b ++ (c ++ d))) = rw (e4, e3, e2, e1) (simp append_assoc) in
    let two : fi ≡ fr ++ (e ++ (f ++ g)) = rw (e7, e6, e5) (simp append_assoc) in
    let three : all ≡ fi ++ (h ++ i) = rw (e9, e8) (simp append_assoc) in
    rw (three, two, one) (simp append_assoc)

pub made : (s : CoreState) (p : PartsState) (tasks : List TaskState) (w q r u fr sl lo fi sp all : List ℕ) → p ≡ s.parts
    → tasks ≡ s.task_states → IsWritten p tasks w q r u fr sl lo fi sp all → all ≡ w ++ key_words s
unfolding key_words
made s p tasks w q r u fr sl lo fi sp all is are h =
    joined w q r u fr sl lo fi sp all (maybe number_words p.bank.quota) (p.bank.resv ∷ []) (p.bank.used ∷ [])
    (frames_words p.bank.frames) (counted (maybe number_words) p.slots) (counted (maybe number_words) p.locks)
    (counted (file_words p.bank.frames) p.files) (counted space_words p.spaces) (counted task_words tasks) h.quota h.resv h.used
    h.frames h.slots h.locks h.files h.spaces h.last
    ∙ ap (λ (key : List ℕ). w ++ key) (ap (λ (x : PartsState). layout x tasks) is ∙ ap (layout s.parts) are)
  where
    layout : PartsState → List TaskState → List ℕ
    layout x ts =
        maybe number_words x.bank.quota
        ++ (x.bank.resv ∷ x.bank.used ∷ (frames_words x.bank.frames
        ++ (counted (maybe number_words) x.slots ++ (counted (maybe number_words) x.locks
        ++ (counted (file_words x.bank.frames) x.files ++ (counted space_words x.spaces ++ counted task_words ts))))))
