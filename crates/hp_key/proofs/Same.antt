-- Two reached states whose cores have equal keys are the same but for the names of frames.
use Rattle.std.proofs.Common.{◌≡◌, ◌∙◌, ℕ, zero, suc, ◌-◌, ◌≤◌, ◌∷◌, [], List, length, get_or, refl, sym, ap}
use Rattle.std.proofs.Math.Path.{fun_ext}
use Rattle.std.specs.Prelude.{◌==◌, Bool, true, false, Option, Some, map, cond, is_some, if◌then◌else◌}
use Rattle.std.specs.Option.{option_map}
use Rattle.std.specs.Ordering.{eq_by_cmp, nat_cmp}
use Rattle.std.specs.FinMap as finite
use Rattle.std.proofs.lemmas.List.{get_or_past, length-map, nil_from_length}
use Rattle.hp_frames.specs.Bank.{count_of, frame_at}
use Rattle.hp_frames.specs.declared.frame.FrameState.{FrameState}
use Rattle.hp_frames.specs.declared.frame.FrameState.TheVariants as state
use Rattle.hp_region.specs.Regions.{is_member}
use Rattle.hp_machine.specs.State.{active_frames, free_frames}
use Rattle.hp_machine.specs.Events.{IsReached}
use Rattle.hp_machine.specs.declared.outcome.Life.{Life}
use Rattle.hp_parts.specs.View.{entries_of, holders_of, mappings_by_task, no_file, no_table, pages_of, pendings_of, ready_by_task}
use Rattle.hp_parts.specs.View.{sets_of, sizes_of, spares_of, table_of}
use Rattle.hp_sequential.specs.Renaming.{Alike}
use Rattle.hp_core.specs.State.{CoreState, as_state, calls_of, lives_of, no_task_state, task_state_at}
use Rattle.hp_key.specs.Key.{key_words, word_in}
use Rattle.hp_key.proofs.Calls.{Fields}
use Rattle.hp_key.proofs.Matching.{Match, alike, calls_in, words_in}
use Rattle.hp_key.proofs.Told.{AreSame, FileView, SpaceView, entry_view, file_view, page_view, same_of, space_view, task_view}

-- ---- lists that are viewed alike are read alike

read_map : {A B : Type 0} (f : A → B) (xs : List A) (i : ℕ) (d : A) → get_or (map f xs) i (f d) ≡ f (get_or xs i d)
read_map f [] i d = refl
read_map f (x ∷ xs) zero d = refl
read_map f (x ∷ xs) (suc i) d = read_map f xs i d

-- at each place
read_same : {A B : Type 0} (f g : A → B) (xs ys : List A) (d : A) → map f xs ≡ map g ys → f d ≡ g d → (i : ℕ)
    → f (get_or xs i d) ≡ g (get_or ys i d)
read_same {A} {B} f g xs ys d e none i =
    sym (read_map f xs i d) ∙ (ap (λ (zs : List B). get_or zs i (f d)) e
    ∙ (ap (λ (c : B). get_or (map g ys) i c) none ∙ read_map g ys i d))

long_same : {A B : Type 0} (f g : A → B) (xs ys : List A) → map f xs ≡ map g ys → length xs ≡ length ys
long_same {A} {B} f g xs ys e = sym (length-map xs f) ∙ (ap (λ (zs : List B). length zs) e ∙ length-map ys g)

no_entries : finite.entries (finite.empty {X = ℕ} {R = nat_cmp}) ≡ []
no_entries = nil_from_length (finite.entries finite.empty) (sym (finite.len-entries finite.empty) ∙ finite.len-empty nat_cmp ℕ)

-- what stands in a list of pages, each with what is seen of it
find_view : (frames : List FrameState) (i : ℕ) (es : List (ℕ × ℕ))
    → finite.find nat_cmp i (map (page_view frames) es) ≡ option_map (λ x. word_in (frame_at frames x)) (finite.find nat_cmp i es)
find_view frames i [] = refl
find_view frames i (e ∷ es) = by (eq_by_cmp nat_cmp i e.0) (find_view frames i es)
  where
    by : (b : Bool) → finite.find nat_cmp i (map (page_view frames) es)
        ≡ option_map (λ x. word_in (frame_at frames x)) (finite.find nat_cmp i es)
        → cond b (Some (word_in (frame_at frames e.1))) (finite.find nat_cmp i (map (page_view frames) es))
        ≡ option_map (λ x. word_in (frame_at frames x)) (cond b (Some e.1) (finite.find nat_cmp i es))
    by true h = refl
    by false h = h

-- whether a number is among these
is_among : ℕ → List ℕ → Bool
is_among i [] = false
is_among i (x ∷ xs) = cond (eq_by_cmp nat_cmp i x) true (is_among i xs)

find_among : (i : ℕ) (es : List (ℕ × ℕ)) → is_some (finite.find nat_cmp i es) ≡ is_among i (map entry_view es)
unfolding is_among
find_among i [] = refl
find_among i (e ∷ es) = by (eq_by_cmp nat_cmp i e.0) (find_among i es)
  where
    by : (b : Bool) → is_some (finite.find nat_cmp i es) ≡ is_among i (map entry_view es)
        → is_some (cond b (Some e.1) (finite.find nat_cmp i es)) ≡ cond b true (is_among i (map entry_view es))
    by true h = refl
    by false h = h

-- ---- so the two states match, function by function

module _ (s n : CoreState) (same : AreSame s n) where
  no_file_same : file_view s.parts.bank.frames no_file ≡ file_view n.parts.bank.frames no_file
  no_file_same =
      ap (λ (es : List (ℕ × ℕ)). (0, (0, (0, ([], map (page_view s.parts.bank.frames) es))))) no_entries
      ∙ sym (ap (λ (es : List (ℕ × ℕ)). (0, (0, (0, ([], map (page_view n.parts.bank.frames) es))))) no_entries)

  file_same : (f : ℕ) → file_view s.parts.bank.frames (get_or s.parts.files f no_file)
      ≡ file_view n.parts.bank.frames (get_or n.parts.files f no_file)
  file_same =
      read_same (file_view s.parts.bank.frames) (file_view n.parts.bank.frames) s.parts.files n.parts.files no_file same.files no_file_same

  size_same : sizes_of s.parts.files ≡ sizes_of n.parts.files
  unfolding sizes_of
  size_same = fun_ext (λ f. ap (λ (v : FileView). v.0) (file_same f))

  pending_same : pendings_of s.parts.files ≡ pendings_of n.parts.files
  unfolding pendings_of
  pending_same = fun_ext (λ f. ap (λ (v : FileView). v.1.0) (file_same f))

  spare_same : spares_of s.parts.files ≡ spares_of n.parts.files
  unfolding spares_of
  spare_same = fun_ext (λ f. ap (λ (v : FileView). v.1.1.0) (file_same f))

  set_same : sets_of s.parts.files ≡ sets_of n.parts.files
  unfolding sets_of
  set_same = fun_ext (λ f. ap (λ (v : FileView). is_member v.1.1.1.0) (file_same f))

  words_same : (f i : ℕ) → words_in (as_state s) f i ≡ words_in (as_state n) f i
  unfolding pages_of
  words_same f i =
      let some = (get_or s.parts.files f no_file).cache.pages in
      let other = (get_or n.parts.files f no_file).cache.pages in
      ap (option_map (λ x. word_in (frame_at s.parts.bank.frames x))) (finite.get-entries some i)
      ∙ (sym (find_view s.parts.bank.frames i (finite.entries some))
      ∙ (ap (λ (v : FileView). finite.find nat_cmp i v.1.1.1.1) (file_same f)
      ∙ (find_view n.parts.bank.frames i (finite.entries other)
      ∙ sym (ap (option_map (λ x. word_in (frame_at n.parts.bank.frames x))) (finite.get-entries other i)))))

  -- the space of a task that isn't there is the same in both
  table_same : (t : ℕ) → space_view (table_of s.parts.spaces t) ≡ space_view (table_of n.parts.spaces t)
  table_same t = by (t == 0)
    where
      by : (b : Bool) → space_view (if b then no_table else get_or s.parts.spaces (t - 1) no_table)
          ≡ space_view (if b then no_table else get_or n.parts.spaces (t - 1) no_table)
      by true = refl
      by false = read_same space_view space_view s.parts.spaces n.parts.spaces no_table same.spaces refl (t - 1)

  ready_same : ready_by_task s.parts.spaces ≡ ready_by_task n.parts.spaces
  unfolding ready_by_task
  ready_same = fun_ext (λ t. ap (λ (v : SpaceView). v.0) (table_same t))

  mapping_same : mappings_by_task s.parts.spaces ≡ mappings_by_task n.parts.spaces
  unfolding mappings_by_task
  mapping_same = fun_ext (λ t. ap (λ (v : SpaceView). v.1.0) (table_same t))

  entry_same : (t v : ℕ) → is_some (entries_of s.parts.spaces t v) ≡ is_some (entries_of n.parts.spaces t v)
  unfolding entries_of
  entry_same t v =
      let some = (table_of s.parts.spaces t).entries in
      let other = (table_of n.parts.spaces t).entries in
      ap is_some (finite.get-entries some v)
      ∙ (find_among v (finite.entries some)
      ∙ (ap (λ (w : SpaceView). is_among v w.1.1) (table_same t)
      ∙ sym (ap is_some (finite.get-entries other v) ∙ find_among v (finite.entries other))))

  task_same : (t : ℕ) → task_view (task_state_at s.task_states t) ≡ task_view (task_state_at n.task_states t)
  task_same t = by (t == 0)
    where
      by : (b : Bool) → task_view (if b then no_task_state else get_or s.task_states (t - 1) no_task_state)
          ≡ task_view (if b then no_task_state else get_or n.task_states (t - 1) no_task_state)
      by true = refl
      by false = read_same task_view task_view s.task_states n.task_states no_task_state same.tasks refl (t - 1)

  life_same : lives_of s.task_states ≡ lives_of n.task_states
  unfolding lives_of
  life_same = fun_ext (λ t. ap (λ (v : Life × Option Fields). v.0) (task_same t))

  call_same : (t : ℕ) → calls_in (as_state s) t ≡ calls_in (as_state n) t
  unfolding calls_of
  call_same t = ap (λ (v : Life × Option Fields). v.1) (task_same t)

  matched : Match (as_state s) (as_state n)
  unfolding active_frames free_frames count_of
  matched = record {
    geometry = λ i. record {
      files = long_same (file_view s.parts.bank.frames) (file_view n.parts.bank.frames) s.parts.files n.parts.files same.files i;
      slots = length (same.slots i);
      tasks = long_same space_view space_view s.parts.spaces n.parts.spaces same.spaces i;
      limit = (as_state s).geometry.limit;
      space = (as_state s).geometry.space;
      quota = same.quota i;
    };
    frames = ap (λ (v : ℕ × (ℕ × ℕ)). v.0) same.frames;
    active = ap (λ (v : ℕ × (ℕ × ℕ)). v.1.0) same.frames;
    free = ap (λ (v : ℕ × (ℕ × ℕ)). v.1.1) same.frames;
    resv = same.resv;
    used = same.used;
    slots = ap holders_of same.slots;
    locks = ap holders_of same.locks;
    size = size_same;
    pending = pending_same;
    spare = spare_same;
    reserved = set_same;
    words = words_same;
    ready = ready_same;
    mappings = mapping_same;
    entries = entry_same;
    life = life_same;
    calls = call_same;
  }

-- no frame has a number beyond
past : (m : CoreState) (x : ℕ) → (as_state m).frames ≤ x → (as_state m).frame x ≡ state.Hand
unfolding frame_at
past m x beyond = get_or_past m.parts.bank.frames x state.Hand beyond

-- equal keys are of states that are alike
pub same_key : (s n : CoreState) → IsReached (as_state s) → IsReached (as_state n) → key_words s ≡ key_words n → Alike (as_state s) (as_state n)
same_key s n some other e = alike (as_state s) (as_state n) (matched s n (same_of s n e)) some other (past s) (past n)
