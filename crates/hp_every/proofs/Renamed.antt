-- A core whose frames have other names, and names of names.
use Rattle.std.proofs.Common.{◌≡◌, ℕ, zero, suc, ◌<◌, ◌≤◌, refl, ap, sym, ◌∙◌, subst, inl, inr, arith, List, [], ◌∷◌, length}
use Rattle.std.proofs.Math.Path.{fun_ext}
use Rattle.std.specs.Prelude.{◌-◌, ◌==◌, Bool, true, false, cond, Option, None, Some, map, slice_index_or, if◌then◌else◌}
use Rattle.std.specs.Option.{option_map}
use Rattle.std.specs.List.{range_with_len}
use Rattle.std.specs.Ordering.{eq_by_cmp, nat_cmp}
use Rattle.std.specs.FinMap.{FinMap, empty, entries, find, from_entries, get, get-empty, get-entries, get-from_entries}
use Rattle.std.specs.Cmp.{nat_cmp_total}
use Rattle.std.proofs.lemmas.Bool.{cases_lt}
use Rattle.std.proofs.lemmas.List.{get_or_past, get_or-map, length-map}
use Rattle.std.proofs.lemmas.List.FromFn.{get_or-range_with_len, length-range_with_len}
use Rattle.hp_base.specs.declared.limits.TheConstants.{LIMIT, VPNS}
use Rattle.hp_frames.specs.Bank.{frame_at}
use Rattle.hp_frames.specs.declared.frame.FrameState.{FrameState}
use Rattle.hp_frames.specs.declared.frame.FrameState.TheVariants.{Hand}
use Rattle.hp_region.specs.Regions.{is_member}
use Rattle.hp_table.specs.Table.{Table}
use Rattle.hp_machine.specs.State.{State}
use Rattle.hp_machine.specs.Events.{word_of}
use Rattle.hp_machine.specs.declared.phase.Phase.{Phase}
use Rattle.hp_machine.specs.declared.touch.TouchPhase.{TouchPhase}
use Rattle.hp_machine.specs.declared.touch.TouchPhase.TheVariants as touch
use Rattle.hp_machine.specs.declared.alloc.AllocPhase.{AllocPhase}
use Rattle.hp_machine.specs.declared.alloc.AllocPhase.TheVariants as alloc
use Rattle.hp_machine.specs.declared.punch.PunchPhase.{PunchPhase}
use Rattle.hp_machine.specs.declared.punch.PunchPhase.TheVariants as punch
use Rattle.hp_machine.specs.declared.truncate.TruncatePhase.{TruncatePhase}
use Rattle.hp_machine.specs.declared.truncate.TruncatePhase.TheVariants as truncate
use Rattle.hp_machine.specs.declared.call.Call.{Call}
use Rattle.hp_machine.specs.declared.call.Call.TheVariants as call
use Rattle.hp_parts.specs.declared.parts.FileState.{FileState}
use Rattle.hp_parts.specs.View.{no_file, no_table, entries_of, holders_of, mappings_by_task, pages_of, pendings_of, ready_by_task}
use Rattle.hp_parts.specs.View.{sets_of, sizes_of, spares_of, table_of}
use Rattle.hp_sequential.specs.Renaming.{Alike, Renaming, alloc_renamed, call_renamed, punch_renamed, renamed, touch_renamed}
use Rattle.hp_sequential.specs.Renaming.{truncate_renamed}
use Rattle.hp_sequential.proofs.Names.{fixed_back}
use Rattle.hp_core.specs.declared.task_state.TaskState.{TaskState}
use Rattle.hp_core.specs.Readers.{phase_of}
use Rattle.hp_core.specs.State.{CoreState, as_state, calls_of, lives_of, no_task_state}

-- ---- names of names

map_twice : {A B C : Type 0} (f : A → B) (g : B → C) (o : Option A) → option_map g (option_map f o) ≡ option_map (λ x. g (f x)) o
map_twice f g None = refl
map_twice f g (Some x) = refl

touch_twice : (f g : ℕ → ℕ) (p : TouchPhase) → touch_renamed g (touch_renamed f p) ≡ touch_renamed (λ x. g (f x)) p
touch_twice f g (touch.Taken p) = refl
touch_twice f g (touch.Settle p) = refl
touch_twice f g (touch.Committed p) = refl
touch_twice f g (touch.Restore p) = refl
touch_twice f g p = refl

alloc_twice : (f g : ℕ → ℕ) (p : AllocPhase) → alloc_renamed g (alloc_renamed f p) ≡ alloc_renamed (λ x. g (f x)) p
alloc_twice f g (alloc.Taken p) = refl
alloc_twice f g (alloc.Settle p) = refl
alloc_twice f g (alloc.Committed p) = refl
alloc_twice f g (alloc.Restore p) = refl
alloc_twice f g p = refl

punch_twice : (f g : ℕ → ℕ) (p : PunchPhase) → punch_renamed g (punch_renamed f p) ≡ punch_renamed (λ x. g (f x)) p
punch_twice f g (punch.Delete p) = refl
punch_twice f g (punch.Free p) = refl
punch_twice f g p = refl

truncate_twice : (f g : ℕ → ℕ) (p : TruncatePhase) → truncate_renamed g (truncate_renamed f p) ≡ truncate_renamed (λ x. g (f x)) p
truncate_twice f g (truncate.Free p) = refl
truncate_twice f g p = refl

call_twice : (f g : ℕ → ℕ) (c : Call) → call_renamed g (call_renamed f c) ≡ call_renamed (λ x. g (f x)) c
call_twice f g (call.Touch p) = ap (λ (q : TouchPhase). call.Touch q) (touch_twice f g p)
call_twice f g (call.Map p) = refl
call_twice f g (call.Alloc p) = ap (λ (q : AllocPhase). call.Alloc q) (alloc_twice f g p)
call_twice f g (call.Punch p) = ap (λ (q : PunchPhase). call.Punch q) (punch_twice f g p)
call_twice f g (call.Truncate p) = ap (λ (q : TruncatePhase). call.Truncate q) (truncate_twice f g p)
call_twice f g (call.Unmap p) = refl
call_twice f g (call.Exit p) = refl

-- where a call stands doesn't show names
touch_word : (f : ℕ → ℕ) (p : TouchPhase) → word_of (call.Touch (touch_renamed f p)) ≡ word_of (call.Touch p)
touch_word f (touch.Taken p) = refl
touch_word f (touch.Settle p) = refl
touch_word f (touch.Committed p) = refl
touch_word f (touch.Restore p) = refl
touch_word f p = refl

alloc_word : (f : ℕ → ℕ) (p : AllocPhase) → word_of (call.Alloc (alloc_renamed f p)) ≡ word_of (call.Alloc p)
alloc_word f (alloc.Taken p) = refl
alloc_word f (alloc.Settle p) = refl
alloc_word f (alloc.Committed p) = refl
alloc_word f (alloc.Restore p) = refl
alloc_word f p = refl

punch_word : (f : ℕ → ℕ) (p : PunchPhase) → word_of (call.Punch (punch_renamed f p)) ≡ word_of (call.Punch p)
punch_word f (punch.Delete p) = refl
punch_word f (punch.Free p) = refl
punch_word f p = refl

truncate_word : (f : ℕ → ℕ) (p : TruncatePhase) → word_of (call.Truncate (truncate_renamed f p)) ≡ word_of (call.Truncate p)
truncate_word f (truncate.Free p) = refl
truncate_word f p = refl

call_word : (f : ℕ → ℕ) (c : Call) → word_of (call_renamed f c) ≡ word_of c
call_word f (call.Touch p) = touch_word f p
call_word f (call.Map p) = refl
call_word f (call.Alloc p) = alloc_word f p
call_word f (call.Punch p) = punch_word f p
call_word f (call.Truncate p) = truncate_word f p
call_word f (call.Unmap p) = refl
call_word f (call.Exit p) = refl

pub phase_there : (s n : CoreState) (t : ℕ) → Alike (as_state s) (as_state n) → phase_of n t ≡ phase_of s t
unfolding phase_of
phase_there s n t h =
    ap (λ (x : State). option_map word_of (x.calls t)) h.1
    ∙ (map_twice (call_renamed h.0.to) word_of ((as_state s).calls t)
    ∙ ap (λ (g : Call → Phase). option_map g ((as_state s).calls t)) (fun_ext (call_word h.0.to)))

-- a frame has the second name of its first
chained : {frames : ℕ} → Renaming frames → Renaming frames → Renaming frames
chained r q = record {
  to = λ x. q.to (r.to x);
  back = λ x. r.back (q.back x);
  there = λ x. ap r.back (q.there (r.to x)) ∙ r.there x;
  here = λ x. ap q.to (r.here (q.back x)) ∙ q.here x;
  fixed = λ x l. ap q.to (r.fixed x l) ∙ q.fixed x l;
}

renamed_twice : (s : State) (r q : Renaming s.frames) → renamed q (renamed r s) ≡ renamed (chained r q) s
unfolding chained
renamed_twice s r q =
    let pages = fun_ext (λ f. fun_ext (λ i. map_twice r.to q.to (s.pages f i))) in
    let entries = fun_ext (λ t. fun_ext (λ v. map_twice r.to q.to (s.entries t v))) in
    let calls = fun_ext (λ t. map_twice (call_renamed r.to) (call_renamed q.to) (s.calls t)
    ∙ ap (λ (g : Call → Call). option_map g (s.calls t)) (fun_ext (call_twice r.to q.to))) in
    λ i. record s {
      pool = record s.pool {
        frame = λ y. s.frame (r.back (q.back y));
        pages = pages i;
        entries = entries i;
      };
      calls = calls i;
    }

-- what is alike of what is alike is alike
pub alike_on : (s n m : State) → Alike s n → Alike n m → Alike s m
alike_on s n m (r, is) other = by (subst (λ (x : State). Alike x m) is other)
  where
    by : Alike (renamed r s) m → Alike s m
    by (q, e) = (chained r q, e ∙ renamed_twice s r q)

-- ---- parts under other names

-- what is seen of a thing of a list, and of that thing changed
at_image : {A X : Type 0} (seen other : A → X) (g : A → A) (d : A) → ((a : A) → seen (g a) ≡ other a) → seen d ≡ other d
    → (xs : List A) (k : ℕ) → seen (slice_index_or (map g xs) k d) ≡ other (slice_index_or xs k d)
at_image seen other g d each none [] k = none
at_image seen other g d each none (x ∷ xs) zero = each x
at_image seen other g d each none (x ∷ xs) (suc k) = at_image seen other g d each none xs k

-- the first, or one of a list
if_first : {A X : Type 0} (seen other : A → X) (b : Bool) (d x y : A) → seen d ≡ other d → seen x ≡ other y
    → seen (if b then d else x) ≡ other (if b then d else y)
if_first seen other true d x y none same = none
if_first seen other false d x y none same = same

-- a map with other values
find_on : (f : ℕ → ℕ) (q : ℕ) (es : List (ℕ × ℕ))
    → find nat_cmp q (map (λ (e : ℕ × ℕ). (e.0, f e.1)) es) ≡ option_map f (find nat_cmp q es)
find_on f q [] = refl
find_on f q (e ∷ es) = by (eq_by_cmp nat_cmp q e.0) _ _ (find_on f q es)
  where
    by : (b : Bool) (o p : Option ℕ) → o ≡ option_map f p → cond b (Some (f e.1)) o ≡ option_map f (cond b (Some e.1) p)
    by true o p h = refl
    by false o p h = h

valued : (ℕ → ℕ) → FinMap nat_cmp ℕ → FinMap nat_cmp ℕ
valued f m = from_entries (map (λ (e : ℕ × ℕ). (e.0, f e.1)) (entries m))

get_valued : (f : ℕ → ℕ) (m : FinMap nat_cmp ℕ) (q : ℕ) → get (valued f m) q ≡ option_map f (get m q)
unfolding valued
get_valued f m q =
    get-from_entries nat_cmp_total (map (λ (e : ℕ × ℕ). (e.0, f e.1)) (entries m)) q
    ∙ (find_on f q (entries m) ∙ ap (λ (o : Option ℕ). option_map f o) (sym (get-entries m q)))

none_valued : (f : ℕ → ℕ) (q : ℕ) → get (empty {X = ℕ} {R = nat_cmp}) q ≡ option_map f (get (empty {X = ℕ} {R = nat_cmp}) q)
none_valued f q = get-empty nat_cmp q ∙ ap (λ (o : Option ℕ). option_map f o) (sym (get-empty nat_cmp q))

-- the frames, each at its new name
frames_renamed : (frames : List FrameState) → Renaming (length frames) → List FrameState
frames_renamed frames r = map (λ y. frame_at frames (r.back y)) (range_with_len 0 (length frames))

frame_renamed : (frames : List FrameState) (r : Renaming (length frames)) (y : ℕ)
    → frame_at (frames_renamed frames r) y ≡ frame_at frames (r.back y)
unfolding frame_at frames_renamed
frame_renamed frames r y = elim (cases_lt y (length frames)) [
  | inl below ↦ get_or-map (λ y. frame_at frames (r.back y)) (range_with_len 0 (length frames)) y 0 Hand
      (subst (λ (n : ℕ). y < n) (sym (length-range_with_len 0 (length frames))) below)
      ∙ ap (λ (x : ℕ). frame_at frames (r.back x)) (get_or-range_with_len 0 (length frames) y 0 below ∙ omega arith)
  | inr past ↦ get_or_past (map (λ y. frame_at frames (r.back y)) (range_with_len 0 (length frames))) y Hand
      (subst (λ (n : ℕ). n ≤ y) (sym (length-map (range_with_len 0 (length frames)) (λ y. frame_at frames (r.back y))
      ∙ length-range_with_len 0 (length frames))) past)
      ∙ (sym (get_or_past frames y Hand past) ∙ ap (λ (x : ℕ). frame_at frames x) (sym (fixed_back r y past)))
]

file_renamed : (ℕ → ℕ) → FileState → FileState
file_renamed f s = record s { cache = record s.cache { pages = valued f s.cache.pages } }

space_renamed : (ℕ → ℕ) → Table → Table
space_renamed f s = record s { entries = valued f s.entries }

task_renamed : (ℕ → ℕ) → TaskState → TaskState
task_renamed f s = record s { call = option_map (call_renamed f) s.call }

-- the core with its frames renamed
pub core_renamed : (s : CoreState) → Renaming (as_state s).frames → CoreState
core_renamed s r = record s {
  parts = record s.parts {
    bank = record s.parts.bank { frames = frames_renamed s.parts.bank.frames r };
    files = map (file_renamed r.to) s.parts.files;
    spaces = map (space_renamed r.to) s.parts.spaces;
  };
  task_states = map (task_renamed r.to) s.task_states;
}

pub same_sizes : (s : CoreState) (r : Renaming (as_state s).frames) → (core_renamed s r).sizes ≡ s.sizes
unfolding core_renamed
same_sizes s r = refl

-- what is seen of a file, or of a space, that no name shows in
of_files : {X : Type 0} (seen : FileState → X) (to : ℕ → ℕ) → ((f : FileState) → seen (file_renamed to f) ≡ seen f) → (files : List FileState)
    (f : ℕ) → seen (slice_index_or (map (file_renamed to) files) f no_file) ≡ seen (slice_index_or files f no_file)
of_files seen to each files f = at_image seen seen (file_renamed to) no_file each refl files f

of_spaces : {X : Type 0} (seen : Table → X) (to : ℕ → ℕ) → ((s : Table) → seen (space_renamed to s) ≡ seen s) → (spaces : List Table)
    (t : ℕ) → seen (table_of (map (space_renamed to) spaces) t) ≡ seen (table_of spaces t)
of_spaces seen to each spaces t =
    if_first seen seen (t == 0) no_table _ _ refl (at_image seen seen (space_renamed to) no_table each refl spaces (t - 1))

pub same_core : (s : CoreState) (r : Renaming (as_state s).frames) → as_state (core_renamed s r) ≡ renamed r (as_state s)
unfolding core_renamed file_renamed space_renamed task_renamed frames_renamed frame_at holders_of sizes_of pendings_of spares_of sets_of pages_of
    ready_by_task mappings_by_task entries_of lives_of calls_of
same_core s r =
    let files = s.parts.files in
    let spaces = s.parts.spaces in
    let to = r.to in
    let count : length (frames_renamed s.parts.bank.frames r) ≡ length s.parts.bank.frames =
    length-map (range_with_len 0 (length s.parts.bank.frames)) (λ y. frame_at s.parts.bank.frames (r.back y))
    ∙ length-range_with_len 0 (length s.parts.bank.frames) in
    let many_files = length-map files (file_renamed to) in
    let many_spaces = length-map spaces (space_renamed to) in
    let frame = fun_ext (frame_renamed s.parts.bank.frames r) in
    let size = fun_ext (of_files (λ f. f.size) to (λ f. refl) files) in
    let pending = fun_ext (of_files (λ f. f.map.pending) to (λ f. refl) files) in
    let spare = fun_ext (of_files (λ f. f.map.spare) to (λ f. refl) files) in
    let reserved = fun_ext (λ f. fun_ext (λ i. of_files (λ x. is_member x.map.regions i) to (λ x. refl) files f)) in
    let pages = fun_ext (λ f. fun_ext (λ i. at_image (λ x. get x.cache.pages i) (λ x. option_map to (get x.cache.pages i))
    (file_renamed to) no_file (λ x. get_valued to x.cache.pages i) (none_valued to i) files f)) in
    let ready = fun_ext (of_spaces (λ x. x.ready) to (λ x. refl) spaces) in
    let mappings = fun_ext (of_spaces (λ x. x.mappings) to (λ x. refl) spaces) in
    let entries = fun_ext (λ t. fun_ext (λ v. if_first (λ x. get x.entries v) (λ x. option_map to (get x.entries v)) (t == 0) no_table _ _
    (none_valued to v) (at_image (λ x. get x.entries v) (λ x. option_map to (get x.entries v)) (space_renamed to) no_table
    (λ x. get_valued to x.entries v) (none_valued to v) spaces (t - 1)))) in
    let life = fun_ext (λ t. if_first (λ x. x.life) (λ x. x.life) (t == 0) no_task_state _ _ refl
    (at_image (λ x. x.life) (λ x. x.life) (task_renamed to) no_task_state (λ x. refl) refl s.task_states (t - 1))) in
    let calls = fun_ext (λ t. if_first (λ x. x.call) (λ x. option_map (call_renamed to) x.call) (t == 0) no_task_state _ _ refl
    (at_image (λ x. x.call) (λ x. option_map (call_renamed to) x.call) (task_renamed to) no_task_state (λ x. refl) refl
    s.task_states (t - 1))) in
    λ i. record {
      pool = record {
        geometry = record {
          files = many_files i;
          slots = length s.parts.slots;
          tasks = many_spaces i;
          limit = LIMIT;
          space = VPNS;
          quota = s.parts.bank.quota;
        };
        frames = count i;
        frame = frame i;
        resv = s.parts.bank.resv;
        used = s.parts.bank.used;
        slots = holders_of s.parts.slots;
        locks = holders_of s.parts.locks;
        size = size i;
        pending = pending i;
        spare = spare i;
        reserved = reserved i;
        pages = pages i;
        ready = ready i;
        mappings = mappings i;
        entries = entries i;
      };
      life = life i;
      calls = calls i;
    }

-- what is alike to a core is one
pub core_of : (s : CoreState) (n : State) → Alike (as_state s) n → (core : CoreState) × (as_state core ≡ n) × (core.sizes ≡ s.sizes)
core_of s n (r, is) = (core_renamed s r, same_core s r ∙ sym is, same_sizes s r)
