-- A copy of a core at rest is at the same state.
use Rattle.std.proofs.Common.{◌≡◌, ℕ, ◌+◌, ◌-◌, ◌<◌, List, [], ◌∷◌, ◌++◌, length, get_or, refl, sym, ap, ◌∙◌, subst, arith, inl, inr}
use Rattle.std.proofs.Math.Path.{fun_ext}
use Rattle.std.proofs.Math.Seq.{take-suc}
use Rattle.std.proofs.Math.ListN.{get_or-eq_default}
use Rattle.std.proofs.lemmas.Grind.{common_steps}
use Rattle.std.proofs.lemmas.Bool.{cases_lt, ne_eqb}
use Rattle.std.proofs.lemmas.Slice.Zip.{AllZip-long}
use Rattle.std.proofs.lemmas.List.Elements.{All-nil, All-cons, All-get_or, All-from_get_or, AllZip-push, AllZip-get_or}
use Rattle.std.specs.Prelude.{false, Option, Some, None, All, take, suc, is_some, count_by, ◌==◌}
use Rattle.std.specs.List.{AllZip}
use Rattle.std.specs.FinMap as map
use Rattle.hp_base.specs.Text.{Sizes}
use Rattle.hp_base.proofs.Counting.{count_below_none}
use Rattle.hp_base.proofs.Puts.{same_or_other}
use Rattle.hp_frames.specs.Bank.{BankState, count_of, frame_at, hand_count, is_in_hand}
use Rattle.hp_region.specs.Regions.{is_member}
use Rattle.hp_table.specs.Table.{Table}
use Rattle.hp_machine.specs.State.{State}
use Rattle.hp_machine.specs.Events.{IsReached, IsReachedFrom}
use Rattle.hp_machine.specs.declared.call.Call.{Call}
use Rattle.hp_laws.specs.Protocol.{IsAtRest, HoldsNothing}
use Rattle.hp_parts.specs.declared.parts.FileState.{FileState}
use Rattle.hp_parts.specs.State.{PartsState}
use Rattle.hp_parts.specs.View.{no_file, no_table, table_of, holders_of, sizes_of, pendings_of, spares_of, sets_of, pages_of}
use Rattle.hp_parts.specs.View.{ready_by_task, mappings_by_task, entries_of, pool_of, geometry_of}
use Rattle.hp_core.specs.declared.task_state.TaskState.{TaskState}
use Rattle.hp_core.specs.Duplicates.{IsSameFile, IsSameTable}
use Rattle.hp_core.specs.Readers.{calls_of as calls_in}
use Rattle.hp_core.specs.Sound.{IsSound, IsKept}
use Rattle.hp_core.specs.State.{CoreState, as_state, calls_of, lives_of, no_task_state, state_with}
use Rattle.hp_core.proofs.Headlines.{reached_of}
use Rattle.hp_core.proofs.Sums.{calls_are}

-- a list of things with one more, each of which is as it should be beside its source
pub one_more : {X : Type 0} (R : X → X → Type 0) (xs ys new : List X) (n : ℕ) (x y : X) → n < length xs → x ≡ get_or xs n x
    → AllZip R (take n xs) ys → R x y → new ≡ ys ++ y ∷ [] → AllZip R (take (n + 1) xs) new
one_more {X} R xs ys new n x y l is all here made =
    let next : suc n ≡ n + 1 = omega arith in
    let P : List X → Type 0 = λ zs. AllZip R zs (ys ++ y ∷ []) in
    let Q : List X → Type 0 = λ zs. AllZip R (take (n + 1) xs) zs in
    subst Q (sym made) (subst P (sym (take-suc xs n x l ∙ ap (λ (z : X). take n xs ++ z ∷ []) (sym is))
    ∙ ap (λ (m : ℕ). take m xs) next) (AllZip-push R (take n xs) ys x y all here))

-- what a relation says of each two things of two lists it says of what stands for those that aren't there
pub at_place : {X : Type 0} (R : X → X → Type 0) (xs ys : List X) (d : X) → R d d → AllZip R xs ys → (k : ℕ)
    → R (get_or xs k d) (get_or ys k d)
at_place {X} R xs ys d same all k = elim (cases_lt k (length xs)) [
  | inl l ↦ AllZip-get_or R xs ys k d d all l
  | inr l ↦
      let first : get_or xs k d ≡ d = get_or-eq_default xs d l in
      let other : get_or ys k d ≡ d = get_or-eq_default ys d (let e = AllZip-long R xs ys all in omega (arith, e, l)) in
      subst (λ (x : X). R x (get_or ys k d)) (sym first) (subst (λ (y : X). R d y) (sym other) same)
]

-- the same parts, whatever memory they have taken
pub record AreSame (p q : PartsState) : Type 0 where
  pub bank : q.bank ≡ record p.bank { capacity = q.bank.capacity }
  pub files : AllZip IsSameFile p.files q.files
  pub slots : q.slots ≡ p.slots
  pub locks : q.locks ≡ p.locks
  pub spaces : AllZip IsSameTable p.spaces q.spaces

module _ (p q : PartsState) (same : AreSame p q) where
  file_at : (f : ℕ) → IsSameFile (get_or p.files f no_file) (get_or q.files f no_file)
  file_at f = at_place IsSameFile p.files q.files no_file refl same.files f

  space_at : (k : ℕ) → IsSameTable (get_or p.spaces k no_table) (get_or q.spaces k no_table)
  space_at k = at_place IsSameTable p.spaces q.spaces no_table refl same.spaces k

  table_at : (t : ℕ) → IsSameTable (table_of p.spaces t) (table_of q.spaces t)
  table_at t = elim (same_or_other t 0) [
    | inl e ↦ rw e refl
    | inr d ↦ (let b : (t == 0) ≡ false = ne_eqb t 0 d in rw b (space_at (t - 1)))
  ]

  sizes_same : sizes_of q.files ≡ sizes_of p.files
  unfolding sizes_of
  sizes_same = fun_ext (λ f. ap (λ (x : FileState). x.size) (file_at f))

  pendings_same : pendings_of q.files ≡ pendings_of p.files
  unfolding pendings_of
  pendings_same = fun_ext (λ f. ap (λ (x : FileState). x.map.pending) (file_at f))

  spares_same : spares_of q.files ≡ spares_of p.files
  unfolding spares_of
  spares_same = fun_ext (λ f. ap (λ (x : FileState). x.map.spare) (file_at f))

  sets_same : sets_of q.files ≡ sets_of p.files
  unfolding sets_of
  sets_same = fun_ext (λ f. ap (λ (x : FileState). is_member x.map.regions) (file_at f))

  pages_same : pages_of q.files ≡ pages_of p.files
  unfolding pages_of
  pages_same = fun_ext (λ f. ap (λ (x : FileState). λ i. map.get x.cache.pages i) (file_at f))

  ready_same : ready_by_task q.spaces ≡ ready_by_task p.spaces
  unfolding ready_by_task
  ready_same = fun_ext (λ t. ap (λ (x : Table). x.ready) (table_at t))

  mappings_same : mappings_by_task q.spaces ≡ mappings_by_task p.spaces
  unfolding mappings_by_task
  mappings_same = fun_ext (λ t. ap (λ (x : Table). x.mappings) (table_at t))

  entries_same : entries_of q.spaces ≡ entries_of p.spaces
  unfolding entries_of
  entries_same = fun_ext (λ t. ap (λ (x : Table). λ v. map.get x.entries v) (table_at t))

  pub files_long : length q.files ≡ length p.files
  files_long = AllZip-long IsSameFile p.files q.files same.files

  pub spaces_long : length q.spaces ≡ length p.spaces
  spaces_long = AllZip-long IsSameTable p.spaces q.spaces same.spaces

  pub pool_same : pool_of q ≡ pool_of p
  pool_same = λ i. record (pool_of p) {
    geometry = record (geometry_of p) {
      files = files_long i;
      slots = length (same.slots i);
      tasks = spaces_long i;
      quota = (same.bank i).quota;
    };
    frames = length (same.bank i).frames;
    frame = frame_at (same.bank i).frames;
    resv = (same.bank i).resv;
    used = (same.bank i).used;
    slots = holders_of (same.slots i);
    locks = holders_of (same.locks i);
    size = sizes_same i;
    pending = pendings_same i;
    spare = spares_same i;
    reserved = sets_same i;
    pages = pages_same i;
    ready = ready_same i;
    mappings = mappings_same i;
    entries = entries_same i;
  }

-- told part by part
pub are_same : (p q : PartsState) (files : List FileState) (spaces : List Table) → q.bank ≡ record p.bank { capacity = q.bank.capacity }
    → files ≡ p.files → AllZip IsSameFile files q.files → q.slots ≡ p.slots → q.locks ≡ p.locks
    → spaces ≡ p.spaces → AllZip IsSameTable spaces q.spaces → AreSame p q
are_same p q files spaces bank all_files each_file slots locks all_spaces each_space = record {
  bank = bank;
  files = subst (λ (xs : List FileState). AllZip IsSameFile xs q.files) all_files each_file;
  slots = slots;
  locks = locks;
  spaces = subst (λ (xs : List Table). AllZip IsSameTable xs q.spaces) all_spaces each_space;
}

-- the same parts and task states are the same state
pub state_same : (p q : PartsState) (before after : List TaskState) → AreSame p q → after ≡ before
    → state_with q after ≡ state_with p before
state_same p q before after same task_states = λ i. record {
  pool = pool_same p q same i;
  life = lives_of (task_states i);
  calls = calls_of (task_states i);
}

-- so it is as sound
pub still_sound : (s c : CoreState) → IsSound s → AreSame s.parts c.parts → c.task_states ≡ s.task_states → c.sizes ≡ s.sizes → IsSound c
unfolding IsSound
still_sound s c sound same task_states sizes_are =
    let kept = sound.1 in
    let P : Sizes → Type 0 = λ z. IsReachedFrom z.frames (as_state c) × IsKept (record c { sizes = z }) in (
      subst (λ (z : Sizes). IsReachedFrom z.frames (as_state c)) (sym sizes_are)
          (subst (λ (m : State). IsReachedFrom s.sizes.frames m)
          (sym (state_same s.parts c.parts s.task_states c.task_states same task_states)) sound.0),
      subst (λ (z : Sizes). IsKept (record c { sizes = z })) (sym sizes_are) (record {
        locks = ap (λ (xs : List (Option ℕ)). length xs) same.locks ∙ kept.locks ∙ sym (files_long s.parts c.parts same);
        files = files_long s.parts c.parts same ∙ kept.files;
        slots = ap (λ (xs : List (Option ℕ)). length xs) same.slots ∙ kept.slots;
        spaces = spaces_long s.parts c.parts same ∙ kept.spaces;
        quota = ap (λ (b : BankState). b.quota) same.bank ∙ kept.quota;
        task_states = ap (λ (xs : List TaskState). length xs) task_states ∙ kept.task_states;
        limits = kept.limits;
      }),
    )

-- where no task's call is counted there is none
pub no_calls : (task_states : List TaskState) → count_by (λ task_state. is_some task_state.call) task_states ≡ 0
    → All (λ task_state. task_state.call ≡ None) task_states
no_calls [] none = All-nil _
no_calls (x ∷ xs) none = by_call x.call refl (λ rest. no_calls xs rest)
  where
    by_call : (o : Option Call) → x.call ≡ o
        → (count_by (λ (task_state : TaskState). is_some task_state.call) xs ≡ 0
        → All (λ (task_state : TaskState). task_state.call ≡ None) xs)
        → All (λ (task_state : TaskState). task_state.call ≡ None) (x ∷ xs)
    by_call None e others = All-cons (λ (task_state : TaskState). task_state.call ≡ None) x xs e (others (grind (arith, common_steps)))
    by_call (Some c) e others = absurd (grind (arith, common_steps))

-- so the core is at rest
pub at_rest : (s : CoreState) → All (λ task_state. task_state.call ≡ None) s.task_states → IsAtRest (as_state s)
unfolding calls_of
at_rest s none t = elim (same_or_other t 0) [
  | inl e ↦ rw e refl
  | inr d ↦
      let b : (t == 0) ≡ false = ne_eqb t 0 d in
      rw b (elim (cases_lt (t - 1) (length s.task_states)) [
        | inl l ↦ All-get_or (λ (task_state : TaskState). task_state.call ≡ None) s.task_states (t - 1) no_task_state l none
        | inr l ↦ ap (λ (task_state : TaskState). task_state.call) (get_or-eq_default s.task_states no_task_state l)
      ])
]

-- then none of its maps is being changed
pub no_changes : (p : PartsState) → ((f : ℕ) → pendings_of p.files f ≡ 0) → All (λ file. file.map.pending ≡ 0) p.files
unfolding pendings_of
no_changes p none = All-from_get_or (λ (file : FileState). file.map.pending ≡ 0) p.files no_file (λ f l. none f)

-- and none of its frames is in a hand
pub no_hands : (bank : BankState) → ((x : ℕ) → x < length bank.frames → is_in_hand (frame_at bank.frames x) ≡ false) → hand_count bank ≡ 0
unfolding count_of
no_hands bank none = count_below_none (λ x. is_in_hand (frame_at bank.frames x)) (length bank.frames) none

-- what a copy takes for granted
pub record CanCopy (s : CoreState) : Type 0 where
  pub hands : hand_count s.parts.bank ≡ 0
  pub changes : All (λ (file : FileState). file.map.pending ≡ 0) s.parts.files
  pub calls : All (λ (task_state : TaskState). task_state.call ≡ None) s.task_states

-- and finds in each core with no call in flight
pub can_copy : ((m : State) → IsReached m → IsAtRest m → HoldsNothing m) → (s seen : CoreState) → s ≡ seen → IsSound s
    → calls_in seen ≡ 0 → CanCopy s
unfolding IsSound
can_copy law s seen e sound none =
    let calls = no_calls s.task_states (calls_are s sound.1 ∙ (ap calls_in e ∙ none)) in
    let nothing = law (as_state s) (reached_of s sound) (at_rest s calls) in
    record {
      hands = no_hands s.parts.bank nothing.hands;
      changes = no_changes s.parts nothing.changes;
      calls = calls;
    }
