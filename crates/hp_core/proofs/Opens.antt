-- A core that nothing has happened to is the machine's opening, and sound.
use Rattle.std.proofs.Common.{◌≡◌, ℕ, ◌-◌, List, [], length, get_or, refl, sym, ◌∙◌, ap, subst, arith, inl, inr}
use Rattle.std.proofs.Math.Path.{fun_ext}
use Rattle.std.proofs.Math.ListN.{get_or-eq_default}
use Rattle.std.proofs.lemmas.Bool.{cases_lt, ne_eqb}
use Rattle.std.proofs.lemmas.Bool.Decides.{nat_tests}
use Rattle.std.proofs.lemmas.List.{get_or-replicate, length-replicate}
use Rattle.std.proofs.lemmas.List.Elements.{All-get_or}
use Rattle.std.specs.Prelude.{Bool, true, false, Option, None, All, IsSome, is_some, nat_lt, nat_le, ◌==◌, ◌&&◌, replicate, if◌then◌else◌}
use Rattle.std.specs.FinMap.{FinMap, get, get-empty}
use Rattle.std.specs.Ordering.{nat_cmp}
use Rattle.hp_base.specs.Text.{Sizes, sizes}
use Rattle.hp_base.specs.Limits.{IsWithinLimits}
use Rattle.hp_base.specs.declared.config.Config.{Config}
use Rattle.hp_base.proofs.Puts.{same_or_other}
use Rattle.hp_frames.specs.Bank.{frame_at}
use Rattle.hp_frames.specs.declared.frame.FrameState.{FrameState}
use Rattle.hp_frames.specs.declared.frame.FrameState.TheVariants as frame
use Rattle.hp_region.specs.Regions.{is_member}
use Rattle.hp_table.specs.Table.{Table}
use Rattle.hp_machine.specs.Events as rows
use Rattle.hp_machine.specs.declared.call.Call.{Call}
use Rattle.hp_machine.specs.declared.outcome.Life.TheVariants as life
use Rattle.hp_parts.specs.declared.parts.FileState.{FileState}
use Rattle.hp_parts.specs.State.{PartsState}
use Rattle.hp_parts.specs.View.{no_file, no_table, table_of, holders_of, sizes_of, pendings_of, spares_of, sets_of, pages_of}
use Rattle.hp_parts.specs.View.{ready_by_task, mappings_by_task, entries_of, geometry_of}
use Rattle.hp_core.specs.declared.task_state.TaskState.{TaskState}
use Rattle.hp_core.specs.State.{task_state_at, no_task_state, calls_of, lives_of, state_with}
use Rattle.hp_core.specs.Opening.{IsFresh, IsVacant}
use Rattle.hp_core.specs.Readers as readers
use Rattle.hp_core.specs.Sound.{IsSound}
use Rattle.hp_core.proofs.InFlight.{none_counts}
use Rattle.hp_core.specs.Runs.{IsOpening, geometry}

-- what stands in a list of equal things, at a default that is one of them
same_at : {A : Type 0} (a : A) (xs : List A) → All (λ x. x ≡ a) xs → (i : ℕ) → get_or xs i a ≡ a
same_at {A} a xs h i = elim (cases_lt i (length xs)) [ inl l ↦ All-get_or (λ (x : A). x ≡ a) xs i a l h | inr l ↦ get_or-eq_default xs a l ]

-- each task's table is as at first
same_table : (xs : List Table) → All (λ x. x ≡ no_table) xs → (t : ℕ) → table_of xs t ≡ no_table
same_table xs h t = elim (same_or_other t 0) [
  | inl e ↦ rw e refl
  | inr d ↦ (let q : (t == 0) ≡ false = ne_eqb t 0 d in rw q (same_at no_table xs h (t - 1)))
]

-- a list of one thing, with any default
copies_at : {A : Type 0} (a d : A) (n i : ℕ) → get_or (replicate n a) i d ≡ (if nat_lt i n then a else d)
copies_at {A} a d n i = elim (cases_lt i n) [
  | inl l ↦ get_or-replicate n i a d l ∙ (let q : nat_lt i n ≡ true = grind (arith, nat_tests, l) in rw q refl)
  | inr l ↦ get_or-eq_default (replicate n a) d (let e = length-replicate n a in omega arith)
      ∙ (let q : nat_lt i n ≡ false = grind (arith, nat_tests, l) in rw q refl)
]

-- a list of one thing has that thing at each place, where it is the default, too
same_copies : {A : Type 0} (a : A) (n i : ℕ) → get_or (replicate n a) i a ≡ a
same_copies {A} a n i = elim (cases_lt i n) [
  | inl l ↦ get_or-replicate n i a a l
  | inr l ↦ get_or-eq_default (replicate n a) a (let e = length-replicate n a in omega arith)
]

-- a task state of a core that nothing has happened to
vacant_life : (xs : List TaskState) → All IsVacant xs → (t : ℕ)
    → (task_state_at xs t).life ≡ (if nat_le 1 t && nat_le t (length xs) then life.Alive else life.Dead)
vacant_life xs h t = elim (same_or_other t 0) [
  | inl e ↦ rw e refl
  | inr d ↦ (let q : (t == 0) ≡ false = ne_eqb t 0 d in elim (cases_lt (t - 1) (length xs)) [
    | inl l ↦ (let y = All-get_or IsVacant xs (t - 1) no_task_state l h in
        let b : (nat_le 1 t && nat_le t (length xs)) ≡ true = grind (arith, nat_tests, d, l) in
        rw (q, b) y.life)
    | inr l ↦ (let b : (nat_le 1 t && nat_le t (length xs)) ≡ false = grind (arith, nat_tests, d, l) in
        rw (q, b) (ap (λ (s : TaskState). s.life) (get_or-eq_default xs no_task_state l)))
  ])
]

-- and it has no call
vacant_call : (xs : List TaskState) → All IsVacant xs → (t : ℕ) → (task_state_at xs t).call ≡ None
vacant_call xs h t = elim (same_or_other t 0) [
  | inl e ↦ rw e refl
  | inr d ↦ (let q : (t == 0) ≡ false = ne_eqb t 0 d in elim (cases_lt (t - 1) (length xs)) [
    | inl l ↦ (let y = All-get_or IsVacant xs (t - 1) no_task_state l h in rw q y.call)
    | inr l ↦ rw q (ap (λ (s : TaskState). s.call) (get_or-eq_default xs no_task_state l))
  ])
]

-- the lists of a core that nothing has happened to
abbrev pub AreFresh : Sizes → PartsState → List TaskState → Type 0
AreFresh z p ss = record {
  all_frames : p.bank.frames ≡ replicate z.frames frame.Free;
  none_reserved : p.bank.resv ≡ 0;
  none_used : p.bank.used ≡ 0;
  same_quota : p.bank.quota ≡ z.quota;
  all_slots : p.slots ≡ replicate z.slots None;
  all_locks : p.locks ≡ replicate z.files None;
  files_long : length p.files ≡ z.files;
  all_files : All IsFresh p.files;
  spaces_long : length p.spaces ≡ z.tasks;
  all_spaces : All (λ table. table ≡ no_table) p.spaces;
  task_states_long : length ss ≡ z.tasks;
  all_task_states : All IsVacant ss;
}

module _ (z : Sizes) (p : PartsState) (task_states : List TaskState) (h : AreFresh z p task_states) where
  -- what each file is, also one that isn't there
  file_is : (P : FileState → Type 0) → ((f : FileState) → IsFresh f → P f) → P no_file → (f : ℕ) → P (get_or p.files f no_file)
  file_is P fresh none f = elim (cases_lt f (length p.files)) [
    | inl l ↦ fresh (get_or p.files f no_file) (All-get_or IsFresh p.files f no_file l h.all_files)
    | inr l ↦ subst P (sym (get_or-eq_default p.files no_file l)) none
  ]

  geometry_is : geometry_of p ≡ geometry z
  geometry_is =
      let b : length p.slots ≡ z.slots = ap (λ (ss : List (Option ℕ)). length ss) h.all_slots ∙ length-replicate z.slots None in
      λ i. record (geometry z) { files = h.files_long i; slots = b i; tasks = h.spaces_long i; quota = h.same_quota i }

  frames_long : length p.bank.frames ≡ z.frames
  frames_long = ap (λ (fs : List FrameState). length fs) h.all_frames ∙ length-replicate z.frames frame.Free

  frame_is : frame_at p.bank.frames ≡ (λ x. if nat_lt x z.frames then frame.Free else frame.Hand)
  unfolding frame_at
  frame_is = fun_ext (λ x. ap (λ (fs : List FrameState). get_or fs x frame.Hand) h.all_frames ∙ copies_at frame.Free frame.Hand z.frames x)

  slots_are : holders_of p.slots ≡ (λ _. None)
  unfolding holders_of
  slots_are = fun_ext (λ k. ap (λ (ss : List (Option ℕ)). get_or ss k None) h.all_slots ∙ same_copies {A = Option ℕ} None z.slots k)

  locks_are : holders_of p.locks ≡ (λ _. None)
  unfolding holders_of
  locks_are = fun_ext (λ k. ap (λ (ss : List (Option ℕ)). get_or ss k None) h.all_locks ∙ same_copies {A = Option ℕ} None z.files k)

  sizes_are : sizes_of p.files ≡ (λ _. 0)
  unfolding sizes_of
  sizes_are = fun_ext (file_is (λ f. f.size ≡ 0) (λ f fresh. fresh.size) refl)

  pendings_are : pendings_of p.files ≡ (λ _. 0)
  unfolding pendings_of
  pendings_are = fun_ext (file_is (λ f. f.map.pending ≡ 0) (λ f fresh. fresh.pending) refl)

  spares_are : spares_of p.files ≡ (λ _. 0)
  unfolding spares_of
  spares_are = fun_ext (file_is (λ f. f.map.spare ≡ 0) (λ f fresh. fresh.spare) refl)

  sets_are : sets_of p.files ≡ (λ _ _. false)
  unfolding sets_of
  sets_are =
      fun_ext (λ f. fun_ext
      (λ i. file_is (λ y. is_member y.map.regions i ≡ false)
      (λ y fresh. ap (λ (rs : List _). is_member rs i) fresh.regions) refl f))

  pages_are : pages_of p.files ≡ (λ _ _. None)
  unfolding pages_of
  pages_are =
      fun_ext (λ f. fun_ext
      (λ i. file_is (λ y. get y.cache.pages i ≡ None)
      (λ y fresh. ap (λ (m : FinMap nat_cmp ℕ). get m i) fresh.cache ∙ get-empty nat_cmp i) (get-empty nat_cmp i) f))

  ready_are : ready_by_task p.spaces ≡ (λ _. false)
  unfolding ready_by_task
  ready_are = fun_ext (λ t. ap (λ (y : Table). y.ready) (same_table p.spaces h.all_spaces t))

  mappings_are : mappings_by_task p.spaces ≡ (λ _. [])
  unfolding mappings_by_task
  mappings_are = fun_ext (λ t. ap (λ (y : Table). y.mappings) (same_table p.spaces h.all_spaces t))

  entries_are : entries_of p.spaces ≡ (λ _ _. None)
  unfolding entries_of
  entries_are = fun_ext (λ t. fun_ext (λ v. ap (λ (y : Table). get y.entries v) (same_table p.spaces h.all_spaces t) ∙ get-empty nat_cmp v))

  lives_are : lives_of task_states ≡ (λ t. if nat_le 1 t && nat_le t z.tasks then life.Alive else life.Dead)
  unfolding lives_of
  lives_are =
      fun_ext (λ t. vacant_life task_states h.all_task_states t
      ∙ ap (λ (n : ℕ). if nat_le 1 t && nat_le t n then life.Alive else life.Dead) h.task_states_long)

  calls_are : calls_of task_states ≡ (λ _. None)
  unfolding calls_of
  calls_are = fun_ext (λ t. vacant_call task_states h.all_task_states t)

  pub is_opening : state_with p task_states ≡ rows.opening (geometry z) z.frames
  is_opening = λ i. record {
    pool = record {
      geometry = geometry_is i;
      frames = frames_long i;
      frame = frame_is i;
      resv = h.none_reserved i;
      used = h.none_used i;
      slots = slots_are i;
      locks = locks_are i;
      size = sizes_are i;
      pending = pendings_are i;
      spare = spares_are i;
      reserved = sets_are i;
      pages = pages_are i;
      ready = ready_are i;
      mappings = mappings_are i;
      entries = entries_are i;
    };
    life = lives_are i;
    calls = calls_are i;
  }

  pub are_sound : (capacity : ℕ) → IsWithinLimits z.frames z.files z.slots z.tasks
      → IsSound (record { sizes = z; parts = p; task_states = task_states; capacity = capacity })
  unfolding IsSound
  are_sound capacity within = (
    ([], is_opening ∙ λ i. rows.opening (sym geometry_is i) z.frames),
    record {
      locks = ap (λ (ss : List (Option ℕ)). length ss) h.all_locks ∙ (length-replicate z.files None ∙ sym h.files_long);
      files = h.files_long;
      slots = ap (λ (ss : List (Option ℕ)). length ss) h.all_slots ∙ length-replicate z.slots None;
      spaces = h.spaces_long;
      quota = h.same_quota;
      task_states = h.task_states_long;
      limits = within;
    },
  )

-- so it opens the machine
pub opens_as : (config : Config) (p : PartsState) (task_states : List TaskState) (capacity : ℕ) → AreFresh (sizes config) p task_states
    → IsOpening config (record { sizes = sizes config; parts = p; task_states = task_states; capacity = capacity })
unfolding IsOpening
opens_as config p task_states capacity h = (refl, is_opening (sizes config) p task_states h)

no_call : (o : Option Call) → o ≡ None → IsSome o → ⊥
no_call o none there =
    let no : ◌≡◌ {A = Bool} false true = sym (ap is_some none) ∙ there in
    cc

-- so no call is in flight at first
pub none_in_flight : (z : Sizes) (p : PartsState) (task_states : List TaskState) (capacity : ℕ) → All IsVacant task_states
    → readers.calls_of (record { sizes = z; parts = p; task_states = task_states; capacity = capacity }) ≡ 0
unfolding calls_of
none_in_flight z p task_states capacity fresh =
    none_counts (record { sizes = z; parts = p; task_states = task_states; capacity = capacity })
    (λ t there. no_call (task_state_at task_states t).call (vacant_call task_states fresh t) there)
