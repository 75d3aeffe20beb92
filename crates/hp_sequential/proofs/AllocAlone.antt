-- An allocation that runs alone means what the table says.
use Rattle.std.proofs.Common.{◌≡◌, ◌≢◌, ℕ, zero, suc, ◌+◌, ◌-◌, ◌<◌, ◌≤◌, refl, ap, sym, ◌∙◌, subst, arith, inl, inr, ◌⊎◌}
use Rattle.std.proofs.lemmas.Bool.Decides.{nat_tests}
use Rattle.std.specs.Prelude.{Bool, true, false, not, ◌&&◌, ◌==◌, nat_le, nat_lt, Option, Some, None, is_some, max, min, cond, if◌then◌else◌}
use Rattle.hp_base.specs.Numbers.{put, is_none, bit}
use Rattle.hp_base.specs.Indices.{is_within, count_within, missing, add_range, touches}
use Rattle.hp_base.specs.declared.answer.Answer.{Answer}
use Rattle.hp_base.specs.declared.answer.Answer.TheVariants.{Done, NoFrame, NoQuota, Interrupted}
use Rattle.hp_base.proofs.Puts.{put_same, put_self}
use Rattle.hp_base.proofs.Sets.{missing_one}
use Rattle.hp_frames.specs.Bank.{is_used_up, IsWithinQuota}
use Rattle.hp_frames.proofs.Quotas.{one_within}
use Rattle.hp_frames.specs.declared.frame.FrameState.{FrameState}
use Rattle.hp_frames.specs.declared.frame.FrameState.TheVariants.{Free, Hand, Placed}
use Rattle.hp_region.specs.Change.{Change}
use Rattle.hp_machine.specs.State.{Pool, State, pool_of, slot_of, free_frames}
use Rattle.hp_machine.specs.Headline as headline
use Rattle.hp_machine.specs.Headline.{reserved_in}
use Rattle.hp_machine.specs.AllocRows.{AllocRow}
use Rattle.hp_machine.specs.declared.alloc.Allocation.{Allocation}
use Rattle.hp_machine.specs.declared.alloc.AllocPhase.{AllocPhase}
use Rattle.hp_machine.specs.declared.alloc.AllocPhase.TheVariants as at
use Rattle.hp_machine.specs.declared.call.Call.TheVariants as call
use Rattle.hp_machine.specs.declared.call.Turn.{Turn}
use Rattle.hp_laws.proofs.Invariant.{Inv}
use Rattle.hp_laws.proofs.Shared.{by_test}
use Rattle.hp_sequential.specs.Meaning.{IsReady, Looks, Checked, is_bad_range, available, can_page, short_answer, Filled, AllocMeans}
use Rattle.hp_sequential.proofs.Alone.{if_true, if_false, if_none, Leads, next, moves, goes_on, ends_so, from_pool, put_put, Comes}
use Rattle.hp_sequential.proofs.Idle.{so_true, so_false, finish, idle_again, settled_used, free_slot, free_lock, put_back, pending_back}
use Rattle.hp_sequential.proofs.Idle.{not_below_itself, and_false, checked}
use Rattle.hp_sequential.proofs.Filling.{count_next, missing_next, count_empty, missing_empty, missing_longer, bare_parts}
use Rattle.hp_sequential.proofs.Filling.{range_more, range_same, range_empty, range_past, range_gains, none_filled, fills_same}
use Rattle.hp_sequential.proofs.Filling.{fills_more}

-- granted steps of a task that isn't killed
abbrev pub AllocSteps : (task : ℕ) → Pool → AllocPhase → Turn AllocPhase → Pool → Type 0
AllocSteps t s p turn new = AllocRow s t false true p turn new

-- the reserved indices of [from, to) that wait for a page
abbrev promised : State → (file from to : ℕ) → ℕ
promised s f from to = count_within (λ j. s.reserved f j && is_none (s.pages f j)) from to

-- the used count there
abbrev used_at : State → (file from i : ℕ) → ℕ
used_at s f from i = s.used + missing (s.reserved f) from i

-- the pool where [from, i) is paged, under the file's lock
abbrev paged : State → (task file from i : ℕ) → (pages : ℕ → Option ℕ) → (frame : ℕ → FrameState)
    → (resv : ℕ) → (spare : ℕ → ℕ) → Pool
paged s t f from i pages frame resv spare = record (pool_of s) {
  locks = put s.locks f (Some t);
  frame = frame;
  resv = resv;
  used = used_at s f from i;
  spare = spare;
  pages = put s.pages f pages;
  reserved = put s.reserved f (add_range (s.reserved f) from i);
}

-- what an allocation begins from
record Ready (s : State) (f : ℕ) : Type 0 where
  slots : (k : ℕ) → s.slots k ≡ None
  unlocked : s.locks f ≡ None
  bare : (i : ℕ) → s.reserved f i ≡ false → s.pages f i ≡ None
  enough : s.resv ≤ free_frames s.frame s.frames
  real : (x : ℕ) → s.frame x ≡ Free → x < s.frames
  settled : s.used ≡ reserved_in s

-- how far it has come: [from, i) is paged, and no more of it was missing than was available and the quota allows
record Upto (s : State) (f from i : ℕ) (pages : ℕ → Option ℕ) (frame : ℕ → FrameState) (resv : ℕ) : Type 0 where
  filled : Filled s.frames (s.pages f) s.frame from i pages frame
  count : resv + promised s f from i ≡ s.resv
  within : missing (s.reserved f) from i ≤ available s
  quota : IsWithinQuota s.geometry.quota (used_at s f from i)

-- an index is done with
record OneMore (s : State) (t : ℕ) (a : Allocation) (i : ℕ) (b : Answer) (end : Pool) : Type 0 where
  pages : ℕ → Option ℕ
  frame : ℕ → FrameState
  resv : ℕ
  spare : ℕ → ℕ
  upto : Upto s a.file a.from (i + 1) pages frame resv
  leads : Leads (AllocSteps t) b end
      (record (paged s t a.file a.from (i + 1) pages frame resv spare) {
        slots = put s.slots
            (slot_of s.geometry a.file i) (Some t);
      }) (at.Unslot (record { allocation = a; index = i; answer = None }))

-- or it lacks a frame, or the quota has nothing left
record Short (s : State) (t : ℕ) (a : Allocation) (i : ℕ) (pages : ℕ → Option ℕ) (frame : ℕ → FrameState) (resv : ℕ)
    (b : Answer) (end : Pool) : Type 0 where
  spare : ℕ → ℕ
  lacks : s.reserved a.file i ≡ false
  all : missing (s.reserved a.file) a.from i ≡ can_page s
  leads : Leads (AllocSteps t) b end
      (record (paged s t a.file a.from i pages frame resv spare) {
        slots = put s.slots (slot_of s.geometry a.file i)
            (Some t);
      }) (at.Unslot (record { allocation = a; index = i; answer = Some (short_answer s) }))

-- before the first index nothing more is used
used_first : (s : State) (f from : ℕ) → s.used ≡ used_at s f from from
used_first s f from = let z = missing_empty (s.reserved f) from in omega arith

-- where the quota has nothing left, no more was missing than can be given a page
quota_stops : (s : State) (m : ℕ) → s.used ≡ reserved_in s → m ≤ available s → is_used_up s.geometry.quota (s.used + m) ≡ true
    → (NoQuota ≡ short_answer s) × (m ≡ can_page s)
quota_stops s m settled within up = by_quota s.geometry.quota up
  where
    by_quota : (quota : Option ℕ) → is_used_up quota (s.used + m) ≡ true
        → (NoQuota ≡ elim quota [
          | None ↦ NoFrame
          | Some most ↦ if nat_le (most - reserved_in s) (available s) then NoQuota else NoFrame
        ]) × (m ≡ elim quota [ None ↦ available s | Some most ↦ min (available s) (most - reserved_in s) ])
    by_quota None e = let z : false ≡ true = e in absurd (cc)
    by_quota (Some most) e =
        let all : s.used + m ≡ most = grind (arith, nat_tests) in
        let short : nat_le (most - reserved_in s) (available s) ≡ true = grind (arith, nat_tests) in
        (sym (ap (λ (c : Bool). if c then NoQuota else NoFrame) short), omega arith)

-- where no frame is available, and the quota has something left, no more was missing than can be given a page
frames_stop : (s : State) (m : ℕ) → s.used ≡ reserved_in s → IsWithinQuota s.geometry.quota (s.used + m)
    → is_used_up s.geometry.quota (s.used + m) ≡ false → m ≡ available s
    → (NoFrame ≡ short_answer s) × (m ≡ can_page s)
frames_stop s m settled within fits all = by_quota s.geometry.quota within fits
  where
    by_quota : (quota : Option ℕ) → IsWithinQuota quota (s.used + m) → is_used_up quota (s.used + m) ≡ false
        → (NoFrame ≡ elim quota [
          | None ↦ NoFrame
          | Some most ↦ if nat_le (most - reserved_in s) (available s) then NoQuota else NoFrame
        ]) × (m ≡ elim quota [ None ↦ available s | Some most ↦ min (available s) (most - reserved_in s) ])
    by_quota None w e = (refl, all)
    by_quota (Some most) w e =
        let more : s.used + m < most = grind (arith, nat_tests) in
        let long : nat_le (most - reserved_in s) (available s) ≡ false = grind (arith, nat_tests) in
        (sym (ap (λ (c : Bool). if c then NoQuota else NoFrame) long), omega arith)

-- what was available and within the quota can be given a page
fits_all : (s : State) (m : ℕ) → s.used ≡ reserved_in s → m ≤ available s → IsWithinQuota s.geometry.quota (s.used + m)
    → nat_le m (can_page s) ≡ true
fits_all s m settled within quota = by_quota s.geometry.quota quota
  where
    by_quota : (quota : Option ℕ) → IsWithinQuota quota (s.used + m)
        → nat_le m (elim quota [ None ↦ available s | Some most ↦ min (available s) (most - reserved_in s) ]) ≡ true
    by_quota None w = grind (arith, nat_tests)
    by_quota (Some most) w = grind (arith, nat_tests)

-- an index with a page
cached_index : (s : State) (t : ℕ) (a : Allocation) (i x : ℕ) (pages : ℕ → Option ℕ) (frame : ℕ → FrameState)
    (resv : ℕ) (spare : ℕ → ℕ) (b : Answer) (end : Pool)
    → Ready s a.file → a.from ≤ i → Upto s a.file a.from i pages frame resv
    → s.pages a.file i ≡ Some x
    → Leads (AllocSteps t) b end
    (record (paged s t a.file a.from i pages frame resv spare) {
      slots = put s.slots (slot_of s.geometry a.file i)
          (Some t);
    }) (at.Locked (record { allocation = a; index = i }))
    → OneMore s t a i b end
cached_index s t a i x pages frame resv spare b end h low u e k =
    let f = a.file in
    let here : put s.pages f pages f i ≡ Some x = ap (λ (row : ℕ → Option ℕ). row i) (put_same s.pages f pages) ∙ u.filled.kept i x e in
    let k1 = goes_on k (λ turn m r. if_true _ _ (ap is_some here) r) in
    let same = range_same (s.reserved f) a.from i low reserved in
    let missed : missing (s.reserved f) a.from (i + 1) ≡ missing (s.reserved f) a.from i + 0 =
    missing_next (s.reserved f) a.from i low ∙ ap (λ (c : Bool). missing (s.reserved f) a.from i + cond (not c) 1 0) reserved in
    let used : used_at s f a.from i ≡ used_at s f a.from (i + 1) = omega arith in
    let waits : (s.reserved f i && is_none (s.pages f i)) ≡ false =
    ap (λ (o : Option ℕ). s.reserved f i && is_none o) e ∙ and_false (s.reserved f i) in
    let counted : promised s f a.from (i + 1) ≡ promised s f a.from i + 0 =
    count_next (λ j. s.reserved f j && is_none (s.pages f j)) a.from i low
    ∙ ap (λ (c : Bool). promised s f a.from i + cond c 1 0) waits in
    record {
      pages = pages;
      frame = frame;
      resv = resv;
      spare = spare;
      upto =
          record {
            filled = fills_same s.frames (s.pages f) s.frame a.from i x pages frame low e u.filled;
            count = (let z = u.count in omega arith);
            within = (let z = u.within in omega arith);
            quota = subst (IsWithinQuota s.geometry.quota) used u.quota;
          };
      leads =
          from_pool (λ j. record (paged s t f a.from i pages frame resv spare) {
            slots = put s.slots
                (slot_of s.geometry f i) (Some t);
            reserved = put s.reserved f (same j);
            used = used j;
          }) k1;
    }
  where
    by_bit : (c : Bool) → s.reserved a.file i ≡ c → s.reserved a.file i ≡ true
    by_bit true d = d
    by_bit false d = (let z : None ≡ Some x = sym (h.bare i d) ∙ e in absurd (cc))

    reserved : s.reserved a.file i ≡ true
    reserved = by_bit (s.reserved a.file i) refl

-- a descriptor is spare for the change
abbrev spared : State → (file : ℕ) → (ℕ → ℕ) → ℕ → ℕ
spared s f spare = put spare f (max (spare f) (s.pending f + 1))

-- the change of one index is begun
abbrev changing : State → (task : ℕ) → Allocation → (i : ℕ) → (pages : ℕ → Option ℕ) → (frame : ℕ → FrameState) → (resv : ℕ)
    → (spare : ℕ → ℕ) → Pool
changing s t a i pages frame resv spare = record (paged s t a.file a.from i pages frame resv (spared s a.file spare)) {
  slots = put s.slots (slot_of s.geometry a.file i) (Some t);
  pending = put s.pending a.file (s.pending a.file + 1);
}

-- the file's reserved indices there
abbrev reserved_at : State → (file from i : ℕ) → ℕ → Bool
reserved_at s f from i = put s.reserved f (add_range (s.reserved f) from i) f

-- the change of the index i, where [from, i) is done with
abbrev change_of : State → Allocation → (i : ℕ) → Change
change_of s a i = record { from = i; to = i + 1; missing = missing (reserved_at s a.file a.from i) i (i + 1) }

-- a frame is taken for an index without a page
taken_index : (s : State) (t : ℕ) (a : Allocation) (i x : ℕ) (pages : ℕ → Option ℕ) (frame : ℕ → FrameState)
    (resv resv' : ℕ) (spare : ℕ → ℕ) (b : Answer) (end : Pool)
    → Ready s a.file → a.from ≤ i → Upto s a.file a.from i pages frame resv
    → s.pages a.file i ≡ None → frame x ≡ Free → resv' + promised s a.file a.from (i + 1) ≡ s.resv
    → missing (s.reserved a.file) a.from (i + 1) ≤ available s → IsWithinQuota s.geometry.quota (used_at s a.file a.from (i + 1))
    → Leads (AllocSteps t) b end
    (record (changing s t a i pages (put frame x Hand) resv' spare) { used = used_at s a.file a.from (i + 1) })
    (at.Taken (record { allocation = a; index = i; pending = change_of s a i; held = x }))
    → OneMore s t a i b end
taken_index s t a i x pages frame resv resv' spare b end h low u bare free count within quota k =
    let f = a.file in
    let k1 = goes_on k (λ turn m r. if_false _ _ (not_below_itself (missing (reserved_at s a.file a.from i) i (i + 1))) r) in
    let k2 = goes_on k1 (λ turn m r. r) in
    let reserved = put_put s.reserved f (add_range (s.reserved f) a.from i) (add_range (reserved_at s f a.from i) i (i + 1))
    ∙ ap (put s.reserved f)
    (ap (λ (r : ℕ → Bool). add_range r i (i + 1)) (put_same s.reserved f (add_range (s.reserved f) a.from i))
    ∙ range_more (s.reserved f) a.from i low) in
    let paged' = put_put s.pages f pages (put (put s.pages f pages f) i (Some x))
    ∙ ap (λ (row : ℕ → Option ℕ). put s.pages f (put row i (Some x))) (put_same s.pages f pages) in
    let pending = pending_back s.pending f in
    let spare' = put (spared s f spare) f
    (if touches (reserved_at s f a.from i) i (i + 1) then spared s f spare f else spared s f spare f - 1) in
    record {
      pages = put pages i (Some x);
      frame = put (put frame x Hand) x (Placed 0);
      resv = resv';
      spare = spare';
      upto =
          record {
            filled = fills_more s.frames (s.pages f) s.frame a.from i x pages frame low bare free h.real
                u.filled;
            count = count;
            within = within;
            quota = quota;
          };
      leads = from_pool (λ j. record (pool_of s) {
        locks = put s.locks f (Some t);
        slots = put s.slots (slot_of s.geometry f i) (Some t);
        frame = put (put frame x Hand) x (Placed 0);
        resv = resv';
        used = used_at s f a.from (i + 1);
        pending = pending j;
        spare = spare';
        pages = paged' j;
        reserved = reserved j;
      }) k2;
    }

-- an index without a page
bare_index : (s : State) (t : ℕ) (a : Allocation) (i : ℕ) (pages : ℕ → Option ℕ) (frame : ℕ → FrameState) (resv : ℕ)
    (spare : ℕ → ℕ) (b : Answer) (end : Pool)
    → Ready s a.file → a.from ≤ i → Upto s a.file a.from i pages frame resv
    → s.pages a.file i ≡ None
    → Leads (AllocSteps t) b end
    (record (paged s t a.file a.from i pages frame resv spare) {
      slots = put s.slots (slot_of s.geometry a.file i)
          (Some t);
    }) (at.Locked (record { allocation = a; index = i }))
    → OneMore s t a i b end ⊎ Short s t a i pages frame resv b end
bare_index s t a i pages frame resv spare b end h low u bare k = by_reserved (s.reserved a.file i) refl
  where
    here : put s.pages a.file pages a.file i ≡ None
    here =
        let out : is_within a.from i i ≡ false = grind (arith, nat_tests) in
        ap (λ (row : ℕ → Option ℕ). row i) (put_same s.pages a.file pages) ∙ (u.filled.elsewhere i out ∙ bare)

    k2 : Leads (AllocSteps t) b end (changing s t a i pages frame resv spare)
        (at.Changed (record { allocation = a; index = i; pending = change_of s a i }))
    k2 =
        goes_on (goes_on k (λ turn m r. if_false _ _ (ap is_some here) r))
        (λ turn m r. if_false _ _ (and_false (spare a.file == s.pending a.file)) r)

    one : missing (reserved_at s a.file a.from i) i (i + 1) ≡ bit (not (s.reserved a.file i))
    one =
        missing_one (reserved_at s a.file a.from i) i
        ∙ ap (λ (c : Bool). bit (not c))
        (ap (λ (r : ℕ → Bool). r i) (put_same s.reserved a.file (add_range (s.reserved a.file) a.from i))
        ∙ range_past (s.reserved a.file) a.from i)

    is_zero : (m v : ℕ) → m ≡ v → (m == 0) ≡ (v == 0)
    is_zero m v e = ap (λ (k : ℕ). k == 0) e

    missed : (c : Bool) → s.reserved a.file i ≡ c
        → missing (s.reserved a.file) a.from (i + 1) ≡ missing (s.reserved a.file) a.from i + cond (not c) 1 0
    missed c e =
        missing_next (s.reserved a.file) a.from i low ∙ ap (λ (d : Bool). missing (s.reserved a.file) a.from i + cond (not d) 1 0) e

    counted : (c : Bool) → s.reserved a.file i ≡ c → promised s a.file a.from (i + 1) ≡ promised s a.file a.from i + cond (c && true) 1 0
    counted c e = count_next (λ j. s.reserved a.file j && is_none (s.pages a.file j)) a.from i low
        ∙ (ap (λ (d : Bool). promised s a.file a.from i + cond (d && is_none (s.pages a.file i)) 1 0) e
        ∙ ap (λ (o : Option ℕ). promised s a.file a.from i + cond (c && is_none o) 1 0) bare)

    parts : count_within (λ j. is_none (s.pages a.file j)) a.from i ≡ promised s a.file a.from i + missing (s.reserved a.file) a.from i
    parts = bare_parts (s.reserved a.file) (s.pages a.file) a.from i h.bare

    by_reserved : (c : Bool) → s.reserved a.file i ≡ c → OneMore s t a i b end ⊎ Short s t a i pages frame resv b end
    by_reserved true e =
        let z = next k2 in
        let r = if_true _ _ (is_zero (missing (reserved_at s a.file a.from i) i (i + 1)) 0 (one ∙ ap (λ (c : Bool). bit (not c)) e)) z.2 in
        let m : missing (s.reserved a.file) a.from (i + 1) ≡ missing (s.reserved a.file) a.from i + 0 = missed true e in
        let p : promised s a.file a.from (i + 1) ≡ promised s a.file a.from i + 1 = counted true e in
        let used : used_at s a.file a.from i ≡ used_at s a.file a.from (i + 1) = omega arith in
        inl (taken_index s t a i r.0 pages frame resv (resv - 1) spare b end h low u bare r.1
        (let y = u.count in let l = r.2 in omega arith) (let y = u.within in omega arith)
        (subst (IsWithinQuota s.geometry.quota) used u.quota)
        (from_pool (λ j. record (changing s t a i pages (put frame r.0 Hand) (resv - 1) spare) { used = used j }) (moves z.3 r.3)))
    by_reserved false e =
        let z = next k2 in
        let r = if_false _ _ (is_zero (missing (reserved_at s a.file a.from i) i (i + 1)) 1 (one ∙ ap (λ (c : Bool). bit (not c)) e)) z.2 in
        let m : missing (s.reserved a.file) a.from (i + 1) ≡ missing (s.reserved a.file) a.from i + 1 = missed false e in
        let p : promised s a.file a.from (i + 1) ≡ promised s a.file a.from i + 0 = counted false e in
        let free = u.filled.count in
        let n = parts in
        let c = u.count in
        let w = u.within in
        let l = h.enough in
        let pending = pending_back s.pending a.file in
        let stop : (answer : Answer) → answer ≡ short_answer s → missing (s.reserved a.file) a.from i ≡ can_page s
        → Leads (AllocSteps t) b end (changing s t a i pages frame resv spare)
        (at.Abort (record { allocation = a; index = i; pending = change_of s a i; answer = answer }))
        → Short s t a i pages frame resv b end
        =
        λ answer told all k. record {
          spare = spared s a.file spare;
          lacks = e;
          all = all;
          leads =
              subst (λ (c : Answer). Leads (AllocSteps t) b end
              (record (paged s t a.file a.from i pages frame resv (spared s a.file spare)) {
                slots = put s.slots (slot_of s.geometry a.file i) (Some t);
              }) (at.Unslot (record { allocation = a; index = i; answer = Some c }))) told
              (from_pool (λ j. record (paged s t a.file a.from i pages frame resv
              (spared s a.file spare)) {
                slots = put s.slots (slot_of s.geometry a.file i) (Some t);
                pending = pending j;
              }) (goes_on k (λ turn m r. r)));
        } in
        by_test (is_used_up s.geometry.quota (used_at s a.file a.from i)) r
        (λ up r.
        let y = quota_stops s (missing (s.reserved a.file) a.from i) h.settled u.within up in
        inr (stop NoQuota y.0 y.1 (moves z.3 r)))
        (λ fits r.
        by_test (free_frames frame s.frames == resv) r
        (λ all r.
        let same : free_frames frame s.frames ≡ resv = grind (arith, nat_tests) in
        let y = frames_stop s (missing (s.reserved a.file) a.from i) h.settled u.quota fits (omega arith) in
        inr (stop NoFrame y.0 y.1 (moves z.3 r)))
        (λ some r.
        let other : free_frames frame s.frames ≢ resv =
        λ d. (let y : (free_frames frame s.frames == resv) ≡ true = grind (arith, nat_tests) in
        let x : true ≡ false = sym y ∙ some in absurd (cc)) in
        let used : used_at s a.file a.from i + 1 ≡ used_at s a.file a.from (i + 1) = omega arith in
        inl (taken_index s t a i r.0 pages frame resv resv spare b end h low u bare r.1 (omega arith) (omega arith)
        (subst (IsWithinQuota s.geometry.quota) used (one_within s.geometry.quota (used_at s a.file a.from i) fits u.quota))
        (from_pool (λ j. record (changing s t a i pages (put frame r.0 Hand) resv spare) { used = used j }) (moves z.3 r.2)))))

-- one index from its head on
one_index : (s : State) (t : ℕ) (a : Allocation) (i : ℕ) (pages : ℕ → Option ℕ) (frame : ℕ → FrameState) (resv : ℕ)
    (spare : ℕ → ℕ) (b : Answer) (end : Pool)
    → Ready s a.file → a.from ≤ i → Upto s a.file a.from i pages frame resv
    → Leads (AllocSteps t) b end (paged s t a.file a.from i pages frame resv spare) (at.Head (record { allocation = a; index = i }))
    → OneMore s t a i b end ⊎ Short s t a i pages frame resv b end
one_index s t a i pages frame resv spare b end h low u k = by_page (s.pages a.file i) refl
  where
    k2 : Leads (AllocSteps t) b end
        (record (paged s t a.file a.from i pages frame resv spare) {
          slots = put s.slots (slot_of s.geometry a.file i)
              (Some t);
        }) (at.Locked (record { allocation = a; index = i }))
    k2 = goes_on (goes_on k (λ turn m r. r)) (λ turn m r. if_none _ _ (h.slots (slot_of s.geometry a.file i)) r)

    by_page : (o : Option ℕ) → s.pages a.file i ≡ o → OneMore s t a i b end ⊎ Short s t a i pages frame resv b end
    by_page None e = bare_index s t a i pages frame resv spare b end h low u e k2
    by_page (Some x) e = inl (cached_index s t a i x pages frame resv spare b end h low u e k2)

-- [from, to) is paged, the lock left, and the size is this
record PagedTo (s : State) (t f from to : ℕ) (size : ℕ → ℕ) (end : Pool) : Type 0 where
  pages : ℕ → Option ℕ
  frame : ℕ → FrameState
  resv : ℕ
  spare : ℕ → ℕ
  upto : Upto s f from to pages frame resv
  ends : end ≡ record (paged s t f from to pages frame resv spare) { locks = s.locks; size = size }

-- the sizes after the allocation: grown to the end of its range, unless it keeps the size
abbrev size_after : State → Allocation → ℕ → ℕ
size_after s a = if a.keep then s.size else put s.size a.file (max (s.size a.file) (a.from + a.len))

-- all of the range
record All (s : State) (t : ℕ) (a : Allocation) (b : Answer) (end : Pool) : Type 0 where
  done : b ≡ Done
  to : PagedTo s t a.file a.from (a.from + a.len) (size_after s a) end

-- or up to an index that lacks a frame or quota
record Stopped (s : State) (t : ℕ) (a : Allocation) (b : Answer) (end : Pool) : Type 0 where
  x : ℕ
  there : (a.from ≤ x) × (x < a.from + a.len)
  lacks : s.reserved a.file x ≡ false
  all : missing (s.reserved a.file) a.from x ≡ can_page s
  none : b ≡ short_answer s
  to : PagedTo s t a.file a.from x s.size end

-- an index that lacks a frame ends the allocation there, with what it placed so far
stops_at : (s : State) (t : ℕ) (a : Allocation) (i : ℕ) (pages : ℕ → Option ℕ) (frame : ℕ → FrameState) (resv : ℕ) (b : Answer) (end : Pool)
    → Ready s a.file → a.from ≤ i → i < a.from + a.len → Upto s a.file a.from i pages frame resv
    → Short s t a i pages frame resv b end → Stopped s t a b end
stops_at s t a i pages frame resv b end h low high u o =
    let z = ends_so (goes_on o.leads (λ turn m r. r)) (λ turn m r. r) in
    let slots = put_back s.slots (slot_of s.geometry a.file i) (Some t) None (h.slots (slot_of s.geometry a.file i)) in
    let locks = put_back s.locks a.file (Some t) None h.unlocked in
    record {
      x = i;
      there = (low, high);
      lacks = o.lacks;
      all = o.all;
      none = z.0;
      to =
          record {
            pages = pages;
            frame = frame;
            resv = resv;
            spare = o.spare;
            upto = u;
            ends = z.1 ∙ (λ j. record (paged s t a.file a.from i pages frame resv o.spare) { slots = slots j; locks = locks j });
          };
    }

-- the last index ends it with the whole range paged
ends_at : (s : State) (t : ℕ) (a : Allocation) (i : ℕ) (b : Answer) (end : Pool) → Ready s a.file → i + 1 ≡ a.from + a.len
    → OneMore s t a i b end → All s t a b end
ends_at s t a i b end h e o =
    let z = next o.leads in
    let last : nat_lt (i + 1) (a.from + a.len) ≡ false = grind (arith, nat_tests) in
    let slots = put_back s.slots (slot_of s.geometry a.file i) (Some t) None (h.slots (slot_of s.geometry a.file i)) in
    let locks = put_back s.locks a.file (Some t) None h.unlocked in
    let whole : (size : ℕ → ℕ) → size ≡ size_after s a
    → end ≡ record (paged s t a.file a.from (i + 1) o.pages o.frame o.resv o.spare) { locks = s.locks; size = size }
    → PagedTo s t a.file a.from (a.from + a.len) (size_after s a) end =
    λ size sized ends. subst (λ (to : ℕ). PagedTo s t a.file a.from to (size_after s a) end) e
    (record {
      pages = o.pages;
      frame = o.frame;
      resv = o.resv;
      spare = o.spare;
      upto = o.upto;
      ends = ends ∙ (λ j. record (paged s t a.file a.from (i + 1) o.pages o.frame o.resv o.spare) {
        locks = s.locks;
        size = sized j;
      });
    }) in
    by_test a.keep (if_false _ _ last z.2)
    (λ keep r.
    let y = ends_so (moves z.3 r) (λ turn m r. r) in
    let sized : s.size ≡ size_after s a =
    sym (ap (λ (c : Bool). if c then s.size else put s.size a.file (max (s.size a.file) (a.from + a.len))) keep) in
    record {
      done = y.0;
      to = whole s.size sized
          (y.1 ∙ (λ j. record (paged s t a.file a.from (i + 1) o.pages o.frame o.resv o.spare) { slots = slots j; locks = locks j }));
    })
    (λ grow r.
    let y = ends_so (goes_on (moves z.3 r) (λ turn m r. r)) (λ turn m r. r) in
    let size = put s.size a.file (max (s.size a.file) (a.from + a.len)) in
    let sized : put s.size a.file (max (s.size a.file) (a.from + a.len)) ≡ size_after s a =
    sym (ap (λ (c : Bool). if c then s.size else put s.size a.file (max (s.size a.file) (a.from + a.len))) grow) in
    record {
      done = y.0;
      to = whole size sized
          (y.1 ∙ (λ j. record (paged s t a.file a.from (i + 1) o.pages o.frame o.resv o.spare) {
            slots = slots j;
            locks = locks j;
            size = size;
          }));
    })

-- the indices from i on
indices : (s : State) (t : ℕ) (a : Allocation) (d i : ℕ) (pages : ℕ → Option ℕ) (frame : ℕ → FrameState) (resv : ℕ)
    (spare : ℕ → ℕ) (b : Answer) (end : Pool)
    → Ready s a.file → a.from ≤ i → i + d + 1 ≡ a.from + a.len → Upto s a.file a.from i pages frame resv
    → Leads (AllocSteps t) b end (paged s t a.file a.from i pages frame resv spare) (at.Head (record { allocation = a; index = i }))
    → All s t a b end ⊎ Stopped s t a b end
indices s t a zero i pages frame resv spare b end h low e u k = elim (one_index s t a i pages frame resv spare b end h low u k) [
  | inl o ↦ inl (ends_at s t a i b end h (omega arith) o)
  | inr o ↦ inr (stops_at s t a i pages frame resv b end h low (omega arith) u o)
]
indices s t a (suc d) i pages frame resv spare b end h low e u k = elim (one_index s t a i pages frame resv spare b end h low u k) [
  | inl o ↦ (
      let more : nat_lt (i + 1) (a.from + a.len) ≡ true = grind (arith, nat_tests) in
      let slots = put_back s.slots (slot_of s.geometry a.file i) (Some t) None (h.slots (slot_of s.geometry a.file i)) in
      let k1 = from_pool (λ j.
      record (paged s t a.file a.from (i + 1) o.pages o.frame o.resv o.spare) { slots = slots j })
      (goes_on o.leads (λ turn m r. if_true _ _ more r)) in
      indices s t a d (i + 1) o.pages o.frame o.resv o.spare b end h (omega arith) (omega arith) o.upto k1)
  | inr o ↦ inr (stops_at s t a i pages frame resv b end h low (omega arith) u o)
]

-- what the pool says of the table
range_paged : (s : State) (t f from to : ℕ) (size : ℕ → ℕ) (end : Pool) → (z : PagedTo s t f from to size end)
    → (promised s f from to ≤ s.resv) × (z.resv ≡ s.resv - promised s f from to)
range_paged s t f from to size end z = let c = z.upto.count in (omega arith, omega arith)

-- an allocation from its first phase on
pub alloc_means : (s : State) (t f from len : ℕ) (keep : Bool) (b : Answer) (n : State) → Inv s.geometry s → IsReady s t
    → Comes call.Alloc (AllocSteps t) s t b n (pool_of s)
    (at.Start (record { allocation = record { file = f; from = from; len = len; keep = keep } }))
    → (m : State) × Checked s f (is_bad_range s from len) b m (AllocMeans s f from len keep b m) × Looks m n
alloc_means s t f from len keep b n h ready (end, last, k, is) =
    checked call.Alloc (AllocSteps t) s t f (is_bad_range s from len) b n end last _
    (at.Head (record { allocation = a; index = from })) Interrupted (AllocMeans s f from len keep)
    (free_lock s h ready.0 f) (ready.0 t) refl (λ turn m r. r) k is
    (λ _ good k.
    let pages = put_self s.pages f in
    let reserved = ap (put s.reserved f) (range_empty (s.reserved f) from) ∙ put_self s.reserved f in
    let used = used_first s f from in
    let k1 = from_pool (λ j. record (pool_of s) {
      locks = put s.locks f (Some t);
      pages = sym pages j;
      reserved = sym reserved j;
      used = used j;
    }) k in
    let p = predecessor len good in
    let counted = count_empty (λ j. s.reserved f j && is_none (s.pages f j)) from in
    let missed = missing_empty (s.reserved f) from in
    let u : Upto s f from from (s.pages f) s.frame s.resv =
    record {
      filled = none_filled s.frames (s.pages f) s.frame from;
      count = omega arith;
      within = omega arith;
      quota = subst (IsWithinQuota s.geometry.quota) (used_first s f from) h.quota;
    } in
    elim (indices s t a p.0 from (s.pages f) s.frame s.resv s.spare b end there (omega arith) (let e = p.1 in omega arith) u k1) [
      | inl z ↦ (
          let within = z.to.upto.within in
          let enough = fits_all s (missing (s.reserved f) from (from + len)) there.settled within z.to.upto.quota in
          let r = range_paged s t f from (from + len) (size_after s a) end z.to in
          let gains = range_gains (s.reserved f) (s.pages f) from (from + len) (h.inside.bare f) in
          let resv = r.1 in
          finish call.Alloc s t last (AllocMeans s f from len keep) _ (z.done, z.to.ends) is
          (so_true _ _ enough (refl, (z.to.pages, z.to.frame, z.to.upto.filled, r.0, refl)))
          (λ j. record s {
            pool = record s.pool {
              frame = z.to.frame;
              pages = put s.pages f z.to.pages;
              reserved = put s.reserved f (gains j);
              resv = resv j;
              used = used_at s f from (from + len);
              size = size_after s a;
              spare = z.to.spare;
            };
            calls = calls j;
          }))
      | inr z ↦ (
          let l = z.there in
          let in_range : is_within from (from + len) z.x ≡ true = grind (arith, nat_tests) in
          let one : missing (s.reserved f) from (z.x + 1) ≡ missing (s.reserved f) from z.x + 1 =
          missing_next (s.reserved f) from z.x l.0
          ∙ ap (λ (c : Bool). missing (s.reserved f) from z.x + cond (not c) 1 0) z.lacks in
          let longer = missing_longer (s.reserved f) from (z.x + 1) (from + len) (omega arith) in
          let all = z.all in
          let short : nat_le (missing (s.reserved f) from (from + len)) (can_page s) ≡ false = grind (arith, nat_tests) in
          let r = range_paged s t f from z.x s.size end z.to in
          let gains = range_gains (s.reserved f) (s.pages f) from z.x (h.inside.bare f) in
          let resv = r.1 in
          finish call.Alloc s t last (AllocMeans s f from len keep) _ (z.none, z.to.ends) is
          (so_false _ _ short (z.x, in_range, z.lacks, z.all, refl, (z.to.pages, z.to.frame, z.to.upto.filled, r.0, refl)))
          (λ j. record s {
            pool = record s.pool {
              frame = z.to.frame;
              pages = put s.pages f z.to.pages;
              reserved = put s.reserved f (gains j);
              resv = resv j;
              used = used_at s f from z.x;
              spare = z.to.spare;
            };
            calls = calls j;
          }))
    ])
  where
    a : Allocation
    a = record { file = f; from = from; len = len; keep = keep }

    calls : put s.calls t None ≡ s.calls
    calls = idle_again s t (ready.0 t)

    there : Ready s f
    there =
        record {
          slots = free_slot s h ready.0;
          unlocked = free_lock s h ready.0 f;
          bare = h.inside.bare f;
          enough = h.enough;
          real = λ x e. h.place.one.real x headline.Free e;
          settled = settled_used s h ready.0;
        }

    predecessor : (l : ℕ) → is_bad_range s from l ≡ false → (d : ℕ) × (l ≡ d + 1)
    predecessor zero e = absurd (cc)
    predecessor (suc l) e = (l, omega arith)
