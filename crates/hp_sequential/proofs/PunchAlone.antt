-- A punch that runs alone means what the table says.
use Rattle.std.proofs.Common.{◌≡◌, ◌≢◌, ℕ, zero, suc, ◌+◌, ◌-◌, ◌≤◌, refl, ap, sym, ◌∙◌, subst, arith, inl, inr}
use Rattle.std.proofs.Math.Path.{fun_ext}
use Rattle.std.proofs.lemmas.Bool.Decides.{nat_tests}
use Rattle.std.specs.Prelude.{Bool, true, false, ◌&&◌, nat_le, nat_lt, Option, Some, None, is_some, if◌then◌else◌}
use Rattle.hp_base.specs.Numbers.{put, put2}
use Rattle.hp_base.specs.Indices.{is_within, splits}
use Rattle.hp_base.specs.Mappings.{without_index}
use Rattle.hp_base.specs.declared.answer.Answer.{Answer}
use Rattle.hp_base.specs.declared.answer.Answer.TheVariants.{Done, Killed}
use Rattle.hp_base.proofs.Puts.{same_or_other}
use Rattle.hp_frames.specs.declared.frame.FrameState.{FrameState}
use Rattle.hp_frames.specs.declared.frame.FrameState.TheVariants.{Free, Hand}
use Rattle.hp_machine.specs.State.{Pool, State, pool_of, slot_of}
use Rattle.hp_machine.specs.PunchRows.{PunchRow}
use Rattle.hp_machine.specs.declared.punch.Hole.{Hole}
use Rattle.hp_machine.specs.declared.punch.PunchPhase.{PunchPhase}
use Rattle.hp_machine.specs.declared.punch.PunchPhase.TheVariants as at
use Rattle.hp_machine.specs.declared.call.Call.TheVariants as call
use Rattle.hp_machine.specs.declared.call.Turn.{Turn}
use Rattle.hp_laws.proofs.Invariant.{Inv}
use Rattle.hp_sequential.specs.Meaning.{IsReady, Looks, Checked, is_bad_range, without_pages, without_entries, paged_within, Freed, PunchMeans}
use Rattle.hp_sequential.proofs.Alone.{if_true, if_false, if_none, Leads, next, moves, goes_on, ends_so, from_pool, put_put, over, Comes}
use Rattle.hp_sequential.proofs.Idle.{finish, idle_again, free_slot, free_lock, put_back, and_false, checked}
use Rattle.hp_sequential.proofs.Emptying.{Adds, Owned, unreserved, page_kept, pages_none, reserved_none, entries_none, entry_kept}
use Rattle.hp_sequential.proofs.Emptying.{freed_none, pages_more, reserved_more, entries_more, freed_more, unmaps}

-- granted steps of a task that isn't killed
abbrev pub PunchSteps : (task : ℕ) → Pool → PunchPhase → Turn PunchPhase → Pool → Type 0
PunchSteps t s p turn new = PunchRow s t false true p turn new

-- the pool where these indices of the file went, under its lock
abbrev punched : State → (task file : ℕ) → (gone : ℕ → Bool) → (frame : ℕ → FrameState) → (spare : ℕ → ℕ) → (used : ℕ) → Pool
punched s t f gone frame spare used = record (pool_of s) {
  locks = put s.locks f (Some t);
  frame = frame;
  spare = spare;
  used = used;
  pages = put s.pages f (without_pages (s.pages f) gone);
  reserved = put s.reserved f (unreserved (s.reserved f) gone);
  entries = without_entries s.mappings s.entries f gone;
}

-- the file's reserved indices there
abbrev unreserved_at : State → (file : ℕ) → (gone : ℕ → Bool) → ℕ → Bool
unreserved_at s f gone = put s.reserved f (unreserved (s.reserved f) gone) f

-- what a hole is punched from
record Ready (s : State) (t f : ℕ) : Type 0 where
  slots : (k : ℕ) → s.slots k ≡ None
  unlocked : s.locks f ≡ None
  tasks : 1 ≤ s.geometry.tasks
  owned : Owned s.geometry.tasks s.entries

-- one index is done with: the slot of it is to be left
record OneDone (s : State) (t : ℕ) (hole : Hole) (i : ℕ) (more : ℕ → Bool) (b : Answer) (end : Pool) : Type 0 where
  frame : ℕ → FrameState
  spare : ℕ → ℕ
  used : ℕ
  freed : Freed (s.pages hole.file) s.frame more frame
  leads : Leads (PunchSteps t) b end
      (record (punched s t hole.file more frame spare used) {
        slots = put s.slots (slot_of s.geometry hole.file i) (Some t);
      }) (at.Unslot (record { hole = hole; index = i }))

-- an index without a page
bare_index : (s : State) (t : ℕ) (hole : Hole) (i : ℕ) (gone : ℕ → Bool) (frame : ℕ → FrameState) (spare : ℕ → ℕ) (used : ℕ)
    (b : Answer) (end : Pool)
    → Ready s t hole.file → gone i ≡ false → s.pages hole.file i ≡ None
    → Freed (s.pages hole.file) s.frame gone frame
    → Leads (PunchSteps t) b end (punched s t hole.file gone frame spare used) (at.Want (record { hole = hole; index = i }))
    → OneDone s t hole i gone b end
bare_index s t hole i gone frame spare used b end h here bare freed k =
    let k1 = goes_on k (λ turn m r. if_none _ _ (h.slots (slot_of s.geometry hole.file i)) r) in
    let k2 = goes_on k1 (λ turn m r. if_false _ _ (ap is_some (page_kept s.pages hole.file i gone here ∙ bare)) r) in
    record { frame = frame; spare = spare; used = used; freed = freed; leads = k2 }

-- no task translates the index, and its page is in the call's hand
abbrev evicted : State → (task : ℕ) → Hole → (i x : ℕ) → (gone : ℕ → Bool) → (frame : ℕ → FrameState) → (spare : ℕ → ℕ)
    → (used : ℕ) → Pool
evicted s t hole i x gone frame spare used = record (punched s t hole.file gone frame spare used) {
  slots = put s.slots (slot_of s.geometry hole.file i) (Some t);
  entries = λ u. without_index (s.mappings u) (without_entries s.mappings s.entries hole.file gone u) hole.file i;
  pages = put2 (put s.pages hole.file (without_pages (s.pages hole.file) gone)) hole.file i None;
  frame = put frame x Hand;
}

-- from there on
evicted_index : (s : State) (t : ℕ) (hole : Hole) (i x : ℕ) (gone more : ℕ → Bool) (frame : ℕ → FrameState)
    (spare : ℕ → ℕ) (used : ℕ) (b : Answer) (end : Pool)
    → s.pages hole.file i ≡ Some x → Adds gone i more
    → Freed (s.pages hole.file) s.frame gone frame
    → Leads (PunchSteps t) b end (evicted s t hole i x gone frame spare used) (at.Delete (record { hole = hole; index = i; held = x }))
    → OneDone s t hole i more b end
evicted_index s t hole i x gone more frame spare used b end page adds freed k =
    let f = hole.file in
    let k1 = goes_on k (λ turn m r. if_false _ _ (and_false (splits (unreserved_at s f gone) i && nat_le (spare f) (s.pending f))) r) in
    let k2 = goes_on k1 (λ turn m r. r.1) in
    let table = entries_more s.mappings s.entries f i gone more adds in
    let pages = pages_more s.pages f i gone more adds in
    let reserved = reserved_more s.reserved f i gone more adds in
    let frame' = put_put frame x Hand Free in
    let spare' = put spare f (if splits (unreserved_at s f gone) i && nat_lt (s.pending f) (spare f) then spare f - 1 else spare f) in
    record {
      frame = put frame x Free;
      spare = spare';
      used = used - 1;
      freed = freed_more (s.pages f) s.frame frame i x gone more adds page freed;
      leads = from_pool (λ j. record (pool_of s) {
        locks = put s.locks f (Some t);
        slots = put s.slots (slot_of s.geometry f i) (Some t);
        frame = frame' j;
        spare = spare';
        used = used - 1;
        pages = pages j;
        reserved = reserved j;
        entries = table j;
      }) k2;
    }

-- an index with a page
paged_index : (s : State) (t : ℕ) (hole : Hole) (i y : ℕ) (gone more : ℕ → Bool) (frame : ℕ → FrameState)
    (spare : ℕ → ℕ) (used : ℕ) (b : Answer) (end : Pool)
    → Ready s t hole.file → gone i ≡ false → s.pages hole.file i ≡ Some y → Adds gone i more
    → Freed (s.pages hole.file) s.frame gone frame
    → Leads (PunchSteps t) b end (punched s t hole.file gone frame spare used) (at.Want (record { hole = hole; index = i }))
    → OneDone s t hole i more b end
paged_index s t hole i y gone more frame spare used b end h here paged adds freed k =
    let f = hole.file in
    let k1 = goes_on k (λ turn m r. if_none _ _ (h.slots (slot_of s.geometry f i)) r) in
    let k2 = goes_on k1 (λ turn m r. if_true _ _ (ap is_some (page_kept s.pages f i gone here ∙ paged)) r) in
    let owned = λ (u v x : ℕ) (e : without_entries s.mappings s.entries f gone u v ≡ Some x). h.owned u v x
    (entry_kept s.mappings s.entries f gone u v x e) in
    let k3 = unmaps (PunchSteps t) b end _ f i (λ k. at.Unmap (record { hole = hole; index = i; task = k }))
    (at.Evict (record { hole = hole; index = i })) (λ p k turn m r. r) h.tasks owned k2 in
    let z = next k3 in
    let r = z.2 in
    evicted_index s t hole i r.0 gone more frame spare used b end (sym (page_kept s.pages f i gone here) ∙ r.1) adds freed (moves z.3 r.2)

-- the indices of a range that have a page, with one more index
within_below : (s : State) (f from i j : ℕ) → j ≢ i → paged_within s f from (i + 1) j ≡ paged_within s f from i j
within_below s f from i j e =
    let a : is_within from (i + 1) j ≡ is_within from i j = grind (arith, nat_tests) in
    ap (λ (c : Bool). c && is_some (s.pages f j)) a

-- an index with a page is one more that goes
more_paged : (s : State) (f from i x : ℕ) → from ≤ i → s.pages f i ≡ Some x
    → Adds (paged_within s f from i) i (paged_within s f from (i + 1))
more_paged s f from i x low e = record {
  this =
      (let a : is_within from (i + 1) i ≡ true = grind (arith, nat_tests) in
      ap (λ (c : Bool). c && is_some (s.pages f i)) a ∙ ap is_some e);
  others = λ j d. within_below s f from i j d;
}

-- one without a page isn't
same_paged : (s : State) (f from i : ℕ) → s.pages f i ≡ None → paged_within s f from i ≡ paged_within s f from (i + 1)
same_paged s f from i e = fun_ext (λ j. elim (same_or_other j i) [
  | inl d ↦ (let a : is_some (s.pages f j) ≡ false = ap (λ (k : ℕ). is_some (s.pages f k)) d ∙ ap is_some e in
      ap (λ (c : Bool). is_within from i j && c) a
      ∙ (and_false (is_within from i j)
      ∙ sym (ap (λ (c : Bool). is_within from (i + 1) j && c) a ∙ and_false (is_within from (i + 1) j))))
  | inr d ↦ sym (within_below s f from i j d)
])

-- the index itself is still to go
not_yet : (s : State) (f from i : ℕ) → paged_within s f from i i ≡ false
not_yet s f from i = let a : is_within from i i ≡ false = grind (arith, nat_tests) in ap (λ (c : Bool). c && is_some (s.pages f i)) a

-- at first none has gone
none_yet : (s : State) (f from j : ℕ) → paged_within s f from from j ≡ false
none_yet s f from j = let a : is_within from from j ≡ false = grind (arith, nat_tests) in ap (λ (c : Bool). c && is_some (s.pages f j)) a

-- one index, with or without a page
one_index : (s : State) (t : ℕ) (hole : Hole) (i : ℕ) (frame : ℕ → FrameState) (spare : ℕ → ℕ) (used : ℕ) (b : Answer) (end : Pool)
    → Ready s t hole.file → hole.from ≤ i
    → Freed (s.pages hole.file) s.frame (paged_within s hole.file hole.from i) frame
    → Leads (PunchSteps t) b end (punched s t hole.file (paged_within s hole.file hole.from i) frame spare used)
    (at.Want (record { hole = hole; index = i }))
    → OneDone s t hole i (paged_within s hole.file hole.from (i + 1)) b end
one_index s t hole i frame spare used b end h low freed k = by_page (s.pages hole.file i) refl
  where
    by_page : (o : Option ℕ) → s.pages hole.file i ≡ o → OneDone s t hole i (paged_within s hole.file hole.from (i + 1)) b end
    by_page None e =
        subst (λ (gone : ℕ → Bool). OneDone s t hole i gone b end) (same_paged s hole.file hole.from i e)
        (bare_index s t hole i (paged_within s hole.file hole.from i) frame spare used b end h
        (not_yet s hole.file hole.from i) e freed k)
    by_page (Some y) e =
        paged_index s t hole i y (paged_within s hole.file hole.from i) (paged_within s hole.file hole.from (i + 1))
        frame spare used b end h (not_yet s hole.file hole.from i) e (more_paged s hole.file hole.from i y low e) freed k

-- the hole is punched
record Holed (s : State) (t f : ℕ) (gone : ℕ → Bool) (b : Answer) (end : Pool) : Type 0 where
  frame : ℕ → FrameState
  spare : ℕ → ℕ
  used : ℕ
  freed : Freed (s.pages f) s.frame gone frame
  done : b ≡ Done
  ends : end ≡ record (punched s t f gone frame spare used) { locks = s.locks }

-- the indices from i on
indices : (s : State) (t : ℕ) (hole : Hole) (d i : ℕ) (frame : ℕ → FrameState) (spare : ℕ → ℕ) (used : ℕ)
    (b : Answer) (end : Pool)
    → Ready s t hole.file → hole.from ≤ i → i + d + 1 ≡ hole.from + hole.len
    → Freed (s.pages hole.file) s.frame (paged_within s hole.file hole.from i) frame
    → Leads (PunchSteps t) b end (punched s t hole.file (paged_within s hole.file hole.from i) frame spare used)
    (at.Want (record { hole = hole; index = i }))
    → Holed s t hole.file (paged_within s hole.file hole.from (hole.from + hole.len)) b end
indices s t hole zero i frame spare used b end h low e freed k =
    let o = one_index s t hole i frame spare used b end h low freed k in
    let last : nat_lt (i + 1) (hole.from + hole.len) ≡ false = grind (arith, nat_tests) in
    let same : i + 1 ≡ hole.from + hole.len = omega arith in
    let k1 = goes_on o.leads (λ turn m r. if_false _ _ last r) in
    let z = ends_so k1 (λ turn m r. r) in
    let slots = put_back s.slots (slot_of s.geometry hole.file i) (Some t) None (h.slots (slot_of s.geometry hole.file i)) in
    let locks = put_back s.locks hole.file (Some t) None h.unlocked in
    subst (λ (to : ℕ). Holed s t hole.file (paged_within s hole.file hole.from to) b end) same
    (record {
      frame = o.frame;
      spare = o.spare;
      used = o.used;
      freed = o.freed;
      done = z.0;
      ends =
          z.1 ∙ (λ j. record (punched s t hole.file (paged_within s hole.file hole.from (i + 1)) o.frame
          o.spare o.used) { slots = slots j; locks = locks j });
    })
indices s t hole (suc d) i frame spare used b end h low e freed k =
    let o = one_index s t hole i frame spare used b end h low freed k in
    let more : nat_lt (i + 1) (hole.from + hole.len) ≡ true = grind (arith, nat_tests) in
    let k1 = goes_on o.leads (λ turn m r. if_true _ _ more r) in
    let slots = put_back s.slots (slot_of s.geometry hole.file i) (Some t) None (h.slots (slot_of s.geometry hole.file i)) in
    let k2 = from_pool (λ j.
    record (punched s t hole.file (paged_within s hole.file hole.from (i + 1)) o.frame o.spare o.used) { slots = slots j }) k1 in
    indices s t hole d (i + 1) o.frame o.spare o.used b end h (omega arith) (omega arith) o.freed k2

-- what the pool says of the table
holed_means : (s : State) (t f from len : ℕ) (b : Answer) (n : State) (end : Pool) (last : PunchPhase) → s.calls t ≡ None
    → n ≡ over call.Punch s t end last → Holed s t f (paged_within s f from (from + len)) b end
    → (m : State) × PunchMeans s f from len b m × Looks m n
holed_means s t f from len b n end last idle is z =
    let calls = idle_again s t idle in
    finish call.Punch s t last (PunchMeans s f from len) _ (z.done, z.ends) is (z.frame, z.freed, (refl, refl))
    (λ j. record s {
      pool = record s.pool {
        frame = z.frame;
        spare = z.spare;
        used = z.used;
        pages = put s.pages f (without_pages (s.pages f) (paged_within s f from (from + len)));
        reserved = put s.reserved f (unreserved (s.reserved f) (paged_within s f from (from + len)));
        entries = without_entries s.mappings s.entries f (paged_within s f from (from + len));
      };
      calls = calls j;
    })

-- a punch from its first phase on
pub punch_means : (s : State) (t f from len : ℕ) (b : Answer) (n : State) → Inv s.geometry s → 1 ≤ s.geometry.tasks → IsReady s t
    → Comes call.Punch (PunchSteps t) s t b n (pool_of s) (at.Start (record { hole = record { file = f; from = from; len = len } }))
    → (m : State) × Checked s f (is_bad_range s from len) b m (PunchMeans s f from len b m) × Looks m n
punch_means s t f from len b n h tasks ready (end, last, k, is) =
    checked call.Punch (PunchSteps t) s t f (is_bad_range s from len) b n end last _
    (at.Want (record { hole = hole; index = from })) Killed (PunchMeans s f from len) (free_lock s h ready.0 f)
    (ready.0 t) refl (λ turn m r. r) k is
    (λ _ good k.
    let gone = paged_within s f from from in
    let pages = pages_none s.pages f gone (none_yet s f from) in
    let reserved = reserved_none s.reserved f gone (none_yet s f from) in
    let table = entries_none s.mappings s.entries f gone (none_yet s f from) in
    let k1 = from_pool (λ j.
    record (pool_of s) {
      locks = put s.locks f (Some t);
      pages = sym pages j;
      reserved = sym reserved j;
      entries = sym table j;
    }) k in
    let p = predecessor len good in
    holed_means s t f from len b n end last (ready.0 t) is
    (indices s t hole p.0 from s.frame s.spare s.used b end there (omega arith) (let e = p.1 in omega arith)
    (freed_none (s.pages f) s.frame gone (none_yet s f from)) k1))
  where
    hole : Hole
    hole = record { file = f; from = from; len = len }

    there : Ready s t f
    there = record { slots = free_slot s h ready.0; unlocked = free_lock s h ready.0 f; tasks = tasks; owned = h.entries.owners }

    predecessor : (a : ℕ) → is_bad_range s from a ≡ false → (d : ℕ) × (a ≡ d + 1)
    predecessor zero e = absurd (cc)
    predecessor (suc a) e = (a, omega arith)
