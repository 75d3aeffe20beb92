-- A truncation that runs alone means what the table says.
use Rattle.std.proofs.Common.{◌≡◌, ◌≢◌, ℕ, zero, suc, ◌+◌, ◌-◌, ◌<◌, ◌≤◌, refl, ap, sym, ◌∙◌, subst, arith, inl, inr}
use Rattle.std.proofs.Math.Path.{fun_ext}
use Rattle.std.proofs.lemmas.Bool.Decides.{nat_tests}
use Rattle.std.specs.Prelude.{Bool, true, false, ◌&&◌, ◌==◌, nat_le, nat_lt, Option, Some, None, is_some, max, cond, if◌then◌else◌}
use Rattle.hp_base.specs.Numbers.{put, put2, is_none}
use Rattle.hp_base.specs.Indices.{count_within, cut_tail}
use Rattle.hp_base.specs.Mappings.{find, without_index}
use Rattle.hp_base.specs.declared.answer.Answer.{Answer}
use Rattle.hp_base.specs.declared.answer.Answer.TheVariants.{Done, Killed}
use Rattle.hp_base.proofs.Counting.{count_below-sum, count_below-ext, count_below_none}
use Rattle.hp_base.proofs.Puts.{same_or_other}
use Rattle.hp_base.proofs.Sets.{tail_next}
use Rattle.hp_frames.specs.declared.frame.FrameState.{FrameState}
use Rattle.hp_frames.specs.declared.frame.FrameState.TheVariants.{Free, Hand}
use Rattle.hp_machine.specs.State.{Pool, State, pool_of, slot_of}
use Rattle.hp_machine.specs.TruncateRows.{TruncateRow}
use Rattle.hp_machine.specs.declared.truncate.Truncation.{Truncation}
use Rattle.hp_machine.specs.declared.truncate.TruncatePhase.{TruncatePhase}
use Rattle.hp_machine.specs.declared.truncate.TruncatePhase.TheVariants as at
use Rattle.hp_machine.specs.declared.call.Call.TheVariants as call
use Rattle.hp_machine.specs.declared.call.Turn.{Turn}
use Rattle.hp_laws.proofs.Invariant.{Inv, page_within}
use Rattle.hp_laws.proofs.Shared.{by_test}
use Rattle.hp_sequential.specs.Meaning.{IsReady, Looks, Checked, without_pages, is_gone, without_entries, Freed, TruncateMeans}
use Rattle.hp_laws.proofs.Deciding.{some_same}
use Rattle.hp_sequential.proofs.Alone.{if_true, if_false, if_none, Leads, next, moves, goes_on, ends_so, from_pool, put_put, Comes}
use Rattle.hp_sequential.proofs.Idle.{finish, idle_again, free_slot, free_lock, put_back, and_false, checked}
use Rattle.hp_sequential.proofs.Emptying.{Adds, Owned, page_kept, pages_none, entries_none, entry_kept, freed_none, pages_more}
use Rattle.hp_sequential.proofs.Emptying.{entries_more, freed_more, unmaps}

-- granted steps of a task that isn't killed
abbrev pub TruncateSteps : (task : ℕ) → Pool → TruncatePhase → Turn TruncatePhase → Pool → Type 0
TruncateSteps t s p turn new = TruncateRow s t false true p turn new

-- the indices from one on that have a page, and how many they are
abbrev paged_from : State → (file from : ℕ) → ℕ → Bool
paged_from s f from = λ j. nat_le from j && is_some (s.pages f j)

-- how many indices from one on have a page
abbrev pages_from : State → (file from : ℕ) → ℕ
pages_from s f from = count_within (λ j. is_some (s.pages f j)) from s.geometry.limit

-- the pool where these indices of the file lost their pages, under its lock
abbrev emptied : State → (task file new : ℕ) → (gone : ℕ → Bool) → (frame : ℕ → FrameState) → Pool
emptied s t f new gone frame = record (pool_of s) {
  locks = put s.locks f (Some t);
  size = put s.size f new;
  frame = frame;
  pages = put s.pages f (without_pages (s.pages f) gone);
  entries = without_entries s.mappings s.entries f gone;
}

-- what a file is truncated from
record Ready (s : State) (t f : ℕ) : Type 0 where
  slots : (k : ℕ) → s.slots k ≡ None
  unlocked : s.locks f ≡ None
  tasks : 1 ≤ s.geometry.tasks
  owned : Owned s.geometry.tasks s.entries
  low : (i x : ℕ) → s.pages f i ≡ Some x → i < s.geometry.limit

-- the indices from i on are done with: the slot of i is to be left
record OneDone (s : State) (t : ℕ) (cut : Truncation) (i : ℕ) (b : Answer) (end : Pool) : Type 0 where
  frame : ℕ → FrameState
  freed : Freed (s.pages cut.file) s.frame (paged_from s cut.file i) frame
  leads : Leads (TruncateSteps t) b end
      (record (emptied s t cut.file cut.new (paged_from s cut.file i) frame) {
        slots = put s.slots
            (slot_of s.geometry cut.file i) (Some t);
      })
      (at.Unslot (record { truncation = cut; index = i; evicted = pages_from s cut.file i }))

-- the indices from one on that have a page, with one more index
from_above : (s : State) (f i j : ℕ) → j ≢ i → paged_from s f i j ≡ paged_from s f (i + 1) j
from_above s f i j e =
    let a : nat_le i j ≡ nat_le (i + 1) j = grind (arith, nat_tests) in
    ap (λ (c : Bool). c && is_some (s.pages f j)) a

-- an index with a page is one more that goes
more_paged : (s : State) (f i x : ℕ) → s.pages f i ≡ Some x → Adds (paged_from s f (i + 1)) i (paged_from s f i)
more_paged s f i x e = record {
  this = (let a : nat_le i i ≡ true = grind (arith, nat_tests) in ap (λ (c : Bool). c && is_some (s.pages f i)) a ∙ ap is_some e);
  others = λ j d. from_above s f i j d;
}

-- one without a page isn't
same_paged : (s : State) (f i : ℕ) → s.pages f i ≡ None → paged_from s f (i + 1) ≡ paged_from s f i
same_paged s f i e = fun_ext (λ j. elim (same_or_other j i) [
  | inl d ↦ (let a : is_some (s.pages f j) ≡ false = ap (λ (k : ℕ). is_some (s.pages f k)) d ∙ ap is_some e in
      ap (λ (c : Bool). nat_le (i + 1) j && c) a
      ∙ (and_false (nat_le (i + 1) j) ∙ sym (ap (λ (c : Bool). nat_le i j && c) a ∙ and_false (nat_le i j))))
  | inr d ↦ sym (from_above s f i j d)
])

-- the index itself is still to go
not_yet : (s : State) (f i : ℕ) → paged_from s f (i + 1) i ≡ false
not_yet s f i = let a : nat_le (i + 1) i ≡ false = grind (arith, nat_tests) in ap (λ (c : Bool). c && is_some (s.pages f i)) a

-- an index that doesn't count
tail_skip : (limit i : ℕ) (r : ℕ → Bool) → r i ≡ false → count_within r i limit ≡ count_within r (i + 1) limit
unfolding count_within
tail_skip limit i r e = count_below-ext (λ k. nat_le i k && r k) (λ k. nat_le (i + 1) k && r k) limit (λ k l. elim (same_or_other k i) [
  | inl d ↦ (let a : r k ≡ false = ap r d ∙ e in
      ap (λ (c : Bool). nat_le i k && c) a
      ∙ (and_false (nat_le i k) ∙ sym (ap (λ (c : Bool). nat_le (i + 1) k && c) a ∙ and_false (nat_le (i + 1) k))))
  | inr d ↦ (let a : nat_le i k ≡ nat_le (i + 1) k = grind (arith, nat_tests) in ap (λ (c : Bool). c && r k) a)
])

-- no task translates the index, and its page is in the call's hand
abbrev evicted : State → (task : ℕ) → Truncation → (i x : ℕ) → (frame : ℕ → FrameState) → Pool
evicted s t cut i x frame = record (emptied s t cut.file cut.new (paged_from s cut.file (i + 1)) frame) {
  slots = put s.slots (slot_of s.geometry cut.file i) (Some t);
  entries = λ u. without_index (s.mappings u) (without_entries s.mappings s.entries cut.file (paged_from s cut.file (i + 1)) u) cut.file i;
  pages = put2 (put s.pages cut.file (without_pages (s.pages cut.file) (paged_from s cut.file (i + 1)))) cut.file i None;
  frame = put frame x Hand;
}

-- from there on
evicted_index : (s : State) (t : ℕ) (cut : Truncation) (i x : ℕ) (frame : ℕ → FrameState) (b : Answer) (end : Pool)
    → Ready s t cut.file → s.pages cut.file i ≡ Some x → Freed (s.pages cut.file) s.frame (paged_from s cut.file (i + 1)) frame
    → Leads (TruncateSteps t) b end (evicted s t cut i x frame)
    (at.Free (record { truncation = cut; index = i; evicted = pages_from s cut.file (i + 1) + 1; held = x }))
    → OneDone s t cut i b end
evicted_index s t cut i x frame b end h page freed k =
    let f = cut.file in
    let gone = paged_from s f (i + 1) in
    let adds = more_paged s f i x page in
    let k1 = goes_on k (λ turn m r. r) in
    let table = entries_more s.mappings s.entries f i gone (paged_from s f i) adds in
    let pages = pages_more s.pages f i gone (paged_from s f i) adds in
    let frame' = put_put frame x Hand Free in
    let count : pages_from s f i ≡ pages_from s f (i + 1) + 1 =
    tail_next s.geometry.limit i (λ j. is_some (s.pages f j)) (h.low i x page) (ap is_some page) in
    record {
      frame = put frame x Free;
      freed = freed_more (s.pages f) s.frame frame i x gone (paged_from s f i) adds page freed;
      leads =
          subst (λ (c : ℕ). Leads (TruncateSteps t) b end
          (record (emptied s t cut.file cut.new (paged_from s cut.file i) (put frame x Free)) {
            slots = put s.slots
                (slot_of s.geometry cut.file i) (Some t);
          }) (at.Unslot (record { truncation = cut; index = i; evicted = c }))) (sym count)
          (from_pool (λ j. record (pool_of s) {
            locks = put s.locks f (Some t);
            size = put s.size f cut.new;
            slots = put s.slots (slot_of s.geometry f i) (Some t);
            frame = frame' j;
            pages = pages j;
            entries = table j;
          }) k1);
    }

-- one index, with or without a page
one_index : (s : State) (t : ℕ) (cut : Truncation) (i : ℕ) (frame : ℕ → FrameState) (b : Answer) (end : Pool) → Ready s t cut.file
    → Freed (s.pages cut.file) s.frame (paged_from s cut.file (i + 1)) frame
    → Leads (TruncateSteps t) b end (emptied s t cut.file cut.new (paged_from s cut.file (i + 1)) frame)
    (at.Want (record { truncation = cut; index = i; evicted = pages_from s cut.file (i + 1) }))
    → OneDone s t cut i b end
one_index s t cut i frame b end h freed k = by_page (s.pages cut.file i) refl
  where
    k1 : Leads (TruncateSteps t) b end
        (record (emptied s t cut.file cut.new (paged_from s cut.file (i + 1)) frame) {
          slots = put s.slots
              (slot_of s.geometry cut.file i) (Some t);
        })
        (at.Locked (record { truncation = cut; index = i; evicted = pages_from s cut.file (i + 1) }))
    k1 = goes_on k (λ turn m r. if_none _ _ (h.slots (slot_of s.geometry cut.file i)) r)

    same : put s.pages cut.file (without_pages (s.pages cut.file) (paged_from s cut.file (i + 1))) cut.file i ≡ s.pages cut.file i
    same = page_kept s.pages cut.file i (paged_from s cut.file (i + 1)) (not_yet s cut.file i)

    by_page : (o : Option ℕ) → s.pages cut.file i ≡ o → OneDone s t cut i b end
    by_page None e =
        let k2 = goes_on k1 (λ turn m r. if_false _ _ (ap is_some (same ∙ e)) r) in
        let gone = same_paged s cut.file i e in
        let count = tail_skip s.geometry.limit i (λ j. is_some (s.pages cut.file j)) (ap is_some e) in
        record {
          frame = frame;
          freed = subst (λ (g : ℕ → Bool). Freed (s.pages cut.file) s.frame g frame) gone freed;
          leads =
              subst (λ (c : ℕ). Leads (TruncateSteps t) b end
              (record (emptied s t cut.file cut.new (paged_from s cut.file i) frame) {
                slots = put s.slots
                    (slot_of s.geometry cut.file i) (Some t);
              })
              (at.Unslot (record { truncation = cut; index = i; evicted = c }))) (sym count)
              (from_pool (λ j. record (emptied s t cut.file cut.new (gone j) frame) {
                slots = put s.slots
                    (slot_of s.geometry cut.file i) (Some t);
              }) k2);
        }
    by_page (Some y) e =
        let f = cut.file in
        let k2 = goes_on k1 (λ turn m r. if_true _ _ (ap is_some (same ∙ e)) r) in
        let owned = λ (u v x : ℕ) (e : without_entries s.mappings s.entries f (paged_from s f (i + 1)) u v ≡ Some x).
        h.owned u v x (entry_kept s.mappings s.entries f (paged_from s f (i + 1)) u v x e) in
        let k3 = unmaps (TruncateSteps t) b end _ f i
        (λ k. at.Unmap (record { truncation = cut; index = i; evicted = pages_from s cut.file (i + 1); task = k }))
        (at.Evict (record { truncation = cut; index = i; evicted = pages_from s cut.file (i + 1) }))
        (λ p k turn m r. r) h.tasks owned k2 in
        let z = next k3 in
        let r = z.2 in
        evicted_index s t cut i r.0 frame b end h (sym same ∙ r.1) freed (moves z.3 r.2)

-- the reserved indices from one on that wait for a page
abbrev waiting : State → (file from : ℕ) → ℕ
waiting s f from = count_within (λ j. s.reserved f j && is_none (s.pages f j)) from s.geometry.limit

-- reserved indices wait for a page or have one
reserved_parts : (s : State) (f from : ℕ) → ((i : ℕ) → s.reserved f i ≡ false → s.pages f i ≡ None)
    → count_within (s.reserved f) from s.geometry.limit ≡ waiting s f from + pages_from s f from
unfolding count_within
reserved_parts s f from bare =
    count_below-sum (λ k. nat_le from k && (s.reserved f k && is_none (s.pages f k)))
    (λ k. nat_le from k && is_some (s.pages f k)) (λ k. nat_le from k && s.reserved f k) s.geometry.limit
    (λ k l. parts (nat_le from k) (s.reserved f k) (s.pages f k) (bare k))
  where
    parts : (a r : Bool) (o : Option ℕ) → (r ≡ false → o ≡ None)
        → cond (a && r) 1 0 ≡ cond (a && (r && is_none o)) 1 0 + cond (a && is_some o) 1 0
    parts true true None h = refl
    parts true true (Some x) h = refl
    parts true false None h = refl
    parts true false (Some x) h = (let z : Some x ≡ None = h refl in absurd (cc))
    parts false r o h = refl

-- the file is cut
record Cut (s : State) (t : ℕ) (cut : Truncation) (b : Answer) (end : Pool) : Type 0 where
  frame : ℕ → FrameState
  freed : Freed (s.pages cut.file) s.frame (paged_from s cut.file cut.new) frame
  used : ℕ
  enough : waiting s cut.file cut.new ≤ s.resv
  done : b ≡ Done
  ends : end ≡ record (emptied s t cut.file cut.new (paged_from s cut.file cut.new) frame) {
    locks = s.locks;
    reserved = put s.reserved cut.file (cut_tail (s.reserved cut.file) cut.new);
    resv = s.resv - waiting s cut.file cut.new;
    used = used;
  }

-- the reserved indices go
tail_ends : (s : State) (t : ℕ) (cut : Truncation) (frame : ℕ → FrameState) (b : Answer) (end : Pool) → s.locks cut.file ≡ None
    → ((i : ℕ) → s.reserved cut.file i ≡ false → s.pages cut.file i ≡ None)
    → Freed (s.pages cut.file) s.frame (paged_from s cut.file cut.new) frame
    → Leads (TruncateSteps t) b end (emptied s t cut.file cut.new (paged_from s cut.file cut.new) frame)
    (at.Tail (record { truncation = cut; evicted = pages_from s cut.file cut.new }))
    → Cut s t cut b end
tail_ends s t cut frame b end unlocked bare freed k =
    let k1 = goes_on k (λ turn m r. r) in
    let z = next k1 in
    let r = z.2 in
    let y = ends_so (moves z.3 r.2) (λ turn m r. r) in
    let used : ℕ = s.used - (count_within (s.reserved cut.file) cut.new s.geometry.limit - pages_from s cut.file cut.new
    + pages_from s cut.file cut.new) in
    let parts = reserved_parts s cut.file cut.new bare in
    let same : count_within (s.reserved cut.file) cut.new s.geometry.limit - pages_from s cut.file cut.new ≡ waiting s
    cut.file cut.new = omega arith in
    let locks = put_back s.locks cut.file (Some t) None unlocked in
    record {
      frame = frame;
      freed = freed;
      used = used;
      enough = subst (λ (c : ℕ). c ≤ s.resv) same r.0;
      done = y.0;
      ends =
          y.1 ∙ (λ j. record (emptied s t cut.file cut.new (paged_from s cut.file cut.new) frame) {
            locks = locks j;
            reserved = put s.reserved cut.file (cut_tail (s.reserved cut.file) cut.new);
            resv = s.resv - same j;
            used = used;
          });
    }

-- the indices from i down
indices : (s : State) (t : ℕ) (cut : Truncation) (d i : ℕ) (frame : ℕ → FrameState) (b : Answer) (end : Pool) → Ready s t cut.file
    → ((i : ℕ) → s.reserved cut.file i ≡ false → s.pages cut.file i ≡ None) → i ≡ cut.new + d
    → Freed (s.pages cut.file) s.frame (paged_from s cut.file (i + 1)) frame
    → Leads (TruncateSteps t) b end (emptied s t cut.file cut.new (paged_from s cut.file (i + 1)) frame)
    (at.Want (record { truncation = cut; index = i; evicted = pages_from s cut.file (i + 1) }))
    → Cut s t cut b end
indices s t cut zero i frame b end h bare e freed k =
    let o = one_index s t cut i frame b end h freed k in
    let last : nat_lt cut.new i ≡ false = grind (arith, nat_tests) in
    let same : i ≡ cut.new = omega arith in
    let slots = put_back s.slots (slot_of s.geometry cut.file i) (Some t) None (h.slots (slot_of s.geometry cut.file i)) in
    let k1 = from_pool (λ j.
    record (emptied s t cut.file cut.new (paged_from s cut.file i) o.frame) { slots = slots j })
    (goes_on o.leads (λ turn m r. if_false _ _ last r)) in
    tail_ends s t cut o.frame b end h.unlocked bare
    (subst (λ (c : ℕ). Freed (s.pages cut.file) s.frame (paged_from s cut.file c) o.frame) same o.freed)
    (subst (λ (c : ℕ). Leads (TruncateSteps t) b end (emptied s t cut.file cut.new (paged_from s cut.file c) o.frame)
    (at.Tail (record { truncation = cut; evicted = pages_from s cut.file c }))) same k1)
indices s t cut (suc d) i frame b end h bare e freed k =
    let o = one_index s t cut i frame b end h freed k in
    let more : nat_lt cut.new i ≡ true = grind (arith, nat_tests) in
    let same : i ≡ i - 1 + 1 = omega arith in
    let slots = put_back s.slots (slot_of s.geometry cut.file i) (Some t) None (h.slots (slot_of s.geometry cut.file i)) in
    let k1 = from_pool (λ j.
    record (emptied s t cut.file cut.new (paged_from s cut.file i) o.frame) { slots = slots j })
    (goes_on o.leads (λ turn m r. if_true _ _ more r)) in
    indices s t cut d (i - 1) o.frame b end h bare (omega arith)
    (subst (λ (c : ℕ). Freed (s.pages cut.file) s.frame (paged_from s cut.file c) o.frame) same o.freed)
    (subst (λ (c : ℕ). Leads (TruncateSteps t) b end (emptied s t cut.file cut.new (paged_from s cut.file c) o.frame)
    (at.Want (record { truncation = cut; index = i - 1; evicted = pages_from s cut.file c }))) same k1)

-- above the pages nothing is to go
none_above : (s : State) (f from : ℕ) → ((j : ℕ) → from ≤ j → s.pages f j ≡ None) → (j : ℕ) → paged_from s f from j ≡ false
none_above s f from bare j = here (nat_le from j) refl
  where
    here : (c : Bool) → nat_le from j ≡ c → (nat_le from j && is_some (s.pages f j)) ≡ false
    here true e =
        let l : from ≤ j = grind (arith, nat_tests) in
        ap (λ (o : Option ℕ). nat_le from j && is_some o) (bare j l) ∙ and_false (nat_le from j)
    here false e = ap (λ (c : Bool). c && is_some (s.pages f j)) e

-- where no index from one on has a page, their number is 0
no_pages_above : (s : State) (f from : ℕ) → ((j : ℕ) → from ≤ j → s.pages f j ≡ None) → pages_from s f from ≡ 0
unfolding count_within
no_pages_above s f from bare =
    count_below_none (λ k. nat_le from k && is_some (s.pages f k)) s.geometry.limit (λ k l. none_above s f from bare k)

-- under the lock
size_cuts : (s : State) (t : ℕ) (cut : Truncation) (b : Answer) (end : Pool) → Ready s t cut.file
    → ((i : ℕ) → s.reserved cut.file i ≡ false → s.pages cut.file i ≡ None)
    → Leads (TruncateSteps t) b end (record (pool_of s) { locks = put s.locks cut.file (Some t) }) (at.Size (record { truncation = cut }))
    → Cut s t cut b end
size_cuts s t cut b end h bare k =
    let z = next k in
    let r = z.2 in
    by_test (nat_lt cut.new (max (s.size cut.file) r.0)) r.2
    (λ above r2.
    let top : cut.new < max (s.size cut.file) r.0 = grind (arith, nat_tests) in
    let i = max (s.size cut.file) r.0 - 1 in
    let none = λ (j : ℕ) (l : i + 1 ≤ j). r.1.0 j (omega arith) in
    indices s t cut (i - cut.new) i s.frame b end h bare (omega arith)
    (freed_none (s.pages cut.file) s.frame (paged_from s cut.file (i + 1)) (none_above s cut.file (i + 1) none))
    (subst (λ (c : ℕ). Leads (TruncateSteps t) b end
    (emptied s t cut.file cut.new (paged_from s cut.file (i + 1)) s.frame)
    (at.Want (record { truncation = cut; index = i; evicted = c }))) (sym (no_pages_above s cut.file (i + 1) none))
    (starts (i + 1) none (at.Want (record { truncation = cut; index = i; evicted = 0 })) (moves z.3 r2))))
    (λ below r2.
    let top : max (s.size cut.file) r.0 ≤ cut.new = grind (arith, nat_tests) in
    let none = λ (j : ℕ) (l : cut.new ≤ j). r.1.0 j (omega arith) in
    tail_ends s t cut s.frame b end h.unlocked bare
    (freed_none (s.pages cut.file) s.frame (paged_from s cut.file cut.new) (none_above s cut.file cut.new none))
    (subst (λ (c : ℕ). Leads (TruncateSteps t) b end
    (emptied s t cut.file cut.new (paged_from s cut.file cut.new) s.frame)
    (at.Tail (record { truncation = cut; evicted = c }))) (sym (no_pages_above s cut.file cut.new none))
    (starts cut.new none (at.Tail (record { truncation = cut; evicted = 0 })) (moves z.3 r2))))
  where
    starts : (from : ℕ) → ((j : ℕ) → from ≤ j → s.pages cut.file j ≡ None) → (phase : TruncatePhase)
        → Leads (TruncateSteps t) b end
        (record (pool_of s) { locks = put s.locks cut.file (Some t); size = put s.size cut.file cut.new }) phase
        → Leads (TruncateSteps t) b end (emptied s t cut.file cut.new (paged_from s cut.file from) s.frame) phase
    starts from none phase k =
        let pages = pages_none s.pages cut.file (paged_from s cut.file from) (none_above s cut.file from none) in
        let table = entries_none s.mappings s.entries cut.file (paged_from s cut.file from) (none_above s cut.file from none) in
        from_pool (λ j. record (pool_of s) {
          locks = put s.locks cut.file (Some t);
          size = put s.size cut.file cut.new;
          pages = sym pages j;
          entries = sym table j;
        }) k

-- all indices from one on go, not only those with a page
all_pages : (s : State) (f new : ℕ) → without_pages (s.pages f) (paged_from s f new) ≡ without_pages (s.pages f) (nat_le new)
unfolding without_pages
all_pages s f new = fun_ext (λ j. here (nat_le new j) (s.pages f j))
  where
    here : (c : Bool) (o : Option ℕ) → ◌≡◌ {A = Option ℕ} (if c && is_some o then None else o) (if c then None else o)
    here true None = refl
    here true (Some x) = refl
    here false o = refl

-- to free the pages from the new size on frees what is there from it on
all_freed : (s : State) (f new : ℕ) (frame : ℕ → FrameState) → Freed (s.pages f) s.frame (paged_from s f new) frame
    → Freed (s.pages f) s.frame (nat_le new) frame
all_freed s f new frame h = record {
  freed = λ j x is p. h.freed j x (ap (λ (c : Bool). c && is_some (s.pages f j)) is ∙ ap is_some p) p;
  others = λ x none. h.others x (λ j is p. none j (left (nat_le new j) (is_some (s.pages f j)) is) p);
}
  where
    left : (a c : Bool) → (a && c) ≡ true → a ≡ true
    left true c e = refl
    left false c e = (let z : false ≡ true = e in absurd (cc))

-- and their entries are all there are from it on, for an entry's index has a page
all_entries : (s : State) (f new : ℕ) → Inv s.geometry s
    → without_entries s.mappings s.entries f (paged_from s f new) ≡ without_entries s.mappings s.entries f (nat_le new)
unfolding without_entries
all_entries s f new h = fun_ext (λ u. fun_ext (λ v. here u v (find (s.mappings u) v) (s.entries u v) refl refl))
  where
    bare : (o : Option ℕ) (c : Bool) (entry : Option ℕ) → (o ≡ None → entry ≡ None)
        → ◌≡◌ {A = Option ℕ} (if c && is_some o then None else entry) (if c then None else entry)
    bare None true entry e = e refl
    bare None false entry e = refl
    bare (Some x) true entry e = refl
    bare (Some x) false entry e = refl

    ours : (a c : Bool) (o : Option ℕ) (entry : Option ℕ) → (a ≡ true → o ≡ None → entry ≡ None)
        → ◌≡◌ {A = Option ℕ} (if a && (c && is_some o) then None else entry) (if a && c then None else entry)
    ours true c o entry e = bare o c entry (e refl)
    ours false c o entry e = refl

    none_there : (u v : ℕ) (place : ℕ × ℕ) (entry : Option ℕ) → find (s.mappings u) v ≡ Some place → s.entries u v ≡ entry
        → (place.0 == f) ≡ true → s.pages f place.1 ≡ None → entry ≡ None
    none_there u v place None q e is none = refl
    none_there u v place (Some x) q e is none =
        let y = h.entries.agree u v x e in
        let there : y.0 ≡ place = some_same (sym y.1 ∙ q) in
        let page : s.pages place.0 place.1 ≡ Some x = subst (λ (p : ℕ × ℕ). s.pages p.0 p.1 ≡ Some x) there y.2 in
        let file : place.0 ≡ f = grind (arith, nat_tests) in
        let z : None ≡ Some x = sym none ∙ (ap (λ (k : ℕ). s.pages k place.1) (sym file) ∙ page) in
        absurd (cc)

    here : (u v : ℕ) (found : Option (ℕ × ℕ)) (entry : Option ℕ) → find (s.mappings u) v ≡ found → s.entries u v ≡ entry
        → ◌≡◌ {A = Option ℕ} (if is_gone f (paged_from s f new) found then None else entry)
        (if is_gone f (nat_le new) found then None else entry)
    here u v None entry q e = refl
    here u v (Some place) entry q e =
        ours (place.0 == f) (nat_le new place.1) (s.pages f place.1) entry (λ is none. none_there u v place entry q e is none)

-- a truncation from its first phase on
pub truncate_means : (s : State) (t f new : ℕ) (b : Answer) (n : State) → Inv s.geometry s → 1 ≤ s.geometry.tasks → IsReady s t
    → Comes call.Truncate (TruncateSteps t) s t b n (pool_of s) (at.Start (record { truncation = record { file = f; new = new } }))
    → (m : State) × Checked s f (nat_lt s.geometry.limit new) b m (TruncateMeans s f new b m) × Looks m n
truncate_means s t f new b n h tasks ready (end, last, k, is) =
    checked call.Truncate (TruncateSteps t) s t f (nat_lt s.geometry.limit new) b n end last _
    (at.Size (record { truncation = cut })) Killed (TruncateMeans s f new) (free_lock s h ready.0 f) (ready.0 t)
    refl (λ turn m r. r) k is
    (λ _ _ k.
    let z = size_cuts s t cut b end there (h.inside.bare f) k in
    let pages = all_pages s f new in
    let table = all_entries s f new h in
    let calls = idle_again s t (ready.0 t) in
    finish call.Truncate s t last (TruncateMeans s f new) _ (z.done, z.ends) is
    (z.frame, all_freed s f new z.frame z.freed, z.enough, (refl, refl))
    (λ j. record s {
      pool = record s.pool {
        size = put s.size f new;
        frame = z.frame;
        pages = put s.pages f (pages j);
        reserved = put s.reserved f (cut_tail (s.reserved f) new);
        resv = s.resv - waiting s f new;
        used = z.used;
        entries = table j;
      };
      calls = calls j;
    }))
  where
    cut : Truncation
    cut = record { file = f; new = new }

    there : Ready s t f
    there =
        record {
          slots = free_slot s h ready.0;
          unlocked = free_lock s h ready.0 f;
          tasks = tasks;
          owned = h.entries.owners;
          low = λ i x e. (page_within f i x h.inside e).1;
        }
