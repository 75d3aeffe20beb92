-- A load or store that runs alone means what the table says.
use Rattle.std.proofs.Common.{◌≡◌, ℕ, ◌+◌, ◌-◌, ◌<◌, ◌≤◌, refl, ap, sym, ◌∙◌, subst, arith}
use Rattle.std.proofs.lemmas.Bool.Decides.{nat_tests}
use Rattle.std.specs.Prelude.{Bool, true, false, not, ◌==◌, nat_le, nat_lt, Option, Some, None, is_some, max, if◌then◌else◌}
use Rattle.hp_base.specs.Numbers.{put, put2, bit}
use Rattle.hp_base.specs.Indices.{missing, touches}
use Rattle.hp_base.specs.Mappings.{find}
use Rattle.hp_base.specs.declared.answer.Answer.{Answer}
use Rattle.hp_base.proofs.Puts.{put_same, put2_same}
use Rattle.hp_base.proofs.Sets.{missing_one}
use Rattle.hp_frames.specs.Bank.{exceeds, is_used_up, IsWithinQuota}
use Rattle.hp_frames.proofs.Quotas.{used_up}
use Rattle.hp_frames.specs.declared.frame.FrameState.{FrameState}
use Rattle.hp_frames.specs.declared.frame.FrameState.TheVariants.{Free, Hand, Placed}
use Rattle.hp_region.specs.Change.{Change}
use Rattle.hp_machine.specs.State.{Pool, State, pool_of, slot_of, free_frames}
use Rattle.hp_machine.specs.Headline.{IsBelow, reserved_in}
use Rattle.hp_machine.specs.Parts.{answer_of, frame_after}
use Rattle.hp_machine.specs.TouchRows.{TouchRow}
use Rattle.hp_machine.specs.declared.touch.Access.{Access}
use Rattle.hp_machine.specs.declared.touch.Touch.{Touch}
use Rattle.hp_machine.specs.declared.touch.TouchPhase.{TouchPhase}
use Rattle.hp_machine.specs.declared.touch.TouchPhase.TheVariants as at
use Rattle.hp_machine.specs.declared.call.Call.TheVariants as call
use Rattle.hp_machine.specs.declared.call.Turn.{Turn}
use Rattle.hp_laws.proofs.Invariant.{Inv}
use Rattle.hp_laws.proofs.Shared.{by_test}
use Rattle.hp_sequential.specs.Meaning.{IsReady, Looks, available, exceeds_quota, PageMade, TouchMeans}
use Rattle.hp_laws.proofs.Deciding.{some_same}
use Rattle.hp_sequential.proofs.Alone.{if_true, if_false, if_none, if_some, Leads, next, moves, stops, goes_on, ends_so, over, Comes, put_put}
use Rattle.hp_sequential.proofs.Idle.{so_true, so_false, so_none, so_some, finish, idle_again, settled_used, free_slot, free_lock, put_back}
use Rattle.hp_sequential.proofs.Idle.{pending_back, put2_self, range_one, not_below_itself, and_false}

-- granted steps of a task that isn't killed
abbrev pub TouchSteps : (task : ℕ) → Pool → TouchPhase → Turn TouchPhase → Pool → Type 0
TouchSteps t s p turn new = TouchRow s t false true p turn new

-- the word is read or written, and the slot left
record Read (t : ℕ) (touch : Touch) (b : Answer) (s end : Pool) : Type 0 where
  x : ℕ
  word : ℕ
  page : s.pages touch.file touch.index ≡ Some x
  placed : s.frame x ≡ Placed word
  ends : (b ≡ answer_of touch.access word)
      × (end ≡ record s {
        entries = put2 s.entries t touch.vpn (Some x);
        frame = frame_after touch.access s.frame x;
        slots = put s.slots (slot_of s.geometry touch.file touch.index) None;
      })

-- from the page on
found_reads : {t : ℕ} {b : Answer} {s end : Pool} (touch : Touch) → nat_le (s.size touch.file) touch.index ≡ false
    → Leads (TouchSteps t) b end s (at.Found (record { touch = touch })) → Read t touch b s end
found_reads touch low k =
    let z = next k in
    let r = if_false _ _ low z.2 in
    let k1 = moves z.3 r.4 in
    record { x = r.0; word = r.1; page = r.2; placed = r.3; ends = ends_so k1 (λ turn m r. r) }

-- the slot of the index is taken
abbrev slotted : State → (task file index : ℕ) → Pool
slotted s t f i = record (pool_of s) { slots = put s.slots (slot_of s.geometry f i) (Some t) }

-- the change of one index is begun
abbrev changing : State → (task file index : ℕ) → Pool
changing s t f i =
    record (slotted s t f i) {
      pending = put s.pending f (s.pending f + 1);
      spare = put s.spare f (max (s.spare f) (s.pending f + 1));
    }

-- the change of the one index
abbrev change_of : State → (file index : ℕ) → Change
change_of s f i = record { from = i; to = i + 1; missing = missing (s.reserved f) i (i + 1) }

-- a free frame became the page, which was read or written, and the index is reserved
record Paged (s : State) (t : ℕ) (touch : Touch) (b : Answer) (x resv used : ℕ) (end : Pool) : Type 0 where
  spare : ℕ → ℕ
  answers : b ≡ answer_of touch.access 0
  ends : end ≡ record (pool_of s) {
    frame = frame_after touch.access (put s.frame x (Placed 0)) x;
    resv = resv;
    used = used;
    spare = spare;
    reserved = put2 s.reserved touch.file touch.index true;
    pages = put2 s.pages touch.file touch.index (Some x);
    entries = put2 s.entries t touch.vpn (Some x);
  }

-- a frame has one word
placed_same : {x y : ℕ} → Placed x ≡ Placed y → x ≡ y
placed_same e = cc

-- from the frame on
taken_pages : (s : State) (t : ℕ) (touch : Touch) (b : Answer) (x resv used : ℕ) (end : Pool)
    → s.slots (slot_of s.geometry touch.file touch.index) ≡ None → nat_le (s.size touch.file) touch.index ≡ false
    → Leads (TouchSteps t) b end
    (record (changing s t touch.file touch.index) { frame = put s.frame x Hand; resv = resv; used = used })
    (at.Taken (record { touch = touch; pending = change_of s touch.file touch.index; held = x }))
    → Paged s t touch b x resv used end
taken_pages s t touch b x resv used end unheld low k =
    let f = touch.file in
    let i = touch.index in
    let k1 = goes_on k (λ turn m r. if_false _ _ (not_below_itself (missing (s.reserved touch.file) touch.index (touch.index + 1))) r) in
    let k2 = goes_on k1 (λ turn m r. if_false _ _ low r) in
    let z = found_reads touch low k2 in
    let same : z.x ≡ x = some_same (sym z.page ∙ put2_same s.pages f i (Some x)) in
    let word : z.word ≡ 0 =
    placed_same (sym z.placed ∙ (ap (put (put s.frame x Hand) x (Placed 0)) same ∙ put_same (put s.frame x Hand) x (Placed 0))) in
    let frame = ap (frame_after touch.access (put (put s.frame x Hand) x (Placed 0))) same
    ∙ ap (λ (g : ℕ → FrameState). frame_after touch.access g x) (put_put s.frame x Hand (Placed 0)) in
    let slots = put_back s.slots (slot_of s.geometry f i) (Some t) None unheld in
    let pending = pending_back s.pending f in
    let reserved = ap (put s.reserved f) (range_one (s.reserved f) i) in
    let spare = put s.spare f (max (s.spare f) (s.pending f + 1)) in
    let spare' = put spare f (if touches (s.reserved f) i (i + 1) then spare f else spare f - 1) in
    record {
      spare = spare';
      answers = z.ends.0 ∙ ap (answer_of touch.access) word;
      ends = z.ends.1 ∙ (λ j. record (pool_of s) {
        frame = frame j;
        resv = resv;
        used = used;
        slots = slots j;
        pending = pending j;
        spare = spare';
        reserved = reserved j;
        pages = put2 s.pages f i (Some x);
        entries = put2 s.entries t touch.vpn (Some (same j));
      });
    }

-- the index was reserved
reserved_page : (s : State) (t : ℕ) (touch : Touch) (b : Answer) (n : State) (x : ℕ) (end : Pool) (last : TouchPhase)
    → s.calls t ≡ None → s.reserved touch.file touch.index ≡ true → s.frame x ≡ Free → 1 ≤ s.resv
    → Paged s t touch b x (s.resv - 1) s.used end → n ≡ over call.Touch s t end last
    → (m : State) × PageMade s t touch.vpn touch.access touch.file touch.index b m × Looks m n
reserved_page s t touch b n x end last idle e free some y is =
    let reserved = put2_self s.reserved touch.file touch.index true e in
    let calls = idle_again s t idle in
    finish call.Touch s t last (PageMade s t touch.vpn touch.access touch.file touch.index) _ (y.answers, y.ends) is
    (so_true _ _ e (x, free, some, (refl, refl)))
    (λ j. record s {
      pool = record s.pool {
        frame = frame_after touch.access (put s.frame x (Placed 0)) x;
        resv = s.resv - 1;
        spare = y.spare;
        reserved = reserved j;
        pages = put2 s.pages touch.file touch.index (Some x);
        entries = put2 s.entries t touch.vpn (Some x);
      };
      calls = calls j;
    })

-- a frame was available
available_page : (s : State) (t : ℕ) (touch : Touch) (b : Answer) (n : State) (x : ℕ) (end : Pool) (last : TouchPhase)
    → s.calls t ≡ None → s.reserved touch.file touch.index ≡ false → exceeds_quota s 1 ≡ false
    → nat_lt 0 (available s) ≡ true → s.frame x ≡ Free
    → Paged s t touch b x s.resv (s.used + 1) end → n ≡ over call.Touch s t end last
    → (m : State) × PageMade s t touch.vpn touch.access touch.file touch.index b m × Looks m n
available_page s t touch b n x end last idle e fits some free y is =
    let calls = idle_again s t idle in
    finish call.Touch s t last (PageMade s t touch.vpn touch.access touch.file touch.index) _ (y.answers, y.ends) is
    (so_false _ _ e (so_false _ _ fits (so_true _ _ some (x, free, (refl, refl)))))
    (λ j. record s {
      pool = record s.pool {
        frame = frame_after touch.access (put s.frame x (Placed 0)) x;
        used = s.used + 1;
        spare = y.spare;
        reserved = put2 s.reserved touch.file touch.index true;
        pages = put2 s.pages touch.file touch.index (Some x);
        entries = put2 s.entries t touch.vpn (Some x);
      };
      calls = calls j;
    })

-- the index is below the size and has no page
makes_page : (s : State) (t : ℕ) (touch : Touch) (b : Answer) (n : State) (end : Pool) (last : TouchPhase)
    → s.resv ≤ free_frames s.frame s.frames → s.used ≡ reserved_in s → IsWithinQuota s.geometry.quota s.used
    → s.slots (slot_of s.geometry touch.file touch.index) ≡ None → s.calls t ≡ None
    → nat_le (s.size touch.file) touch.index ≡ false
    → Leads (TouchSteps t) b end (slotted s t touch.file touch.index) (at.Missing (record { touch = touch }))
    → n ≡ over call.Touch s t end last
    → (m : State) × PageMade s t touch.vpn touch.access touch.file touch.index b m × Looks m n
makes_page s t touch b n end last enough settled quota unheld idle low k is = by_reserved (s.reserved touch.file touch.index) refl
  where
    k1 : Leads (TouchSteps t) b end (changing s t touch.file touch.index)
        (at.Changed (record { touch = touch; pending = change_of s touch.file touch.index }))
    k1 = goes_on k (λ turn m r. if_false _ _ (and_false (s.spare touch.file == s.pending touch.file)) r)

    -- one more page is more than the quota lets the files have where it is used up
    test : exceeds_quota s 1 ≡ is_used_up s.geometry.quota s.used
    test = ap (λ (n : ℕ). exceeds s.geometry.quota n 1) (sym settled) ∙ used_up s.geometry.quota s.used quota

    -- nothing is missing where the index is reserved
    is_zero : (r : Bool) → s.reserved touch.file touch.index ≡ r
        → (missing (s.reserved touch.file) touch.index (touch.index + 1) == 0) ≡ (bit (not r) == 0)
    is_zero r e = ap (λ (m : ℕ). m == 0) (missing_one (s.reserved touch.file) touch.index ∙ ap (λ (c : Bool). bit (not c)) e)

    by_reserved : (r : Bool) → s.reserved touch.file touch.index ≡ r
        → (m : State) × PageMade s t touch.vpn touch.access touch.file touch.index b m × Looks m n
    by_reserved true e =
        let z = next k1 in
        let r = if_true _ _ (is_zero true e) z.2 in
        reserved_page s t touch b n r.0 end last idle e r.1 r.2 (taken_pages s t touch b r.0 (s.resv - 1) s.used end unheld low (moves z.3 r.3)) is
    by_reserved false e =
        let z = next k1 in
        let r = if_false _ _ (is_zero false e) z.2 in
        by_test (is_used_up s.geometry.quota s.used) r
        (λ up r.
        let y = ends_so (goes_on (moves z.3 r) (λ turn m r. r)) (λ turn m r. r) in
        let slots = put_back s.slots (slot_of s.geometry touch.file touch.index) (Some t) None unheld in
        let pending = pending_back s.pending touch.file in
        let calls = idle_again s t idle in
        finish call.Touch s t last (PageMade s t touch.vpn touch.access touch.file touch.index) s y is
        (so_false _ _ e (so_true _ _ (test ∙ up) (refl, refl)))
        (λ j. record s {
          pool = record s.pool {
            slots = slots j;
            pending = pending j;
            spare = put s.spare touch.file (max (s.spare touch.file) (s.pending touch.file + 1));
          };
          calls = calls j;
        }))
        (λ fits r.
        by_test (free_frames s.frame s.frames == s.resv) r
        (λ all r.
        let none_available : nat_lt 0 (available s) ≡ false = grind (arith, nat_tests) in
        let y = ends_so (goes_on (moves z.3 r) (λ turn m r. r)) (λ turn m r. r) in
        let slots = put_back s.slots (slot_of s.geometry touch.file touch.index) (Some t) None unheld in
        let pending = pending_back s.pending touch.file in
        let calls = idle_again s t idle in
        finish call.Touch s t last (PageMade s t touch.vpn touch.access touch.file touch.index) s y is
        (so_false _ _ e (so_false _ _ (test ∙ fits) (so_false _ _ none_available (refl, refl))))
        (λ j. record s {
          pool = record s.pool {
            slots = slots j;
            pending = pending j;
            spare = put s.spare touch.file (max (s.spare touch.file) (s.pending touch.file + 1));
          };
          calls = calls j;
        }))
        (λ some r.
        let some_available : nat_lt 0 (available s) ≡ true = grind (arith, nat_tests) in
        available_page s t touch b n r.0 end last idle e (test ∙ fits) some_available r.1
        (taken_pages s t touch b r.0 s.resv (s.used + 1) end unheld low (moves z.3 r.2)) is))

-- a touch from its first phase on
pub touch_means : (s : State) (t v : ℕ) (access : Access) (b : Answer) (n : State) → Inv s.geometry s → IsBelow s → IsReady s t
    → Comes call.Touch (TouchSteps t) s t b n (pool_of s) (at.Look (record { vpn = v; access = access }))
    → (m : State) × TouchMeans s t v access b m × Looks m n
touch_means s t v access b n h under ready (end, last, k, is) = by_find (find (s.mappings t) v) refl
  where
    calls : put s.calls t None ≡ s.calls
    calls = idle_again s t (ready.0 t)

    aimed : ℕ → ℕ → Touch
    aimed f i = record { vpn = v; access = access; file = f; index = i }

    slots_back : (f i : ℕ) → put (put s.slots (slot_of s.geometry f i) (Some t)) (slot_of s.geometry f i) None ≡ s.slots
    slots_back f i = put_back s.slots (slot_of s.geometry f i) (Some t) None (free_slot s h ready.0 (slot_of s.geometry f i))

    below : (a b : ℕ) → a < b → nat_le b a ≡ false
    below a b l = grind (arith, nat_tests)

    by_page : (f i : ℕ) (o : Option ℕ) → s.pages f i ≡ o → find (s.mappings t) v ≡ Some (f, i) → nat_le (s.size f) i ≡ false
        → Leads (TouchSteps t) b end (slotted s t f i)
        (at.Locked (record { touch = record { vpn = v; access = access; file = f; index = i } }))
        → (m : State) × TouchMeans s t v access b m × Looks m n
    by_page f i None e q low k =
        let k1 = goes_on k (λ turn m r. if_false _ _ (ap is_some e) (if_false _ _ low r)) in
        let z = makes_page s t (record { vpn = v; access = access; file = f; index = i }) b n end last h.enough
        (settled_used s h ready.0) h.quota (free_slot s h ready.0 (slot_of s.geometry f i)) (ready.0 t) low k1 is in
        (z.0, so_some _ _ (f, i) q (so_false _ _ low (so_none _ _ e z.1)), z.2)
    by_page f i (Some x) e q low k =
        let k1 = goes_on k (λ turn m r. if_true _ _ (ap is_some e) (if_false _ _ low r)) in
        let z = found_reads (record { vpn = v; access = access; file = f; index = i }) low k1 in
        let slots = slots_back f i in
        finish call.Touch s t last (TouchMeans s t v access) _ z.ends is
        (so_some _ _ (f, i) q (so_false _ _ low (so_some _ _ z.x z.page (z.word, z.placed, (refl, refl)))))
        (λ j. record s {
          pool = record s.pool {
            frame = frame_after access s.frame z.x;
            slots = slots j;
            entries = put2 s.entries t v (Some z.x);
          };
          calls = calls j;
        })

    by_size : (f i : ℕ) (high : Bool) → nat_le (s.size f) i ≡ high → find (s.mappings t) v ≡ Some (f, i)
        → Leads (TouchSteps t) b end (slotted s t f i)
        (at.Locked (record { touch = record { vpn = v; access = access; file = f; index = i } }))
        → (m : State) × TouchMeans s t v access b m × Looks m n
    by_size f i true e q k =
        let k1 = goes_on k (λ turn m r. if_true _ _ e r) in
        let z = ends_so k1 (λ turn m r. r) in
        let slots = slots_back f i in
        finish call.Touch s t last (TouchMeans s t v access) s z is
        (so_some _ _ (f, i) q (so_true _ _ e (refl, refl)))
        (λ j. record s { pool = record s.pool { slots = slots j }; calls = calls j })
    by_size f i false e q k = by_page f i (s.pages f i) refl q e k

    by_entry : (f i : ℕ) (o : Option ℕ) → s.entries t v ≡ o → find (s.mappings t) v ≡ Some (f, i)
        → (m : State) × TouchMeans s t v access b m × Looks m n
    by_entry f i (Some x) e q =
        let z = next k in
        let r = if_some _ _ e (if_some _ _ q z.2) in
        let y = h.entries.agree t v x e in
        let there : y.0 ≡ (f, i) = some_same (sym y.1 ∙ q) in
        let page : s.pages f i ≡ Some x = subst (λ (p : ℕ × ℕ). s.pages p.0 p.1 ≡ Some x) there y.2 in
        let low = below i (s.size f) (under t v x f i e q (free_lock s h ready.0 f)) in
        let table = put2_self s.entries t v (Some x) e in
        finish call.Touch s t last (TouchMeans s t v access) _ (stops z.3 r.2) is
        (so_some _ _ (f, i) q (so_false _ _ low (so_some _ _ x page (r.0, r.1, (refl, refl)))))
        (λ j. record s { pool = record s.pool { frame = frame_after access s.frame x; entries = sym table j }; calls = calls j })
    by_entry f i None e q =
        let k1 = goes_on k (λ turn m r. if_none _ _ e (if_some _ _ q r)) in
        let k2 = goes_on k1 (λ turn m r. if_none _ _ (free_slot s h ready.0 (slot_of s.geometry f i)) r) in
        by_size f i (nat_le (s.size f) i) refl q k2

    by_find : (o : Option (ℕ × ℕ)) → find (s.mappings t) v ≡ o → (m : State) × TouchMeans s t v access b m × Looks m n
    by_find None q =
        finish call.Touch s t last (TouchMeans s t v access) s (ends_so k (λ turn m r. if_none _ _ q r)) is
        (so_none _ _ q (refl, refl)) (λ j. record s { calls = calls j })
    by_find (Some place) q = by_entry place.0 place.1 (s.entries t v) refl q
