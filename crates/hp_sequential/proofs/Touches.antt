-- The rows of a touch and of an allocation, taken by a pool and by that pool with its frames renamed.
use Rattle.std.proofs.Common.{◌≡◌, ℕ, ◌+◌, refl, ap, sym, ◌∙◌}
use Rattle.std.specs.Prelude.{Bool, nat_le, nat_lt, Some, is_some}
use Rattle.std.specs.Option.{option_map}
use Rattle.hp_base.specs.Numbers.{put2}
use Rattle.hp_base.specs.Mappings.{find}
use Rattle.hp_frames.specs.declared.frame.FrameState.{FrameState}
use Rattle.hp_frames.specs.declared.frame.FrameState.TheVariants.{Placed}
use Rattle.hp_machine.specs.State.{Pool}
use Rattle.hp_machine.specs.Parts.{Goes, is_bad_range, placed, answer_of, frame_after}
use Rattle.hp_machine.specs.TouchRows.{TouchFoundRow, TouchRow}
use Rattle.hp_machine.specs.AllocRows.{AllocRow}
use Rattle.hp_machine.specs.declared.touch.Access.{Access}
use Rattle.hp_machine.specs.declared.touch.Access.TheVariants.{Load, Store}
use Rattle.hp_machine.specs.declared.touch.Found.{Found}
use Rattle.hp_machine.specs.declared.touch.TouchPhase.{TouchPhase}
use Rattle.hp_machine.specs.declared.touch.TouchPhase.TheVariants as touch
use Rattle.hp_machine.specs.declared.alloc.AllocPhase.{AllocPhase}
use Rattle.hp_machine.specs.declared.alloc.AllocPhase.TheVariants as alloc
use Rattle.hp_machine.specs.declared.call.Turn.{Turn}
use Rattle.hp_machine.specs.declared.call.Turn.TheVariants.{Moved, Ended}
use Rattle.hp_sequential.specs.Renaming.{Renaming, touch_renamed, alloc_renamed}
use Rattle.hp_laws.proofs.Deciding.{some_same}
use Rattle.hp_sequential.proofs.Names.{put_renamed, put2_map, some_renamed}
use Rattle.hp_sequential.proofs.Parts.{pool_renamed, Used, Follows, leaf, plain, by_tests, by_like_tests, by_options, by_names}
use Rattle.hp_sequential.proofs.Parts.{start_row, want_row, change_row, commit_row, settle_row, take_row, placed_renamed}
use Rattle.hp_sequential.proofs.Parts.{freed_renamed}

-- a frame has one word
same_word : {a b : ℕ} → Placed a ≡ Placed b → a ≡ b
same_word e = cc

-- the word of a page is the same under its other name, and a store writes it there
word_renamed : {frames : ℕ} (r : Renaming frames) (frame : ℕ → FrameState) (x word word' : ℕ) → frame x ≡ Placed word
    → frame (r.back (r.to x)) ≡ Placed word' → word' ≡ word
word_renamed r frame x word word' a b = same_word (sym b ∙ (ap frame (r.there x) ∙ a))

-- what an access makes of the frames is the same under other names
after_renamed : {frames : ℕ} (r : Renaming frames) (access : Access) (frame : ℕ → FrameState) (x : ℕ)
    → ◌≡◌ {A = ℕ → FrameState} (frame_after access (λ y. frame (r.back y)) (r.to x)) (λ y. frame_after access frame x (r.back y))
after_renamed r Load frame x = refl
after_renamed r (Store new) frame x = put_renamed r frame x (Placed new)

-- a page is read or written
reads : {frames : ℕ} {s : Pool} {r : Renaming frames} {turn other : Turn TouchPhase} {new there : Pool} (t : ℕ)
    (p : Found) (x y word word' : ℕ)
    → s.pages p.touch.file p.touch.index ≡ Some x → option_map r.to (s.pages p.touch.file p.touch.index) ≡ Some y
    → s.frame x ≡ Placed word → s.frame (r.back y) ≡ Placed word'
    → Goes (touch.Leave (record { touch = p.touch; answer = answer_of p.touch.access word }))
    (record s { entries = put2 s.entries t p.touch.vpn (Some x); frame = frame_after p.touch.access s.frame x }) turn new
    → Goes (touch.Leave (record { touch = p.touch; answer = answer_of p.touch.access word' }))
    (record (pool_renamed r s) {
      entries = put2 (λ u v. option_map r.to (s.entries u v)) t p.touch.vpn (Some y);
      frame = frame_after p.touch.access (λ z. s.frame (r.back z)) y;
    }) other there
    → Follows TouchPhase touch_renamed frames s r turn new other there
reads {s = s} {r = r} t p x y word word' page page' placed placed' a b =
    let is : y ≡ r.to x = some_same (sym page' ∙ ap (option_map r.to) page) in
    let same = word_renamed r s.frame x word word' placed (ap (λ (z : ℕ). s.frame (r.back z)) (sym is) ∙ placed') in
    let table = ap (λ (z : ℕ). put2 (λ u v. option_map r.to (s.entries u v)) t p.touch.vpn (Some z)) is
    ∙ put2_map (option_map r.to) s.entries t p.touch.vpn (Some x) in
    let frame = ap (frame_after p.touch.access (λ z. s.frame (r.back z))) is ∙ after_renamed r p.touch.access s.frame x in
    leaf a b (ap (λ (w : ℕ). Moved (touch.Leave (record { touch = p.touch; answer = answer_of p.touch.access w })))
    same) (λ k. record (pool_renamed r s) { entries = table k; frame = frame k }) refl

-- at found a touch, and the renamed one, move alike
found_row : {frames : ℕ} {s : Pool} {r : Renaming frames} {turn other : Turn TouchPhase} {new there : Pool} (t : ℕ)
    (grant : Bool) (p : Found)
    → TouchFoundRow s t grant p turn new → TouchFoundRow (pool_renamed r s) t grant p other there
    → Follows TouchPhase touch_renamed frames s r turn new other there
found_row {s = s} t grant p a b =
    by_tests (nat_le (s.size p.touch.file) p.touch.index) a b
    (λ _ a b. plain a b refl)
    (λ _ a b. by_tests grant a b
    (λ _ a b. reads t p a.0 b.0 a.1 b.1 a.2 b.2 a.3 b.3 a.4 b.4)
    (λ _ a b. plain a b refl))

-- so does each row of a touch
pub touch_row : {frames : ℕ} {s : Pool} {r : Renaming frames} {turn other : Turn TouchPhase} {new there : Pool}
    (t : ℕ) (killed grant : Bool) (p : TouchPhase)
    → Used frames s → TouchRow s t killed grant p turn new
    → TouchRow (pool_renamed r s) t killed grant (touch_renamed r.to p) other there
    → Follows TouchPhase touch_renamed frames s r turn new other there
touch_row {s = s} {r = r} t killed grant (touch.Look p) h a b =
    by_options (find (s.mappings t) p.vpn) a b
    (λ _ a b. plain a b refl)
    (λ place _ a b. by_names _ r.to (s.entries t p.vpn) a b
    (λ _ a b. plain a b refl)
    (λ x _ a b.
    let word = word_renamed r s.frame x a.0 b.0 a.1 b.1 in
    let frame = after_renamed r p.access s.frame x in
    leaf a.2 b.2 (ap (λ (w : ℕ). Ended (answer_of p.access w)) word) (λ k. record (pool_renamed r s) { frame = frame k }) refl))
touch_row t killed grant (touch.Want p) h a b =
    by_tests killed a b
    (λ _ a b. plain a b refl)
    (λ _ a b. want_row t p.touch.file p.touch.index _ _ a b)
touch_row {s = s} {r = r} t killed grant (touch.Locked p) h a b =
    by_tests (nat_le (s.size p.touch.file) p.touch.index) a b
    (λ _ a b. plain a b refl)
    (λ _ a b. by_like_tests (is_some (s.pages p.touch.file p.touch.index)) _
    (some_renamed r.to (s.pages p.touch.file p.touch.index)) a b (λ _ a b. plain a b refl) (λ _ a b. plain a b refl))
touch_row t killed grant (touch.Missing p) h a b =
    change_row grant p.touch.file p.touch.index (p.touch.index + 1) _
    (λ change. touch.Changed (record { touch = p.touch; pending = change })) a b
touch_row t killed grant (touch.Changed p) h a b =
    by_tests killed a b
    (λ _ a b. plain a b refl)
    (λ _ a b. take_row p.pending.missing (λ a. touch.Abort (record { touch = p.touch; pending = p.pending; answer = a })) _ h a b (λ to z. refl))
touch_row t killed grant (touch.Abort p) h a b = plain a b refl
touch_row t killed grant (touch.Taken p) h a b = commit_row p.touch.file p.pending _ _ a b
touch_row t killed grant (touch.Settle p) h a b = settle_row _ a b
touch_row {s = s} {r = r} t killed grant (touch.Committed p) h a b =
    by_tests (nat_le (s.size p.touch.file) p.touch.index) a b
    (λ _ a b. plain a b refl)
    (λ _ a b. by_tests grant a b
    (λ _ a b. leaf a b refl (placed_renamed s r p.touch.file p.touch.index p.held) refl)
    (λ _ a b. plain a b refl))
touch_row {s = s} {r = r} t killed grant (touch.Restore p) h a b = leaf a b refl (freed_renamed s r p.held (s.resv + 1) s.used) refl
touch_row t killed grant (touch.Found p) h a b = found_row t grant p a b
touch_row t killed grant (touch.Leave p) h a b = plain a b refl

-- and each row of an allocation
pub alloc_row : {frames : ℕ} {s : Pool} {r : Renaming frames} {turn other : Turn AllocPhase} {new there : Pool}
    (t : ℕ) (killed grant : Bool) (p : AllocPhase)
    → Used frames s → AllocRow s t killed grant p turn new
    → AllocRow (pool_renamed r s) t killed grant (alloc_renamed r.to p) other there
    → Follows AllocPhase alloc_renamed frames s r turn new other there
alloc_row {s = s} t killed grant (alloc.Start p) h a b =
    start_row t killed p.allocation.file (is_bad_range s p.allocation.from p.allocation.len) _ _ _ a b
alloc_row t killed grant (alloc.Head p) h a b = by_tests killed a b (λ _ a b. plain a b refl) (λ _ a b. plain a b refl)
alloc_row t killed grant (alloc.Want p) h a b =
    by_tests killed a b
    (λ _ a b. plain a b refl)
    (λ _ a b. want_row t p.allocation.file p.index _ _ a b)
alloc_row {s = s} {r = r} t killed grant (alloc.Locked p) h a b =
    by_like_tests (is_some (s.pages p.allocation.file p.index)) _
    (some_renamed r.to (s.pages p.allocation.file p.index)) a b (λ _ a b. plain a b refl) (λ _ a b. plain a b refl)
alloc_row t killed grant (alloc.Missing p) h a b =
    change_row grant p.allocation.file p.index (p.index + 1) _
    (λ change. alloc.Changed (record { allocation = p.allocation; index = p.index; pending = change })) a b
alloc_row t killed grant (alloc.Changed p) h a b =
    by_tests killed a b
    (λ _ a b. plain a b refl)
    (λ _ a b. take_row p.pending.missing
    (λ a. alloc.Abort (record { allocation = p.allocation; index = p.index; pending = p.pending; answer = a })) _ h a b (λ to z. refl))
alloc_row t killed grant (alloc.Abort p) h a b = plain a b refl
alloc_row t killed grant (alloc.Taken p) h a b = commit_row p.allocation.file p.pending _ _ a b
alloc_row t killed grant (alloc.Settle p) h a b = settle_row _ a b
alloc_row {s = s} {r = r} t killed grant (alloc.Committed p) h a b =
    by_tests grant a b
    (λ _ a b. leaf a b refl (placed_renamed s r p.allocation.file p.index p.held) refl)
    (λ _ a b. plain a b refl)
alloc_row {s = s} {r = r} t killed grant (alloc.Restore p) h a b = leaf a b refl (freed_renamed s r p.held (s.resv + 1) s.used) refl
alloc_row t killed grant (alloc.Unslot p) h a b =
    by_options p.answer a b
    (λ _ a b. by_tests (nat_lt (p.index + 1) (p.allocation.from + p.allocation.len)) a b
    (λ _ a b. plain a b refl)
    (λ _ a b. by_tests p.allocation.keep a b (λ _ a b. plain a b refl) (λ _ a b. plain a b refl)))
    (λ _ _ a b. plain a b refl)
alloc_row t killed grant (alloc.Extend p) h a b = plain a b refl
alloc_row t killed grant (alloc.Leave p) h a b = plain a b refl
