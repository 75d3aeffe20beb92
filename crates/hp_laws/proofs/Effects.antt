-- What steps on frames, reservations, changes and pages do to what every row keeps.
use Rattle.std.proofs.Common.{◌≡◌, ◌≢◌, ℕ, ◌+◌, ◌-◌, ◌<◌, ◌≤◌, refl, ap, sym, ◌∙◌, subst, arith, inl, inr, ◌⊎◌}
use Rattle.std.specs.Prelude.{Bool, true, false, max, Option, Some, None, IfSome, ◌==◌, ◌||◌, if◌then◌else◌}
use Rattle.std.proofs.lemmas.Bool.Decides.{nat_tests}
use Rattle.hp_base.specs.Numbers.{put, put2, bit}
use Rattle.hp_base.specs.Indices.{is_within, missing, add_range, touches, vacant}
use Rattle.hp_base.proofs.Puts.{put_same, put_other, same_or_other, put_tells, put2_tells}
use Rattle.hp_base.proofs.Counting.{count_below-ext, count_below-added}
use Rattle.hp_base.proofs.Totals.{total_change, total_has, count_below-change}
use Rattle.hp_base.proofs.Sets.{vacant_add, vacant_place, add_range_keeps, add_range_out}
use Rattle.hp_frames.specs.Bank.{is_free, IsWithinQuota}
use Rattle.hp_frames.specs.declared.frame.FrameState.{FrameState}
use Rattle.hp_frames.specs.declared.frame.FrameState.TheVariants as state
use Rattle.hp_region.specs.Change.{Change}
use Rattle.hp_machine.specs.State.{Geometry, State, slot_of, free_frames}
use Rattle.hp_machine.specs.Headline.{Free, Hand}
use Rattle.hp_machine.specs.Parts.{frame_after}
use Rattle.hp_machine.specs.Views.{behind, ahead, used_ahead, hand, change_in, opens}
use Rattle.hp_machine.specs.declared.touch.Access.{Access}
use Rattle.hp_machine.specs.declared.touch.Access.TheVariants.{Load, Store}
use Rattle.hp_machine.specs.declared.truncate.TruncatePhase.TheVariants as truncate
use Rattle.hp_machine.specs.declared.touch.TouchPhase.TheVariants as touch
use Rattle.hp_machine.specs.declared.map.MapPhase.TheVariants as map
use Rattle.hp_machine.specs.declared.alloc.AllocPhase.TheVariants as alloc
use Rattle.hp_machine.specs.declared.punch.PunchPhase.TheVariants as punch
use Rattle.hp_machine.specs.declared.unmap.UnmapPhase.TheVariants as unmap
use Rattle.hp_machine.specs.declared.exit.ExitPhase.TheVariants as exit
use Rattle.hp_machine.specs.declared.call.Call.{Call}
use Rattle.hp_machine.specs.declared.call.Call.TheVariants as call
use Rattle.hp_laws.specs.Sweep.{fills, to_pass, passed, gone}
use Rattle.hp_laws.proofs.Deciding.{some_same}
use Rattle.hp_laws.proofs.Moves.{Placing, takes_frame, gives_frame, places_frame, writes_frame}
use Rattle.hp_laws.proofs.Standing.{HasSlot, HasLock, Stands}
use Rattle.hp_laws.proofs.Staying.{same_tables, stands_after}
use Rattle.hp_laws.proofs.Invariant.{Reached, Inv, goes, vacant_of, reserved_of, reserved_change, same_used, sum_of, place_same, same_opens, sweeps, holds, to}

-- the number of free frames, where one changes
pub free_change : (f : ℕ → FrameState) (x n : ℕ) (v : FrameState) → x < n
    → free_frames (put f x v) n + bit (is_free (f x)) ≡ free_frames f n + bit (is_free v)
unfolding free_frames
free_change f x n v l =
    let a = count_below-change (λ j. is_free (f j)) (λ j. is_free (put f x v j)) x n l (λ j d. ap is_free (put_other f x v j d)) in
    let b : bit (is_free (put f x v x)) ≡ bit (is_free v) = ap (λ (m : FrameState). bit (is_free m)) (put_same f x v) in
    omega arith

-- a frame that stays free, or stays in use, leaves the number of free frames
pub free_same : (f : ℕ → FrameState) (x n : ℕ) (v : FrameState) → is_free v ≡ is_free (f x) → free_frames (put f x v) n ≡ free_frames f n
unfolding free_frames
free_same f x n v e = count_below-ext (λ j. is_free (put f x v j)) (λ j. is_free (f j)) n (λ j l. elim (same_or_other j x) [
  | inl d ↦ ap (λ (m : ℕ). is_free (put f x v m)) d ∙ (ap is_free (put_same f x v) ∙ (e ∙ ap (λ (m : ℕ). is_free (f m)) (sym d)))
  | inr d ↦ ap is_free (put_other f x v j d)
])

-- a page's word is read or written
pub touches_word : (g : Geometry) (s : State) (access : Access) (x word : ℕ) → Inv g s → s.frame x ≡ state.Placed word
    → Inv g (record s { pool = record s.pool { frame = frame_after access s.frame x } })
touches_word g s Load x word h e = h
touches_word g s (Store new) x word h e = record {
  layout = h.layout;
  count = h.count;
  used = h.used;
  quota = h.quota;
  entries = h.entries;
  inside = h.inside;
  sweep = h.sweep;
  reach = h.reach;
  sizes = h.sizes;
  changes = h.changes;
  spares = h.spares;
  holders = h.holders;
  stands = h.stands;
  enough =
      (let a : free_frames (put s.frame x (state.Placed new)) s.frames ≡ free_frames s.frame s.frames = free_same
      s.frame x s.frames (state.Placed new) (ap is_free (sym e)) in let z = h.enough in omega arith);
  place = writes_frame s.frames s.frame (λ u. hand (s.calls u)) s.pages x word new h.place e;
}

-- the reservations change with what the call owes
pub rebalances : (g : Geometry) (s : State) (t : ℕ) (b c : Option Call) (r n : ℕ) → Inv g s → t < g.tasks + 1 → s.calls t ≡ b
    → sweeps c ≡ sweeps b → holds c ≡ holds b → hand c ≡ hand b → change_in c ≡ change_in b
    → (r + behind c) + ahead b ≡ (s.resv + behind b) + ahead c → r ≤ free_frames s.frame s.frames
    → n + used_ahead b ≡ s.used + used_ahead c → IsWithinQuota g.quota n
    → IfSome (fills c) (λ k. Reached s.size (λ u. to_pass (s.calls u)) k.0 k.1) → Stands g s t c
    → Inv g (to (record s { pool = record s.pool { resv = r; used = n } }) t c)
rebalances g s t b c r n h l e same same_held same_hand same_change balance enough owed quota fill own =
    goes g s (record s { pool = record s.pool { resv = r; used = n } }) t b c h l e same same_held (record {
      layout = h.layout;
      entries = h.entries;
      inside = h.inside;
      sweep = h.sweep;
      reach = h.reach;
      fill = fill;
      sizes = h.sizes;
      spares = h.spares;
      holders = h.holders;
      count = omega arith;
      enough = enough;
      used = omega arith;
      quota = quota;
      place = place_same g s t b c h e same_hand;
      changes = same_opens s.pending b c same_change;
      others = λ u d. h.stands u;
      own = own;
    })

-- a call without an open change is counted for no file
opens_none : (c : Option Call) (k : ℕ) → change_in c ≡ None → opens k c ≡ 0
opens_none c k e = ap (λ (o : Option ℕ). elim o [ None ↦ 0 | Some j ↦ bit (j == k) ]) e

-- a call with one is counted for its file alone
opens_some : (c : Option Call) (f k : ℕ) → change_in c ≡ Some f → opens k c ≡ bit (f == k)
opens_some c f k e = ap (λ (o : Option ℕ). elim o [ None ↦ 0 | Some j ↦ bit (j == k) ]) e

-- a change is opened
pub opened : (g : Geometry) (s : State) (t : ℕ) (b c : Option Call) (f : ℕ) → Inv g s → t < g.tasks + 1 → s.calls t ≡ b
    → sweeps c ≡ sweeps b → holds c ≡ holds b → hand c ≡ hand b → change_in b ≡ None → change_in c ≡ Some f
    → behind c + ahead b ≡ behind b + ahead c → used_ahead c ≡ used_ahead b
    → IfSome (fills c) (λ k. Reached s.size (λ u. to_pass (s.calls u)) k.0 k.1) → Stands g s t c
    → Inv g (to (record s {
      pool = record s.pool {
        pending = put s.pending f (s.pending f + 1);
        spare = put s.spare f (max (s.spare f) (s.pending f + 1));
      };
    }) t c)
opened g s t b c f h l e same same_held same_hand none some balance owed fill own =
    goes g s (record s {
      pool = record s.pool {
        pending = put s.pending f (s.pending f + 1);
        spare = put s.spare f (max (s.spare f) (s.pending f + 1));
      };
    }) t b c h l e same same_held (record {
      layout = h.layout;
      entries = h.entries;
      inside = h.inside;
      sweep = h.sweep;
      reach = h.reach;
      fill = fill;
      sizes = h.sizes;
      holders = h.holders;
      enough = h.enough;
      count = omega arith;
      used = same_used s.used (reserved_of g s.reserved) b c owed;
      quota = h.quota;
      place = place_same g s t b c h e same_hand;
      spares = λ k. more_spare s.pending s.spare f k (h.spares k);
      others = λ u d. h.stands u;
      own = own;
      changes = λ k. raised s.pending f k (opens k b) (opens k c) (opens_none b k none) (opens_some c f k some);
    })
  where
    more_spare : (p q : ℕ → ℕ) (f k : ℕ) → p k ≤ q k → put p f (p f + 1) k ≤ put q f (max (q f) (p f + 1)) k
    more_spare p q f k l = elim (same_or_other k f) [
      | inl d ↦ (let a : put p f (p f + 1) k ≡ p f + 1 = ap (put p f (p f + 1)) d ∙ put_same p f (p f + 1) in
          let b : put q f (max (q f) (p f + 1)) k ≡ max (q f) (p f + 1) = ap (put q f (max (q f) (p f + 1))) d
          ∙ put_same q f (max (q f) (p f + 1)) in
          omega arith)
      | inr d ↦ (let a : put p f (p f + 1) k ≡ p k = put_other p f (p f + 1) k d in
          let b : put q f (max (q f) (p f + 1)) k ≡ q k = put_other q f (max (q f) (p f + 1)) k d in omega arith)
    ]

    raised : (p : ℕ → ℕ) (f k m n : ℕ) → m ≡ 0 → n ≡ bit (f == k) → put p f (p f + 1) k + m ≡ p k + n
    raised p f k m n x y = grind (arith, nat_tests, put_tells)

-- a call with a change open is counted by its file's map
pub has_pending : (g : Geometry) (s : State) (t : ℕ) (b : Option Call) (f : ℕ) → Inv g s → t < g.tasks + 1 → s.calls t ≡ b
    → change_in b ≡ Some f → 1 ≤ s.pending f
has_pending g s t b f h l e some =
    let x : opens f (s.calls t) ≤ sum_of g (opens f) s.calls = total_has (g.tasks + 1) t (λ u. opens f (s.calls u)) l in
    let y : opens f (s.calls t) ≡ bit (f == f) = ap (opens f) e ∙ opens_some b f f some in
    let z : bit (f == f) ≡ 1 = ap bit (same f) in
    let w : s.pending f ≡ sum_of g (opens f) s.calls = h.changes f in
    omega arith
  where
    same : (k : ℕ) → (k == k) ≡ true
    same k = grind (arith, nat_tests)

-- a count that goes down by one at a file loses what one call adds there
lowered : (p : ℕ → ℕ) (f k m n : ℕ) → 1 ≤ p f → m ≡ bit (f == k) → n ≡ 0 → put p f (p f - 1) k + m ≡ p k + n
lowered p f k m n l x y = grind (arith, nat_tests, put_tells)

-- a change is taken back
pub closed : (g : Geometry) (s : State) (t : ℕ) (b c : Option Call) (f : ℕ) → Inv g s → t < g.tasks + 1 → s.calls t ≡ b
    → sweeps c ≡ sweeps b → holds c ≡ holds b → hand c ≡ hand b → change_in b ≡ Some f → change_in c ≡ None
    → behind c + ahead b ≡ behind b + ahead c → used_ahead c ≡ used_ahead b
    → IfSome (fills c) (λ k. Reached s.size (λ u. to_pass (s.calls u)) k.0 k.1) → Stands g s t c
    → Inv g (to (record s { pool = record s.pool { pending = put s.pending f (s.pending f - 1) } }) t c)
closed g s t b c f h l e same same_held same_hand some none balance owed fill own =
    goes g s (record s { pool = record s.pool { pending = put s.pending f (s.pending f - 1) } }) t b c h l e same
    same_held (record {
      layout = h.layout;
      entries = h.entries;
      inside = h.inside;
      sweep = h.sweep;
      reach = h.reach;
      fill = fill;
      sizes = h.sizes;
      holders = h.holders;
      enough = h.enough;
      count = omega arith;
      used = same_used s.used (reserved_of g s.reserved) b c owed;
      quota = h.quota;
      place = place_same g s t b c h e same_hand;
      spares = λ k. less_pending s.pending s.spare f k (h.spares k);
      others = λ u d. h.stands u;
      own = own;
      changes =
          λ k. lowered s.pending f k (opens k b) (opens k c) (has_pending g s t b f h l e some) (opens_some b f k some)
          (opens_none c k none);
    })
  where
    less_pending : (p q : ℕ → ℕ) (f k : ℕ) → p k ≤ q k → put p f (p f - 1) k ≤ q k
    less_pending p q f k l = grind (arith, put_tells)

-- adding a range to a file's reserved indices takes none out
pub grown_keeps : (r : ℕ → ℕ → Bool) (f from to k j : ℕ) → r k j ≡ true → put r f (add_range (r f) from to) k j ≡ true
grown_keeps r f from to k j a = elim (same_or_other k f) [
  | inl d ↦ ap (λ (m : ℕ). put r f (add_range (r f) from to) m j) d
      ∙ (ap (λ (m : ℕ → Bool). m j) (put_same r f (add_range (r f) from to))
      ∙ add_range_keeps (r f) from to j (ap (λ (m : ℕ). r m j) (sym d) ∙ a))
  | inr d ↦ ap (λ (m : ℕ → Bool). m j) (put_other r f (add_range (r f) from to) k d) ∙ a
]

-- an index that isn't in the range isn't added
still_gone : (r : ℕ → ℕ → Bool) (f from to k j : ℕ) → (k ≡ f → is_within from to j ≡ true → ⊥) → r k j ≡ false
    → put r f (add_range (r f) from to) k j ≡ false
still_gone r f from to k j h a = elim (same_or_other k f) [
  | inl d ↦ ap (λ (m : ℕ). put r f (add_range (r f) from to) m j) d
      ∙ (ap (λ (m : ℕ → Bool). m j) (put_same r f (add_range (r f) from to))
      ∙ add_range_out (r f) from to j (ap (λ (m : ℕ). r m j) (sym d) ∙ a) (h d))
  | inr d ↦ ap (λ (m : ℕ → Bool). m j) (put_other r f (add_range (r f) from to) k d) ∙ a
]

-- an index of a range lies below any limit that the range keeps to
low_index : (from to j limit : ℕ) → to ≤ limit → is_within from to j ≡ true → j < limit
low_index from to j limit l e = grind (arith, nat_tests)

-- what is reserved stays within the limits, where a range within them is added
grown_within : (r : ℕ → ℕ → Bool) (f from to k j files limit : ℕ) → f < files → to ≤ limit
    → ((k j : ℕ) → r k j ≡ true → (k < files) × (j < limit))
    → put r f (add_range (r f) from to) k j ≡ true → (k < files) × (j < limit)
unfolding add_range
grown_within r f from to k j files limit in_files in_limit h a = elim (same_or_other k f) [
  | inl d ↦ elim (in_range (is_within from to j) (r f j)
      (ap (λ (m : ℕ → Bool). m j) (sym (ap (put r f (add_range (r f) from to)) d ∙ put_same r f (add_range (r f) from to))) ∙ a)) [
        | inl e ↦ (subst (λ (m : ℕ). m < files) (sym d) in_files, low_index from to j limit in_limit e)
        | inr e ↦ subst (λ (m : ℕ). (m < files) × (j < limit)) (sym d) (h f j e)
      ]
  | inr d ↦ h k j (ap (λ (m : ℕ → Bool). m j) (sym (put_other r f (add_range (r f) from to) k d)) ∙ a)
]
  where
    in_range : (b c : Bool) → (b || c) ≡ true → (b ≡ true) ⊎ (c ≡ true)
    in_range true c e = inl refl
    in_range false c e = inr e

-- what is gone was passed
pub gone_passed : (c : Option Call) (k j : ℕ) → gone c k j ≡ true → passed c k j ≡ true
gone_passed (Some (call.Truncate (truncate.Settle p))) k j e = e
gone_passed (Some (call.Truncate (truncate.Leave p))) k j e = e
gone_passed (Some (call.Touch (touch.Look _))) k j e = let d : false ≡ true = e in absurd (cc)
gone_passed (Some (call.Map (map.Start _))) k j e = let d : false ≡ true = e in absurd (cc)
gone_passed (Some (call.Alloc (alloc.Start _))) k j e = let d : false ≡ true = e in absurd (cc)
gone_passed (Some (call.Punch (punch.Start _))) k j e = let d : false ≡ true = e in absurd (cc)
gone_passed (Some (call.Unmap (unmap.Start _))) k j e = let d : false ≡ true = e in absurd (cc)
gone_passed (Some (call.Exit exit.Start)) k j e = let d : false ≡ true = e in absurd (cc)
gone_passed c k j e = let d : false ≡ true = e in absurd (cc)

-- what implies something false is false
unless : (b d : Bool) → (b ≡ true → d ≡ true) → d ≡ false → b ≡ false
unless true d h e = sym (h refl) ∙ e
unless false d h e = refl

-- a range joins the reserved indices of a file
grown_vacant : (g : Geometry) (s : State) (f from to : ℕ) → Inv g s → f < g.files → to ≤ g.limit
    → vacant_of g (put s.reserved f (add_range (s.reserved f) from to)) s.pages ≡ vacant_of g s.reserved
    s.pages + missing (s.reserved f) from to
grown_vacant g s f from to h l low =
    let r : ℕ → ℕ → Bool = put s.reserved f (add_range (s.reserved f) from to) in
    let a : vacant_of g r s.pages + vacant g.limit (s.reserved f) (s.pages f) ≡ vacant_of g s.reserved
    s.pages + vacant g.limit (r f) (s.pages f)
    =
    total_change g.files f (λ k. vacant g.limit (s.reserved k) (s.pages k))
    (λ k. vacant g.limit (r k) (s.pages k)) l
    (λ k d. ap (λ (m : ℕ → Bool). vacant g.limit m (s.pages k))
    (put_other s.reserved f (add_range (s.reserved f) from to) k d)) in
    let b : vacant g.limit (r f) (s.pages f) ≡ vacant g.limit (s.reserved f) (s.pages f) + missing (s.reserved f) from to
    =
    ap (λ (m : ℕ → Bool). vacant g.limit m (s.pages f)) (put_same s.reserved f (add_range (s.reserved f) from to))
    ∙ vacant_add g.limit (s.reserved f) (s.pages f) from to low (λ i. h.inside.bare f i) in
    omega arith

-- so are they all
grown_reserved : (g : Geometry) (s : State) (f from to : ℕ) → f < g.files → to ≤ g.limit
    → reserved_of g (put s.reserved f (add_range (s.reserved f) from to)) ≡ reserved_of g s.reserved + missing (s.reserved f) from to
grown_reserved g s f from to l low =
    reserved_change g s f (add_range (s.reserved f) from to) _ l (count_below-added (s.reserved f) from to g.limit low)

-- the state after a commit
abbrev pub committing : State → (file : ℕ) → Change → State
committing s f change = record s {
  pool = record s.pool {
    pending = put s.pending f (s.pending f - 1);
    spare = put s.spare f (if touches (s.reserved f) change.from change.to then s.spare f else s.spare f - 1);
    reserved = put s.reserved f (add_range (s.reserved f) change.from change.to);
  };
}

-- the task holds the lock of the file, or the slot of each index of the change: so nobody else does both
abbrev pub IsSole : Geometry → State → (task file : ℕ) → Change → Type 0
IsSole g s t f change = HasLock s t f ⊎ ((j : ℕ) → is_within change.from change.to j ≡ true → HasSlot g s t f j)

-- a change is committed
pub commits : (g : Geometry) (s : State) (t : ℕ) (b c : Option Call) (f : ℕ) (change : Change) → Inv g s → t < g.tasks + 1
    → s.calls t ≡ b → f < g.files → change.to ≤ g.limit → IsSole g s t f change
    → sweeps c ≡ sweeps b → holds c ≡ holds b → hand c ≡ hand b → change_in b ≡ Some f → change_in c ≡ None
    → ((u j : ℕ) → passed (s.calls u) f j ≡ true → is_within change.from change.to j ≡ true → ⊥)
    → behind c + ahead b ≡ behind b + missing (s.reserved f) change.from change.to + ahead c
    → used_ahead b ≡ missing (s.reserved f) change.from change.to + used_ahead c
    → IfSome (fills c) (λ k. Reached s.size (λ u. to_pass (s.calls u)) k.0 k.1) → Stands g (committing s f change) t c
    → Inv g (to (committing s f change) t c)
commits g s t b c f change h l e in_files low sole same same_held same_hand some none nobody balance owed fill own =
    goes g s (committing s f change) t b c h l e same same_held (record {
      layout = h.layout;
      entries = h.entries;
      reach = h.reach;
      fill = fill;
      sizes = h.sizes;
      holders = h.holders;
      enough = h.enough;
      count =
          (let v : vacant_of g (committing s f change).reserved s.pages ≡ vacant_of g s.reserved s.pages + missing
          (s.reserved f) change.from change.to = grown_vacant g s f change.from change.to h in_files low in omega arith);
      used =
          (let v : reserved_of g (committing s f change).reserved ≡ reserved_of g s.reserved + missing (s.reserved f)
          change.from change.to = grown_reserved g s f change.from change.to in_files low in omega arith);
      quota = h.quota;
      place = place_same g s t b c h e same_hand;
      inside =
          record {
            within = λ k i a. grown_within s.reserved f change.from change.to k i (g.files) (g.limit) in_files low
                h.inside.within a;
            bare = λ k i a. h.inside.bare k i
                (unless (s.reserved k i) _ (grown_keeps s.reserved f change.from change.to k i) a);
          };
      sweep =
          record {
            past = h.sweep.past;
            gone = λ u k j a. still_gone s.reserved f change.from change.to k j
                (λ d z. nobody u j (ap (λ (m : ℕ). passed (s.calls u) m j) (sym d) ∙ gone_passed (s.calls u) k j a) z)
                (h.sweep.gone u k j a);
          };
      spares =
          λ k. spare_after s.pending s.spare f k _ (has_pending g s t b f h l e some)
          (few (touches (s.reserved f) change.from change.to) (s.spare f)) (h.spares k);
      others =
          λ u d. stands_after g s (committing s f change) u (s.calls u)
          (record {
            slot = λ k a. a;
            files = record {
              page = λ k j a. refl;
              mark = λ k j a w. grown_keeps s.reserved f change.from change.to k j;
              unmark = λ k j a b. still_gone s.reserved f change.from change.to k j (λ q w. elim sole [
                | inl lock ↦ d (some_same (sym (ap s.locks (sym q) ∙ b) ∙ lock))
                | inr slot ↦ d (some_same (sym (ap (λ (m : ℕ). s.slots (slot_of g m j)) (sym q) ∙ a) ∙ slot j w))
              ]);
              lock = λ k a. (a, refl, λ j. grown_keeps s.reserved f change.from change.to k j);
            };
            tables = same_tables;
          }) (h.stands u);
      own = own;
      changes =
          λ k. lowered s.pending f k (opens k b) (opens k c) (has_pending g s t b f h l e some) (opens_some b f k some)
          (opens_none c k none);
    })
  where
    few : (b : Bool) (spare : ℕ) → spare ≤ (if b then spare else spare - 1) + 1
    few true spare = omega arith
    few false spare = omega arith

    spare_after : (p q : ℕ → ℕ) (f k spare : ℕ) → 1 ≤ p f → q f ≤ spare + 1 → p k ≤ q k → put p f (p f - 1) k ≤ put q f spare k
    spare_after p q f k spare one few l = elim (same_or_other k f) [
      | inl d ↦ (let a : put p f (p f - 1) k ≡ p f - 1 = ap (put p f (p f - 1)) d ∙ put_same p f (p f - 1) in
          let z : put q f spare k ≡ spare = ap (put q f spare) d ∙ put_same q f spare in
          let w : p k ≡ p f = ap p d in let y : q k ≡ q f = ap q d in omega arith)
      | inr d ↦ (let a : put p f (p f - 1) k ≡ p k = put_other p f (p f - 1) k d in
          let z : put q f spare k ≡ q k = put_other q f spare k d in omega arith)
    ]

-- a free frame goes into the call's hand
pub takes : (g : Geometry) (s : State) (t : ℕ) (b c : Option Call) (x r n : ℕ) → Inv g s → t < g.tasks + 1 → s.calls t ≡ b
    → s.frame x ≡ state.Free
    → sweeps c ≡ sweeps b → holds c ≡ holds b → hand b ≡ None → hand c ≡ Some x → change_in c ≡ change_in b
    → (r + behind c) + ahead b ≡ (s.resv + behind b) + ahead c → r + 1 ≤ free_frames s.frame s.frames
    → n + used_ahead b ≡ s.used + used_ahead c → IsWithinQuota g.quota n
    → IfSome (fills c) (λ k. Reached s.size (λ u. to_pass (s.calls u)) k.0 k.1) → Stands g s t c
    → Inv g (to (record s { pool = record s.pool { frame = put s.frame x state.Hand; resv = r; used = n } }) t c)
takes g s t b c x r n h l e free same same_held none some same_change balance enough owed quota fill own =
    goes g s (record s { pool = record s.pool { frame = put s.frame x state.Hand; resv = r; used = n } }) t b c h l e same same_held (record {
      layout = h.layout;
      entries = h.entries;
      inside = h.inside;
      sweep = h.sweep;
      reach = h.reach;
      fill = fill;
      sizes = h.sizes;
      spares = h.spares;
      holders = h.holders;
      count = omega arith;
      used = omega arith;
      quota = quota;
      enough =
          (let a : free_frames (put s.frame x state.Hand) s.frames + bit (is_free (s.frame x)) ≡ free_frames s.frame
          s.frames + 0 = free_change s.frame x s.frames state.Hand (h.place.one.real x Free free) in
          let z : bit (is_free (s.frame x)) ≡ 1 = ap (λ (m : FrameState). bit (is_free m)) free in omega arith);
      place =
          subst (λ (o : Option ℕ). Placing s.frames (put s.frame x state.Hand) (put (λ (u : ℕ). hand (s.calls u)) t o)
          s.pages) (sym some) (takes_frame s.frames s.frame (λ u. hand (s.calls u)) s.pages t x h.place (ap hand e ∙ none) free);
      changes = same_opens s.pending b c same_change;
      others = λ u d. h.stands u;
      own = own;
    })

-- the frame in the call's hand is freed
pub gives : (g : Geometry) (s : State) (t : ℕ) (b c : Option Call) (x r n : ℕ) → Inv g s → t < g.tasks + 1 → s.calls t ≡ b
    → sweeps c ≡ sweeps b → holds c ≡ holds b → hand b ≡ Some x → hand c ≡ None → change_in c ≡ change_in b
    → (r + behind c) + ahead b ≡ (s.resv + behind b) + ahead c → r ≤ s.resv + 1
    → n + used_ahead b ≡ s.used + used_ahead c → IsWithinQuota g.quota n
    → IfSome (fills c) (λ k. Reached s.size (λ u. to_pass (s.calls u)) k.0 k.1) → Stands g s t c
    → Inv g (to (record s { pool = record s.pool { frame = put s.frame x state.Free; resv = r; used = n } }) t c)
gives g s t b c x r n h l e same same_held some none same_change balance enough owed quota fill own =
    goes g s (record s { pool = record s.pool { frame = put s.frame x state.Free; resv = r; used = n } }) t b c h l e same same_held (record {
      layout = h.layout;
      entries = h.entries;
      inside = h.inside;
      sweep = h.sweep;
      reach = h.reach;
      fill = fill;
      sizes = h.sizes;
      spares = h.spares;
      holders = h.holders;
      count = omega arith;
      used = omega arith;
      quota = quota;
      enough = (let held : hand (s.calls t) ≡ Some x = ap hand e ∙ some in
          let a : free_frames (put s.frame x state.Free) s.frames + bit (is_free (s.frame x)) ≡ free_frames s.frame
          s.frames + 1 = free_change s.frame x s.frames state.Free (h.place.one.real x (Hand t) held) in
          let z : bit (is_free (s.frame x)) ≡ 0 = ap (λ (m : FrameState). bit (is_free m)) (h.place.hands t x held) in
          let y = h.enough in omega arith);
      place =
          subst (λ (o : Option ℕ). Placing s.frames (put s.frame x state.Free) (put (λ (u : ℕ). hand (s.calls u)) t o)
          s.pages) (sym none) (gives_frame s.frames s.frame (λ u. hand (s.calls u)) s.pages t x h.place (ap hand e ∙ some));
      changes = same_opens s.pending b c same_change;
      others = λ u d. h.stands u;
      own = own;
    })

-- the frame in the call's hand becomes the page
pub places : (g : Geometry) (s : State) (t : ℕ) (b c : Option Call) (f i x : ℕ) → Inv g s → t < g.tasks + 1 → s.calls t ≡ b
    → f < g.files → i < g.limit
    → sweeps c ≡ sweeps b → holds c ≡ holds b → hand b ≡ Some x → hand c ≡ None → change_in c ≡ change_in b
    → behind b + ahead c ≡ behind c + ahead b + 1 → used_ahead c ≡ used_ahead b
    → s.reserved f i ≡ true → s.pages f i ≡ None → HasSlot g s t f i
    → ((u : ℕ) → passed (s.calls u) f i ≡ true → ⊥)
    → IfSome (fills c) (λ k. Reached s.size (λ u. to_pass (s.calls u)) k.0 k.1)
    → Stands g (record s { pool = record s.pool { pages = put2 s.pages f i (Some x); frame = put s.frame x (state.Placed 0) } }) t c
    → Inv g (to (record s { pool = record s.pool { pages = put2 s.pages f i (Some x); frame = put s.frame x (state.Placed 0) } }) t c)
places g s t b c f i x h l e in_files in_limit same same_held some none same_change balance owed marked bare held nobody fill own =
    goes g s n t b c h l e same same_held (record {
      layout = h.layout;
      reach = h.reach;
      fill = fill;
      sizes = h.sizes;
      spares = h.spares;
      holders = h.holders;
      count = (let v : vacant_of g s.reserved n.pages + 1 ≡ vacant_of g s.reserved s.pages = placed_vacant in omega arith);
      used = same_used s.used (reserved_of g s.reserved) b c owed;
      quota = h.quota;
      enough =
          (let a : free_frames (put s.frame x (state.Placed 0)) s.frames ≡ free_frames s.frame s.frames = free_same
          s.frame x s.frames (state.Placed 0) (ap is_free (sym (h.place.hands t x (ap hand e ∙ some)))) in
          let z = h.enough in omega arith);
      place =
          subst (λ (o : Option ℕ). Placing s.frames n.frame (put (λ (u : ℕ). hand (s.calls u)) t o) n.pages) (sym none)
          (places_frame s.frames s.frame (λ u. hand (s.calls u)) s.pages t f i x h.place (ap hand e ∙ some) bare);
      entries =
          record {
            owners = h.entries.owners;
            agree = λ w v y a. let o = h.entries.agree w v y a in
                (o.0, o.1, still o.0.0 o.0.1 y o.2);
          };
      inside = record {
        bare = λ k j a. bare_still k j a (h.inside.bare k j a);
        within = h.inside.within;
      };
      sweep =
          record {
            gone = h.sweep.gone;
            past = λ u k j a. let o = h.sweep.past u k j a in
                (free_still u k j a o.0, o.1);
          };
      changes = same_opens s.pending b c same_change;
      others =
          λ u d. stands_after g s n u (s.calls u)
          (record {
            slot = λ k a. a;
            files = record {
              page = λ k j a. other u d k j a;
              mark = λ k j a w r. r;
              unmark = λ k j a b r. r;
              lock = λ k a. (a, refl, λ j r. r);
            };
            tables = same_tables;
          }) (h.stands u);
      own = own;
    })
  where
    n : State
    n = record s { pool = record s.pool { pages = put2 s.pages f i (Some x); frame = put s.frame x (state.Placed 0) } }

    still : (k j y : ℕ) → s.pages k j ≡ Some y → put2 s.pages f i (Some x) k j ≡ Some y
    still k j y a = grind (arith, put2_tells)

    free_still : (u k j : ℕ) → passed (s.calls u) k j ≡ true → s.pages k j ≡ None → put2 s.pages f i (Some x) k j ≡ None
    free_still u k j a d = elim (put2_tells s.pages f i (Some x) k j) [
      | inl q ↦ absurd (nobody u (ap (λ (m : ℕ). passed (s.calls u) m i) (sym q.0) ∙ (ap (passed (s.calls u) k) (sym q.1) ∙ a)))
      | inr q ↦ q.1 ∙ d
    ]

    bare_still : (k j : ℕ) → s.reserved k j ≡ false → s.pages k j ≡ None → put2 s.pages f i (Some x) k j ≡ None
    bare_still k j a d = elim (put2_tells s.pages f i (Some x) k j) [
      | inl q ↦ (let z : s.reserved f i ≡ false = ap (λ (m : ℕ). s.reserved m i) (sym q.0) ∙ (ap (s.reserved k) (sym q.1) ∙ a) in cc)
      | inr q ↦ q.1 ∙ d
    ]

    other : (u : ℕ) → u ≢ t → (k j : ℕ) → s.slots (slot_of g k j) ≡ Some u → put2 s.pages f i (Some x) k j ≡ s.pages k j
    other u d k j a = elim (put2_tells s.pages f i (Some x) k j) [
      | inl q ↦ (let z : s.slots (slot_of g f i) ≡ Some u = ap (λ (m : ℕ). s.slots (slot_of g m i)) (sym q.0)
          ∙ (ap (λ (m : ℕ). s.slots (slot_of g k m)) (sym q.1) ∙ a) in absurd (d (some_same (sym z ∙ held))))
      | inr q ↦ q.1
    ]

    placed_vacant : vacant_of g s.reserved n.pages + 1 ≡ vacant_of g s.reserved s.pages
    placed_vacant =
        let a : vacant_of g s.reserved n.pages + vacant g.limit (s.reserved f) (s.pages f) ≡ vacant_of g s.reserved
        s.pages + vacant g.limit (s.reserved f) (put2 s.pages f i (Some x) f)
        =
        total_change g.files f (λ k. vacant g.limit (s.reserved k) (s.pages k))
        (λ k. vacant g.limit (s.reserved k) (put2 s.pages f i (Some x) k)) in_files
        (λ k d. ap (vacant g.limit (s.reserved k)) (put_other s.pages f (put (s.pages f) i (Some x)) k d)) in
        let z : vacant g.limit (s.reserved f) (put2 s.pages f i (Some x) f) + 1 ≡ vacant g.limit (s.reserved f) (s.pages f)
        =
        ap (λ (m : ℕ → Option ℕ). vacant g.limit (s.reserved f) m + 1)
        (put_same s.pages f (put (s.pages f) i (Some x)))
        ∙ vacant_place g.limit (s.reserved f) (s.pages f) i x in_limit marked bare in
        omega arith
