-- Each step of a punch as entries.
use Rattle.std.proofs.Common.{◌≡◌, ℕ, ◌+◌, ◌-◌, ◌≤◌, refl, ap, sym, arith, inl, inr, ◌⊎◌}
use Rattle.std.specs.Prelude.{◌&&◌, Bool, true, false, not, nat_lt, nat_le, is_some, if◌then◌else◌, Some, None, [], ◌∷◌}
use Rattle.hp_base.specs.Indices.{splits}
use Rattle.hp_base.specs.Numbers.{put, put2, bit}
use Rattle.hp_base.specs.declared.answer.Answer.TheVariants as answer
use Rattle.hp_base.proofs.Puts.{put_same, put_other}
use Rattle.hp_frames.specs.declared.frame.FrameState.TheVariants as frame
use Rattle.hp_machine.specs.State.{Pool, pool_of, frees}
use Rattle.hp_machine.specs.Events.{left}
use Rattle.hp_machine.specs.Parts.{is_bad_range, restored}
use Rattle.hp_machine.specs.PunchRows.{PunchDeleteRow, PunchFreeRow}
use Rattle.hp_machine.specs.declared.punch.Start.{Start}
use Rattle.hp_machine.specs.declared.punch.Want.{Want}
use Rattle.hp_machine.specs.declared.punch.Locked.{Locked}
use Rattle.hp_machine.specs.declared.punch.Unmap.{Unmap}
use Rattle.hp_machine.specs.declared.punch.Evict.{Evict}
use Rattle.hp_machine.specs.declared.punch.Delete.{Delete}
use Rattle.hp_machine.specs.declared.punch.Free.{Free}
use Rattle.hp_machine.specs.declared.punch.Unslot.{Unslot}
use Rattle.hp_machine.specs.declared.punch.Leave.{Leave}
use Rattle.hp_machine.specs.declared.punch.PunchPhase.{PunchPhase}
use Rattle.hp_machine.specs.declared.punch.PunchPhase.TheVariants as at
use Rattle.hp_machine.specs.declared.call.Call.{Call}
use Rattle.hp_machine.specs.declared.call.Call.TheVariants as call
use Rattle.hp_machine.specs.declared.call.Turn.{Turn}
use Rattle.hp_laws.proofs.Deciding.{lt, clash}
use Rattle.hp_laws.proofs.Shared.{by_test, good_range}
use Rattle.hp_linux.specs.Rows.{UntalliedFreeRow}
use Rattle.hp_accounts.specs.Books.{Bare, place_of, bare_of}
use Rattle.hp_accounts.specs.Entries.{Deletes, Frees, GivesBack, HandsOver, Ignores}
use Rattle.hp_linux_laws.specs.MayRows.{MayPunch}
use Rattle.hp_linux_laws.specs.RepairedRows.{RepairedPunch, AccountedDeleteRow}
use Rattle.hp_linux_laws.proofs.Standing.{below_limit}
use Rattle.hp_linux_laws.proofs.Stepping.{From, Booked, same_hands, in_hand, owes, quiet, went, over}
use Rattle.hp_linux_laws.proofs.Making.{wants_slot, leaves_slot, restores}
use Rattle.hp_linux_laws.proofs.Removing.{starts, turns, clears_index, evicts, frees_frame}

abbrev pub In : PunchPhase → Type 0
In p = From (call.Punch p)

abbrev pub Steps : (p : PunchPhase) → In p → Turn PunchPhase → Pool → Type 0
Steps p k turn new = Booked (call.Punch p) k new (left call.Punch turn)

punch_start : (p : Start) (k : In (at.Start p)) (killed grant : Bool) (turn : Turn PunchPhase) (new : Pool)
    → MayPunch (pool_of k.state) k.task killed grant (at.Start p) turn new → Steps (at.Start p) k turn new
punch_start p k killed grant turn new row =
    starts call.Punch _ k killed p.hole.file (is_bad_range (pool_of k.state) p.hole.from p.hole.len) answer.Killed (at.Start p)
    (at.Want (record { hole = p.hole; index = p.hole.from })) turn new row (quiet _ k _ None refl refl refl k.stands k.fits)
    (quiet _ k _ _ refl refl refl k.stands k.fits)
    (λ file good. let z = good_range k.state p.hole.from p.hole.len good in
    quiet _ k _ _ refl refl refl (k.stands, (file, (let a = z.0 in omega arith), z.1)) k.fits)

punch_want : (p : Want) (k : In (at.Want p)) (killed grant : Bool) (turn : Turn PunchPhase) (new : Pool)
    → MayPunch (pool_of k.state) k.task killed grant (at.Want p) turn new → Steps (at.Want p) k turn new
punch_want p k killed grant turn new (inl r) =
    wants_slot call.Punch _ k p.hole.file p.index (at.Want p) (at.Locked (record { hole = p.hole; index = p.index })) turn new r refl refl
    k.stands.1.0 (below_limit k.state.geometry p.hole.file p.hole.from p.hole.len p.index k.stands.1) k.stands.0 (λ m e. (e, k.stands.1))
punch_want p k killed grant turn new (inr row) =
    by_test (nat_lt (p.index + 1) (p.hole.from + p.hole.len)) row
    (λ further r. went call.Punch _ k _ _ turn new r (quiet _ k _ _ refl refl refl
    (k.stands.0, (k.stands.1.0, lt (p.index + 1) (p.hole.from + p.hole.len) further, k.stands.1.2)) k.fits))
    (λ _ r. went call.Punch _ k _ _ turn new r (quiet _ k _ _ refl refl refl k.stands.0 k.fits))

punch_locked : (p : Locked) (k : In (at.Locked p)) (killed grant : Bool) (turn : Turn PunchPhase) (new : Pool)
    → MayPunch (pool_of k.state) k.task killed grant (at.Locked p) turn new → Steps (at.Locked p) k turn new
punch_locked p k killed grant turn new row =
    by_test (is_some (k.state.pages p.hole.file p.index)) row
    (λ _ r. went call.Punch _ k _ _ turn new r
    (turns _ k p.hole.file p.index _ refl (ap place_of k.stands.0) (λ m e. (e, k.stands.1))))
    (λ _ r. went call.Punch _ k _ _ turn new r (quiet _ k _ _ refl refl refl (ap place_of k.stands.0, k.stands.1) k.fits))

punch_unmap : (p : Unmap) (k : In (at.Unmap p)) (killed grant : Bool) (turn : Turn PunchPhase) (new : Pool)
    → MayPunch (pool_of k.state) k.task killed grant (at.Unmap p) turn new → Steps (at.Unmap p) k turn new
punch_unmap p k killed grant turn new row =
    clears_index call.Punch _ k p.task p.hole.file p.index (at.Unmap (record { hole = p.hole; index = p.index; task = p.task + 1 }))
    (at.Evict (record { hole = p.hole; index = p.index })) turn new row refl refl k.stands.0 (λ m es e. (e, k.stands.1))
    (λ m es e. (e, k.stands.1))

punch_evict : (p : Evict) (k : In (at.Evict p)) (killed grant : Bool) (turn : Turn PunchPhase) (new : Pool)
    → MayPunch (pool_of k.state) k.task killed grant (at.Evict p) turn new → Steps (at.Evict p) k turn new
punch_evict p k killed grant turn new row =
    evicts call.Punch _ k p.hole.file p.index (λ x. at.Delete (record { hole = p.hole; index = p.index; held = x })) turn new row refl
    (λ x. (refl, refl, refl)) k.stands.0 (λ m x e. (e, k.stands.1))

-- where the deletion leads
abbrev pub freeing : Delete → (denied : Bool) → Call
freeing p denied = call.Punch (at.Free (record { hole = p.hole; index = p.index; held = p.held; denied = denied }))

-- the index leaves the map; where it wasn't in it, what is owed for it is ignored
deleted : (p : Delete) (k : In (at.Delete p)) (spare : ℕ → ℕ) → (k.exact ≡ true → k.state.reserved p.hole.file p.index ≡ true)
    → Booked (call.Punch (at.Delete p)) k (record (pool_of k.state) {
      reserved = put2 k.state.reserved p.hole.file p.index false;
      spare = spare;
    }) (Some (freeing p false))
deleted p k spare sure =
    let o = owes _ k in
    let l = few (k.state.reserved p.hole.file p.index) in
    record {
      es = Deletes k.task p.hole.file p.index 0 (bit (k.state.reserved p.hole.file p.index))
          ∷ Ignores (1 - bit (k.state.reserved p.hole.file p.index)) ∷ [];
      may = ((ap bare_of k.stands.0, (omega arith), (omega arith)), ((omega arith), tt));
      careful = λ e. (tt, (tt, tt));
      exact = λ e. (let z = ap bit (sure e) in omega arith);
      tables = refl;
      hands = inl (same_hands _ k (Some (freeing p false)) refl);
      owed = omega arith;
      promised = omega arith;
      marks = λ u d. put_other k.marks k.task (Bare p.hole.file p.index) u d;
      count = omega arith;
      stands = (put_same k.marks k.task (Bare p.hole.file p.index), k.stands.1);
      others = λ u d. (refl, λ v x e. e);
      ranges = k.ranges;
      fits = k.fits;
    }
  where
    few : (b : Bool) → bit b ≤ 1
    few true = omega arith
    few false = omega arith

-- it stays, for that is refused memory
denied : (p : Delete) (k : In (at.Delete p)) → Booked (call.Punch (at.Delete p)) k (pool_of k.state) (Some (freeing p true))
denied p k = quiet _ k _ _ refl refl refl k.stands k.fits

by_machine : (p : Delete) (k : In (at.Delete p)) (grant : Bool) (turn : Turn PunchPhase) (new : Pool)
    → (k.exact ≡ true → k.state.reserved p.hole.file p.index ≡ true) → PunchDeleteRow (pool_of k.state) grant p turn new
    → Steps (at.Delete p) k turn new
by_machine p k grant turn new sure row =
    by_test
    (splits (k.state.reserved p.hole.file) p.index && nat_le (k.state.spare p.hole.file) (k.state.pending p.hole.file) && not grant) row
    (λ _ r. went call.Punch _ k _ _ turn new r (denied p k))
    (λ _ r. went call.Punch _ k _ _ turn new r (deleted p k _ sure))

-- the count is raised by one for an index that isn't in the map, or that is refused, and what is owed is ignored
raised : (p : Delete) (k : In (at.Delete p)) (may : Bool) (resv : ℕ) → resv ≡ k.state.resv + bit may → (k.exact ≡ true → may ≡ true)
    → Booked (call.Punch (at.Delete p)) k (record (pool_of k.state) { resv = resv }) (Some (freeing p false))
raised p k may resv is sure =
    let o = owes _ k in
    let l = few may in
    record {
      es = GivesBack (bit may) ∷ Ignores (1 - bit may) ∷ [];
      may = ((omega arith), ((omega arith), tt));
      careful = λ e. (tt, (tt, tt));
      exact = λ e. (let z = ap bit (sure e) in omega arith);
      tables = refl;
      hands = inl (same_hands _ k (Some (freeing p false)) refl);
      owed = omega arith;
      promised = omega arith;
      marks = λ u d. refl;
      count = omega arith;
      stands = k.stands;
      others = λ u d. (refl, λ v x e. e);
      ranges = k.ranges;
      fits = k.fits;
    }
  where
    few : (b : Bool) → bit b ≤ 1
    few true = omega arith
    few false = omega arith

punch_delete : (p : Delete) (k : In (at.Delete p)) (killed grant : Bool) (turn : Turn PunchPhase) (new : Pool) → k.exact ≡ false
    → MayPunch (pool_of k.state) k.task killed grant (at.Delete p) turn new → Steps (at.Delete p) k turn new
punch_delete p k killed grant turn new loose (inl r) = by_machine p k grant turn new (λ e. clash k.exact e loose) r
punch_delete p k killed grant turn new loose (inr (inl row)) =
    by_test (k.state.reserved p.hole.file p.index) row
    (λ _ r. by_machine p k grant turn new (λ e. clash k.exact e loose) r)
    (λ _ r. went call.Punch _ k _ _ turn new r (raised p k (nat_le (k.state.resv + 1) (frees (pool_of k.state))) _
    (by_one (nat_le (k.state.resv + 1) (frees (pool_of k.state))) k.state.resv) (λ e. clash k.exact e loose)))
  where
    by_one : (b : Bool) (n : ℕ) → (if b then n + 1 else n) ≡ n + bit b
    by_one true n = refl
    by_one false n = omega arith
punch_delete p k killed grant turn new loose (inr (inr r)) = went call.Punch _ k _ _ turn new r (denied p k)

repaired_delete : (p : Delete) (k : In (at.Delete p)) (grant : Bool) (turn : Turn PunchPhase) (new : Pool)
    → AccountedDeleteRow (pool_of k.state) grant p turn new → Steps (at.Delete p) k turn new
repaired_delete p k grant turn new row =
    by_test (k.state.reserved p.hole.file p.index) row
    (λ marked r. elim r [
      | inl q ↦ by_machine p k grant turn new (λ e. marked) q
      | inr q ↦ went call.Punch _ k _ _ turn new q (denied p k)
    ])
    (λ _ r. went call.Punch _ k _ _ turn new r (raised p k true _ refl (λ e. refl)))

-- the frame is freed, with its reservation where its index stays
with_its_count : (p : Free) (k : In (at.Free p)) → p.denied ≡ true
    → Booked (call.Punch (at.Free p)) k (restored (pool_of k.state) p.held)
    (Some (call.Punch (at.Unslot (record { hole = p.hole; index = p.index }))))
with_its_count p k d =
    restores _ k p.hole.file p.index p.held _ (ap (λ (b : Bool). (Some p.held, bit b, 0)) d) refl (ap place_of k.stands.0, k.stands.1)

alone : (p : Free) (k : In (at.Free p)) → p.denied ≡ false → (n : ℕ)
    → Booked (call.Punch (at.Free p)) k (record (pool_of k.state) { frame = put k.state.frame p.held frame.Free; used = n })
    (Some (call.Punch (at.Unslot (record { hole = p.hole; index = p.index }))))
alone p k d n = frees_frame _ k p.held n _ refl refl (ap bit (sym d)) refl (ap place_of k.stands.0, k.stands.1)

-- the raise for an index that stays is refused, and what is owed is ignored
uncounted : (p : Free) (k : In (at.Free p)) → p.denied ≡ true → k.exact ≡ false
    → Booked (call.Punch (at.Free p)) k (record (pool_of k.state) { frame = put k.state.frame p.held frame.Free })
    (Some (call.Punch (at.Unslot (record { hole = p.hole; index = p.index }))))
uncounted p k d loose =
    let o = owes _ k in
    let a = ap bit d in
    record {
      es = Frees k.task p.held ∷ Ignores 1 ∷ [];
      may = (in_hand _ k, ((omega arith), tt));
      careful = λ e. (tt, (tt, tt));
      exact = λ e. clash k.exact e loose;
      tables = refl;
      hands = inl refl;
      owed = omega arith;
      promised = omega arith;
      marks = λ u d. refl;
      count = omega arith;
      stands = (ap place_of k.stands.0, k.stands.1);
      others = λ u d. (refl, λ v x e. e);
      ranges = k.ranges;
      fits = k.fits;
    }

-- or it is left to become free later
left_to_be_free : (p : Free) (k : In (at.Free p)) (raised used resv : ℕ) → raised ≤ bit p.denied → resv ≡ k.state.resv + raised
    → (k.exact ≡ true → bit p.denied ≤ raised)
    → Booked (call.Punch (at.Free p)) k (record (pool_of k.state) { resv = resv; used = used })
    (Some (call.Punch (at.Unslot (record { hole = p.hole; index = p.index }))))
left_to_be_free p k raised used resv low is all =
    let o = owes _ k in
    record {
      es = HandsOver k.task (k.state.geometry.tasks + 1 + p.held) p.held ∷ GivesBack raised ∷ Ignores (bit p.denied - raised) ∷ [];
      may = ((k.held, k.spare p.held refl), ((omega arith), ((omega arith), tt)));
      careful = λ e. (tt, (tt, (tt, tt)));
      exact = λ e. (let z = all e in omega arith);
      tables = refl;
      hands = inr (p.held, refl, refl, refl);
      owed = omega arith;
      promised = omega arith;
      marks = λ u d. refl;
      count = omega arith;
      stands = (ap place_of k.stands.0, k.stands.1);
      others = λ u d. (refl, λ v x e. e);
      ranges = k.ranges;
      fits = k.fits;
    }

freed_at_once : (p : Free) (k : In (at.Free p)) (turn : Turn PunchPhase) (new : Pool)
    → PunchFreeRow (pool_of k.state) p turn new ⊎ UntalliedFreeRow (pool_of k.state) p turn new → Steps (at.Free p) k turn new
freed_at_once p k turn new (inl row) =
    by_test p.denied row
    (λ d r. went call.Punch _ k _ _ turn new r (with_its_count p k d))
    (λ d r. went call.Punch _ k _ _ turn new r.1 (alone p k d (k.state.used - 1)))
freed_at_once p k turn new (inr row) =
    by_test p.denied row
    (λ d r. went call.Punch _ k _ _ turn new r (with_its_count p k d))
    (λ d r. went call.Punch _ k _ _ turn new r (alone p k d (k.state.used - 1)))

punch_free : (p : Free) (k : In (at.Free p)) (killed grant : Bool) (turn : Turn PunchPhase) (new : Pool) → k.exact ≡ false
    → MayPunch (pool_of k.state) k.task killed grant (at.Free p) turn new → Steps (at.Free p) k turn new
punch_free p k killed grant turn new loose (inl r) = freed_at_once p k turn new (inl r)
punch_free p k killed grant turn new loose (inr (inl r)) = freed_at_once p k turn new (inr r)
punch_free p k killed grant turn new loose (inr (inr (inl (n, used, low, r)))) =
    went call.Punch _ k _ _ turn new r (left_to_be_free p k n used _ low refl (λ e. clash k.exact e loose))
punch_free p k killed grant turn new loose (inr (inr (inr (d, r)))) = went call.Punch _ k _ _ turn new r (uncounted p k d loose)

repaired_punch_free : (p : Free) (k : In (at.Free p)) (killed grant : Bool) (turn : Turn PunchPhase) (new : Pool)
    → RepairedPunch (pool_of k.state) k.task killed grant (at.Free p) turn new → Steps (at.Free p) k turn new
repaired_punch_free p k killed grant turn new (inl r) = freed_at_once p k turn new (inl r)
repaired_punch_free p k killed grant turn new (inr (inl r)) = freed_at_once p k turn new (inr r)
repaired_punch_free p k killed grant turn new (inr (inr (used, r))) =
    went call.Punch _ k _ _ turn new r (left_to_be_free p k (bit p.denied) used _ (omega arith) refl (λ e. (omega arith)))

punch_unslot : (p : Unslot) (k : In (at.Unslot p)) (killed grant : Bool) (turn : Turn PunchPhase) (new : Pool)
    → MayPunch (pool_of k.state) k.task killed grant (at.Unslot p) turn new → Steps (at.Unslot p) k turn new
punch_unslot p k killed grant turn new row =
    by_test (nat_lt (p.index + 1) (p.hole.from + p.hole.len)) row
    (λ further r. went call.Punch _ k _ _ turn new r (leaves_slot _ k p.hole.file p.index _ refl k.stands.0
    (λ m e. (e, (k.stands.1.0, lt (p.index + 1) (p.hole.from + p.hole.len) further, k.stands.1.2)))))
    (λ _ r. went call.Punch _ k _ _ turn new r (leaves_slot _ k p.hole.file p.index _ refl k.stands.0 (λ m e. e)))

punch_leave : (p : Leave) (k : In (at.Leave p)) (killed grant : Bool) (turn : Turn PunchPhase) (new : Pool)
    → MayPunch (pool_of k.state) k.task killed grant (at.Leave p) turn new → Steps (at.Leave p) k turn new
punch_leave p k killed grant turn new r = over call.Punch _ k answer.Done _ turn new r (quiet _ k _ None refl refl refl k.stands k.fits)

-- by Linux's rows
pub punch_steps : (phase : PunchPhase) (k : In phase) (killed grant : Bool) (turn : Turn PunchPhase) (new : Pool) → k.exact ≡ false
    → MayPunch (pool_of k.state) k.task killed grant phase turn new → Steps phase k turn new
punch_steps (at.Start p) k killed grant turn new loose r = punch_start p k killed grant turn new r
punch_steps (at.Want p) k killed grant turn new loose r = punch_want p k killed grant turn new r
punch_steps (at.Locked p) k killed grant turn new loose r = punch_locked p k killed grant turn new r
punch_steps (at.Unmap p) k killed grant turn new loose r = punch_unmap p k killed grant turn new r
punch_steps (at.Evict p) k killed grant turn new loose r = punch_evict p k killed grant turn new r
punch_steps (at.Delete p) k killed grant turn new loose r = punch_delete p k killed grant turn new loose r
punch_steps (at.Free p) k killed grant turn new loose r = punch_free p k killed grant turn new loose r
punch_steps (at.Unslot p) k killed grant turn new loose r = punch_unslot p k killed grant turn new r
punch_steps (at.Leave p) k killed grant turn new loose r = punch_leave p k killed grant turn new r

-- and by repaired ones
pub repaired_punch_steps : (phase : PunchPhase) (k : In phase) (killed grant : Bool) (turn : Turn PunchPhase) (new : Pool)
    → RepairedPunch (pool_of k.state) k.task killed grant phase turn new → Steps phase k turn new
repaired_punch_steps (at.Start p) k killed grant turn new r = punch_start p k killed grant turn new r
repaired_punch_steps (at.Want p) k killed grant turn new r = punch_want p k killed grant turn new r
repaired_punch_steps (at.Locked p) k killed grant turn new r = punch_locked p k killed grant turn new r
repaired_punch_steps (at.Unmap p) k killed grant turn new r = punch_unmap p k killed grant turn new r
repaired_punch_steps (at.Evict p) k killed grant turn new r = punch_evict p k killed grant turn new r
repaired_punch_steps (at.Delete p) k killed grant turn new r = repaired_delete p k grant turn new r
repaired_punch_steps (at.Free p) k killed grant turn new r = repaired_punch_free p k killed grant turn new r
repaired_punch_steps (at.Unslot p) k killed grant turn new r = punch_unslot p k killed grant turn new r
repaired_punch_steps (at.Leave p) k killed grant turn new r = punch_leave p k killed grant turn new r
