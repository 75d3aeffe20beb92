-- Each step of a map as entries.
use Rattle.std.proofs.Common.{◌≡◌, ℕ, ◌+◌, ◌-◌, ◌<◌, ◌≤◌, refl, sym, subst, arith, inl, inr}
use Rattle.std.specs.Prelude.{◌==◌, ◌&&◌, Bool, true, false, not, nat_lt, nat_le, max, Option, Some, None, MatchBool, MatchOption, [], ◌∷◌}
use Rattle.std.proofs.lemmas.Bool.Decides.{nat_tests}
use Rattle.hp_base.specs.Indices.{missing}
use Rattle.hp_base.specs.Mappings.{IsRoom, entered}
use Rattle.hp_base.specs.Numbers.{put}
use Rattle.hp_base.specs.declared.answer.Answer.{Answer}
use Rattle.hp_base.specs.declared.answer.Answer.TheVariants as answer
use Rattle.hp_base.specs.declared.mapping.Mapping.{Mapping}
use Rattle.hp_base.proofs.Puts.{put_same, put_other, put_tells}
use Rattle.hp_machine.specs.State.{Pool, pool_of, frees, exceeds_quota}
use Rattle.hp_machine.specs.Events.{left}
use Rattle.hp_machine.specs.MapRows.{MapAccountedRow}
use Rattle.hp_machine.specs.Parts.{Goes, is_bad_range, committed}
use Rattle.hp_machine.specs.Views.{behind, ahead, hand}
use Rattle.hp_machine.specs.declared.map.Start.{Start}
use Rattle.hp_machine.specs.declared.map.Room.{Room}
use Rattle.hp_machine.specs.declared.map.Missing.{Missing}
use Rattle.hp_machine.specs.declared.map.Changed.{Changed}
use Rattle.hp_machine.specs.declared.map.Accounted.{Accounted}
use Rattle.hp_machine.specs.declared.map.Settle.{Settle}
use Rattle.hp_machine.specs.declared.map.Enter.{Enter}
use Rattle.hp_machine.specs.declared.map.MapPhase.{MapPhase}
use Rattle.hp_machine.specs.declared.map.MapPhase.TheVariants as at
use Rattle.hp_machine.specs.declared.call.Call.TheVariants as call
use Rattle.hp_machine.specs.declared.call.Turn.{Turn}
use Rattle.hp_laws.proofs.Deciding.{lt, le, clash}
use Rattle.hp_laws.proofs.Invariant.{AllWithin}
use Rattle.hp_laws.proofs.Shared.{by_test, by_option, good_range}
use Rattle.hp_laws.proofs.Tables.{within_entered}
use Rattle.hp_accounts.specs.Books.{Away}
use Rattle.hp_accounts.specs.Entries.{Accounts, Settles, Commits, GivesBack, EntersArea}
use Rattle.hp_linux_laws.specs.MayRows.{MayMap}
use Rattle.hp_linux_laws.specs.RepairedRows.{RepairedMap, AccountedMapRow}
use Rattle.hp_linux_laws.proofs.Stepping.{From, Booked, same_hands, has_promised, quiet, went, over, waits}
use Rattle.hp_linux_laws.proofs.Making.{KnownAt}

abbrev pub In : MapPhase → Type 0
In p = From (call.Map p)

abbrev pub Steps : (p : MapPhase) → In p → Turn MapPhase → Pool → Type 0
Steps p k turn new = Booked (call.Map p) k new (left call.Map turn)

map_start : (p : Start) (k : In (at.Start p)) (killed grant : Bool) (turn : Turn MapPhase) (new : Pool)
    → MayMap (pool_of k.state) k.task killed grant (at.Start p) turn new → Steps (at.Start p) k turn new
map_start p k killed grant turn new row =
    let ends : (a : Answer)
    → Booked (call.Map (at.Start p)) k (pool_of k.state) None = λ a. quiet _ k _ None refl refl refl k.stands k.fits in
    by_test (nat_le k.state.geometry.files p.map.file) row
    (λ _ r. over call.Map _ k _ _ turn new r (ends answer.BadFile))
    (λ file r. by_test (is_bad_range (pool_of k.state) p.map.from p.map.len) r
    (λ _ r. over call.Map _ k _ _ turn new r (ends answer.BadRange))
    (λ good r. by_test killed r
    (λ _ r. over call.Map _ k _ _ turn new r (ends answer.Killed))
    (λ _ r. by_option (k.state.locks p.map.file) r
    (λ _ r. went call.Map _ k _ _ turn new r (quiet _ k _ _ refl refl refl
    (k.stands, (below k.state.geometry.files p.map.file file, (good_range k.state p.map.from p.map.len good).1)) k.fits))
    (λ u _ r. waits call.Map _ k (at.Start p) u turn new r (quiet _ k _ _ refl refl refl k.stands k.fits)))))
  where
    below : (n f : ℕ) → nat_le n f ≡ false → f < n
    below n f e = grind (arith, nat_tests)

map_room : (p : Room) (k : In (at.Room p)) (killed grant : Bool) (turn : Turn MapPhase) (new : Pool)
    → MayMap (pool_of k.state) k.task killed grant (at.Room p) turn new → Steps (at.Room p) k turn new
map_room p k killed grant turn new (found, room, row) = here found room row
  where
    here : (found : Option ℕ) → IsRoom k.state.geometry.space (k.state.mappings k.task) p.map.len found
        → MatchOption found
        (Goes (at.Leave (record { map = p.map; answer = answer.NoAddress })) (pool_of k.state) turn new)
        (λ base. MatchBool grant
        (MatchBool p.map.reserve
        (Goes (at.Missing (record { map = p.map; base = base }))
        (record (pool_of k.state) { ready = put k.state.ready k.task true }) turn new)
        (Goes (at.Enter (record { map = p.map; base = base }))
        (record (pool_of k.state) { ready = put k.state.ready k.task true }) turn new))
        (Goes (at.Leave (record { map = p.map; answer = answer.NoMemory })) (pool_of k.state) turn new))
        → Steps (at.Room p) k turn new
    here None room r = went call.Map _ k _ _ turn new r (quiet _ k _ _ refl refl refl k.stands.0 k.fits)
    here (Some base) room r =
        by_test grant r
        (λ _ r. by_test p.map.reserve r
        (λ _ r. went call.Map _ k _ _ turn new r (quiet _ k _ _ refl refl refl (k.stands.0, (k.stands.1, room.0)) k.fits))
        (λ _ r. went call.Map _ k _ _ turn new r (quiet _ k _ _ refl refl refl (k.stands.0, (k.stands.1, room.0)) k.fits)))
        (λ _ r. went call.Map _ k _ _ turn new r (quiet _ k _ _ refl refl refl k.stands.0 k.fits))

map_missing : (p : Missing) (k : In (at.Missing p)) (killed grant : Bool) (turn : Turn MapPhase) (new : Pool)
    → MayMap (pool_of k.state) k.task killed grant (at.Missing p) turn new → Steps (at.Missing p) k turn new
map_missing p k killed grant turn new (inl row) =
    by_test ((k.state.spare p.map.file == k.state.pending p.map.file) && not grant) row
    (λ _ r. went call.Map _ k _ _ turn new r (quiet _ k _ _ refl refl refl k.stands.0 k.fits))
    (λ _ r. went call.Map _ k _ _ turn new r (quiet _ k _ _ refl refl refl (k.stands.0, k.stands.1, k.stands.1.0.1) k.fits))
map_missing p k killed grant turn new (inr r) = went call.Map _ k _ _ turn new r (quiet _ k _ _ refl refl refl k.stands.0 k.fits)

-- what is missing is counted
accounts : (p : Changed) (k : In (at.Changed p)) (n : ℕ) → Booked (call.Map (at.Changed p)) k
    (record (pool_of k.state) { resv = k.state.resv + p.pending.missing; used = n })
    (Some (call.Map (at.Accounted (record { map = p.map; base = p.base; pending = p.pending }))))
accounts p k n = record {
  es = Accounts p.pending.missing ∷ [];
  may = (tt, tt);
  careful = λ e. (tt, tt);
  exact = λ e. refl;
  tables = refl;
  hands = inl (same_hands _ k (Some (call.Map (at.Changed p))) refl);
  owed = refl;
  promised = omega arith;
  marks = λ u d. refl;
  count = omega arith;
  stands = k.stands;
  others = λ u d. (refl, λ v x e. e);
  ranges = k.ranges;
  fits = k.fits;
}

map_changed : (p : Changed) (k : In (at.Changed p)) (killed grant : Bool) (turn : Turn MapPhase) (new : Pool)
    → MayMap (pool_of k.state) k.task killed grant (at.Changed p) turn new → Steps (at.Changed p) k turn new
map_changed p k killed grant turn new row =
    let aborts : (a : Answer) → Booked (call.Map (at.Changed p)) k (pool_of k.state)
    (Some (call.Map (at.Abort (record { map = p.map; pending = p.pending; answer = a })))) =
    λ a. quiet _ k _ _ refl refl refl k.stands.0 k.fits in
    elim row [
      | inl r ↦ by_test killed r
          (λ _ r. went call.Map _ k _ _ turn new r (aborts answer.Killed))
          (λ _ r. by_test (exceeds_quota (pool_of k.state) p.pending.missing) r
          (λ _ r. went call.Map _ k _ _ turn new r (aborts answer.NoQuota))
          (λ _ r. by_test (nat_lt (frees (pool_of k.state) - k.state.resv) p.pending.missing) r
          (λ _ r. went call.Map _ k _ _ turn new r (aborts answer.NoFrame))
          (λ _ r. went call.Map _ k _ _ turn new r (accounts p k (k.state.used + p.pending.missing)))))
      | inr r ↦ went call.Map _ k _ _ turn new r (aborts answer.NoFrame)
    ]

-- of what a commit adds so much was promised, so much is given back, and so much ignored
commits : (p : Accounted) (k : In (at.Accounted p)) (next : MapPhase) (promised back l resv : ℕ) → promised ≤ p.pending.missing
    → promised + back + l ≡ missing (k.state.reserved p.map.file) p.pending.from p.pending.to → resv ≡ k.state.resv + back
    → (k.exact ≡ true → l ≡ 0) → hand (Some (call.Map next)) ≡ None → behind (Some (call.Map next)) ≡ 0
    → ahead (Some (call.Map next)) + promised ≡ p.pending.missing → KnownAt _ k Away (Some (call.Map next))
    → Booked (call.Map (at.Accounted p)) k (record (committed (pool_of k.state) p.map.file p.pending) { resv = resv })
    (Some (call.Map next))
commits p k next promised back l resv low parts raised none empty nothing left known =
    let h = has_promised _ k in
    record {
      es = Commits p.map.file p.pending.from p.pending.to promised back l ∷ GivesBack back ∷ [];
      may = ((k.stands.1.0.0, k.stands.2, (omega arith), parts), ((omega arith), tt));
      careful = λ e. (tt, (tt, tt));
      exact = λ e. (let z = none e in omega arith);
      tables = refl;
      hands = inl (same_hands _ k (Some (call.Map next)) empty);
      owed = omega arith;
      promised = omega arith;
      marks = λ u d. refl;
      count = omega arith;
      stands = subst (λ m. KnownAt _ k m (Some (call.Map next))) (sym k.stands.0) known;
      others = λ u d. (refl, λ v x e. e);
      ranges = k.ranges;
      fits = k.fits;
    }

-- a commit that adds less than was counted
settles : (p : Accounted) (k : In (at.Accounted p))
    → missing (k.state.reserved p.map.file) p.pending.from p.pending.to < p.pending.missing
    → Booked (call.Map (at.Accounted p)) k (committed (pool_of k.state) p.map.file p.pending) (Some (call.Map (at.Settle (record {
      map = p.map;
      base = p.base;
      excess = p.pending.missing - missing (k.state.reserved p.map.file) p.pending.from p.pending.to;
    }))))
settles p k fewer =
    commits p k _ (missing (k.state.reserved p.map.file) p.pending.from p.pending.to) 0 0 k.state.resv (omega arith)
    (omega arith) (omega arith)
    (λ e. refl) refl refl (omega arith) (refl, k.stands.1)

map_ignores : (p : Accounted) (k : In (at.Accounted p)) (turn : Turn MapPhase) (new : Pool) → k.exact ≡ false
    → MapAccountedRow (pool_of k.state) p turn new → Steps (at.Accounted p) k turn new
map_ignores p k turn new loose row =
    let m = missing (k.state.reserved p.map.file) p.pending.from p.pending.to in
    by_test (nat_lt m p.pending.missing) row
    (λ fewer r. went call.Map _ k _ _ turn new r (settles p k (lt m p.pending.missing fewer)))
    (λ all r. let w = le m p.pending.missing all in went call.Map _ k _ _ turn new r
    (commits p k _ p.pending.missing 0 (m - p.pending.missing) k.state.resv (omega arith) (omega arith) (omega arith)
    (λ e. clash k.exact e loose) refl refl (omega arith) (refl, k.stands.1)))

map_accounts : (p : Accounted) (k : In (at.Accounted p)) (turn : Turn MapPhase) (new : Pool)
    → AccountedMapRow (pool_of k.state) p turn new → Steps (at.Accounted p) k turn new
map_accounts p k turn new row =
    let m = missing (k.state.reserved p.map.file) p.pending.from p.pending.to in
    by_test (nat_lt m p.pending.missing) row
    (λ fewer r. went call.Map _ k _ _ turn new r (settles p k (lt m p.pending.missing fewer)))
    (λ all r. let w = le m p.pending.missing all in went call.Map _ k _ _ turn new r
    (commits p k _ p.pending.missing (m - p.pending.missing) 0 (k.state.resv + (m - p.pending.missing)) (omega arith) (omega arith) refl
    (λ e. refl) refl refl (omega arith) (refl, k.stands.1)))

map_settle : (p : Settle) (k : In (at.Settle p)) (killed grant : Bool) (turn : Turn MapPhase) (new : Pool)
    → MayMap (pool_of k.state) k.task killed grant (at.Settle p) turn new → Steps (at.Settle p) k turn new
map_settle p k killed grant turn new (low, r) = let h = has_promised _ k in went call.Map _ k _ _ turn new r (record {
  es = Settles p.excess ∷ [];
  may = (h, tt);
  careful = λ e. (tt, tt);
  exact = λ e. refl;
  tables = refl;
  hands = inl (same_hands _ k (Some (call.Map (at.Settle p))) refl);
  owed = refl;
  promised = omega arith;
  marks = λ u d. refl;
  count = omega arith;
  stands = k.stands;
  others = λ u d. (refl, λ v x e. e);
  ranges = k.ranges;
  fits = k.fits;
})

-- the mapping is entered, and the size may grow
map_enter : (p : Enter) (k : In (at.Enter p)) (killed grant : Bool) (turn : Turn MapPhase) (new : Pool)
    → MayMap (pool_of k.state) k.task killed grant (at.Enter p) turn new → Steps (at.Enter p) k turn new
map_enter p k killed grant turn new r = went call.Map _ k _ _ turn new r (record {
  es = EntersArea k.task area ∷ [];
  may = (k.stands.1.1, tt);
  careful = λ e. (tt, tt);
  exact = λ e. refl;
  tables = refl;
  hands = inl (same_hands _ k (Some (call.Map (at.Enter p))) refl);
  owed = refl;
  promised = refl;
  marks = λ u d. refl;
  count = omega arith;
  stands = k.stands.0;
  others = λ u d. (put_other k.state.mappings k.task (entered (k.state.mappings k.task) area) u d, λ v x e. e);
  ranges = subst (AllWithin k.state.geometry) (sym (put_same k.state.mappings k.task (entered (k.state.mappings k.task) area)))
      (within_entered k.state.geometry (k.state.mappings k.task) area k.stands.1.0.0 k.stands.1.0.1 k.ranges);
  fits = (λ f. sized f, k.fits.1);
})
  where
    area : Mapping
    area = record { base = p.base; file = p.map.file; from = p.map.from; len = p.map.len }

    sized : (f : ℕ) → put k.state.size p.map.file (max (k.state.size p.map.file) (p.map.from + p.map.len)) f ≤ k.state.geometry.limit
    sized f = elim (put_tells k.state.size p.map.file (max (k.state.size p.map.file) (p.map.from + p.map.len)) f) [
      | inl q ↦ (let a = q.1 in let b = k.fits.0 p.map.file in let d = k.stands.1.0.1 in omega arith)
      | inr q ↦ (let a = q.1 in let b = k.fits.0 f in omega arith)
    ]

-- by Linux's rows
pub map_steps : (phase : MapPhase) (k : In phase) (killed grant : Bool) (turn : Turn MapPhase) (new : Pool) → k.exact ≡ false
    → MayMap (pool_of k.state) k.task killed grant phase turn new → Steps phase k turn new
map_steps (at.Start p) k killed grant turn new loose r = map_start p k killed grant turn new r
map_steps (at.Room p) k killed grant turn new loose r = map_room p k killed grant turn new r
map_steps (at.Missing p) k killed grant turn new loose r = map_missing p k killed grant turn new r
map_steps (at.Changed p) k killed grant turn new loose r = map_changed p k killed grant turn new r
map_steps (at.Abort p) k killed grant turn new loose r = went call.Map _ k _ _ turn new r (quiet _ k _ _ refl refl refl k.stands k.fits)
map_steps (at.Accounted p) k killed grant turn new loose r = map_ignores p k turn new loose r
map_steps (at.Settle p) k killed grant turn new loose r = map_settle p k killed grant turn new r
map_steps (at.Enter p) k killed grant turn new loose r = map_enter p k killed grant turn new r
map_steps (at.Leave p) k killed grant turn new loose r =
    over call.Map _ k p.answer _ turn new r (quiet _ k _ None refl refl refl k.stands k.fits)

-- and by repaired ones
pub repaired_map_steps : (phase : MapPhase) (k : In phase) (killed grant : Bool) (turn : Turn MapPhase) (new : Pool)
    → RepairedMap (pool_of k.state) k.task killed grant phase turn new → Steps phase k turn new
repaired_map_steps (at.Start p) k killed grant turn new r = map_start p k killed grant turn new r
repaired_map_steps (at.Room p) k killed grant turn new r = map_room p k killed grant turn new r
repaired_map_steps (at.Missing p) k killed grant turn new r = map_missing p k killed grant turn new r
repaired_map_steps (at.Changed p) k killed grant turn new r = map_changed p k killed grant turn new r
repaired_map_steps (at.Abort p) k killed grant turn new r = went call.Map _ k _ _ turn new r (quiet _ k _ _ refl refl refl k.stands k.fits)
repaired_map_steps (at.Accounted p) k killed grant turn new r = map_accounts p k turn new r
repaired_map_steps (at.Settle p) k killed grant turn new r = map_settle p k killed grant turn new r
repaired_map_steps (at.Enter p) k killed grant turn new r = map_enter p k killed grant turn new r
repaired_map_steps (at.Leave p) k killed grant turn new r =
    over call.Map _ k p.answer _ turn new r (quiet _ k _ None refl refl refl k.stands k.fits)
