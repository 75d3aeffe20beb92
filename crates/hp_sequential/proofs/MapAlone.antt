-- A map that runs alone means what the table says.
use Rattle.std.proofs.Common.{◌≡◌, ℕ, ◌+◌, ◌-◌, refl, ap, sym, ◌∙◌, subst}
use Rattle.std.specs.Prelude.{Bool, true, false, ◌==◌, nat_lt, Some, None, max, if◌then◌else◌}
use Rattle.hp_base.specs.Numbers.{put}
use Rattle.hp_base.specs.Indices.{missing, add_range, touches}
use Rattle.hp_base.specs.Mappings.{IsRoom, entered}
use Rattle.hp_base.specs.declared.answer.Answer.{Answer}
use Rattle.hp_base.specs.declared.answer.Answer.TheVariants.{Killed}
use Rattle.hp_frames.specs.Bank.{exceeds}
use Rattle.hp_machine.specs.State.{Pool, State, pool_of, free_frames}
use Rattle.hp_machine.specs.Headline.{reserved_in}
use Rattle.hp_machine.specs.MapRows.{MapRow}
use Rattle.hp_machine.specs.declared.map.MapRequest.{MapRequest}
use Rattle.hp_machine.specs.declared.map.MapPhase.{MapPhase}
use Rattle.hp_machine.specs.declared.map.MapPhase.TheVariants as at
use Rattle.hp_machine.specs.declared.call.Call.TheVariants as call
use Rattle.hp_machine.specs.declared.call.Turn.{Turn}
use Rattle.hp_laws.proofs.Invariant.{Inv}
use Rattle.hp_laws.proofs.Shared.{by_test, by_option}
use Rattle.hp_sequential.specs.Meaning.{IsReady, Looks, Checked, is_bad_range, exceeds_quota, MapMeans, MapNoReserveMeans}
use Rattle.hp_sequential.proofs.Alone.{if_false, Leads, next, moves, goes_on, ends_so, over, Comes}
use Rattle.hp_sequential.proofs.Idle.{so_true, so_false, so_none, so_some, finish, idle_again, settled_used, free_lock, put_back, pending_back}
use Rattle.hp_sequential.proofs.Idle.{not_below_itself, and_false, checked}

-- granted steps of a task that isn't killed
abbrev pub MapSteps : (task : ℕ) → Pool → MapPhase → Turn MapPhase → Pool → Type 0
MapSteps t s p turn new = MapRow s t false true p turn new

-- what is to be mapped
abbrev asked : (reserve : Bool) → (file from len : ℕ) → MapRequest
asked reserve f from len = record { reserve = reserve; file = f; from = from; len = len }

-- the file's lock is held
abbrev locked : State → (task file : ℕ) → Pool
locked s t f = record (pool_of s) { locks = put s.locks f (Some t) }

-- the change of the range is begun, under the lock
abbrev changing : State → (task file : ℕ) → Pool
changing s t f =
    record (locked s t f) {
      ready = put s.ready t true;
      pending = put s.pending f (s.pending f + 1);
      spare = put s.spare f (max (s.spare f) (s.pending f + 1));
    }

-- the frames are counted
change_maps : (s : State) (t f from len base : ℕ) (b : Answer) (n : State) (end : Pool) (last : MapPhase) → s.used ≡ reserved_in s
    → s.locks f ≡ None
    → s.calls t ≡ None → IsRoom s.geometry.space (s.mappings t) len (Some base)
    → Leads (MapSteps t) b end (changing s t f)
    (at.Changed (record {
      map = asked true f from len;
      base = base;
      pending = record { from = from; to = from + len; missing = missing (s.reserved f) from (from + len) };
    }))
    → n ≡ over call.Map s t end last
    → (m : State) × MapMeans s t f from len b m × Looks m n
change_maps s t f from len base b n end last settled unlocked idle room k is =
    let z = next k in
    let locks = put_back s.locks f (Some t) None unlocked in
    let calls = idle_again s t idle in
    let pending = pending_back s.pending f in
    let test : exceeds_quota s (missing (s.reserved f) from (from + len)) ≡ exceeds s.geometry.quota s.used (missing (s.reserved f) from
    (from + len)) = ap (λ (n : ℕ). exceeds s.geometry.quota n (missing (s.reserved f) from (from + len))) (sym settled) in
    by_test (exceeds s.geometry.quota s.used (missing (s.reserved f) from (from + len))) z.2
    (λ over r.
    let k1 = goes_on (moves z.3 r) (λ turn m r. r) in
    let x = ends_so k1 (λ turn m r. r) in
    finish call.Map s t last (MapMeans s t f from len) s x is (Some base, room, so_true _ _ (test ∙ over) (refl, refl))
    (λ j. record s {
      pool = record s.pool {
        locks = locks j;
        pending = pending j;
        spare = put s.spare f (max (s.spare f) (s.pending f + 1));
        ready = put s.ready t true;
      };
      calls = calls j;
    }))
    (λ fits r.
    by_test (nat_lt (free_frames s.frame s.frames - s.resv) (missing (s.reserved f) from (from + len))) r
    (λ short r.
    let k1 = goes_on (moves z.3 r) (λ turn m r. r) in
    let x = ends_so k1 (λ turn m r. r) in
    finish call.Map s t last (MapMeans s t f from len) s x is
    (Some base, room, so_false _ _ (test ∙ fits) (so_true _ _ short (refl, refl)))
    (λ j. record s {
      pool = record s.pool {
        locks = locks j;
        pending = pending j;
        spare = put s.spare f (max (s.spare f) (s.pending f + 1));
        ready = put s.ready t true;
      };
      calls = calls j;
    }))
    (λ enough r.
    let k1 = goes_on (moves z.3 r) (λ turn m r. if_false _ _ (not_below_itself (missing (s.reserved f) from (from + len))) r) in
    let k2 = goes_on k1 (λ turn m r. r) in
    let x = ends_so k2 (λ turn m r. r) in
    let spare = put s.spare f (max (s.spare f) (s.pending f + 1)) in
    finish call.Map s t last (MapMeans s t f from len) _ x is
    (Some base, room, so_false _ _ (test ∙ fits) (so_false _ _ enough (refl, refl)))
    (λ j. record s {
      pool = record s.pool {
        mappings = put s.mappings t (entered (s.mappings t) (record { base = base; file = f; from = from; len = len }));
        reserved = put s.reserved f (add_range (s.reserved f) from (from + len));
        resv = s.resv + missing (s.reserved f) from (from + len);
        used = s.used + missing (s.reserved f) from (from + len);
        size = put s.size f (max (s.size f) (from + len));
        locks = locks j;
        pending = pending j;
        spare = put spare f (if touches (s.reserved f) from (from + len) then spare f else spare f - 1);
        ready = put (put s.ready t true) t false;
      };
      calls = calls j;
    })))

-- with the lock, with a reservation
room_maps : (s : State) (t f from len : ℕ) (b : Answer) (n : State) (end : Pool) (last : MapPhase) → s.used ≡ reserved_in s
    → s.locks f ≡ None → s.calls t ≡ None
    → Leads (MapSteps t) b end (locked s t f) (at.Room (record { map = asked true f from len })) → n ≡ over call.Map s t end last
    → (m : State) × MapMeans s t f from len b m × Looks m n
room_maps s t f from len b n end last settled unlocked idle k is =
    let z = next k in
    let locks = put_back s.locks f (Some t) None unlocked in
    let calls = idle_again s t idle in
    by_option z.2.0 z.2.2
    (λ none r.
    let y = ends_so (moves z.3 r) (λ turn m r. r) in
    finish call.Map s t last (MapMeans s t f from len) s y is (z.2.0, z.2.1, so_none _ _ none (refl, refl))
    (λ j. record s { pool = record s.pool { locks = locks j }; calls = calls j }))
    (λ base some r.
    let k1 = goes_on (moves z.3 r) (λ turn m r. if_false _ _ (and_false (s.spare f == s.pending f)) r) in
    change_maps s t f from len base b n end last settled unlocked idle (subst (IsRoom s.geometry.space (s.mappings t) len) some z.2.1) k1 is)

-- and without one
room_enters : (s : State) (t f from len : ℕ) (b : Answer) (n : State) (end : Pool) (last : MapPhase) → s.locks f ≡ None → s.calls t ≡ None
    → Leads (MapSteps t) b end (locked s t f) (at.Room (record { map = asked false f from len })) → n ≡ over call.Map s t end last
    → (m : State) × MapNoReserveMeans s t f from len b m × Looks m n
room_enters s t f from len b n end last unlocked idle k is =
    let z = next k in
    let locks = put_back s.locks f (Some t) None unlocked in
    let calls = idle_again s t idle in
    by_option z.2.0 z.2.2
    (λ none r.
    let y = ends_so (moves z.3 r) (λ turn m r. r) in
    finish call.Map s t last (MapNoReserveMeans s t f from len) s y is (z.2.0, z.2.1, so_none _ _ none (refl, refl))
    (λ j. record s { pool = record s.pool { locks = locks j }; calls = calls j }))
    (λ base some r.
    let k1 = goes_on (moves z.3 r) (λ turn m r. r) in
    let x = ends_so k1 (λ turn m r. r) in
    finish call.Map s t last (MapNoReserveMeans s t f from len) _ x is (z.2.0, z.2.1, so_some _ _ base some (refl, refl))
    (λ j. record s {
      pool = record s.pool {
        mappings = put s.mappings t (entered (s.mappings t) (record { base = base; file = f; from = from; len = len }));
        size = put s.size f (max (s.size f) (from + len));
        locks = locks j;
        ready = put (put s.ready t true) t false;
      };
      calls = calls j;
    }))

-- a map from its first phase on
pub map_means : (s : State) (t f from len : ℕ) (b : Answer) (n : State) → Inv s.geometry s → IsReady s t
    → Comes call.Map (MapSteps t) s t b n (pool_of s) (at.Start (record { map = asked true f from len }))
    → (m : State) × Checked s f (is_bad_range s from len) b m (MapMeans s t f from len b m) × Looks m n
map_means s t f from len b n h ready (end, last, k, is) =
    checked call.Map (MapSteps t) s t f (is_bad_range s from len) b n end last _
    (at.Room (record { map = asked true f from len })) Killed (MapMeans s t f from len) (free_lock s h ready.0 f)
    (ready.0 t) refl (λ turn m r. r) k is
    (λ _ _ k. room_maps s t f from len b n end last (settled_used s h ready.0) (free_lock s h ready.0 f) (ready.0 t) k is)

-- and one without a reservation
pub map_no_reserve_means : (s : State) (t f from len : ℕ) (b : Answer) (n : State) → Inv s.geometry s → IsReady s t
    → Comes call.Map (MapSteps t) s t b n (pool_of s) (at.Start (record { map = asked false f from len }))
    → (m : State) × Checked s f (is_bad_range s from len) b m (MapNoReserveMeans s t f from len b m) × Looks m n
map_no_reserve_means s t f from len b n h ready (end, last, k, is) =
    checked call.Map (MapSteps t) s t f (is_bad_range s from len) b n end last _
    (at.Room (record { map = asked false f from len })) Killed (MapNoReserveMeans s t f from len)
    (free_lock s h ready.0 f) (ready.0 t) refl (λ turn m r. r) k is
    (λ _ _ k. room_enters s t f from len b n end last (free_lock s h ready.0 f) (ready.0 t) k is)
