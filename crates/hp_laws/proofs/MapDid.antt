-- What each row of a map did.
use Rattle.std.proofs.Common.{◌≡◌, ℕ, ◌+◌, ◌-◌, ◌≤◌, refl, ap, sym, ◌∙◌, subst, arith, inl}
use Rattle.std.specs.Prelude.{Bool, true, false, not, ◌&&◌, ◌==◌, nat_lt, max, Some}
use Rattle.hp_base.specs.Numbers.{put}
use Rattle.hp_base.specs.Indices.{is_within, missing, add_range}
use Rattle.hp_base.specs.Mappings.{IsRoom}
use Rattle.hp_base.specs.declared.answer.Answer.{Answer}
use Rattle.hp_base.specs.declared.answer.Answer.TheVariants as answer
use Rattle.hp_base.proofs.Puts.{put_same}
use Rattle.hp_base.proofs.Counting.{count_within-missing}
use Rattle.hp_base.proofs.Sets.{add_range_has}
use Rattle.hp_region.specs.Change.{Change}
use Rattle.hp_frames.proofs.Quotas.{more_within}
use Rattle.hp_machine.specs.State.{exceeds_quota, Pool, State, pool_of, free_frames, frees}
use Rattle.hp_machine.specs.MapRows.{MapRow}
use Rattle.hp_machine.specs.declared.map.MapRequest.{MapRequest}
use Rattle.hp_machine.specs.declared.map.MapPhase.{MapPhase}
use Rattle.hp_machine.specs.declared.map.MapPhase.TheVariants as at
use Rattle.hp_machine.specs.declared.call.Call.TheVariants as call
use Rattle.hp_machine.specs.declared.call.Turn.{Turn}
use Rattle.hp_laws.specs.Sweep.{passed}
use Rattle.hp_laws.proofs.Deciding.{lt, le}
use Rattle.hp_laws.proofs.Standing.{HasLock, IsFilled, IsRange, IsWhole, Stands, is_mapped}
use Rattle.hp_laws.proofs.Invariant.{Inv}
use Rattle.hp_laws.proofs.Passing.{no_passer}
use Rattle.hp_laws.proofs.Effects.{committing}
use Rattle.hp_laws.proofs.Shared.{by_test, by_option, stands_at, good_range}
use Rattle.hp_laws.proofs.Writes.{Nothing, LeavesLock, Opens, Aborts, Commits, Settles, Prepares, Accounts, EntersArea}
use Rattle.hp_laws.proofs.Did.{Did, went, over, start_did}

-- an answer that tells no mapping promises nothing
nothing : {A : Type 0} (b : Bool) → b ≡ false → b ≡ true → A
nothing b e d = let z : false ≡ true = sym e ∙ d in absurd (cc)

-- no more is missing of a range than its length
missing_few : (r : ℕ → Bool) (from len : ℕ) → missing r from (from + len) ≤ len
missing_few r from len = let a = count_within-missing r from (from + len) in omega arith

-- the range that a commit adds is reserved then
now_filled : (s : State) (f from len : ℕ) (change : Change) → IsWhole change from len → IsFilled (committing s f change) f from len
now_filled s f from len change whole j w =
    ap (λ (m : ℕ → Bool). m j) (put_same s.reserved f (add_range (s.reserved f) change.from change.to))
    ∙ add_range_has (s.reserved f) change.from change.to j
    (ap (λ (m : ℕ). is_within m change.to j) whole.begins ∙ (ap (λ (m : ℕ). is_within from m j) whole.ends ∙ w))

-- what is missing of a map's change is what is missing of its range
own_missing : (r : ℕ → Bool) (from len : ℕ) (change : Change) → IsWhole change from len
    → missing r change.from change.to ≡ missing r from (from + len)
own_missing r from len change whole = ap (λ (k : ℕ). missing r k change.to) whole.begins ∙ ap (missing r from) whole.ends

-- what the map stands on when it leaves with an answer that tells no mapping
left_stands : (s : State) (t : ℕ) (map : MapRequest) (b : Answer) → HasLock s t map.file
    → IsRange s.geometry map.file map.from map.len → is_mapped b ≡ false
    → Stands s.geometry s t (Some (call.Map (at.Leave (record { map = map; answer = b }))))
left_stands s t map b held range e =
    record { slot = tt; lock = held; facts = record { range = range; mapped = λ d. nothing (is_mapped b) e d } }

-- what it stands on where it gives its change up
gives_up : (s : State) (t : ℕ) (map : MapRequest) (pending : Change) (b : Answer) → HasLock s t map.file
    → IsRange s.geometry map.file map.from map.len → is_mapped b ≡ false
    → Stands s.geometry s t (Some (call.Map (at.Abort (record { map = map; pending = pending; answer = b }))))
gives_up s t map pending b held range e = record { slot = tt; lock = held; facts = record { range = range; unmapped = e } }

-- a file that grows to an end reaches it
grown : (size : ℕ → ℕ) (f m : ℕ) → m ≤ put size f (max (size f) m) f
grown size f m = let a : put size f (max (size f) m) f ≡ max (size f) m = put_same size f (max (size f) m) in omega arith

-- each row of a map wrote what fits and went on, or waits
pub map_did : (s : State) (t : ℕ) (killed grant : Bool) (phase : MapPhase) (turn : Turn MapPhase) (new : Pool)
    → Inv s.geometry s → s.calls t ≡ Some (call.Map phase) → MapRow (pool_of s) t killed grant phase turn new
    → Did call.Map s t phase turn new
map_did s t killed grant (at.Start p) turn new h e row =
    start_did call.Map s t killed p.map.file _ answer.Killed (at.Start p) (at.Room (record { map = p.map })) turn new row
    refl refl refl refl refl refl refl (λ _ _ _. omega arith) (λ _ _. omega arith)
    (λ in_files good. let o = good_range s p.map.from p.map.len good in
    record {
      slot = tt;
      lock = put_same s.locks p.map.file (Some t);
      facts = record { range = record { file = in_files; some = o.0; limit = o.1 } };
    })
map_did s t killed grant (at.Room p) turn new h e (found, room, row) =
    let y = stands_at s t _ h e in
    by_option found row
    (λ _ r. went call.Map s t (at.Room p) _ turn new Nothing r (λ _ _. omega arith)
    (record { same = refl; fill = tt; own = left_stands s t p.map answer.NoAddress y.lock y.facts.range refl }))
    (λ base some r.
    let fit = (subst (IsRoom s.geometry.space (s.mappings t) p.map.len) some room).0 in
    by_test grant r
    (λ _ r. by_test p.map.reserve r
    (λ _ r. went call.Map s t (at.Room p) _ turn new Prepares r (λ _ _. omega arith) (record {
      same = refl;
      fill = tt;
      own = record {
        slot = tt;
        lock = y.lock;
        facts = record { range = y.facts.range; based = record { ready = put_same s.ready t true; fits = fit } };
      };
    }))
    (λ not r. went call.Map s t (at.Room p) _ turn new Prepares r (λ _ _. omega arith) (record {
      same = refl;
      fill = tt;
      own = record {
        slot = tt;
        lock = y.lock;
        facts = record {
          range = y.facts.range;
          based = record { ready = put_same s.ready t true; fits = fit };
          filled = λ d. nothing p.map.reserve not d;
        };
      };
    })))
    (λ _ r. went call.Map s t (at.Room p) _ turn new Nothing r (λ _ _. omega arith)
    (record { same = refl; fill = tt; own = left_stands s t p.map answer.NoMemory y.lock y.facts.range refl })))
map_did s t killed grant (at.Missing p) turn new h e row =
    let y = stands_at s t _ h e in
    let few = missing_few (s.reserved p.map.file) p.map.from p.map.len in
    by_test ((s.spare p.map.file == s.pending p.map.file) && not grant) row
    (λ _ r. went call.Map s t (at.Missing p) _ turn new Nothing r (λ _ _. omega arith)
    (record { same = refl; fill = tt; own = left_stands s t p.map answer.NoMemory y.lock y.facts.range refl }))
    (λ _ r. went call.Map s t (at.Missing p) _ turn new (Opens p.map.file) r (λ _ _. omega arith) (record {
      same = refl;
      none = refl;
      some = refl;
      balance = refl;
      owed = refl;
      fill = tt;
      own = record {
        slot = tt;
        lock = y.lock;
        facts = record {
          range = y.facts.range;
          based = y.facts.based;
          whole = record { begins = refl; ends = refl; few = few };
          count = omega arith;
        };
      };
    }))
map_did s t killed grant (at.Changed p) turn new h e row =
    let y = stands_at s t _ h e in
    by_test killed row
    (λ _ r. went call.Map s t (at.Changed p) _ turn new Nothing r (λ _ _. omega arith)
    (record { same = refl; fill = tt; own = gives_up s t p.map p.pending answer.Killed y.lock y.facts.range refl }))
    (λ _ r. by_test (exceeds_quota (pool_of s) p.pending.missing) r
    (λ _ r. went call.Map s t (at.Changed p) _ turn new Nothing r (λ _ _. omega arith)
    (record { same = refl; fill = tt; own = gives_up s t p.map p.pending answer.NoQuota y.lock y.facts.range refl }))
    (λ fits r. by_test (nat_lt (frees (pool_of s) - s.resv) p.pending.missing) r
    (λ _ r. went call.Map s t (at.Changed p) _ turn new Nothing r (λ _ _. omega arith)
    (record { same = refl; fill = tt; own = gives_up s t p.map p.pending answer.NoFrame y.lock y.facts.range refl }))
    (λ enough r. let few : p.pending.missing ≤ free_frames s.frame s.frames - s.resv = le _ _ enough in
    went call.Map s t (at.Changed p) _ turn new (Accounts p.pending.missing) r (λ _ _. omega arith) (record {
      enough = (let z = h.enough in omega arith);
      quota = more_within s.geometry.quota s.used p.pending.missing fits h.quota;
      same = refl;
      change = refl;
      balance = omega arith;
      owed = omega arith;
      fill = tt;
      own = record { slot = tt; lock = y.lock; facts = y.facts };
    }))))
map_did s t killed grant (at.Abort p) turn new h e row =
    let y = stands_at s t _ h e in
    went call.Map s t (at.Abort p) _ turn new (Aborts p.map.file) row (λ _ _. omega arith) (record {
      same = refl;
      some = refl;
      none = refl;
      balance = refl;
      owed = refl;
      fill = tt;
      own = left_stands s t p.map p.answer y.lock y.facts.range y.facts.unmapped;
    })
map_did s t killed grant (at.Accounted p) turn new h e row =
    let y = stands_at s t _ h e in
    let f = p.map.file in
    let own = own_missing (s.reserved f) p.map.from p.map.len p.pending y.facts.whole in
    let limit : p.pending.to ≤ s.geometry.limit = (let a = y.facts.whole.ends in let b = y.facts.range.limit in omega arith) in
    let nobody : (u j : ℕ) → passed (s.calls u) f j ≡ true → is_within p.pending.from p.pending.to j ≡ true → ⊥ =
    λ u j a w. no_passer s.geometry s t f h y.lock (λ i. ap (λ c. passed c f i) e) u j a in
    let filled = now_filled s f p.map.from p.map.len p.pending y.facts.whole in
    by_test (nat_lt (missing (s.reserved f) p.pending.from p.pending.to) p.pending.missing) row
    (λ fewer r. let less_so = lt _ _ fewer in
    went call.Map s t (at.Accounted p) _ turn new (Commits f p.pending) r (λ _ _. omega arith) (record {
      file = y.facts.range.file;
      limit = limit;
      sole = inl y.lock;
      same = refl;
      some = refl;
      none = refl;
      nobody = nobody;
      balance = omega arith;
      owed = omega arith;
      fill = tt;
      own = record {
        slot = tt;
        lock = y.lock;
        facts = record {
          range = y.facts.range;
          based = y.facts.based;
          filled = filled;
          few = (let a = y.facts.whole.few in omega arith);
        };
      };
    }))
    (λ all r. let enough = le _ _ all in let few = y.facts.count in
    went call.Map s t (at.Accounted p) _ turn new (Commits f p.pending) r (λ _ _. omega arith) (record {
      file = y.facts.range.file;
      limit = limit;
      sole = inl y.lock;
      same = refl;
      some = refl;
      none = refl;
      nobody = nobody;
      balance = omega arith;
      owed = omega arith;
      fill = tt;
      own = record { slot = tt; lock = y.lock; facts = record { range = y.facts.range; based = y.facts.based; filled = λ d. filled } };
    }))
map_did s t killed grant (at.Settle p) turn new h e (low, used, row) =
    let y = stands_at s t _ h e in
    went call.Map s t (at.Settle p) _ turn new (Settles p.excess p.excess) row (λ _ _. omega arith) (record {
      low = low;
      used = used;
      same = refl;
      change = refl;
      balance = omega arith;
      owed = omega arith;
      fill = tt;
      own = record {
        slot = tt;
        lock = y.lock;
        facts = record { range = y.facts.range; based = y.facts.based; filled = λ d. y.facts.filled };
      };
    })
map_did s t killed grant (at.Enter p) turn new h e row =
    let y = stands_at s t _ h e in
    let f = p.map.file in
    went call.Map s t (at.Enter p) _ turn new (EntersArea (record { base = p.base; file = f; from = p.map.from; len = p.map.len })) row
    (λ _ _. omega arith) (record {
      file = y.facts.range.file;
      some = y.facts.range.some;
      limit = y.facts.range.limit;
      fits = y.facts.based.fits;
      same = refl;
      lock = y.lock;
      nobody = no_passer s.geometry s t f h y.lock (λ i. ap (λ c. passed c f i) e);
      fill = tt;
      own = record {
        slot = tt;
        lock = y.lock;
        facts = record { range = y.facts.range; mapped = λ d. (y.facts.filled, grown s.size f (p.map.from + p.map.len)) };
      };
    })
map_did s t killed grant (at.Leave p) turn new h e row =
    over call.Map s t (at.Leave p) p.answer turn new (LeavesLock p.map.file) row (λ _ _. omega arith)
    (record { over = refl; same = refl; slot = refl; lock = refl; held = (stands_at s t _ h e).lock; done = λ k j. refl })
