-- What each row of a punch did.
use Rattle.std.proofs.Common.{◌≡◌, ℕ, ◌+◌, ◌-◌, ◌<◌, ◌≤◌, refl, ap, arith}
use Rattle.std.specs.Prelude.{Bool, true, not, ◌&&◌, ◌==◌, nat_lt, nat_le, is_some, Option, Some, None}
use Rattle.std.proofs.lemmas.Bool.Decides.{nat_tests}
use Rattle.hp_base.specs.Numbers.{bit}
use Rattle.hp_base.specs.Indices.{splits}
use Rattle.hp_base.specs.declared.answer.Answer.TheVariants as answer
use Rattle.hp_base.proofs.Puts.{put_same, put2_same}
use Rattle.hp_machine.specs.Views.{behind, used_ahead}
use Rattle.hp_machine.specs.declared.call.Call.{Call}
use Rattle.hp_machine.specs.PunchRows.{PunchRow}
use Rattle.hp_machine.specs.declared.punch.PunchPhase.{PunchPhase}
use Rattle.hp_machine.specs.declared.punch.PunchPhase.TheVariants as at
use Rattle.hp_machine.specs.declared.call.Call.TheVariants as call
use Rattle.hp_machine.specs.declared.call.Turn.{Turn}
use Rattle.hp_machine.specs.State.{Pool, State, pool_of, slot_of}
use Rattle.hp_laws.proofs.Deciding.{lt, le, never}
use Rattle.hp_laws.proofs.Standing.{below_limit, in_first, in_next}
use Rattle.hp_laws.proofs.Invariant.{Inv}
use Rattle.hp_laws.proofs.Tables.{cleared_next}
use Rattle.hp_laws.proofs.Removals.{page_marked}
use Rattle.hp_laws.proofs.Writes.{Nothing, LeavesLock, LeavesSlot, Clears, Evicts, Deletes, Restores, FreesUnreserved}
use Rattle.hp_laws.proofs.Did.{times_next, first_left, Did, went, over, start_did, want_did}
use Rattle.hp_laws.proofs.Shared.{by_test, stands_at, good_range}
use Rattle.hp_laws.proofs.TouchDid.{some_page}

-- an index is at itself
here_at : (f i : ℕ) → ((f == f) && (i == i)) ≡ true
here_at f i = grind (arith, nat_tests)

-- each row of a punch wrote what fits and went on, or waits
pub punch_did : (s : State) (t : ℕ) (killed grant : Bool) (phase : PunchPhase) (turn : Turn PunchPhase) (new : Pool)
    → Inv s.geometry s → 1 ≤ t → t < s.geometry.tasks + 1 → s.calls t ≡ Some (call.Punch phase)
    → PunchRow (pool_of s) t killed grant phase turn new → Did call.Punch s t phase turn new
punch_did s t killed grant (at.Start p) turn new h one l e row =
    start_did call.Punch s t killed p.hole.file _ answer.Killed (at.Start p)
    (at.Want (record { hole = p.hole; index = p.hole.from })) turn new row refl refl refl refl refl refl refl
    (λ good _ m. let z = first_left p.hole.from p.hole.len (6 + s.geometry.tasks) (good_range s p.hole.from p.hole.len good).0 in
    omega arith) (λ _ _. omega arith)
    (λ in_files good. let o = good_range s p.hole.from p.hole.len good in
    record {
      slot = tt;
      lock = put_same s.locks p.hole.file (Some t);
      facts = record { aim = in_first s.geometry in_files o.0 o.1 };
    })
punch_did s t killed grant (at.Want p) turn new h one l e row =
    let y = stands_at s t _ h e in
    want_did call.Punch s t p.hole.file p.index (at.Want p) (at.Locked (record { hole = p.hole; index = p.index })) turn new row refl
    refl refl refl refl refl (λ _ _. omega arith)
    (record { slot = put_same s.slots (slot_of s.geometry p.hole.file p.index) (Some t); lock = y.lock; facts = y.facts })
punch_did s t killed grant (at.Locked p) turn new h one l e row =
    let y = stands_at s t _ h e in
    by_test (is_some (s.pages p.hole.file p.index)) row
    (λ page r. went call.Punch s t (at.Locked p) _ turn new Nothing r (λ _ _. omega arith) (record {
      same = refl;
      fill = tt;
      own = record {
        slot = y.slot;
        lock = y.lock;
        facts = record {
          aim = y.facts.aim;
          cached = some_page _ page;
          task = (omega arith, omega arith);
          cleared = λ w v x a b c d. absurd (omega arith);
        };
      };
    }))
    (λ none r. went call.Punch s t (at.Locked p) _ turn new Nothing r (λ _ _. omega arith)
    (record { same = refl; fill = tt; own = record { slot = y.slot; lock = y.lock; facts = y.facts } }))
punch_did s t killed grant (at.Unmap p) turn new h one l e row =
    let y = stands_at s t _ h e in
    let f = p.hole.file in
    by_test (nat_lt p.task s.geometry.tasks) row
    (λ more r. went call.Punch s t (at.Unmap p) _ turn new (Clears p.task f p.index) r (λ _ m. let z = lt _ _ more in omega arith) (record {
      same = refl;
      fill = tt;
      own = record {
        slot = y.slot;
        lock = y.lock;
        facts = record {
          aim = y.facts.aim;
          cached = y.facts.cached;
          task = (omega arith, (let a = lt _ _ more in omega arith));
          cleared = cleared_next s p.task f p.index y.facts.cleared;
        };
      };
    }))
    (λ last r. went call.Punch s t (at.Unmap p) _ turn new (Clears p.task f p.index) r (λ _ _. omega arith) (record {
      same = refl;
      fill = tt;
      own = record {
        slot = y.slot;
        lock = y.lock;
        facts = record {
          aim = y.facts.aim;
          cached = y.facts.cached;
          cleared = λ w v x a b. cleared_next s p.task f p.index y.facts.cleared w v x a (let c = le _ _ last in omega arith);
        };
      };
    }))
punch_did s t killed grant (at.Evict p) turn new h one l e (x, page, row) =
    let y = stands_at s t _ h e in
    let c = y.facts.cleared in
    went call.Punch s t (at.Evict p) _ turn new (Evicts p.hole.file p.index x) row (λ _ _. omega arith) (record {
      file = y.facts.aim.file;
      same = refl;
      holds = refl;
      empty = refl;
      full = refl;
      change = refl;
      balance = refl;
      owed = refl;
      page = page;
      held = y.slot;
      cleared = λ w v z a d. let o = h.entries.owners w v z a in c w v z o.0 (let b = o.1 in omega arith) a d;
      fill = tt;
      own = record {
        slot = y.slot;
        lock = y.lock;
        facts = record {
          aim = y.facts.aim;
          bare = put2_same s.pages p.hole.file p.index None;
          marked = page_marked s.geometry s p.hole.file p.index x h page;
        };
      };
    })
punch_did s t killed grant (at.Delete p) turn new h one l e row =
    let y = stands_at s t _ h e in
    let f = p.hole.file in
    by_test (splits (s.reserved f) p.index && nat_le (s.spare f) (s.pending f) && not grant) row
    (λ denied r. went call.Punch s t (at.Delete p) _ turn new Nothing r (λ _ _. omega arith) (record {
      same = refl;
      fill = tt;
      own = record { slot = y.slot; lock = y.lock; facts = record { aim = y.facts.aim; bare = y.facts.bare; marked = λ d. y.facts.marked } };
    }))
    (λ done r. went call.Punch s t (at.Delete p) _ turn new (Deletes f p.index) r (λ _ _. omega arith) (record {
      file = y.facts.aim.file;
      index = below_limit s.geometry _ y.facts.aim;
      same = refl;
      change = refl;
      balance = refl;
      owed = refl;
      marked = y.facts.marked;
      bare = y.facts.bare;
      slot = y.slot;
      lock = y.lock;
      deletes = here_at f p.index;
      fill = tt;
      own = record {
        slot = y.slot;
        lock = y.lock;
        facts = record { aim = y.facts.aim; bare = y.facts.bare; marked = λ d. never d };
      };
    }))
punch_did s t killed grant (at.Free p) turn new h one l e row =
    let y = stands_at s t _ h e in
    let here : Option Call = Some (call.Punch (at.Free p)) in
    by_test p.denied row
    (λ denied r. let owes : behind here ≡ 1 = ap bit denied in
    let no_use : used_ahead here ≡ 0 = ap (λ (b : Bool). bit (not b)) denied in
    went call.Punch s t (at.Free p) _ turn new (Restores p.held) r (λ _ _. omega arith) (record {
      same = refl;
      some = refl;
      none = refl;
      balance = omega arith;
      owed = omega arith;
      fill = tt;
      own = record { slot = y.slot; lock = y.lock; facts = record { aim = y.facts.aim } };
    }))
    (λ done r. let owes : behind here ≡ 0 = ap bit done in
    let one_use : used_ahead here ≡ 1 = ap (λ (b : Bool). bit (not b)) done in
    went call.Punch s t (at.Free p) _ turn new (FreesUnreserved p.held) r.1 (λ _ _. omega arith) (record {
      used = r.0;
      same = refl;
      some = refl;
      none = refl;
      balance = omega arith;
      owed = omega arith;
      fill = tt;
      own = record { slot = y.slot; lock = y.lock; facts = record { aim = y.facts.aim } };
    }))
punch_did s t killed grant (at.Unslot p) turn new h one l e row =
    let y = stands_at s t _ h e in
    let w = LeavesSlot p.hole.file p.index in
    by_test (nat_lt (p.index + 1) (p.hole.from + p.hole.len)) row
    (λ more r. went call.Punch s t (at.Unslot p) _ turn new w r (λ _ m. let k = lt _ _ more in
    let z = times_next (p.hole.from + p.hole.len - (p.index + 1)) (p.hole.from + p.hole.len - (p.index + 1 + 1)) (6 + s.geometry.tasks)
    (omega arith) in omega arith) (record {
      same = refl;
      lock = refl;
      some = refl;
      none = refl;
      held = y.slot;
      fill = tt;
      own = record { slot = tt; lock = y.lock; facts = record { aim = in_next s.geometry _ y.facts.aim (lt _ _ more) } };
    }))
    (λ last r. went call.Punch s t (at.Unslot p) _ turn new w r (λ _ _. omega arith) (record {
      same = refl;
      lock = refl;
      some = refl;
      none = refl;
      held = y.slot;
      fill = tt;
      own = record { slot = tt; lock = y.lock; facts = record { file = y.facts.aim.file } };
    }))
punch_did s t killed grant (at.Leave p) turn new h one l e row =
    over call.Punch s t (at.Leave p) answer.Done turn new (LeavesLock p.hole.file) row (λ _ _. omega arith)
    (record { over = refl; same = refl; slot = refl; lock = refl; held = (stands_at s t _ h e).lock; done = λ k j. refl })
