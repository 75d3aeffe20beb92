-- What each row of an allocation did.
use Rattle.std.proofs.Common.{◌≡◌, ℕ, ◌+◌, ◌≤◌, refl, ap, arith, ◌-◌, inl}
use Rattle.std.specs.Prelude.{Bool, true, not, ◌&&◌, ◌==◌, nat_lt, is_some, Some}
use Rattle.hp_base.specs.Indices.{missing}
use Rattle.hp_base.specs.declared.answer.Answer.{Answer}
use Rattle.hp_base.specs.declared.answer.Answer.TheVariants as answer
use Rattle.hp_base.proofs.Puts.{put_same}
use Rattle.hp_machine.specs.State.{Pool, State, pool_of, slot_of}
use Rattle.hp_machine.specs.AllocRows.{AllocRow}
use Rattle.hp_machine.specs.declared.alloc.AllocPhase.{AllocPhase}
use Rattle.hp_machine.specs.declared.alloc.AllocPhase.TheVariants as at
use Rattle.hp_machine.specs.declared.call.Call.TheVariants as call
use Rattle.hp_machine.specs.declared.call.Turn.{Turn}
use Rattle.hp_laws.specs.Sweep.{passed}
use Rattle.hp_laws.specs.Bounds.{times}
use Rattle.hp_laws.proofs.Deciding.{lt}
use Rattle.hp_laws.proofs.Standing.{below_limit, in_first, in_next}
use Rattle.hp_laws.proofs.Invariant.{Inv}
use Rattle.hp_laws.proofs.Passing.{no_passer}
use Rattle.hp_laws.proofs.Shared.{by_test, by_option, stands_at, good_range, one_change, own_reserved}
use Rattle.hp_laws.proofs.TouchDid.{no_page}
use Rattle.hp_laws.proofs.Writes.{Nothing, LeavesLock, LeavesSlot, Opens, Aborts, Commits, Places, Restores, Grows}
use Rattle.hp_laws.proofs.Fits.{Fit}
use Rattle.hp_laws.proofs.Did.{times_next, first_left, left_none, left_some, Did, went, over, start_did, want_did, take_did}
use Rattle.hp_laws.proofs.Did.{commit_balance, as_missed}

-- each row of an allocation wrote what fits and went on, or waits
pub alloc_did : (s : State) (t : ℕ) (killed grant : Bool) (phase : AllocPhase) (turn : Turn AllocPhase) (new : Pool)
    → Inv s.geometry s → s.calls t ≡ Some (call.Alloc phase) → AllocRow (pool_of s) t killed grant phase turn new
    → Did call.Alloc s t phase turn new
alloc_did s t killed grant (at.Start p) turn new h e row =
    start_did call.Alloc s t killed p.allocation.file _ answer.Interrupted (at.Start p)
    (at.Head (record { allocation = p.allocation; index = p.allocation.from })) turn new row refl refl refl refl refl refl refl
    (λ good _ m. let z = first_left p.allocation.from p.allocation.len 9 (good_range s p.allocation.from p.allocation.len good).0 in
    omega arith) (λ _ _. omega arith)
    (λ in_files good. let o = good_range s p.allocation.from p.allocation.len good in
    record {
      slot = tt;
      lock = put_same s.locks p.allocation.file (Some t);
      facts = record { aim = in_first s.geometry in_files o.0 o.1 };
    })
alloc_did s t killed grant (at.Head p) turn new h e row =
    let y = stands_at s t _ h e in
    by_test killed row
    (λ _ r. went call.Alloc s t (at.Head p) _ turn new Nothing r (λ _ _. omega arith)
    (record { same = refl; fill = tt; own = record { slot = tt; lock = y.lock; facts = record { file = y.facts.aim.file } } }))
    (λ _ r. went call.Alloc s t (at.Head p) _ turn new Nothing r (λ _ _. omega arith)
    (record { same = refl; fill = tt; own = record { slot = tt; lock = y.lock; facts = y.facts } }))
alloc_did s t killed grant (at.Want p) turn new h e row =
    let y = stands_at s t _ h e in
    by_test killed row
    (λ _ r. went call.Alloc s t (at.Want p) _ turn new Nothing r (λ _ _. omega arith)
    (record { same = refl; fill = tt; own = record { slot = tt; lock = y.lock; facts = record { file = y.facts.aim.file } } }))
    (λ _ r. want_did call.Alloc s t p.allocation.file p.index (at.Want p)
    (at.Locked (record { allocation = p.allocation; index = p.index })) turn new r refl refl refl refl refl refl (λ _ _. omega arith)
    (record { slot = put_same s.slots (slot_of s.geometry p.allocation.file p.index) (Some t); lock = y.lock; facts = y.facts }))
alloc_did s t killed grant (at.Locked p) turn new h e row =
    let y = stands_at s t _ h e in
    by_test (is_some (s.pages p.allocation.file p.index)) row
    (λ page r. went call.Alloc s t (at.Locked p) _ turn new Nothing r (λ _ _. omega arith)
    (record { same = refl; fill = tt; own = record { slot = y.slot; lock = y.lock; facts = y.facts } }))
    (λ none r. went call.Alloc s t (at.Locked p) _ turn new Nothing r (λ _ _. omega arith) (record {
      same = refl;
      fill = tt;
      own = record { slot = y.slot; lock = y.lock; facts = record { aim = y.facts.aim; bare = no_page _ none } };
    }))
alloc_did s t killed grant (at.Missing p) turn new h e row =
    let y = stands_at s t _ h e in
    let o = one_change (s.reserved p.allocation.file) p.index in
    by_test ((s.spare p.allocation.file == s.pending p.allocation.file) && not grant) row
    (λ _ r. went call.Alloc s t (at.Missing p) _ turn new Nothing r (λ _ _. omega arith)
    (record { same = refl; fill = tt; own = record { slot = y.slot; lock = y.lock; facts = record { aim = y.facts.aim } } }))
    (λ _ r. went call.Alloc s t (at.Missing p) _ turn new (Opens p.allocation.file) r (λ _ _. omega arith) (record {
      same = refl;
      none = refl;
      some = refl;
      balance = refl;
      owed = refl;
      fill = tt;
      own = record {
        slot = y.slot;
        lock = y.lock;
        facts = record { aim = y.facts.aim; bare = y.facts.bare; one = o.0; marked = o.1; unmarked = o.2 };
      };
    }))
alloc_did s t killed grant (at.Changed p) turn new h e row =
    let y = stands_at s t _ h e in
    let aborts : (a : Answer) → Fit s t (Some (call.Alloc (at.Changed p)))
    (Some (call.Alloc (at.Abort (record { allocation = p.allocation; index = p.index; pending = p.pending; answer = a })))) Nothing =
    λ a. record {
      same = refl;
      fill = tt;
      own = record { slot = y.slot; lock = y.lock; facts = record { aim = y.facts.aim; bare = y.facts.bare } };
    } in
    by_test killed row
    (λ _ r. went call.Alloc s t (at.Changed p) _ turn new Nothing r (λ _ _. omega arith) (aborts answer.Interrupted))
    (λ _ r. take_did call.Alloc s t p.pending.missing (at.Changed p)
    (λ a. at.Abort (record { allocation = p.allocation; index = p.index; pending = p.pending; answer = a }))
    (λ x. at.Taken (record { allocation = p.allocation; index = p.index; pending = p.pending; held = x })) turn new h r (record {
      lacks = aborts;
      near_lacks = λ a _ _. omega arith;
      near = λ x _ _. omega arith;
      few = y.facts.one.few;
      unused = refl;
      uses = λ x. refl;
      same = λ x. refl;
      empty = refl;
      full = λ x. refl;
      owes = λ x. refl;
      free = refl;
      fill = λ x. tt;
      own = λ x. record { slot = y.slot; lock = y.lock; facts = y.facts };
    }))
alloc_did s t killed grant (at.Abort p) turn new h e row =
    let y = stands_at s t _ h e in
    went call.Alloc s t (at.Abort p) _ turn new (Aborts p.allocation.file) row (λ _ _. omega arith) (record {
      same = refl;
      some = refl;
      none = refl;
      balance = refl;
      owed = refl;
      fill = tt;
      own = record { slot = y.slot; lock = y.lock; facts = record { aim = y.facts.aim } };
    })
alloc_did s t killed grant (at.Taken p) turn new h e row =
    let y = stands_at s t _ h e in
    let f = p.allocation.file in
    let one = y.facts.one in
    let limit : p.pending.to ≤ s.geometry.limit =
    (let a = one.ends in let b = below_limit s.geometry _ y.facts.aim in omega arith) in
    let marked = own_reserved s f p.index p.pending one in
    let balance = commit_balance (s.reserved f) p.pending p.index one y.facts.marked in
    let nobody = λ (u j : ℕ) (a : passed (s.calls u) f j ≡ true). no_passer s.geometry s t f h y.lock
    (λ j. ap (λ c. passed c f j) e) u j a in
    by_test (nat_lt (missing (s.reserved f) p.pending.from p.pending.to) p.pending.missing) row
    (λ fewer _. let l = lt _ _ fewer in let all = as_missed (s.reserved f) p.pending p.index one y.facts.marked y.facts.unmarked in
    absurd (omega arith))
    (λ all r. let a = balance.1 all in
    went call.Alloc s t (at.Taken p) _ turn new (Commits f p.pending) r (λ _ _. omega arith) (record {
      file = y.facts.aim.file;
      limit = limit;
      sole = inl y.lock;
      same = refl;
      some = refl;
      none = refl;
      nobody = λ u j a w. nobody u j a;
      balance = omega arith;
      owed = omega arith;
      fill = tt;
      own = record { slot = y.slot; lock = y.lock; facts = record { aim = y.facts.aim; bare = y.facts.bare; marked = marked } };
    }))
alloc_did s t killed grant (at.Settle p) turn new h e row = absurd (stands_at s t _ h e).facts
alloc_did s t killed grant (at.Committed p) turn new h e row =
    let y = stands_at s t _ h e in
    let f = p.allocation.file in
    by_test grant row
    (λ granted r. went call.Alloc s t (at.Committed p) _ turn new (Places f p.index p.held) r (λ _ _. omega arith) (record {
      file = y.facts.aim.file;
      index = below_limit s.geometry _ y.facts.aim;
      same = refl;
      some = refl;
      none = refl;
      balance = refl;
      owed = refl;
      marked = y.facts.marked;
      bare = y.facts.bare;
      held = y.slot;
      nobody = λ u a. no_passer s.geometry s t f h y.lock (λ j. ap (λ c. passed c f j) e) u p.index a;
      fill = tt;
      own = record { slot = y.slot; lock = y.lock; facts = record { aim = y.facts.aim } };
    }))
    (λ denied r. went call.Alloc s t (at.Committed p) _ turn new Nothing r (λ _ _. omega arith)
    (record { same = refl; fill = tt; own = record { slot = y.slot; lock = y.lock; facts = y.facts } }))
alloc_did s t killed grant (at.Restore p) turn new h e row =
    let y = stands_at s t _ h e in
    went call.Alloc s t (at.Restore p) _ turn new (Restores p.held) row (λ _ _. omega arith) (record {
      same = refl;
      some = refl;
      none = refl;
      balance = refl;
      owed = refl;
      fill = tt;
      own = record { slot = y.slot; lock = y.lock; facts = record { aim = y.facts.aim } };
    })
alloc_did s t killed grant (at.Unslot p) turn new h e row =
    let y = stands_at s t _ h e in
    let left : ℕ = times (p.allocation.from + p.allocation.len - (p.index + 1)) 9 in
    let w = LeavesSlot p.allocation.file p.index in
    by_option p.answer row
    (λ none r. by_test (nat_lt (p.index + 1) (p.allocation.from + p.allocation.len)) r
    (λ more r. went call.Alloc s t (at.Unslot p) _ turn new w r (λ _ m. let l = lt _ _ more in
    let z = times_next (p.allocation.from + p.allocation.len - (p.index + 1))
    (p.allocation.from + p.allocation.len - (p.index + 1 + 1)) 9 (omega arith) in
    left_none p.answer (left + 3) _ none (omega arith)) (record {
      same = refl;
      lock = refl;
      some = refl;
      none = refl;
      held = y.slot;
      fill = tt;
      own = record { slot = tt; lock = y.lock; facts = record { aim = in_next s.geometry _ y.facts.aim (lt _ _ more) } };
    }))
    (λ last r. by_test p.allocation.keep r
    (λ keeps r. went call.Alloc s t (at.Unslot p) _ turn new w r (λ _ m. left_none p.answer (left + 3) _ none (omega arith)) (record {
      same = refl;
      lock = refl;
      some = refl;
      none = refl;
      held = y.slot;
      fill = tt;
      own = record { slot = tt; lock = y.lock; facts = record { file = y.facts.aim.file } };
    }))
    (λ grows r. went call.Alloc s t (at.Unslot p) _ turn new w r (λ _ m. left_none p.answer (left + 3) _ none (omega arith)) (record {
      same = refl;
      lock = refl;
      some = refl;
      none = refl;
      held = y.slot;
      fill = tt;
      own = record {
        slot = tt;
        lock = y.lock;
        facts = record {
          range = record {
            file = y.facts.aim.file;
            some = (let a = y.facts.aim.above in let b = y.facts.aim.below in omega arith);
            limit = y.facts.aim.limit;
          };
        };
      };
    }))))
    (λ carried some r. went call.Alloc s t (at.Unslot p) _ turn new w r (λ _ m. left_some p.answer carried (left + 3) some) (record {
      same = refl;
      lock = refl;
      some = refl;
      none = refl;
      held = y.slot;
      fill = tt;
      own = record { slot = tt; lock = y.lock; facts = record { file = y.facts.aim.file } };
    }))
alloc_did s t killed grant (at.Extend p) turn new h e row =
    let y = stands_at s t _ h e in
    went call.Alloc s t (at.Extend p) _ turn new (Grows p.allocation.file (p.allocation.from + p.allocation.len)) row (λ _ _. omega arith) (record {
      same = refl;
      held = y.lock;
      limit = y.facts.range.limit;
      nobody = no_passer s.geometry s t p.allocation.file h y.lock (λ j. ap (λ c. passed c p.allocation.file j) e);
      fill = tt;
      own = record { slot = tt; lock = y.lock; facts = record { file = y.facts.range.file } };
    })
alloc_did s t killed grant (at.Leave p) turn new h e row =
    over call.Alloc s t (at.Leave p) p.answer turn new (LeavesLock p.allocation.file) row (λ _ _. omega arith)
    (record { over = refl; same = refl; slot = refl; lock = refl; held = (stands_at s t _ h e).lock; done = λ k j. refl })
