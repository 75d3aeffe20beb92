-- What each row of a touch did.
use Rattle.std.proofs.Common.{◌≡◌, ◌≢◌, ℕ, ◌<◌, ◌≤◌, refl, ap, sym, ◌∙◌, subst, arith, inl, inr}
use Rattle.std.specs.Prelude.{Bool, true, false, not, ◌&&◌, nat_le, nat_lt, is_some, ◌==◌, Option, Some, None}
use Rattle.std.proofs.lemmas.Bool.Decides.{nat_tests}
use Rattle.hp_base.specs.Indices.{is_within, missing}
use Rattle.hp_base.specs.declared.answer.Answer.{Answer}
use Rattle.hp_base.specs.declared.answer.Answer.TheVariants as answer
use Rattle.hp_base.proofs.Puts.{put_same, put2_same}
use Rattle.hp_machine.specs.State.{Pool, State, pool_of, slot_of}
use Rattle.hp_machine.specs.declared.touch.TouchPhase.{TouchPhase}
use Rattle.hp_machine.specs.declared.touch.TouchPhase.TheVariants as at
use Rattle.hp_machine.specs.declared.call.Call.TheVariants as call
use Rattle.hp_laws.specs.Sweep.{passed}
use Rattle.hp_laws.proofs.Standing.{HasSlot}
use Rattle.hp_laws.proofs.Invariant.{Inv}
use Rattle.hp_laws.proofs.Passing.{reached_not_passed}
use Rattle.hp_laws.proofs.Tables.{find_within}
use Rattle.hp_laws.proofs.Shared.{by_test, by_option, stands_at, reach_at, one_change, own_reserved}
use Rattle.hp_laws.proofs.Writes.{Nothing, LeavesSlot, Opens, Aborts, Commits, Settles, Places, Restores, Enters, Accesses}
use Rattle.hp_machine.specs.TouchRows.{TouchRow}
use Rattle.hp_machine.specs.declared.call.Turn.{Turn}
use Rattle.hp_base.specs.Mappings.{find}
use Rattle.hp_laws.proofs.Fits.{Fit}
use Rattle.hp_laws.proofs.Did.{Did, went, over, ends_fits, want_did, take_did, commit_balance, in_one}

-- an option with a value isn't empty
pub not_none : (o : Option ℕ) (x : ℕ) → o ≡ Some x → o ≢ None
not_none o x e = λ d. (let q : Some x ≡ None = sym e ∙ d in cc)

-- a page that the test finds is there
pub some_page : (o : Option ℕ) → is_some o ≡ true → o ≢ None
some_page o e = λ d. (let q : false ≡ true = sym (ap (λ (x : Option ℕ). is_some x) d) ∙ e in cc)

-- and one that it doesn't find isn't
pub no_page : (o : Option ℕ) → is_some o ≡ false → o ≡ None
no_page None e = refl
no_page (Some x) e = (let q : true ≡ false = e in cc)

-- an index that fails the test for at or above the size is below it
pub below_size : (i size : ℕ) → nat_le size i ≡ false → i < size
below_size i size e = grind (arith, nat_tests)

-- each row of a touch wrote what fits and went on, or waits
pub touch_did : (s : State) (t : ℕ) (killed grant : Bool) (phase : TouchPhase) (turn : Turn TouchPhase) (new : Pool)
    → Inv s.geometry s → s.calls t ≡ Some (call.Touch phase) → TouchRow (pool_of s) t killed grant phase turn new
    → Did call.Touch s t phase turn new
touch_did s t killed grant (at.Look p) turn new h e row =
    by_option (find (s.mappings t) p.vpn) row
    (λ none r. over call.Touch s t (at.Look p) _ turn new Nothing r (λ _ _. omega arith) (ends_fits s t (Some (call.Touch (at.Look p))) refl))
    (λ place there r. by_option (s.entries t p.vpn) r
    (λ none r. let k = find_within s.geometry (s.mappings t) p.vpn place (h.ranges t) there in
    went call.Touch s t (at.Look p) _ turn new Nothing r (λ _ _. omega arith) (record {
      same = refl;
      fill = tt;
      own = record { slot = tt; lock = tt; facts = record { aim = record { found = there; file = k.0; index = k.1; untranslated = none } } };
    }))
    (λ x entry r. over call.Touch s t (at.Look p) _ turn new (Accesses x p.access) r.2 (λ _ _. omega arith)
    (record { reader = refl; word = r.0; placed = r.1; same = refl; fill = tt; own = record { slot = tt; lock = tt; facts = tt } })))
touch_did s t killed grant (at.Want p) turn new h e row =
    by_test killed row
    (λ _ r. over call.Touch s t (at.Want p) _ turn new Nothing r (λ _ _. omega arith) (ends_fits s t (Some (call.Touch (at.Want p))) refl))
    (λ _ r. want_did call.Touch s t p.touch.file p.touch.index (at.Want p) (at.Locked (record { touch = p.touch })) turn new r refl refl
    refl refl refl refl (λ _ _. omega arith)
    (record {
      slot = put_same s.slots (slot_of s.geometry p.touch.file p.touch.index) (Some t);
      lock = tt;
      facts = (stands_at s t _ h e).facts;
    }))
touch_did s t killed grant (at.Locked p) turn new h e row =
    let y = stands_at s t _ h e in
    by_test (nat_le (s.size p.touch.file) p.touch.index) row
    (λ beyond r. went call.Touch s t (at.Locked p) _ turn new Nothing r (λ _ _. omega arith)
    (record { same = refl; fill = tt; own = record { slot = y.slot; lock = tt; facts = tt } }))
    (λ below r. by_test (is_some (s.pages p.touch.file p.touch.index)) r
    (λ page r. went call.Touch s t (at.Locked p) _ turn new Nothing r (λ _ _. omega arith) (record {
      same = refl;
      fill = tt;
      own = record { slot = y.slot; lock = tt; facts = record { aim = y.facts.aim; cached = some_page _ page } };
    }))
    (λ none r. went call.Touch s t (at.Locked p) _ turn new Nothing r (λ _ _. omega arith) (record {
      same = refl;
      fill = inl (below_size p.touch.index (s.size p.touch.file) below);
      own = record { slot = y.slot; lock = tt; facts = record { aim = y.facts.aim; bare = no_page _ none } };
    })))
touch_did s t killed grant (at.Missing p) turn new h e row =
    let y = stands_at s t _ h e in
    let o = one_change (s.reserved p.touch.file) p.touch.index in
    by_test ((s.spare p.touch.file == s.pending p.touch.file) && not grant) row
    (λ _ r. went call.Touch s t (at.Missing p) _ turn new Nothing r (λ _ _. omega arith)
    (record { same = refl; fill = tt; own = record { slot = y.slot; lock = tt; facts = tt } }))
    (λ _ r. went call.Touch s t (at.Missing p) _ turn new (Opens p.touch.file) r (λ _ _. omega arith) (record {
      same = refl;
      none = refl;
      some = refl;
      balance = refl;
      owed = refl;
      fill = reach_at s t _ h e;
      own = record { slot = y.slot; lock = tt; facts = record { aim = y.facts.aim; bare = y.facts.bare; one = o.0; marked = o.1 } };
    }))
touch_did s t killed grant (at.Changed p) turn new h e row =
    let y = stands_at s t _ h e in
    let aborts : (a : Answer) → Fit s t (Some (call.Touch (at.Changed p)))
    (Some (call.Touch (at.Abort (record { touch = p.touch; pending = p.pending; answer = a })))) Nothing =
    λ a. record {
      same = refl;
      fill = reach_at s t _ h e;
      own = record { slot = y.slot; lock = tt; facts = record { aim = y.facts.aim; bare = y.facts.bare } };
    } in
    by_test killed row
    (λ _ r. went call.Touch s t (at.Changed p) _ turn new Nothing r (λ _ _. omega arith) (aborts answer.Killed))
    (λ _ r. take_did call.Touch s t p.pending.missing (at.Changed p)
    (λ a. at.Abort (record { touch = p.touch; pending = p.pending; answer = a }))
    (λ x. at.Taken (record { touch = p.touch; pending = p.pending; held = x })) turn new h r (record {
      lacks = aborts;
      near_lacks = λ a _ _. omega arith;
      near = λ x _ _. omega arith;
      few = y.facts.one.few;
      unused = refl;
      uses = λ x. refl;
      same = λ x. refl;
      empty = refl;
      full = λ x. refl;
      owes = λ x. refl;
      free = refl;
      fill = λ x. reach_at s t _ h e;
      own = λ x. record { slot = y.slot; lock = tt; facts = y.facts };
    }))
touch_did s t killed grant (at.Abort p) turn new h e row =
    went call.Touch s t (at.Abort p) _ turn new (Aborts p.touch.file) row (λ _ _. omega arith) (record {
      same = refl;
      some = refl;
      none = refl;
      balance = refl;
      owed = refl;
      fill = tt;
      own = record { slot = (stands_at s t _ h e).slot; lock = tt; facts = tt };
    })
touch_did s t killed grant (at.Taken p) turn new h e row =
    let y = stands_at s t _ h e in
    let f = p.touch.file in
    let one = y.facts.one in
    let limit : p.pending.to ≤ s.geometry.limit = (let a = one.ends in let b = y.facts.aim.index in omega arith) in
    let marked = own_reserved s f p.touch.index p.pending one in
    let balance = commit_balance (s.reserved f) p.pending p.touch.index one y.facts.marked in
    let nobody : (u j : ℕ) → passed (s.calls u) f j ≡ true → is_within p.pending.from p.pending.to j ≡ true → ⊥ =
    λ u j a w. reached_not_passed s.geometry s f p.touch.index h (reach_at s t _ h e) u
    (ap (passed (s.calls u) f) (in_one p.pending.from p.pending.to p.touch.index j one.begins one.ends w) ∙ a) in
    let slots = λ (j : ℕ) (w : is_within p.pending.from p.pending.to j ≡ true). subst (HasSlot s.geometry s t f)
    (in_one p.pending.from p.pending.to p.touch.index j one.begins one.ends w) y.slot in
    by_test (nat_lt (missing (s.reserved f) p.pending.from p.pending.to) p.pending.missing) row
    (λ fewer r. let a = balance.0 fewer in
    went call.Touch s t (at.Taken p) _ turn new (Commits f p.pending) r (λ _ _. omega arith) (record {
      file = y.facts.aim.file;
      limit = limit;
      sole = inr slots;
      same = refl;
      some = refl;
      none = refl;
      nobody = nobody;
      balance = omega arith;
      owed = omega arith;
      fill = reach_at s t _ h e;
      own = record { slot = y.slot; lock = tt; facts = record { aim = y.facts.aim; bare = y.facts.bare; marked = marked } };
    }))
    (λ all r. let a = balance.1 all in
    went call.Touch s t (at.Taken p) _ turn new (Commits f p.pending) r (λ _ _. omega arith) (record {
      file = y.facts.aim.file;
      limit = limit;
      sole = inr slots;
      same = refl;
      some = refl;
      none = refl;
      nobody = nobody;
      balance = omega arith;
      owed = omega arith;
      fill = reach_at s t _ h e;
      own = record { slot = y.slot; lock = tt; facts = record { aim = y.facts.aim; bare = y.facts.bare; marked = marked } };
    }))
touch_did s t killed grant (at.Settle p) turn new h e (low, used, row) =
    let y = stands_at s t _ h e in
    went call.Touch s t (at.Settle p) _ turn new (Settles 1 1) row (λ _ _. omega arith) (record {
      low = low;
      used = used;
      same = refl;
      change = refl;
      balance = omega arith;
      owed = refl;
      fill = reach_at s t _ h e;
      own = record { slot = y.slot; lock = tt; facts = y.facts };
    })
touch_did s t killed grant (at.Committed p) turn new h e row =
    let y = stands_at s t _ h e in
    let restores : (a : Answer) → Fit s t (Some (call.Touch (at.Committed p)))
    (Some (call.Touch (at.Restore (record { touch = p.touch; held = p.held; answer = a })))) Nothing =
    λ a. record { same = refl; fill = reach_at s t _ h e; own = record { slot = y.slot; lock = tt; facts = y.facts } } in
    by_test (nat_le (s.size p.touch.file) p.touch.index) row
    (λ beyond r. went call.Touch s t (at.Committed p) _ turn new Nothing r (λ _ _. omega arith) (restores answer.Beyond))
    (λ below r. by_test grant r
    (λ granted r. went call.Touch s t (at.Committed p) _ turn new (Places p.touch.file p.touch.index p.held) r (λ _ _. omega arith) (record {
      file = y.facts.aim.file;
      index = y.facts.aim.index;
      same = refl;
      some = refl;
      none = refl;
      balance = refl;
      owed = refl;
      marked = y.facts.marked;
      bare = y.facts.bare;
      held = y.slot;
      nobody = reached_not_passed s.geometry s p.touch.file p.touch.index h (reach_at s t _ h e);
      fill = tt;
      own = record {
        slot = y.slot;
        lock = tt;
        facts = record { aim = y.facts.aim; cached = not_none _ p.held (put2_same s.pages p.touch.file p.touch.index (Some p.held)) };
      };
    }))
    (λ denied r. went call.Touch s t (at.Committed p) _ turn new Nothing r (λ _ _. omega arith) (restores answer.NoMemory)))
touch_did s t killed grant (at.Restore p) turn new h e row =
    went call.Touch s t (at.Restore p) _ turn new (Restores p.held) row (λ _ _. omega arith) (record {
      same = refl;
      some = refl;
      none = refl;
      balance = refl;
      owed = refl;
      fill = tt;
      own = record { slot = (stands_at s t _ h e).slot; lock = tt; facts = tt };
    })
touch_did s t killed grant (at.Found p) turn new h e row =
    let y = stands_at s t _ h e in
    by_test (nat_le (s.size p.touch.file) p.touch.index) row
    (λ beyond r. went call.Touch s t (at.Found p) _ turn new Nothing r (λ _ _. omega arith)
    (record { same = refl; fill = tt; own = record { slot = y.slot; lock = tt; facts = tt } }))
    (λ below r. by_test grant r
    (λ granted r. went call.Touch s t (at.Found p) _ turn new (Enters p.touch.vpn r.0 p.touch.access) r.4 (λ _ _. omega arith) (record {
      reader = refl;
      place = (p.touch.file, p.touch.index);
      word = r.1;
      placed = r.3;
      same = refl;
      found = y.facts.aim.found;
      page = r.2;
      aim = refl;
      held = y.slot;
      fill = tt;
      own = record { slot = y.slot; lock = tt; facts = tt };
    }))
    (λ denied r. went call.Touch s t (at.Found p) _ turn new Nothing r (λ _ _. omega arith)
    (record { same = refl; fill = tt; own = record { slot = y.slot; lock = tt; facts = tt } })))
touch_did s t killed grant (at.Leave p) turn new h e row =
    over call.Touch s t (at.Leave p) p.answer turn new (LeavesSlot p.touch.file p.touch.index) row (λ _ _. omega arith) (record {
      same = refl;
      lock = refl;
      some = refl;
      none = refl;
      held = (stands_at s t _ h e).slot;
      fill = tt;
      own = record { slot = tt; lock = tt; facts = tt };
    })
