-- What each row of a truncation did.
use Rattle.std.proofs.Common.{◌≡◌, ◌≢◌, ℕ, ◌+◌, ◌-◌, ◌<◌, ◌≤◌, refl, ap, ◌∙◌, subst, arith, inl, inr, ◌⊎◌}
use Rattle.std.specs.Prelude.{Bool, true, false, ◌&&◌, ◌==◌, nat_lt, nat_le, max, is_some, Option, Some, None}
use Rattle.std.proofs.lemmas.Bool.Decides.{nat_tests, eqb_tells}
use Rattle.hp_base.specs.Indices.{count_within}
use Rattle.hp_base.specs.declared.answer.Answer.TheVariants as answer
use Rattle.hp_base.proofs.Puts.{put_same, put2_same}
use Rattle.hp_base.proofs.Sets.{tail_next, tail_wider}
use Rattle.hp_base.proofs.Counting.{count_within-missing}
use Rattle.hp_machine.specs.State.{Pool, State, pool_of, slot_of}
use Rattle.hp_base.specs.Pages.{IsPagesEnd}
use Rattle.hp_machine.specs.TruncateRows.{TruncateRow}
use Rattle.hp_machine.specs.declared.truncate.TruncatePhase.{TruncatePhase}
use Rattle.hp_machine.specs.declared.truncate.TruncatePhase.TheVariants as at
use Rattle.hp_machine.specs.declared.call.Call.TheVariants as call
use Rattle.hp_machine.specs.declared.call.Turn.{Turn}
use Rattle.hp_laws.specs.Sweep.{passed}
use Rattle.hp_laws.proofs.Deciding.{lt, le, from_on, never}
use Rattle.hp_laws.proofs.Invariant.{Inv, page_within}
use Rattle.hp_laws.proofs.Tables.{cleared_next}
use Rattle.hp_laws.proofs.Removals.{page_marked}
use Rattle.hp_laws.proofs.Writes.{Nothing, LeavesLock, Settles, Clears, Evicts, Frees, Cuts, Passes, CutsTail}
use Rattle.hp_laws.proofs.Did.{times_next, Did, went, over, start_did, want_did}
use Rattle.hp_laws.proofs.Shared.{by_test, stands_at}
use Rattle.hp_laws.proofs.TouchDid.{some_page, no_page}

-- an index up to another of its file passes the test for that
up_to : (f i j : ℕ) → j ≤ i → ((f == f) && nat_le j i) ≡ true
up_to f i j l = grind (arith, nat_tests)

-- what the test for above says
is_above : (f k i j : ℕ) → ((f == k) && nat_lt i j) ≡ true → (k ≡ f) × (i + 1 ≤ j)
is_above f k i j e = (grind (arith, nat_tests), grind (arith, nat_tests))

-- an index above another of its file passes that test
above : (f k i j : ℕ) → k ≡ f → i + 1 ≤ j → ((f == k) && nat_lt i j) ≡ true
above f k i j d l = grind (arith, nat_tests)

-- what the test for up to says
is_up_to : (f k i j : ℕ) → ((f == k) && nat_le j i) ≡ true → (k ≡ f) × (j ≤ i)
is_up_to f k i j e = (grind (arith, nat_tests), grind (arith, nat_tests))

-- what lies ahead of an index and isn't it
to_pass_next : (f k i j new next : ℕ) → i ≡ next + 1 → ((f == k) && nat_le j i) ≡ true
    → (k ≡ f) × ((j ≡ i) ⊎ ((j < new) ⊎ (((f == f) && nat_le j next) ≡ true)))
to_pass_next f k i j new next d e =
    let o = is_up_to f k i j e in
    let z : j ≤ i = o.1 in
    (o.0, elim (eqb_tells j i) [ inl q ↦ inl q.1 | inr q ↦ (let y : j ≢ i = q.1 in inr (inr (up_to f next j (omega arith)))) ])

-- what was ahead at the last index is that index, or below the new size
to_pass_tail : (f k i j new : ℕ) → i ≤ new → ((f == k) && nat_le j i) ≡ true → (k ≡ f) × ((j ≡ i) ⊎ ((j < new) ⊎ (false ≡ true)))
to_pass_tail f k i j new d e =
    let o = is_up_to f k i j e in
    let z : j ≤ i = o.1 in
    (o.0, elim (eqb_tells j i) [ inl q ↦ inl q.1 | inr q ↦ (let y : j ≢ i = q.1 in inr (inl (omega arith))) ])

-- what is passed after an index was passed before it, or is that index
passed_next : (f k i j new next : ℕ) → i ≡ next + 1 → new ≤ next → ((f == k) && nat_lt next j) ≡ true
    → (((f == k) && nat_lt i j) ≡ true) ⊎ ((k ≡ f) × (j ≡ i) × (new ≤ j))
passed_next f k i j new next d l e =
    let o = is_above f k next j e in
    let z : next + 1 ≤ j = o.1 in
    elim (eqb_tells j i) [
      | inl q ↦ (let y : j ≡ i = q.1 in inr (o.0, y, omega arith))
      | inr q ↦
          (let y : j ≢ i = q.1 in inl (above f k i j o.0 (omega arith)))
    ]

-- what is passed after the last index was passed before it, or is that index
passed_tail : (f k i j new : ℕ) → i ≤ new → ((f == k) && nat_le new j) ≡ true
    → (((f == k) && nat_lt i j) ≡ true) ⊎ ((k ≡ f) × (j ≡ i) × (new ≤ j))
passed_tail f k i j new l e =
    let o = is_up_to f k j new e in
    let z : new ≤ j = o.1 in
    elim (eqb_tells j i) [
      | inl q ↦ (let y : j ≡ i = q.1 in inr (o.0, y, z))
      | inr q ↦
          (let y : j ≢ i = q.1 in inl (above f k i j o.0 (omega arith)))
    ]

-- the pages end within the limit
end_low : (s : State) (f end : ℕ) → Inv s.geometry s → IsPagesEnd (s.pages f) end → end ≤ s.geometry.limit
end_low s f end h is_end = is_end.1 s.geometry.limit (λ i l. none i l (s.pages f i) refl)
  where
    none : (i : ℕ) → s.geometry.limit ≤ i → (o : Option ℕ) → s.pages f i ≡ o → s.pages f i ≡ None
    none i l None e = e
    none i l (Some x) e = (let z = (page_within f i x h.inside e).1 in absurd (omega arith))

-- the end of the pages is one
same_end : (pages : ℕ → Option ℕ) (a b : ℕ) → IsPagesEnd pages a → IsPagesEnd pages b → a ≡ b
same_end pages a b p q = let x : a ≤ b = p.1 b q.0 in let y : b ≤ a = q.1 a p.0 in omega arith

-- each row of a truncation wrote what fits and went on, or waits
pub truncate_did : (s : State) (t : ℕ) (killed grant : Bool) (phase : TruncatePhase) (turn : Turn TruncatePhase) (new : Pool)
    → Inv s.geometry s → 1 ≤ t → t < s.geometry.tasks + 1 → s.calls t ≡ Some (call.Truncate phase)
    → TruncateRow (pool_of s) t killed grant phase turn new → Did call.Truncate s t phase turn new
truncate_did s t killed grant (at.Start p) turn new h one l e row =
    start_did call.Truncate s t killed p.truncation.file _ answer.Killed (at.Start p) (at.Size (record { truncation = p.truncation }))
    turn new row refl refl refl refl refl refl refl (λ _ _ _. omega arith) (λ _ _. omega arith)
    (λ in_files good. record {
      slot = tt;
      lock = put_same s.locks p.truncation.file (Some t);
      facts = record { file = in_files; new = le _ _ good };
    })
truncate_did s t killed grant (at.Size p) turn new h one l e (end, is_end, row) =
    let y = stands_at s t _ h e in
    let f = p.truncation.file in
    let to = p.truncation.new in
    let high : ℕ = max (s.size f) end in
    let bare : (i : ℕ) → high ≤ i → s.pages f i ≡ None = λ i z. is_end.0 i (omega arith) in
    let low : high ≤ s.geometry.limit = (let a = end_low s f end h is_end in let b = h.sizes f in omega arith) in
    by_test (nat_lt to high) row
    (λ more r. let fewer : to < high = lt _ _ more in
    went call.Truncate s t (at.Size p) _ turn new (Cuts f to) r
    (λ top o. let same : end ≡ o.0 = same_end (s.pages f) end o.0 is_end o.1 in let is : top ≡ max (s.size f) o.0 = o.2 in
    let z = times_next (top - to) (high - 1 - to) (5 + s.geometry.tasks) (omega arith) in omega arith) (record {
      top = high;
      same = refl;
      holds = refl;
      lock = y.lock;
      sizes = refl;
      low = y.facts.new;
      high = omega arith;
      bare = bare;
      none_to_pass = λ k j d. never d;
      all_to_pass = λ j d. inr (up_to f (high - 1) j (omega arith));
      passes = λ k j d. let o = is_above f k (high - 1) j d in let z : (high - 1) + 1 ≤ j = o.1 in (o.0, omega arith, omega arith);
      none_gone = λ k j d. never d;
      fill = refl;
      own = record {
        slot = tt;
        lock = y.lock;
        facts = record {
          aim = record {
            file = y.facts.file;
            new = y.facts.new;
            index = (omega arith, omega arith);
            sized = put_same s.size f to;
            lost = omega arith;
          };
        };
      };
    }))
    (λ none r. let all : high ≤ to = le _ _ none in
    went call.Truncate s t (at.Size p) _ turn new (Cuts f to) r (λ _ _. omega arith) (record {
      top = high;
      same = refl;
      holds = refl;
      lock = y.lock;
      sizes = refl;
      low = y.facts.new;
      high = omega arith;
      bare = bare;
      none_to_pass = λ k j d. never d;
      all_to_pass = λ j d. inl (omega arith);
      passes = λ k j d. let o = is_up_to f k j to d in let z : to ≤ j = o.1 in (o.0, omega arith, z);
      none_gone = λ k j d. never d;
      fill = refl;
      own = record {
        slot = tt;
        lock = y.lock;
        facts = record { file = y.facts.file; new = y.facts.new; sized = put_same s.size f to; lost = omega arith };
      };
    }))
truncate_did s t killed grant (at.Want p) turn new h one l e row =
    let y = stands_at s t _ h e in
    want_did call.Truncate s t p.truncation.file p.index (at.Want p)
    (at.Locked (record { truncation = p.truncation; index = p.index; evicted = p.evicted })) turn new row refl refl refl refl refl refl
    (λ _ _. omega arith)
    (record { slot = put_same s.slots (slot_of s.geometry p.truncation.file p.index) (Some t); lock = y.lock; facts = y.facts })
truncate_did s t killed grant (at.Locked p) turn new h one l e row =
    let y = stands_at s t _ h e in
    let f = p.truncation.file in
    by_test (is_some (s.pages f p.index)) row
    (λ page r. went call.Truncate s t (at.Locked p) _ turn new Nothing r (λ _ _. omega arith) (record {
      same = refl;
      fill = tt;
      own = record {
        slot = y.slot;
        lock = y.lock;
        facts = record {
          aim = y.facts.aim;
          cached = some_page _ page;
          task = (omega arith, omega arith);
          cleared = λ w v x a b c d. absurd (omega arith);
        };
      };
    }))
    (λ none r. let w = tail_wider s.geometry.limit p.index (p.index + 1) (s.reserved f) (omega arith) in
    let z = y.facts.aim.lost in
    went call.Truncate s t (at.Locked p) _ turn new Nothing r (λ _ _. omega arith) (record {
      same = refl;
      fill = tt;
      own = record {
        slot = y.slot;
        lock = y.lock;
        facts = record {
          aim = record {
            file = y.facts.aim.file;
            new = y.facts.aim.new;
            index = y.facts.aim.index;
            sized = y.facts.aim.sized;
            lost = omega arith;
          };
          bare = no_page _ none;
        };
      };
    }))
truncate_did s t killed grant (at.Unmap p) turn new h one l e row =
    let y = stands_at s t _ h e in
    let f = p.truncation.file in
    by_test (nat_lt p.task s.geometry.tasks) row
    (λ more r. let z = lt _ _ more in
    went call.Truncate s t (at.Unmap p) _ turn new (Clears p.task f p.index) r (λ _ _. omega arith) (record {
      same = refl;
      fill = tt;
      own = record {
        slot = y.slot;
        lock = y.lock;
        facts = record {
          aim = y.facts.aim;
          cached = y.facts.cached;
          task = (omega arith, omega arith);
          cleared = cleared_next s p.task f p.index y.facts.cleared;
        };
      };
    }))
    (λ last r. went call.Truncate s t (at.Unmap p) _ turn new (Clears p.task f p.index) r (λ _ _. omega arith) (record {
      same = refl;
      fill = tt;
      own = record {
        slot = y.slot;
        lock = y.lock;
        facts = record {
          aim = y.facts.aim;
          cached = y.facts.cached;
          cleared = λ w v x a b. cleared_next s p.task f p.index y.facts.cleared w v x a (let c = le _ _ last in omega arith);
        };
      };
    }))
truncate_did s t killed grant (at.Evict p) turn new h one l e (x, page, row) =
    let y = stands_at s t _ h e in
    let c = y.facts.cleared in
    let f = p.truncation.file in
    let w = tail_next s.geometry.limit p.index (s.reserved f) (page_within f p.index x h.inside page).1
    (page_marked s.geometry s f p.index x h page) in
    let z = y.facts.aim.lost in
    went call.Truncate s t (at.Evict p) _ turn new (Evicts f p.index x) row (λ _ _. omega arith) (record {
      file = y.facts.aim.file;
      same = refl;
      holds = refl;
      empty = refl;
      full = refl;
      change = refl;
      balance = omega arith;
      owed = refl;
      page = page;
      held = y.slot;
      cleared = λ w v z a d. let o = h.entries.owners w v z a in c w v z o.0 (let b = o.1 in omega arith) a d;
      fill = tt;
      own = record {
        slot = y.slot;
        lock = y.lock;
        facts = record {
          aim = record {
            file = y.facts.aim.file;
            new = y.facts.aim.new;
            index = y.facts.aim.index;
            sized = y.facts.aim.sized;
            lost = omega arith;
          };
          bare = put2_same s.pages f p.index None;
        };
      };
    })
truncate_did s t killed grant (at.Free p) turn new h one l e row =
    let y = stands_at s t _ h e in
    went call.Truncate s t (at.Free p) _ turn new (Frees p.held) row (λ _ _. omega arith) (record {
      same = refl;
      some = refl;
      none = refl;
      balance = refl;
      owed = refl;
      fill = tt;
      own = record { slot = y.slot; lock = y.lock; facts = y.facts };
    })
truncate_did s t killed grant (at.Unslot p) turn new h one l e row =
    let y = stands_at s t _ h e in
    let f = p.truncation.file in
    let i = p.index in
    let to = p.truncation.new in
    by_test (nat_lt to i) row
    (λ more r.
    let fewer : to < i = lt _ _ more in
    let back : i ≡ (i - 1) + 1 = omega arith in
    let low = y.facts.aim.index.1 in
    went call.Truncate s t (at.Unslot p) _ turn new (Passes f i to) r
    (λ _ _. let z = times_next (i - to) (i - 1 - to) (5 + s.geometry.tasks) (omega arith) in omega arith) (record {
      same = refl;
      lock = refl;
      some = refl;
      none = refl;
      held = y.slot;
      bare = y.facts.bare;
      sized = y.facts.aim.sized;
      all_to_pass = λ k j d. to_pass_next f k i j to (i - 1) back d;
      passes = λ k j d. passed_next f k i j to (i - 1) back (omega arith) d;
      none_gone = λ k j d. never d;
      no_fill = refl;
      fill = refl;
      own = record {
        slot = tt;
        lock = y.lock;
        facts = record {
          aim = record {
            file = y.facts.aim.file;
            new = y.facts.aim.new;
            index = (omega arith, omega arith);
            sized = y.facts.aim.sized;
            lost = subst (λ (w : ℕ). p.evicted ≤ count_within (s.reserved f) w s.geometry.limit) back y.facts.aim.lost;
          };
        };
      };
    }))
    (λ last r.
    let all : i ≤ to = le _ _ last in
    let here : i ≡ to = (let z = y.facts.aim.index.0 in omega arith) in
    went call.Truncate s t (at.Unslot p) _ turn new (Passes f i to) r (λ _ _. omega arith) (record {
      same = refl;
      lock = refl;
      some = refl;
      none = refl;
      held = y.slot;
      bare = y.facts.bare;
      sized = y.facts.aim.sized;
      all_to_pass = λ k j d. to_pass_tail f k i j to all d;
      passes = λ k j d. passed_tail f k i j to all d;
      none_gone = λ k j d. never d;
      no_fill = refl;
      fill = refl;
      own = record {
        slot = tt;
        lock = y.lock;
        facts = record {
          file = y.facts.aim.file;
          new = y.facts.aim.new;
          sized = y.facts.aim.sized;
          lost = subst (λ (w : ℕ). p.evicted ≤ count_within (s.reserved f) w s.geometry.limit) here y.facts.aim.lost;
        };
      };
    }))
truncate_did s t killed grant (at.Tail p) turn new h one l e row =
    let y = stands_at s t _ h e in
    let f = p.truncation.file in
    let z = y.facts.lost in
    went call.Truncate s t (at.Tail p) _ turn new (CutsTail f p.truncation.new) row (λ _ _. omega arith) (record {
      file = y.facts.file;
      same_to_pass = refl;
      same_passed = refl;
      goners = λ k j d. is_up_to f k j p.truncation.new d;
      holds = refl;
      hand = refl;
      change = refl;
      balance = omega arith;
      owed = omega arith;
      lock = y.lock;
      all_passed = λ j d. ap (λ c. passed c f j) e ∙ from_on f p.truncation.new j d;
      deletes = λ j d. from_on f p.truncation.new j d;
      fill = refl;
      own = record {
        slot = tt;
        lock = y.lock;
        facts = record {
          file = y.facts.file;
          sized = y.facts.sized;
          few = (let a = count_within-missing (s.reserved f) p.truncation.new s.geometry.limit in omega arith);
        };
      };
    })
truncate_did s t killed grant (at.Settle p) turn new h one l e (low, used, row) =
    let y = stands_at s t _ h e in
    went call.Truncate s t (at.Settle p) _ turn new (Settles p.excess (p.excess + p.evicted)) row (λ _ _. omega arith) (record {
      low = low;
      used = used;
      same = refl;
      change = refl;
      balance = omega arith;
      owed = omega arith;
      fill = tt;
      own = record { slot = tt; lock = y.lock; facts = record { file = y.facts.file; sized = y.facts.sized } };
    })
truncate_did s t killed grant (at.Leave p) turn new h one l e row =
    over call.Truncate s t (at.Leave p) answer.Done turn new (LeavesLock p.truncation.file) row (λ _ _. omega arith)
    (record { over = refl; same = refl; slot = refl; lock = refl; held = (stands_at s t _ h e).lock; done = λ k j. refl })
