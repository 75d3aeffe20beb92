-- What a reached state without calls in flight is, and the ends of a call that runs alone in it.
use Rattle.std.proofs.Common.{◌≡◌, ℕ, ◌+◌, ◌-◌, refl, ap, sym, ◌∙◌, subst, arith}
use Rattle.std.proofs.Math.Path.{fun_ext}
use Rattle.std.proofs.lemmas.Bool.Decides.{nat_tests}
use Rattle.std.specs.Prelude.{Bool, true, false, ◌&&◌, nat_le, nat_lt, Option, Some, None, MatchBool, MatchOption}
use Rattle.hp_base.specs.Numbers.{put, put2}
use Rattle.hp_base.specs.Indices.{add_range}
use Rattle.hp_base.specs.declared.answer.Answer.{Answer}
use Rattle.hp_base.proofs.Puts.{put_same, put_self, put_tells}
use Rattle.hp_base.proofs.Totals.{total_same, total_none}
use Rattle.hp_machine.specs.State.{Pool, State, pool_of}
use Rattle.hp_machine.specs.Parts.{StartRow}
use Rattle.hp_machine.specs.Events.{lives_after}
use Rattle.hp_machine.specs.Headline.{reserved_in}
use Rattle.hp_machine.specs.Views.{used_ahead, slot_held, locked_file}
use Rattle.hp_machine.specs.declared.call.Call.{Call}
use Rattle.hp_machine.specs.declared.call.Turn.{Turn}
use Rattle.hp_laws.proofs.Invariant.{Inv, sum_of, put_known}
use Rattle.hp_sequential.specs.Meaning.{Looks, UsesAlike, Checked}
use Rattle.hp_sequential.proofs.Alone.{if_true, if_false, if_none, Leads, goes_on, ends_so, over, put_put}

-- the side of the table that a test takes
pub so_true : (A B : Type 0) {b : Bool} → b ≡ true → A → MatchBool b A B
so_true A B e a = subst (λ (c : Bool). MatchBool c A B) (sym e) a

-- where the test fails
pub so_false : (A B : Type 0) {b : Bool} → b ≡ false → B → MatchBool b A B
so_false A B e a = subst (λ (c : Bool). MatchBool c A B) (sym e) a

-- so with an option: where it is empty
pub so_none : {T : Type 0} (A : Type 0) (B : T → Type 0) {o : Option T} → o ≡ None → A → MatchOption o A B
so_none {T} A B e a = subst (λ (p : Option T). MatchOption p A B) (sym e) a

-- and where it has a value
pub so_some : {T : Type 0} (A : Type 0) (B : T → Type 0) {o : Option T} (x : T) → o ≡ Some x → B x → MatchOption o A B
so_some {T} A B x e a = subst (λ (p : Option T). MatchOption p A B) (sym e) a

-- the call is over: its answer, and the state after it
pub finish : {P : Type 0} (call : P → Call) (s : State) (t : ℕ) (last : P) {b a : Answer} {n : State} {end x : Pool}
    (M : Answer → State → Type 0) (m : State)
    → (b ≡ a) × (end ≡ x) → n ≡ over call s t end last → M a m → Looks m (over call s t x last) → (m : State) × M b m × Looks m n
finish call s t last {n = n} M m e is h l = (
  m,
  subst (λ (c : Answer). M c m) (sym e.0) h,
  subst (λ (y : State). Looks m y) (sym (is ∙ ap (λ (p : Pool). over call s t p last) e.1)) l,
)

-- to end the call of a task that has none changes nothing
pub idle_again : (s : State) (t : ℕ) → s.calls t ≡ None → put s.calls t None ≡ s.calls
idle_again s t e = put_known s.calls t None e

-- where no call is in flight, the reserved indices are the used ones
pub settled_used : (s : State) → Inv s.geometry s → ((u : ℕ) → s.calls u ≡ None) → s.used ≡ reserved_in s
settled_used s h idle =
    let none : sum_of s.geometry used_ahead s.calls ≡ 0 =
    total_same (s.geometry.tasks + 1) (λ _. 0) _ (λ u l. ap used_ahead (idle u)) ∙ total_none (s.geometry.tasks + 1) in
    let used = h.used in
    omega arith

-- so from one such state to another they change alike
pub uses_alike : (s n : State) → Inv s.geometry s → Inv n.geometry n → ((u : ℕ) → s.calls u ≡ None) → ((u : ℕ) → n.calls u ≡ None)
    → UsesAlike s n
uses_alike s n h k idle over =
    let a = settled_used s h idle in
    let b = settled_used n k over in
    omega arith

-- no slot and no lock is held where no call is in flight
pub free_slot : (s : State) → Inv s.geometry s → ((u : ℕ) → s.calls u ≡ None) → (k : ℕ) → s.slots k ≡ None
free_slot s h idle k = here (s.slots k) refl
  where
    here : (o : Option ℕ) → s.slots k ≡ o → s.slots k ≡ None
    here None e = e
    here (Some u) e = (let z : None ≡ Some _ = sym (ap slot_held (idle u)) ∙ (h.holders.slot k u e).1 in absurd (cc))

-- nor a lock
pub free_lock : (s : State) → Inv s.geometry s → ((u : ℕ) → s.calls u ≡ None) → (f : ℕ) → s.locks f ≡ None
free_lock s h idle f = here (s.locks f) refl
  where
    here : (o : Option ℕ) → s.locks f ≡ o → s.locks f ≡ None
    here None e = e
    here (Some u) e = (let z : None ≡ Some _ = sym (ap locked_file (idle u)) ∙ h.holders.lock f u e in absurd (cc))

-- what is taken and left again is as before
pub put_back : {A : Type 0} (f : ℕ → A) (k : ℕ) (v w : A) → f k ≡ w → put (put f k v) k w ≡ f
put_back f k v w e = put_put f k v w ∙ put_known f k w e

-- a change that is begun and ended leaves the count of them as it was
pub pending_back : (f : ℕ → ℕ) (k : ℕ) → put (put f k (f k + 1)) k (put f k (f k + 1) k - 1) ≡ f
pending_back f k =
    put_back f k (f k + 1) (put f k (f k + 1) k - 1) (let e : put f k (f k + 1) k ≡ f k + 1 = put_same f k (f k + 1) in omega arith)

-- to write what is there changes nothing
pub put2_self : {A : Type 0} (p : ℕ → ℕ → A) (f i : ℕ) (v : A) → p f i ≡ v → put2 p f i v ≡ p
put2_self p f i v e = ap (put p f) (put_known (p f) i v e) ∙ put_self p f

-- a range of one index
pub range_one : (r : ℕ → Bool) (i : ℕ) → add_range r i (i + 1) ≡ put r i true
unfolding add_range
range_one r i = fun_ext (λ j. grind (arith, nat_tests, put_tells r i true j))

-- no number is below itself
pub not_below_itself : (k : ℕ) → nat_lt k k ≡ false
not_below_itself k = grind (arith, nat_tests)

-- a conjunction with true is the other test
pub and_true : (a : Bool) → (a && true) ≡ a
and_true true = refl
and_true false = refl

-- and one with false fails
pub and_false : (a : Bool) → (a && false) ≡ false
and_false true = refl
and_false false = refl

-- a call that begins with the range check: an answer of the check, or what comes once the file's lock is taken
pub checked : {P : Type 0} (call : P → Call) (R : Pool → P → Turn P → Pool → Type 0) (s : State) (t f : ℕ)
    (bad : Bool) (b : Answer) (n : State) (end : Pool) (last here next : P) (at_kill : Answer) (Meant : Answer → State → Type 0)
    → s.locks f ≡ None → s.calls t ≡ None → lives_after s.life t (call last) None ≡ s.life
    → ((turn : Turn P) (m : Pool) → R (pool_of s) here turn m → StartRow (pool_of s) t false f bad at_kill here next turn m)
    → Leads R b end (pool_of s) here → n ≡ over call s t end last
    → (nat_le s.geometry.files f ≡ false → bad ≡ false
    → Leads R b end (record (pool_of s) { locks = put s.locks f (Some t) }) next → (m : State) × Meant b m × Looks m n)
    → (m : State) × Checked s f bad b m (Meant b m) × Looks m n
checked call R s t f bad b n end last here next at_kill Meant unlocked idle living rows k is rest = by_file (nat_le s.geometry.files f) refl
  where
    same : Looks s (over call s t (pool_of s) last)
    same = let calls = idle_again s t idle in λ i. record s { life = living i; calls = calls i }

    by_range : (c : Bool) → bad ≡ c → nat_le s.geometry.files f ≡ false → (m : State) × Checked s f bad b m (Meant b m) × Looks m n
    by_range true e d =
        finish call s t last (λ a m. Checked s f bad a m (Meant a m)) s
        (ends_so k (λ turn m r. if_true _ _ e (if_false _ _ d (rows turn m r)))) is
        (so_false _ _ d (so_true _ _ e (refl, refl))) same
    by_range false e d =
        let z = rest d e (goes_on k (λ turn m r. if_none _ _ unlocked (if_false _ _ e (if_false _ _ d (rows turn m r))))) in
        (z.0, so_false _ _ d (so_false _ _ e z.1), z.2)

    by_file : (c : Bool) → nat_le s.geometry.files f ≡ c → (m : State) × Checked s f bad b m (Meant b m) × Looks m n
    by_file true e =
        finish call s t last (λ a m. Checked s f bad a m (Meant a m)) s
        (ends_so k (λ turn m r. if_true _ _ e (rows turn m r))) is (so_true _ _ e (refl, refl)) same
    by_file false e = by_range bad refl e
