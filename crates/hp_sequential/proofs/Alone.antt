-- A call that runs alone goes from phase to phase.
use Rattle.std.proofs.Common.{◌≡◌, ◌≢◌, ℕ, refl, ap, sym, ◌∙◌, subst, inl, inr, ◌⊎◌}
use Rattle.std.proofs.Math.Path.{fun_ext}
use Rattle.std.specs.Prelude.{Bool, true, false, not, ◌&&◌, Option, Some, None, List, [], ◌∷◌, MatchBool, MatchOption}
use Rattle.hp_base.specs.Numbers.{put}
use Rattle.hp_base.specs.declared.answer.Answer.{Answer}
use Rattle.hp_base.specs.declared.event.Op.{Op}
use Rattle.hp_base.specs.declared.event.Event.{Event}
use Rattle.hp_base.proofs.Puts.{put_same, put_other, same_or_other}
use Rattle.hp_machine.specs.State.{Pool, State, pool_of, with_pool, is_dead, is_killed}
use Rattle.hp_machine.specs.Parts.{Goes, Ends}
use Rattle.hp_machine.specs.Events.{Row, BeginRow, CallRow, TurnRow, Run, first, is_exit, outcome_of, left, lives_after}
use Rattle.hp_machine.specs.declared.outcome.Life.{Life}
use Rattle.hp_machine.specs.declared.outcome.Life.TheVariants.{Alive}
use Rattle.hp_machine.specs.declared.outcome.Outcome.{Outcome}
use Rattle.hp_machine.specs.declared.outcome.Outcome.TheVariants as outcome
use Rattle.hp_machine.specs.declared.call.Call.{Call}
use Rattle.hp_machine.specs.declared.call.Turn.{Turn}
use Rattle.hp_machine.specs.declared.call.Turn.TheVariants.{Moved, Blocked, Ended}
use Rattle.hp_laws.proofs.Reading.{step_of, lives_some}
use Rattle.hp_sequential.specs.Meaning.{IsReady, AreSteps, IsCall}

-- the side of a row that a test takes
pub if_true : (A B : Type 0) {b : Bool} → b ≡ true → MatchBool b A B → A
if_true A B e m = subst (λ (c : Bool). MatchBool c A B) e m

-- where the test fails
pub if_false : (A B : Type 0) {b : Bool} → b ≡ false → MatchBool b A B → B
if_false A B e m = subst (λ (c : Bool). MatchBool c A B) e m

-- so with an option: where it is empty
pub if_none : {T : Type 0} (A : Type 0) (B : T → Type 0) {o : Option T} → o ≡ None → MatchOption o A B → A
if_none {T} A B e m = subst (λ (p : Option T). MatchOption p A B) e m

-- and where it has a value
pub if_some : {T : Type 0} (A : Type 0) (B : T → Type 0) {o : Option T} {x : T} → o ≡ Some x → MatchOption o A B → B x
if_some {T} A B e m = subst (λ (p : Option T). MatchOption p A B) e m

-- steps by an operation's rows lead from a pool and a phase to that answer and that pool
pub data Leads {P : Type 0} (R : Pool → P → Turn P → Pool → Type 0) (b : Answer) (n : Pool) : Pool → P → Type 0 where
  ends : {s : Pool} {p : P} → R s p (Ended b) n → Leads R b n s p
  goes : {s m : Pool} {p q : P} → R s p (Moved q) m → Leads R b n m q → Leads R b n s p
  waits : {s m : Pool} {p q : P} (holder : ℕ) → R s p (Blocked q holder) m → Leads R b n m q → Leads R b n s p

-- what is left to do after a turn
abbrev pub Then : {P : Type 0} (R : Pool → P → Turn P → Pool → Type 0) (b : Answer) (n : Pool) → Turn P → Pool → Type 0
Then R b n (Moved q) m = Leads R b n m q
Then R b n (Blocked q holder) m = Leads R b n m q
Then R b n (Ended a) m = (b ≡ a) × (n ≡ m)

-- a turn that is one of these steps, with what is left to do after it
pub record Rest {P : Type 0} (R : Pool → P → Turn P → Pool → Type 0) (b : Answer) (n : Pool) (turn : Turn P) (m : Pool) : Type 0 where
  pub rest : Then R b n turn m

-- the next step: its turn, its row, and what is left
pub next : {P : Type 0} {R : Pool → P → Turn P → Pool → Type 0} {b : Answer} {n s : Pool} {p : P} → Leads R b n s p
    → (turn : Turn P) × (m : Pool) × R s p turn m × Rest R b n turn m
next {b = b} {n = n} (Leads.ends r) = (Ended b, n, r, record { rest = (refl, refl) })
next (Leads.goes {m = m} {q = q} r k) = (Moved q, m, r, record { rest = k })
next (Leads.waits {m = m} {q = q} h r k) = (Blocked q h, m, r, record { rest = k })

-- the turn moved
pub moves : {P : Type 0} {R : Pool → P → Turn P → Pool → Type 0} {b : Answer} {n m after : Pool} {turn : Turn P} {q : P}
    → Rest R b n turn m → Goes q after turn m → Leads R b n after q
moves {P} {R} {b} {n} {m} {q = q} k e = subst (λ (x : Pool). Leads R b n x q) e.1 (subst (λ (u : Turn P). Then R b n u m) e.0 k.rest)

-- or ended the call
pub stops : {P : Type 0} {R : Pool → P → Turn P → Pool → Type 0} {b a : Answer} {n m after : Pool} {turn : Turn P}
    → Rest R b n turn m → Ends a after turn m → (b ≡ a) × (n ≡ after)
stops {P} {R} {b} {n = n} {m = m} k e = (let z = subst (λ (u : Turn P). Then R b n u m) e.0 k.rest in (z.0, z.1 ∙ e.1))

-- a step whose row can only move to one phase and pool
pub goes_on : {P : Type 0} {R : Pool → P → Turn P → Pool → Type 0} {b : Answer} {n s after : Pool} {p q : P} → Leads R b n s p
    → ((turn : Turn P) (m : Pool) → R s p turn m → Goes q after turn m) → Leads R b n after q
goes_on k only = let z = next k in moves z.3 (only z.0 z.1 z.2)

-- or end the call
pub ends_so : {P : Type 0} {R : Pool → P → Turn P → Pool → Type 0} {b a : Answer} {n s after : Pool} {p : P} → Leads R b n s p
    → ((turn : Turn P) (m : Pool) → R s p turn m → Ends a after turn m) → (b ≡ a) × (n ≡ after)
ends_so k only = let z = next k in stops z.3 (only z.0 z.1 z.2)

-- the pool by another equation
pub from_pool : {P : Type 0} {R : Pool → P → Turn P → Pool → Type 0} {b : Answer} {n s m : Pool} {p : P} → s ≡ m → Leads R b n s p
    → Leads R b n m p
from_pool {R = R} {b = b} {n = n} {p = p} e k = subst (λ (x : Pool). Leads R b n x p) e k

-- of two writes at one place the later counts
pub put_put : {A : Type 0} (f : ℕ → A) (k : ℕ) (v w : A) → put (put f k v) k w ≡ put f k w
put_put {A} f k v w = fun_ext (λ j. elim (same_or_other j k) [
  | inl e ↦ subst (λ (i : ℕ). put (put f k v) k w i ≡ put f k w i) (sym e) (put_same (put f k v) k w ∙ sym (put_same f k w))
  | inr e ↦ put_other (put f k v) k w j e ∙ (put_other f k v j e ∙ sym (put_other f k w j e))
])

-- the state in which the task's call stands at a phase
abbrev pub in_call : State → (task : ℕ) → Pool → Call → State
in_call s t p c = record (with_pool s p) { calls = put s.calls t (Some c) }

-- the state once the call is over
abbrev pub over : {P : Type 0} → (P → Call) → State → (task : ℕ) → Pool → P → State
over call s t p last = record (with_pool s p) { life = lives_after s.life t (call last) None; calls = put s.calls t None }

-- what the steps of a call come to: an end
abbrev pub Comes : {P : Type 0} → (P → Call) → (Pool → P → Turn P → Pool → Type 0)
    → State → (task : ℕ) → Answer → State → Pool → P → Type 0
Comes {P} call R s t b n pool phase = (end : Pool) × (last : P) × Leads R b end pool phase × (n ≡ over call s t end last)

-- the state after a step that goes on with the call
goes_in_call : (s : State) (t : ℕ) (new : Pool) (c d : Call) (next_call : Option Call) (m : State) → next_call ≡ Some d
    → m ≡ record (with_pool s new) { life = lives_after s.life t c next_call; calls = put (put s.calls t (Some c)) t next_call }
    → m ≡ in_call s t new d
goes_in_call s t new c d next_call m leaves is =
    let lives = ap (lives_after s.life t c) leaves ∙ lives_some s.life t c d in
    let calls = put_put s.calls t (Some c) next_call ∙ ap (put s.calls t) leaves in
    is ∙ (λ i. record (with_pool s new) { life = lives i; calls = calls i })

-- how the rest of the steps goes on after a step
abbrev GoesOn : (t : ℕ) → Answer → Outcome → List (Event × Outcome) → Type 0
GoesOn t b o es = ((o ≡ outcome.Ended b) × (es ≡ [])) ⊎ (((other : Answer) → o ≢ outcome.Ended other) × AreSteps t b es)

-- a step that doesn't end the call
not_over : (t : ℕ) (b : Answer) (o wanted : Outcome) (es : List (Event × Outcome)) → o ≡ wanted
    → ((a : Answer) → wanted ≢ outcome.Ended a) → GoesOn t b o es → AreSteps t b es
not_over t b o wanted es e moved (inl u) = absurd (moved b (sym e ∙ u.0))
not_over t b o wanted es e moved (inr u) = u.1

-- one row of the call, and what its rest comes to
by_turn : {P : Type 0} (call : P → Call) (R : Pool → P → Turn P → Pool → Type 0) (s : State) (t : ℕ) (b : Answer)
    (n : State) (pool new : Pool) (phase : P) (o : Outcome) (next_call : Option Call) (m : State)
    (es : List (Event × Outcome)) (turn : Turn P)
    → R pool phase turn new → o ≡ outcome_of call turn → next_call ≡ left call turn
    → m ≡ record (with_pool s new) {
      life = lives_after s.life t (call phase) next_call;
      calls = put (put s.calls t (Some (call phase))) t next_call;
    }
    → GoesOn t b o es → Run m es n
    → ((q : P) → AreSteps t b es → Run (in_call s t new (call q)) es n → Comes call R s t b n new q) → Comes call R s t b n pool phase
by_turn call R s t b n pool new phase o next_call m es (Moved q) row tells leaves is how run rest =
    let k = rest q (not_over t b o _ es tells (λ a e. cc) how)
    (subst (λ (x : State). Run x es n) (goes_in_call s t new (call phase) (call q) next_call m leaves is) run) in
    (k.0, k.1, Leads.goes row k.2, k.3)
by_turn call R s t b n pool new phase o next_call m es (Blocked q holder) row tells leaves is how run rest =
    let k = rest q (not_over t b o _ es tells (λ a e. cc) how)
    (subst (λ (x : State). Run x es n) (goes_in_call s t new (call phase) (call q) next_call m leaves is) run) in
    (k.0, k.1, Leads.waits holder row k.2, k.3)
by_turn call R s t b n pool new phase o next_call m es (Ended a) row tells leaves is (inr u) run rest = absurd (u.0 a tells)
by_turn {P} call R s t b n pool new phase o next_call m es (Ended a) row tells leaves is (inl u) run rest =
    let z : outcome.Ended a ≡ outcome.Ended b = sym tells ∙ u.0 in
    let same : a ≡ b = (cc) in
    let last : Run m [] n = subst (λ (fs : List (Event × Outcome)). Run m fs n) u.1 run in
    let calls = put_put s.calls t (Some (call phase)) next_call ∙ ap (put s.calls t) leaves in
    let lives = ap (lives_after s.life t (call phase)) leaves in (
      new,
      phase,
      Leads.ends (subst (λ (c : Answer). R pool phase (Ended c) new) same row),
      last ∙ (is ∙ (λ i. record (with_pool s new) { life = lives i; calls = calls i })),
    )

-- a task that is alive is neither dead nor killed
lives_not_dead : (l : Life) → l ≡ Alive → (is_dead l ≡ false) × (is_killed l ≡ false)
lives_not_dead l e = (ap is_dead e, ap is_killed e)

-- granted steps of an alive task alone are steps by its operation's rows
pub comes : {P : Type 0} (call : P → Call) (R : Pool → P → Turn P → Pool → Type 0) (s : State) (t : ℕ) (b : Answer) (n : State)
    → ((pool new : Pool) (phase : P) (o : Outcome) (next_call : Option Call)
    → CallRow pool t false true (call phase) o new next_call → TurnRow call (R pool phase) o new next_call)
    → s.life t ≡ Alive → (es : List (Event × Outcome)) (pool : Pool) (phase : P) → AreSteps t b es
    → Run (in_call s t pool (call phase)) es n → Comes call R s t b n pool phase
comes call R s t b n rows alive [] pool phase steps run = absurd steps
comes call R s t b n rows alive (e ∷ es) pool phase steps run =
    let here = in_call s t pool (call phase) in
    let row = subst (λ (v : Event). Row here v e.1 run.0) steps.0 run.1 in
    let l = lives_not_dead (s.life t) alive in
    let z = step_of here t true (call phase) e.1 run.0 row l.0 (put_same s.calls t (Some (call phase))) in
    let r = rows pool z.0 phase e.1 z.1 (subst (λ (killed : Bool). CallRow pool t killed true (call phase) e.1 z.0 z.1) l.1 z.2) in
    by_turn call R s t b n pool z.0 phase e.1 z.1 run.0 es r.0 r.1 r.2 r.3 z.3 steps.1 run.2
    (λ q steps run. comes call R s t b n rows alive es z.0 q steps run)

-- the Begin of an alive task that has no call leads to its first phase, with the pool as it was
begins : (s : State) (t : ℕ) (p : Op) (o : Outcome) (m : State) → IsReady s t → BeginRow s t p o m → m ≡ in_call s t (pool_of s) (first p)
unfolding BeginRow
begins s t p o m ready row =
    let l = lives_not_dead (s.life t) ready.1 in
    (if_false _ _ (ap (λ (k : Bool). k && not (is_exit p)) l.1) (if_none _ _ (ready.0 t) (if_false _ _ l.0 row))).1

-- a call that runs alone: the steps that its first phase leads to
pub call_comes : {P : Type 0} (call : P → Call) (R : Pool → P → Turn P → Pool → Type 0) (s : State) (t : ℕ) (p : Op)
    (b : Answer) (n : State) (events : List (Event × Outcome)) (start : P)
    → ((pool new : Pool) (phase : P) (o : Outcome) (next_call : Option Call)
    → CallRow pool t false true (call phase) o new next_call → TurnRow call (R pool phase) o new next_call)
    → first p ≡ call start → IsReady s t → IsCall t p b events → Run s events n → Comes call R s t b n (pool_of s) start
call_comes call R s t p b n [] start rows is ready steps run = absurd steps
call_comes call R s t p b n (e ∷ es) start rows is ready steps run =
    let row = subst (λ (v : Event). Row s v e.1 run.0) steps.0 run.1 in
    let begun = begins s t p e.1 run.0 ready row ∙ ap (in_call s t (pool_of s)) is in
    comes call R s t b n rows ready.1 es (pool_of s) start steps.1 (subst (λ (m : State). Run m es n) begun run.2)
