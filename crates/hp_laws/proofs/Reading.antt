-- What an event's row tells, and what a step's row does.
use Rattle.std.proofs.Common.{◌≡◌, ◌≢◌, ℕ, ◌+◌, ◌<◌, ◌≤◌, refl, ap, sym, ◌∙◌, subst, inl, inr, ◌⊎◌, length}
use Rattle.std.specs.Prelude.{Bool, true, false, not, ◌&&◌, Option, Some, None, IfSome}
use Rattle.hp_base.specs.Numbers.{put}
use Rattle.hp_base.specs.declared.event.Op.{Op}
use Rattle.hp_machine.specs.State.{Pool, State, pool_of, with_pool, is_alive, is_killed, is_dead}
use Rattle.hp_machine.specs.Events.{CallRow, BeginRow, StepRow, KillRow, first, is_exit, word_of, lives_after}
use Rattle.hp_machine.specs.declared.outcome.Life.{Life}
use Rattle.hp_machine.specs.declared.outcome.Life.TheVariants as life
use Rattle.hp_machine.specs.declared.outcome.Outcome.{Outcome}
use Rattle.hp_machine.specs.declared.outcome.Outcome.TheVariants as outcome
use Rattle.hp_machine.specs.declared.outcome.Refusal.{Refusal}
use Rattle.hp_machine.specs.declared.phase.Phase.{Phase}
use Rattle.hp_machine.specs.declared.call.Call.{Call}
use Rattle.hp_machine.specs.declared.call.Call.TheVariants as call
use Rattle.hp_laws.specs.Bounds.{sizes, IsTop, WaitsFor}
use Rattle.hp_laws.specs.StepsLeft.{steps_left}
use Rattle.hp_laws.proofs.Deletes.{deletes}
use Rattle.hp_laws.proofs.Invariant.{Inv, put_known}
use Rattle.hp_laws.proofs.Shared.{by_test, by_option}
use Rattle.hp_laws.proofs.Did.{Stepped, Wrote, Over, Waits}
use Rattle.hp_laws.proofs.ByWrite.{changes}
use Rattle.hp_laws.proofs.Steps.{call_did}

-- a Begin is refused and changes nothing, or its call is in flight
pub begin_cases : (s : State) (t : ℕ) (p : Op) (o : Outcome) (n : State) (P : Type 0) → BeginRow s t p o n
    → ((why : Refusal) → o ≡ outcome.Refused why → n ≡ s → P)
    → (is_dead (s.life t) ≡ false → s.calls t ≡ None → (is_killed (s.life t) && not (is_exit p)) ≡ false
    → o ≡ outcome.Begun → n ≡ record s { calls = put s.calls t (Some (first p)) } → P)
    → P
unfolding BeginRow
begin_cases s t p o n P row refused begun =
    by_test (is_dead (s.life t)) row
    (λ _ r. refused _ r.0 r.1)
    (λ lives r. by_option (s.calls t) r
    (λ none r. by_test (is_killed (s.life t) && not (is_exit p)) r
    (λ _ r. refused _ r.0 r.1)
    (λ may r. begun lives none may r.0 r.1))
    (λ c _ r. refused _ r.0 r.1))

-- a Step is refused and changes nothing, or it is one of its call
pub step_cases : (s : State) (t : ℕ) (grant : Bool) (o : Outcome) (n : State) (P : Type 0) → StepRow s t grant o n
    → ((why : Refusal) → o ≡ outcome.Refused why → n ≡ s → P)
    → ((c : Call) → is_dead (s.life t) ≡ false → s.calls t ≡ Some c → (pool : Pool) (next : Option Call)
    → CallRow (pool_of s) t (is_killed (s.life t)) grant c o pool next
    → n ≡ record (with_pool s pool) { life = lives_after s.life t c next; calls = put s.calls t next } → P) → P
unfolding StepRow
step_cases s t grant o n P row refused steps =
    by_test (is_dead (s.life t)) row
    (λ _ r. refused _ r.0 r.1)
    (λ lives r. by_option (s.calls t) r
    (λ _ r. refused _ r.0 r.1)
    (λ c some r. steps c lives some r.0 r.1 r.2 r.3))

-- a Step of a living task's call is one of it
pub step_of : (s : State) (t : ℕ) (grant : Bool) (c : Call) (o : Outcome) (n : State) → StepRow s t grant o n
    → is_dead (s.life t) ≡ false → s.calls t ≡ Some c
    → (pool : Pool) × (next : Option Call) × CallRow (pool_of s) t (is_killed (s.life t)) grant c o pool next
    × (n ≡ record (with_pool s pool) { life = lives_after s.life t c next; calls = put s.calls t next })
unfolding StepRow
step_of s t grant c o n row lives some =
    by_test (is_dead (s.life t)) row
    (λ dead r. (let z : true ≡ false = sym dead ∙ lives in absurd (cc)))
    (λ _ r. by_option (s.calls t) r
    (λ none r. (let z : ◌≡◌ {A = Option Call} None (Some c) = sym none ∙ some in absurd (cc)))
    (λ d is r. subst (λ (m : Call). (pool : Pool) × (next : Option Call)
    × CallRow (pool_of s) t (is_killed (s.life t)) grant m o pool next
    × (n ≡ record (with_pool s pool) { life = lives_after s.life t m next; calls = put s.calls t next }))
    (same (sym is ∙ some)) r))
  where
    same : {a b : Call} → Some a ≡ Some b → a ≡ b
    same z = cc

-- a Kill is refused and changes nothing, or the task is killed
pub kill_cases : (s : State) (t : ℕ) (o : Outcome) (n : State) (P : Type 0) → KillRow s t o n
    → ((why : Refusal) → o ≡ outcome.Refused why → n ≡ s → P)
    → (is_alive (s.life t) ≡ true → o ≡ outcome.Marked → n ≡ record s { life = put s.life t life.Killed } → P) → P
unfolding KillRow
kill_cases s t o n P row refused kills =
    by_test (is_alive (s.life t)) row
    (λ alive r. kills alive r.0 r.1)
    (λ _ r. refused _ r.0 r.1)

-- what a step that isn't blocked did
pub record Gone (s : State) (t top : ℕ) (c : Call) (o : Outcome) (new : Pool) (next : Option Call) : Type 0 where
  pub free : (u : ℕ) → o ≡ outcome.Blocked u → ⊥
  pub moved : (p : Phase) → o ≡ outcome.Moved p → (d : Call) × (next ≡ Some d) × (word_of d ≡ p)
  pub mappings : (u : ℕ) → u ≢ t → new.mappings u ≡ s.mappings u
  pub keeps : (f i : ℕ) → s.reserved f i ≡ true → (new.reserved f i ≡ true) ⊎ (deletes (Some c) f i ≡ true)
  pub grows : (f : ℕ) → (s.size f ≤ new.size f) ⊎ (sizes (Some c) ≡ Some f)
  pub nearer : IfSome (sizes (Some c)) (λ f. IsTop s f top)
      → steps_left s.geometry (length (new.mappings t)) top next + 1 ≤ steps_left s.geometry (length (s.mappings t)) top (Some c)

-- or it waits
abbrev pub Steps : State → (t top : ℕ) → Call → Outcome → Pool → Option Call → Type 0
Steps s t top c o new next =
    ((u : ℕ) × (o ≡ outcome.Blocked u) × (new ≡ pool_of s) × (next ≡ Some c) × WaitsFor s (Some c) u) ⊎ Gone s t top c o new next

-- so by what it wrote
steps_by : (s : State) (t top : ℕ) (c : Call) (o : Outcome) (new : Pool) (next : Option Call) → Stepped s t c o new next
    → Steps s t top c o new next
steps_by s t top c o new next (Waits u y) = inl (u, refl, refl, refl, y)
steps_by s t top c o new next (Wrote w d near y) = let k = changes s t (Some c) (Some d) w y in inr (record {
  free = λ u z. (let q : outcome.Moved (word_of d) ≡ outcome.Blocked u = z in cc);
  moved = λ p z. (d, refl, same z);
  mappings = k.mappings;
  keeps = k.keeps;
  grows = k.grows;
  nearer = near top;
})
  where
    same : {a b : Phase} → outcome.Moved a ≡ outcome.Moved b → a ≡ b
    same z = cc
steps_by s t top c o new next (Over w a near y) = let k = changes s t (Some c) None w y in inr (record {
  free = λ u z. (let q : outcome.Ended a ≡ outcome.Blocked u = z in cc);
  moved = λ p z. (let q : outcome.Ended a ≡ outcome.Moved p = z in absurd (cc));
  mappings = k.mappings;
  keeps = k.keeps;
  grows = k.grows;
  nearer = near top;
})

pub call_steps : (s : State) (t top : ℕ) (killed grant : Bool) (c : Call) (o : Outcome) (new : Pool) (next : Option Call)
    → Inv s.geometry s → 1 ≤ t → t < s.geometry.tasks + 1 → s.calls t ≡ Some c → CallRow (pool_of s) t killed grant c o new next
    → Steps s t top c o new next
call_steps s t top killed grant c o new next h one l e row =
    steps_by s t top c o new next (call_did s t killed grant c o new next h one l e row)

-- a task dies only where its call is left with nothing
pub lives_some : (lives : ℕ → Life) (t : ℕ) (c d : Call) → lives_after lives t c (Some d) ≡ lives
lives_some lives t (call.Touch p) d = refl
lives_some lives t (call.Map p) d = refl
lives_some lives t (call.Alloc p) d = refl
lives_some lives t (call.Punch p) d = refl
lives_some lives t (call.Truncate p) d = refl
lives_some lives t (call.Unmap p) d = refl
lives_some lives t (call.Exit p) d = refl

-- nothing changes where the call stays and the pool does
pub same_state : (s : State) (t : ℕ) (c : Call) (pool : Pool) (next : Option Call) → s.calls t ≡ Some c → pool ≡ pool_of s
    → next ≡ Some c → record (with_pool s pool) { life = lives_after s.life t c next; calls = put s.calls t next } ≡ s
same_state s t c pool next e same_pool same_next =
    let a : put s.calls t next ≡ s.calls = ap (put s.calls t) same_next ∙ put_known s.calls t (Some c) e in
    let b : lives_after s.life t c next ≡ s.life = ap (lives_after s.life t c) same_next ∙ lives_some s.life t c c in
    λ i. record (with_pool s (same_pool i)) { life = b i; calls = a i }
