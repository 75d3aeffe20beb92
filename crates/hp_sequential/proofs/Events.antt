-- The events, taken by a state and by that state with its frames renamed.
use Rattle.std.proofs.Common.{◌≡◌, ℕ, refl, ap, sym, ◌∙◌}
use Rattle.std.proofs.Math.Path.{fun_ext}
use Rattle.std.specs.Prelude.{not, ◌&&◌, Option, Some, None}
use Rattle.std.specs.Option.{option_map}
use Rattle.hp_base.specs.Numbers.{put}
use Rattle.hp_base.specs.declared.event.Op.{Op}
use Rattle.hp_base.specs.declared.event.Op.TheVariants as op
use Rattle.hp_base.specs.declared.event.Event.{Event}
use Rattle.hp_base.specs.declared.event.Event.TheVariants.{Begin, Step, Kill, Resize}
use Rattle.hp_machine.specs.State.{Pool, State, pool_of, with_pool, is_alive, is_killed, is_dead}
use Rattle.hp_machine.specs.Events.{Row, BeginRow, StepRow, KillRow, first, is_exit, Tells, lives_after}
use Rattle.hp_machine.specs.Views.{hand}
use Rattle.hp_machine.specs.declared.outcome.Life.{Life}
use Rattle.hp_machine.specs.declared.outcome.Outcome.{Outcome}
use Rattle.hp_machine.specs.declared.call.Call.{Call}
use Rattle.hp_machine.specs.declared.call.Call.TheVariants as call
use Rattle.hp_sequential.specs.Renaming.{Renaming, call_renamed, renamed}
use Rattle.hp_sequential.proofs.Names.{as_many, put_map, wider}
use Rattle.hp_sequential.proofs.Parts.{IsUsed, Used, by_tests, by_names}
use Rattle.hp_sequential.proofs.Calls.{CallFollows, call_agrees, call_row}
use Rattle.hp_sequential.proofs.Resizes.{ResizeFollows, resize_row}

-- a call begins with no frame in its hand
first_renamed : (to : ℕ → ℕ) (o : Op) → call_renamed to (first o) ≡ first o
first_renamed to (op.Map file from len) = refl
first_renamed to o = refl

-- a task is dead once its exit is over, under any names
lives_renamed : (p q : ℕ → ℕ) (lives : ℕ → Life) (t : ℕ) (c : Call) (next : Option Call)
    → lives_after lives t (call_renamed p c) (option_map (call_renamed q) next) ≡ lives_after lives t c next
lives_renamed p q lives t (call.Exit c) None = refl
lives_renamed p q lives t (call.Exit c) (Some next) = refl
lives_renamed p q lives t c next = refl

-- whatever names a frame names one in use
pub record InUse (s : State) : Type 0 where
  pub pool : Used s.frames (pool_of s)
  pub hands : (u x : ℕ) → hand (s.calls u) ≡ Some x → IsUsed (s.frame x)

-- the event has the same outcome, and leads to states that are each other with their frames renamed
pub record EventFollows (o : Outcome) (after : State) (o' : Outcome) (after' : State) : Type 0 where
  pub names : Renaming after.frames
  pub tells : o' ≡ o
  pub states : after' ≡ renamed names after

-- under the names as they are
under : {frames : ℕ} (r : Renaming frames) {wanted o o' : Outcome} {there after after' : State}
    → Tells wanted there o after → Tells wanted (renamed r there) o' after' → there.frames ≡ frames
    → EventFollows o after o' after'
unfolding wider
under r a b e = record {
  names = wider (as_many (ap (λ (m : State). m.frames) a.1 ∙ e)) r;
  tells = b.0 ∙ sym a.0;
  states = b.1 ∙ sym (ap (renamed r) a.1);
}

-- calls under names that call as before what is in a hand
calls_agree : (s : State) (r names : ℕ → ℕ) → InUse s → ((x : ℕ) → IsUsed (s.frame x) → names x ≡ r x)
    → ◌≡◌ {A = ℕ → Option Call} (λ u. option_map (call_renamed r) (s.calls u)) (λ u. option_map (call_renamed names) (s.calls u))
calls_agree s r names h keeps = fun_ext (λ u. sym (call_agrees r names (s.calls u) (λ x q. keeps x (h.hands u x q))))

-- after a step of a call
after_call : (s : State) (r : Renaming s.frames) (t : ℕ) (c : Call) (o o' : Outcome) (pool pool' : Pool)
    (next next' : Option Call) (after after' : State)
    → InUse s → CallFollows s.frames (pool_of s) r o pool next o' pool' next'
    → after ≡ record (with_pool s pool) { life = lives_after s.life t c next; calls = put s.calls t next }
    → after' ≡ record (with_pool (renamed r s) pool') {
      life = lives_after s.life t (call_renamed r.to c) next';
      calls = put (λ u. option_map (call_renamed r.to) (s.calls u)) t next';
    }
    → EventFollows o after o' after'
unfolding wider
after_call s r t c o o' pool pool' next next' after after' h k e d =
    let names = k.names in
    let lives = ap (lives_after s.life t (call_renamed r.to c)) k.calls ∙ lives_renamed r.to names.to s.life t c next in
    let calls = ap (put (λ u. option_map (call_renamed r.to) (s.calls u)) t) k.calls
    ∙ (ap (λ (m : ℕ → Option Call). put m t (option_map (call_renamed names.to) next)) (calls_agree s r.to names.to h k.keeps)
    ∙ put_map (option_map (call_renamed names.to)) s.calls t next) in
    record {
      names = wider (as_many (ap (λ (m : State). m.frames) e ∙ k.count)) names;
      tells = k.tells;
      states = d ∙ ((λ i. record (with_pool (renamed r s) (k.pools i)) { life = lives i; calls = calls i }) ∙ sym (ap (renamed names) e));
    }

-- after a resize
after_resize : (s : State) (r : Renaming s.frames) (o o' : Outcome) (pool pool' : Pool) (after after' : State)
    → InUse s → ResizeFollows (pool_of s) r o pool o' pool' → after ≡ with_pool s pool → after' ≡ with_pool (renamed r s) pool'
    → EventFollows o after o' after'
unfolding wider
after_resize s r o o' pool pool' after after' h k e d =
    let calls = calls_agree s r.to k.names.to h k.keeps in
    record {
      names = wider (as_many (ap (λ (m : State). m.frames) e)) k.names;
      tells = k.tells;
      states = d ∙ ((λ i. record (with_pool (renamed r s) (k.pools i)) { calls = calls i }) ∙ sym (ap (renamed k.names) e));
    }

-- an event and the same event of the renamed state have one outcome, and lead to states that are each other renamed
pub event_row : (s : State) (r : Renaming s.frames) (event : Event) (o o' : Outcome) (after after' : State)
    → InUse s → Row s event o after → Row (renamed r s) event o' after' → EventFollows o after o' after'
unfolding BeginRow StepRow KillRow
event_row s r (Begin t p) o o' after after' h a b =
    by_tests (is_dead (s.life t)) a b
    (λ _ a b. under r a b refl)
    (λ _ a b. by_names _ (call_renamed r.to) (s.calls t) a b
    (λ _ a b. by_tests (is_killed (s.life t) && not (is_exit p)) a b
    (λ _ a b. under r a b refl)
    (λ _ a b.
    let calls = ap (λ (c : Call). put (λ u. option_map (call_renamed r.to) (s.calls u)) t (Some c))
    (sym (first_renamed r.to p)) ∙ put_map (option_map (call_renamed r.to)) s.calls t (Some (first p)) in
    under r a (b.0, b.1 ∙ (λ i. record (renamed r s) { calls = calls i })) refl))
    (λ c _ a b. under r a b refl))
event_row s r (Step t grant) o o' after after' h a b =
    by_tests (is_dead (s.life t)) a b
    (λ _ a b. under r a b refl)
    (λ _ a b. by_names _ (call_renamed r.to) (s.calls t) a b
    (λ _ a b. under r a b refl)
    (λ c _ a b. after_call s r t c o o' a.0 b.0 a.1 b.1 after after' h (call_row t (is_killed (s.life t)) grant c h.pool a.2 b.2) a.3 b.3))
event_row s r (Kill t) o o' after after' h a b = by_tests (is_alive (s.life t)) a b (λ _ a b. under r a b refl) (λ _ a b. under r a b refl)
event_row s r (Resize n) o o' after after' h a b =
    after_resize s r o o' a.0 b.0 after after' h (resize_row (pool_of s) r n o o' a.0 b.0 h.pool a.1 b.1) a.2 b.2
