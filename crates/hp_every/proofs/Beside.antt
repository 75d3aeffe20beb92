-- A call in flight shows in no event of another task, and the event doesn't show in the call.
use Rattle.std.proofs.Common.{◌≡◌, ◌≢◌, ◌∙◌, ℕ, ap, sym, subst, inl, inr}
use Rattle.std.proofs.Math.Path.{fun_ext}
use Rattle.std.specs.Prelude.{not, ◌&&◌, Bool, false, Option, Some, None, MatchOption}
use Rattle.hp_base.specs.Numbers.{put}
use Rattle.hp_base.proofs.Puts.{put_other, put_same, same_or_other}
use Rattle.hp_base.specs.declared.event.Op.{Op}
use Rattle.hp_base.specs.declared.event.Event.{Event}
use Rattle.hp_base.specs.declared.event.Event.TheVariants.{Begin, Step, Kill, Resize}
use Rattle.hp_machine.specs.State.{State, with_pool, is_alive, is_dead, is_killed}
use Rattle.hp_machine.specs.Events.{BeginRow, KillRow, Refuses, Row, StepRow, first, is_exit, lives_after}
use Rattle.hp_machine.specs.declared.call.Call.{Call}
use Rattle.hp_machine.specs.declared.outcome.Outcome.{Outcome}
use Rattle.hp_machine.specs.declared.outcome.Outcome.TheVariants.{Begun}
use Rattle.hp_machine.specs.declared.outcome.Refusal.{Refusal}
use Rattle.hp_laws.specs.Laws.{IsOf}
use Rattle.hp_laws.proofs.Deciding.{clash}
use Rattle.hp_core.proofs.TaskStates.{at_false, at_true, by_option, by_test}

-- two changes at different places
put_put : {A : Type 0} (f : ℕ → A) (j k : ℕ) (v w : A) → j ≢ k → ◌≡◌ {A = ℕ → A} (put (put f j v) k w) (put (put f k w) j v)
put_put f j k v w h = fun_ext (λ i. elim (same_or_other i k) [
  | inl e ↦ ap (put (put f j v) k w) e ∙ (put_same (put f j v) k w
      ∙ sym (ap (put (put f k w) j v) e ∙ (put_other (put f k w) j v k (λ d. h (sym d)) ∙ put_same f k w)))
  | inr past ↦ put_other (put f j v) k w i past ∙ elim (same_or_other i j) [
    | inl e ↦ ap (put f j v) e ∙ (put_same f j v ∙ sym (ap (put (put f k w) j v) e ∙ put_same (put f k w) j v))
    | inr off ↦ put_other f j v i off ∙ sym (put_other (put f k w) j v i off ∙ put_other f k w i past)
  ]
])

-- a change that is taken back
put_back : {A : Type 0} (f : ℕ → A) (k : ℕ) (v : A) → ◌≡◌ {A = ℕ → A} (put (put f k v) k (f k)) f
put_back f k v = fun_ext (λ i. elim (same_or_other i k) [
  | inl e ↦ ap (put (put f k v) k (f k)) e ∙ (put_same (put f k v) k (f k) ∙ ap f (sym e))
  | inr off ↦ put_other (put f k v) k (f k) i off ∙ put_other f k v i off
])

-- the state with that call of the task in flight
abbrev pub calling : State → (task : ℕ) → Option Call → State
calling s t c = record s { calls = put s.calls t c }

-- and without it again
called_back : (s : State) (t : ℕ) (c : Option Call) → calling (calling s t c) t (s.calls t) ≡ s
called_back s t c = λ i. record s { calls = put_back s.calls t c i }

pub at_none : {A : Type 0} (P : Type 0) (Q : A → Type 0) (o : Option A) → o ≡ None → P → MatchOption o P Q
at_none {A} P Q o e p = subst (λ (c : Option A). MatchOption c P Q) (sym e) p

pub at_some : {A : Type 0} (P : Type 0) (Q : A → Type 0) (o : Option A) (x : A) → o ≡ Some x → Q x → MatchOption o P Q
at_some {A} P Q o x e q = subst (λ (c : Option A). MatchOption c P Q) (sym e) q

module _ (s n : State) (t : ℕ) (c : Option Call) (o : Outcome) where
  refused : (why : Refusal) → Refuses why s o n → Refuses why (calling s t c) o (calling n t c)
  refused why r = (r.0, ap (λ (m : State). calling m t c) r.1)

  begins : (u : ℕ) (op : Op) → u ≢ t → BeginRow s u op o n → BeginRow (calling s t c) u op o (calling n t c)
  unfolding BeginRow
  begins u op h row = by_test (is_dead (s.life u)) row
      (λ dead r. at_true _ _ _ dead (refused _ r))
      (λ lives r. at_false _ _ _ lives (by_option (s.calls u) r
      (λ none r. at_none _ _ _ (put_other s.calls t c u h ∙ none) (by_test (is_killed (s.life u) && not (is_exit op)) r
      (λ late r. at_true _ _ _ late (refused _ r))
      (λ soon r. at_false _ _ _ soon (
        r.0,
        ap (λ (m : State). calling m t c) r.1 ∙ (λ i. record s { calls = put_put s.calls u t (Some (first op)) c h i }),
      ))))
      (λ call some r. at_some _ _ _ call (put_other s.calls t c u h ∙ some) (refused _ r))))

  steps : (u : ℕ) (grant : Bool) → u ≢ t → StepRow s u grant o n → StepRow (calling s t c) u grant o (calling n t c)
  unfolding StepRow
  steps u grant h row = by_test (is_dead (s.life u)) row
      (λ dead r. at_true _ _ _ dead (refused _ r))
      (λ lives r. at_false _ _ _ lives (by_option (s.calls u) r
      (λ none r. at_none _ _ _ (put_other s.calls t c u h ∙ none) (refused _ r))
      (λ call some r. at_some _ _ _ call (put_other s.calls t c u h ∙ some) (
        r.0,
        r.1,
        r.2,
        ap (λ (m : State). calling m t c) r.3 ∙ (λ i. record (with_pool s r.0) {
          life = lives_after s.life u call r.1;
          calls = put_put s.calls u t r.1 c h i;
        }),
      ))))

  -- an event of another task has the same outcome, and leads to the same state but for the call
  pub row_beside : (event : Event) → (IsOf t event → ⊥) → Row s event o n → Row (calling s t c) event o (calling n t c)
  unfolding KillRow
  row_beside (Begin u op) h row = begins u op (λ e. h (sym e)) row
  row_beside (Step u grant) h row = steps u grant (λ e. h (sym e)) row
  row_beside (Kill u) h row = by_test (is_alive (s.life u)) row
      (λ alive r. at_true _ _ _ alive (r.0, ap (λ (m : State). calling m t c) r.1))
      (λ off r. at_false _ _ _ off (refused _ r))
  row_beside (Resize frames) h row = (row.0, row.1, ap (λ (m : State). calling m t c) row.2)

-- and back
pub row_before : (s n : State) (t : ℕ) (c : Option Call) (event : Event) (o : Outcome) → (IsOf t event → ⊥) → Row (calling s t c) event o n
    → Row s event o (calling n t (s.calls t))
row_before s n t c event o h row =
    subst (λ (m : State). Row m event o (calling n t (s.calls t))) (called_back s t c)
    (row_beside (calling s t c) n t (s.calls t) o event h row)

-- a begin that isn't refused
pub begun_row : (s n : State) (t : ℕ) (op : Op) (o : Outcome) → is_dead (s.life t) ≡ false → s.calls t ≡ None → is_killed (s.life t) ≡ false
    → n ≡ calling s t (Some (first op)) → o ≡ Begun → BeginRow s t op o n
unfolding BeginRow
begun_row s n t op o lives none killed is begun =
    at_false _ _ _ lives (at_none _ _ _ none (at_false _ _ _ (ap (λ (b : Bool). b && not (is_exit op)) killed) (begun, is)))

-- whatever begins then leads there
pub row_begun : (s n : State) (t : ℕ) (op : Op) (o : Outcome) → is_dead (s.life t) ≡ false → s.calls t ≡ None → is_killed (s.life t) ≡ false
    → BeginRow s t op o n → (o ≡ Begun) × (n ≡ calling s t (Some (first op)))
unfolding BeginRow
row_begun s n t op o lives none killed row = by_test (is_dead (s.life t)) row
    (λ dead r. clash (is_dead (s.life t)) dead lives)
    (λ _ r. by_option (s.calls t) r
    (λ _ r. by_test (is_killed (s.life t) && not (is_exit op)) r
    (λ late r. clash (is_killed (s.life t) && not (is_exit op)) late (ap (λ (b : Bool). b && not (is_exit op)) killed))
    (λ _ r. r))
    (λ call some r. (let bad : ◌≡◌ {A = Option Call} None (Some call) = sym none ∙ some in absurd (cc))))
