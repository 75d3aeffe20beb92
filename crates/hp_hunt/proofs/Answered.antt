-- An answer is the one that is sought if its call is, by what is known of the calls before it.
use Rattle.std.proofs.Common.{◌≡◌, ◌∙◌, ℕ, List, ap, sym, subst}
use Rattle.std.specs.Prelude.{◌↔◌, Bool, false, IsTrue}
use Rattle.hp_base.specs.declared.answer.Answer.{Answer}
use Rattle.hp_watch.specs.Calls.{AreCalls, calls_begun, calls_of, last_call}
use Rattle.hp_watch.specs.Moments.{Moment}
use Rattle.hp_watch.specs.declared.call_word.CallWord.{CallWord}
use Rattle.hp_watch.specs.declared.calls.TaskCalls.{TaskCalls}
use Rattle.hp_hunt.specs.Conditions.{IsAnswered, IsEnd, IsSoughtEnd, IsStepOf}
use Rattle.hp_hunt.specs.declared.condition.SoughtAnswer.{SoughtAnswer}

module _ (s : SoughtAnswer) (before : List Moment) (m : Moment) where
  pub answered : (calls : List TaskCalls) (t : ℕ) (a : Answer) (known : TaskCalls) (is_so : Bool) → AreCalls calls before
      → known ≡ calls_of calls t → IsStepOf t m.event → IsEnd a m.outcome
      → ((u : ℕ) (b : Answer) → IsStepOf u m.event → IsEnd b m.outcome → (u ≡ t) × (b ≡ a))
      → (IsTrue is_so ↔ IsSoughtEnd s known.last known.begun t a m.core) → (IsTrue is_so ↔ IsAnswered s before m)
  answered calls t a known is_so were is step end one sought =
      let last = ap (λ (x : TaskCalls). x.last) is ∙ were.last t in
      let begun = ap (λ (x : TaskCalls). x.begun) is ∙ were.begun t in (
        λ h. record {
          task = t;
          answer = a;
          step = step;
          end = end;
          is = subst (λ (n : ℕ). IsSoughtEnd s (last_call t before) n t a m.core) begun
              (subst (λ (w : CallWord). IsSoughtEnd s w known.begun t a m.core) last (sought.0 h));
        },
        λ h. (
            let same = one h.task h.answer h.step h.end in
            let here = subst (λ (b : Answer). IsSoughtEnd s (last_call t before) (calls_begun t before) t b m.core) same.1
            (subst (λ (u : ℕ). IsSoughtEnd s (last_call u before) (calls_begun u before) u h.answer m.core) same.0 h.is) in
            sought.1 (subst (λ (n : ℕ). IsSoughtEnd s known.last n t a m.core) (sym begun)
            (subst (λ (w : CallWord). IsSoughtEnd s w (calls_begun t before) t a m.core) (sym last) here))),
      )

  pub not_answered : ((u : ℕ) (b : Answer) → IsStepOf u m.event → IsEnd b m.outcome → ⊥) → (IsTrue false ↔ IsAnswered s before m)
  not_answered none = (λ h. let bad : ⊥ = cc in absurd bad, λ h. absurd (none h.task h.answer h.step h.end))
