use Rattle.std.proofs.Common.{◌≡◌, ◌∙◌, rules, ap, refl}
use Rattle.std.specs.Prelude.{◌==◌, ◌&&◌, Bool, true, false, MatchBool}
use Rattle.std.specs.Bool.{Decides}
use Rattle.std.proofs.lemmas.Bool.Decides.{Decides-eqb}
use Rattle.std.proofs.lemmas.Slice.Eq.{slice_eq-Decides}
use Rattle.hp_base.specs.contracts.answer.AnswerPartialEq as AnswerPartialEq
use Rattle.hp_base.specs.declared.answer.Answer.{Answer}
use Rattle.hp_watch.specs.contracts.call_word.CallWordPartialEq as CallWordPartialEq
use Rattle.hp_watch.specs.declared.call_word.CallWord.{CallWord}
use Rattle.hp_watch.specs.declared.calls.EndedCall.{EndedCall}
use Rattle.hp_summary.proofs.tally.is_same.Goals as goal

by : (b : Bool) (P : Type 0) → Decides b P → MatchBool b P (P → ⊥)
by true P h = h.0 refl
by false P h = λ p. let bad : false ≡ true = h.1 p in absurd (cc)

both : (p q : Bool) (P Q : Type 0) → Decides p P → Decides q Q → Decides (p && q) (P × Q)
both true q P Q one other = (λ e. (one.0 refl, other.0 e), λ h. other.1 h.1)
both false q P Q one other = (λ e. let bad : ⊥ = cc in absurd bad, λ h. one.1 h.0)

calls : (a b : CallWord) → Decides (CallWordPartialEq.TheImpl.ghosts.eq a b) (a ≡ b)
calls a b = search rules

answers : (a b : Answer) → Decides (AnswerPartialEq.TheImpl.ghosts.eq a b) (a ≡ b)
answers a b = search rules

-- calls ended in the same way if they are of the same task, the same call, and have the same answer
same : (a b : EndedCall) → a.task ≡ b.task → a.call ≡ b.call → a.answer ≡ b.answer → a ≡ b
same a b t c n =
    ap (λ x. record a { task = x }) t ∙ ap (λ x. record a { task = b.task; call = x }) c
    ∙ ap (λ x. record b { answer = x }) n

alike : (a b : EndedCall) → Decides ((a.task == b.task)
    && (CallWordPartialEq.TheImpl.ghosts.eq a.call b.call && AnswerPartialEq.TheImpl.ghosts.eq a.answer b.answer)) (a ≡ b)
alike a b =
    let all = both (a.task == b.task) (CallWordPartialEq.TheImpl.ghosts.eq a.call b.call && AnswerPartialEq.TheImpl.ghosts.eq a.answer b.answer)
    (a.task ≡ b.task) ((a.call ≡ b.call) × (a.answer ≡ b.answer)) (Decides-eqb a.task b.task)
    (both (CallWordPartialEq.TheImpl.ghosts.eq a.call b.call) (AnswerPartialEq.TheImpl.ghosts.eq a.answer b.answer)
    (a.call ≡ b.call) (a.answer ≡ b.answer) (calls a.call b.call) (answers a.answer b.answer)) in (
      λ e. same a b (all.0 e).0 (all.0 e).1.0 (all.0 e).1.1,
      λ e. all.1 (ap (λ (x : EndedCall). x.task) e, (ap (λ (x : EndedCall). x.call) e, ap (λ (x : EndedCall). x.answer) e)),
    )

pub returns : goal.returns
returns c = by c.eq.result _ (slice_eq-Decides alike c.args.one.now c.args.other.now c.eq.result c.eq.ensures)
