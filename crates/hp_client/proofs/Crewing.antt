-- A crew's calls, one after the other.
use Rattle.std.proofs.Common.{◌≡◌, ℕ, ◌+◌, ◌<◌, List, [], ◌∷◌, ◌++◌, length, take, drop, get_or, sym, ap, inr, Ok}
use Rattle.std.proofs.Common.{◌∙◌, subst, add-one}
use Rattle.std.proofs.Common.{drop-cons}
use Rattle.std.proofs.lemmas.List.{take_more}
use Rattle.std.proofs.lemmas.Slice.Zip.{all_zipped_more}
use Rattle.hp_base.specs.declared.answer.Answer.{Answer}
use Rattle.hp_base.specs.declared.event.Op.{Op}
use Rattle.hp_client.specs.Crew.{MemberState, work_at}
use Rattle.hp_client.specs.PoolRounds.{AreAnswers, FirstUnanswered, answer_of}
use Rattle.hp_client.specs.declared.fault.ClientFault.{ClientFault}

begins_there : {A : Type 0} (xs : List A) (i : ℕ) (d : A) → i < length xs → drop i xs ≡ get_or xs i d ∷ drop (i + 1) xs
begins_there xs i d within = drop-cons xs i d within ∙ ap (λ n. get_or xs i d ∷ drop n xs) (sym (add-one i))

-- one more call has its answer
pub answered_more : (members : List MemberState) (calls : List (ℕ × Op)) (answers more : List Answer) (i : ℕ) (d : ℕ × Op)
    (answer : Answer) → i < length calls → answer_of (work_at (get_or calls i d).0 members) ≡ Ok answer
    → more ≡ answers ++ answer ∷ [] → AreAnswers members (take i calls) answers → AreAnswers members (take (i + 1) calls) more
answered_more members calls answers more i d answer within answered longer before =
    subst (λ (front : List (ℕ × Op)). AreAnswers members front more) (sym (take_more calls i d within))
    (subst (λ (given : List Answer). AreAnswers members (take i calls ++ get_or calls i d ∷ []) given) (sym longer)
    (all_zipped_more (λ (call : ℕ × Op) given. answer_of (work_at call.0 members) ≡ Ok given) (take i calls) answers
    (get_or calls i d) answer before answered))

-- the first without an answer is among those that are left
pub unanswered_left : (members : List MemberState) (calls : List (ℕ × Op)) (i : ℕ) (d : ℕ × Op) (answer : Answer)
    (why : ClientFault) → i < length calls → answer_of (work_at (get_or calls i d).0 members) ≡ Ok answer
    → FirstUnanswered members (drop (i + 1) calls) why → FirstUnanswered members (drop i calls) why
unanswered_left members calls i d answer why within answered later =
    subst (λ (left : List (ℕ × Op)). FirstUnanswered members left why) (sym (begins_there calls i d within))
    (inr (answer, answered, later))
