-- What a list gained, and a hold more.
use Rattle.std.proofs.Common.{◌≡◌, ℕ, zero, suc, ◌+◌, ◌<◌, List, [], ◌∷◌, ◌++◌, Bool, refl, sym, ap, ◌∙◌, append_assoc, arith}
use Rattle.std.proofs.Common.{length, subst, inr}
use Rattle.std.proofs.lemmas.List.{append-nil}
use Rattle.std.proofs.lemmas.List.Elements.{All-append}
use Rattle.std.specs.Prelude.{All, slice_get, Some, true, Result, Ok, Err, IfOk}
use Rattle.hp_base.specs.declared.event.Op.{Op}
use Rattle.hp_base.specs.declared.answer.Answer.{Answer}
use Rattle.hp_base.specs.declared.event.Event.TheVariants.{Begin, Step}
use Rattle.hp_machine.specs.declared.phase.Phase.{Phase}
use Rattle.hp_machine.specs.declared.phase.Phase.TheVariants.{Start}
use Rattle.hp_machine.specs.declared.outcome.Outcome.{Outcome}
use Rattle.hp_machine.specs.declared.outcome.Outcome.TheVariants.{Begun, Moved, Ended}
use Rattle.hp_shared.specs.declared.entry.Entry.{Entry}
use Rattle.hp_shared.specs.Journal.{entry}
use Rattle.hp_shared.specs.Calls.{Gained, AllMoved, AreAnswered, MovedToEnd, BegunThen, StepMoved, phase_after, phase_from, phase_of}
use Rattle.hp_shared.specs.Replies.{IsCall, Steps}
use Rattle.hp_shared.specs.Seats.{new_seat}
use Rattle.hp_shared.specs.declared.fault.CallFault.{CallFault}
use Rattle.hp_shared.specs.declared.fault.Reply.{Reply}
use Rattle.hp_shared.specs.declared.fault.Reply.TheVariants as reply
use Rattle.hp_shared.specs.States.{SeatState}

all_one : (P : Entry → Type 0) (x : Entry) → P x → All P (x ∷ [])
all_one P x p zero d below = p
all_one P x p (suc k) d below = absurd (omega arith)

-- one step more that moved
pub gained_moved : (task t : ℕ) (old mid now : List Entry) (p : ℕ) (grant : Bool) (phase : Phase) → t ≡ task
    → Gained old mid (AllMoved task) → now ≡ mid ++ entry p (Step t grant) (Moved phase) ∷ [] → Gained old now (AllMoved task)
gained_moved task t old mid now p grant phase same had is =
    let e = entry p (Step t grant) (Moved phase) in
    let moved : Entry → Type 0 = λ x. StepMoved task x.event x.outcome in (
      had.0 ++ e ∷ [],
      is ∙ ap (λ x. x ++ e ∷ []) had.1 ∙ append_assoc old had.0 (e ∷ []),
      All-append moved had.0 (e ∷ []) had.2 (all_one moved e same),
    )

-- and last one that ended
pub gained_ended : (task t : ℕ) (old mid now : List Entry) (p : ℕ) (grant : Bool) (answer : Answer) → t ≡ task
    → Gained old mid (AllMoved task) → now ≡ mid ++ entry p (Step t grant) (Ended answer) ∷ []
    → Gained old now (MovedToEnd task answer)
gained_ended task t old mid now p grant answer same had is =
    let e = entry p (Step t grant) (Ended answer) in (
      had.0 ++ e ∷ [],
      is ∙ ap (λ x. x ++ e ∷ []) had.1 ∙ append_assoc old had.0 (e ∷ []),
      (had.0, e, refl, had.2, (same, refl)),
    )

pub gained_nothing : (task : ℕ) (old : List Entry) → Gained old old (AllMoved task)
gained_nothing task old = ([], sym (append-nil old), λ k d below. absurd (omega arith))

-- a hold of which nothing came
pub gained_same : (task : ℕ) (old mid now : List Entry) → Gained old mid (AllMoved task) → now ≡ mid ++ []
    → Gained old now (AllMoved task)
gained_same task old mid now had is = (had.0, is ∙ append-nil mid ∙ had.1, had.2)

-- a begin before it
pub gained_begun : (task t : ℕ) (op : Op) (old mid now : List Entry) (p : ℕ) (P : List Entry → Type 0) → t ≡ task
    → mid ≡ old ++ entry p (Begin t op) Begun ∷ [] → Gained mid now P → Gained old now (BegunThen task op P)
gained_begun task t op old mid now p P same is had =
    let e = entry p (Begin t op) Begun in
    (e ∷ had.0, had.1 ∙ ap (λ x. x ++ had.0) is ∙ append_assoc old (e ∷ []) had.0, (e, had.0, refl, (same, refl), had.2))

-- where a call stands behind one list and another
phase_on : (p : Phase) (es fs : List Entry) → phase_from p (es ++ fs) ≡ phase_from (phase_from p es) fs
phase_on p [] fs = refl
phase_on p (e ∷ es) fs = phase_on (phase_after p e.event e.outcome) es fs

answered_on : (may : Phase → Bool → Bool) (p : Phase) (es fs : List Entry) → AreAnswered may p es
    → AreAnswered may (phase_from p es) fs → AreAnswered may p (es ++ fs)
answered_on may p [] fs had more = more
answered_on may p (e ∷ es) fs had more = (had.0, answered_on may (phase_after p e.event e.outcome) es fs had.1 more)

pub answered_nothing : (may : Phase → Bool → Bool) (old : List Entry) → Gained old old (AreAnswered may (phase_of old))
answered_nothing may old = ([], sym (append-nil old), tt)

-- what was answered so far, and behind it
pub answered_more : (may : Phase → Bool → Bool) (old mid now : List Entry) → Gained old mid (AreAnswered may (phase_of old))
    → Gained mid now (AreAnswered may (phase_of mid)) → Gained old now (AreAnswered may (phase_of old))
answered_more may old mid now had more =
    let there : phase_of mid ≡ phase_from (phase_of old) had.0 = ap phase_of had.1 ∙ phase_on Start old had.0 in (
      had.0 ++ more.0,
      more.1 ∙ ap (λ x. x ++ more.0) had.1 ∙ append_assoc old had.0 more.0,
      answered_on may (phase_of old) had.0 more.0 had.2 (subst (λ (p : Phase). AreAnswered may p more.0) there more.2),
    )

-- a step more, for which the gate was asked where the call stood
pub answered_step : (may : Phase → Bool → Bool) (old mid now : List Entry) (p t : ℕ) (at : Phase) (grant : Bool) (o : Outcome)
    → Gained old mid (AreAnswered may (phase_of old)) → at ≡ phase_of mid → may at grant ≡ true
    → now ≡ mid ++ entry p (Step t grant) o ∷ [] → Gained old now (AreAnswered may (phase_of old))
answered_step may old mid now p t at grant o had there answer is =
    answered_more may old mid now had
    (entry p (Step t grant) o ∷ [], is, (subst (λ (q : Phase). may q grant ≡ true) there answer, tt))

-- or a begin before it
pub answered_begun : (may : Phase → Bool → Bool) (old mid now : List Entry) (p t : ℕ) (op : Op)
    → mid ≡ old ++ entry p (Begin t op) Begun ∷ [] → Gained mid now (AreAnswered may (phase_of mid))
    → Gained old now (AreAnswered may (phase_of old))
answered_begun may old mid now p t op is more =
    answered_more may old mid now (entry p (Begin t op) Begun ∷ [], is, (tt, tt)) more

-- what the steps behind a begin came to
call_replied : (task t : ℕ) (op : Op) (said : Reply) (old mid now : List Entry) (p : ℕ) → t ≡ task
    → mid ≡ old ++ entry p (Begin t op) Begun ∷ [] → Gained mid now (Steps task said) → IsCall task op said old now
call_replied task t op (reply.Ended answer) old mid now p same is had =
    gained_begun task t op old mid now p (MovedToEnd task answer) same is had
call_replied task t op (reply.Refused why) old mid now p same is had =
    inr (inr (had.2.1, gained_begun task t op old mid now p (AllMoved task) same is (had.0, had.1, had.2.0)))

pub call_went_on : (r : Result Reply CallFault) (task t : ℕ) (op : Op) (old mid now : List Entry) (p : ℕ) → t ≡ task
    → mid ≡ old ++ entry p (Begin t op) Begun ∷ [] → IfOk r (λ said. Gained mid now (Steps task said))
    → IfOk r (λ said. IsCall task op said old now)
call_went_on (Ok said) task t op old mid now p same is had = call_replied task t op said old mid now p same is had
call_went_on (Err fault) task t op old mid now p same is had = tt

one_more : (f : ℕ → SeatState) (items : List SeatState) (x : SeatState)
    → ((j : ℕ) → j < length items → slice_get items j ≡ Some (f j)) → x ≡ f (length items)
    → (j : ℕ) → j < length items + 1 → slice_get (items ++ x ∷ []) j ≡ Some (f j)
one_more f [] x had is zero below = ap Some is
one_more f [] x had is (suc j) below = absurd (omega arith)
one_more f (y ∷ ys) x had is zero below = had zero (omega arith)
one_more f (y ∷ ys) x had is (suc j) below = one_more (λ n. f (suc n)) ys x (λ n b. had (suc n) (omega arith)) is j (omega arith)

-- the seats so far, and one more
pub seats_on : (items now : List SeatState) (x : SeatState) (k : ℕ) → length items ≡ k
    → ((j : ℕ) → j < k → slice_get items j ≡ Some (new_seat (j + 1))) → x ≡ new_seat (k + 1) → now ≡ items ++ x ∷ []
    → (j : ℕ) → j < k + 1 → slice_get now j ≡ Some (new_seat (j + 1))
seats_on items now x k len had is_x is j below =
    let f : ℕ → SeatState = λ n. new_seat (n + 1) in
    ap (λ l. slice_get l j) is ∙ one_more f items x (λ n b. had n (omega arith)) (is_x ∙ ap f (sym len)) j (omega arith)
