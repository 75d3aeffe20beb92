-- Moments of several tasks in another order tell the same answers.
use Rattle.std.proofs.Common.{◌≡◌, ◌≢◌, ◌∙◌, ℕ, suc, ◌+◌, ◌≤◌, ◌<◌, refl, ap, sym, subst, inl, inr, arith, List, [], ◌∷◌, length}
use Rattle.std.proofs.lemmas.Bool.{cases_lt}
use Rattle.std.proofs.lemmas.Bool.Decides.{nat_tests}
use Rattle.std.specs.Prelude.{◌&&◌, Bool, true, false, Option, None, IfSome, if◌then◌else◌, nat_le}
use Rattle.hp_base.specs.declared.event.Event.{Event}
use Rattle.hp_base.specs.declared.event.Event.TheVariants.{Begin, Step, Kill, Resize}
use Rattle.hp_laws.specs.Laws.{IsOf}
use Rattle.hp_laws.proofs.Deciding.{never, same_of}
use Rattle.hp_machine.specs.Events.{is_begun}
use Rattle.hp_machine.specs.declared.outcome.Outcome.{Outcome}
use Rattle.hp_machine.specs.declared.outcome.Outcome.TheVariants.{Begun, Moved, Blocked, Ended, Marked, Resized, Refused}
use Rattle.hp_watch.specs.Calls.{asked_word, calls_begun, ended_by, is_begin, last_call}
use Rattle.hp_watch.specs.Moments.{Moment, Once}
use Rattle.hp_watch.specs.declared.call_word.CallWord.{CallWord}
use Rattle.hp_watch.specs.declared.calls.EndedCall.{EndedCall}
use Rattle.hp_hunt.specs.Conditions.{HasCount, IsAnswered, IsEnd, IsMetAt, IsSoughtEnd, IsStepOf}
use Rattle.hp_hunt.specs.declared.condition.Comparison.{Comparison}
use Rattle.hp_hunt.specs.declared.condition.Sought.TheVariants as sought
use Rattle.hp_hunt.specs.declared.condition.SoughtAnswer.{SoughtAnswer}
use Rattle.hp_every.specs.Endings.{all_among, among, answers_in}
use Rattle.hp_every.proofs.Ending.{first_true}

-- an answer that is sought, whatever the counts are
abbrev Comes : SoughtAnswer → List Moment → Type 0
Comes s ms = Once (IsMetAt (sought.Answer s)) ms

-- Both tell the same of the calls of each task: as many moments, as many calls begun and the same last, the same answers.
pub record TellSame (ms ns : List Moment) : Type 0 where
  pub long : length ms ≡ length ns
  pub last : (t : ℕ) → last_call t ms ≡ last_call t ns
  pub begun : (t : ℕ) → calls_begun t ms ≡ calls_begun t ns
  pub answers : answers_in ms ≡ answers_in ns
  pub on : (s : SoughtAnswer) → s.counted ≡ None → Comes s ms → Comes s ns
  pub back : (s : SoughtAnswer) → s.counted ≡ None → Comes s ns → Comes s ms

pub tell_self : (ms : List Moment) → TellSame ms ms
tell_self ms = record {
  long = refl;
  last = λ t. refl;
  begun = λ t. refl;
  answers = refl;
  on = λ s none once. once;
  back = λ s none once. once;
}

pub tell_then : (ms ns os : List Moment) → TellSame ms ns → TellSame ns os → TellSame ms os
tell_then ms ns os a b = record {
  long = a.long ∙ b.long;
  last = λ t. a.last t ∙ b.last t;
  begun = λ t. a.begun t ∙ b.begun t;
  answers = a.answers ∙ b.answers;
  on = λ s none once. b.on s none (a.on s none once);
  back = λ s none once. a.back s none (b.back s none once);
}

-- ---- one moment more

-- an event and what came of it
pub record IsLike (m n : Moment) : Type 0 where
  pub event : m.event ≡ n.event
  pub outcome : m.outcome ≡ n.outcome

pub like_back : (m n : Moment) → IsLike m n → IsLike n m
like_back m n h = record { event = sym h.event; outcome = sym h.outcome }

-- an answer doesn't depend on the core where no count is asked for
answered_too : (s : SoughtAnswer) (ms ns : List Moment) (m n : Moment) → s.counted ≡ None → IsLike m n
    → ((t : ℕ) → IsStepOf t m.event → (last_call t ms ≡ last_call t ns) × (calls_begun t ms ≡ calls_begun t ns))
    → IsAnswered s ms m → IsAnswered s ns n
answered_too s ms ns m n none like same is = record {
  task = is.task;
  answer = is.answer;
  step = subst (IsStepOf is.task) like.event is.step;
  end = subst (IsEnd is.answer) like.outcome is.end;
  is = (let here = subst (λ (k : ℕ). IsSoughtEnd s (last_call is.task ns) k is.task is.answer m.core) (same is.task is.step).1
      (subst (λ (w : CallWord). IsSoughtEnd s w (calls_begun is.task ms) is.task is.answer m.core) (same is.task is.step).0 is.is) in
      (here.0, (here.1.0, (here.1.1.0, subst (λ (o : Option Comparison). IfSome o (λ c. HasCount c n.core)) (sym none) tt))));
}

once_more : (s : SoughtAnswer) (ms ns : List Moment) (m n : Moment) → s.counted ≡ None → IsLike m n
    → ((t : ℕ) → (last_call t ms ≡ last_call t ns) × (calls_begun t ms ≡ calls_begun t ns)) → (Comes s ms → Comes s ns)
    → Comes s (m ∷ ms) → Comes s (n ∷ ns)
unfolding Once
once_more s ms ns m n none like same on (inl here) = inl (answered_too s ms ns m n none like (λ t step. same t) here)
once_more s ms ns m n none like same on (inr before) = inr (on before)

-- what ends a call is told by the last call of its task
ended_like : (ms ns : List Moment) (e : Event) (o : Outcome) → ((t : ℕ) → IsStepOf t e → last_call t ms ≡ last_call t ns)
    → ended_by ms e o ≡ ended_by ns e o
ended_like ms ns (Begin t op) o same = refl
ended_like ms ns (Step t grant) Begun same = refl
ended_like ms ns (Step t grant) (Moved p) same = refl
ended_like ms ns (Step t grant) (Blocked h) same = refl
ended_like ms ns (Step t grant) (Ended a) same = λ i. record { task = t; call = same t refl i; answer = a } ∷ []
ended_like ms ns (Step t grant) Marked same = refl
ended_like ms ns (Step t grant) (Resized f) same = refl
ended_like ms ns (Step t grant) (Refused why) same = refl
ended_like ms ns (Kill t) o same = refl
ended_like ms ns (Resize f) o same = refl

answers_more : (ms ns : List Moment) (m n : Moment) → IsLike m n → ((t : ℕ) → IsStepOf t m.event → last_call t ms ≡ last_call t ns)
    → answers_in ms ≡ answers_in ns → answers_in (m ∷ ms) ≡ answers_in (n ∷ ns)
answers_more ms ns m n like same e =
    let ends : ended_by ms m.event m.outcome ≡ ended_by ns n.event n.outcome =
    ended_like ms ns m.event m.outcome same ∙ (λ i. ended_by ns (like.event i) (like.outcome i)) in
    λ i. all_among (ends i) (e i)

pub tell_more : (ms ns : List Moment) (m n : Moment) → IsLike m n → TellSame ms ns → TellSame (m ∷ ms) (n ∷ ns)
tell_more ms ns m n like h = record {
  long = ap suc h.long;
  last = λ t. λ i. if is_begin t (like.event i) && is_begun (like.outcome i) then asked_word (like.event i) else h.last t i;
  begun = λ t. λ i. if is_begin t (like.event i) && is_begun (like.outcome i) then h.begun t i + 1 else h.begun t i;
  answers = answers_more ms ns m n like (λ t step. h.last t) h.answers;
  on = λ s none. once_more s ms ns m n none like (λ t. (h.last t, h.begun t)) (h.on s none);
  back = λ s none. once_more s ns ms n m none (like_back m n like) (λ t. (sym (h.last t), sym (h.begun t))) (h.back s none);
}

-- ---- turns of two tasks change places

-- two choices that are never both made
either_way : {A : Type 0} (b c : Bool) (x y z : A) → (b ≡ true → c ≡ true → ⊥)
    → (if b then x else (if c then y else z)) ≡ (if c then y else (if b then x else z))
either_way true true x y z h = absurd (h refl refl)
either_way true false x y z h = refl
either_way false true x y z h = refl
either_way false false x y z h = refl

either_count : (b c : Bool) (n : ℕ) → (if b then (if c then n + 1 else n) + 1 else (if c then n + 1 else n))
    ≡ (if c then (if b then n + 1 else n) + 1 else (if b then n + 1 else n))
either_count true true n = refl
either_count true false n = refl
either_count false true n = refl
either_count false false n = refl

-- an event that asks for a call of the task, or is a step of it, is of it
begin_of : (t : ℕ) (e : Event) → is_begin t e ≡ true → IsOf t e
begin_of t (Begin u op) h = sym (same_of u t h)
begin_of t (Step u grant) h = never h
begin_of t (Kill u) h = never h
begin_of t (Resize f) h = never h

step_of : (t : ℕ) (e : Event) → IsStepOf t e → IsOf t e
step_of t (Begin u op) h = absurd h
step_of t (Step u grant) h = h
step_of t (Kill u) h = absurd h
step_of t (Resize f) h = absurd h

-- of one task alone
one_task : (t u : ℕ) (e : Event) → IsOf t e → IsOf u e → t ≡ u
one_task t u (Begin v op) a b = a ∙ sym b
one_task t u (Step v grant) a b = a ∙ sym b
one_task t u (Kill v) a b = a ∙ sym b
one_task t u (Resize f) a b = absurd a

not_true : (b : Bool) → (b ≡ true → ⊥) → b ≡ false
not_true true h = absurd (h refl)
not_true false h = refl

le_tells : (a b : ℕ) → nat_le a b ≡ true → a ≤ b
le_tells a b e = grind (arith, nat_tests)

gt_tells : (a b : ℕ) → nat_le a b ≡ false → b < a
gt_tells a b e = grind (arith, nat_tests)

tells_le : (a b : ℕ) → a ≤ b → nat_le a b ≡ true
tells_le a b h = grind (arith, nat_tests)

tells_gt : (a b : ℕ) → b < a → nat_le a b ≡ false
tells_gt a b h = grind (arith, nat_tests)

less : (n m : ℕ) → n ≢ m → m ≤ n → m < n
less n m h le = elim (cases_lt m n) [
  | inl lt ↦ lt
  | inr ge ↦ absurd (h (omega (arith, ge, le)))
]

-- a call stands behind the first, or before it
skips : (x z : EndedCall) (es : List EndedCall) → nat_le z.task x.task ≡ true → among x (z ∷ es) ≡ z ∷ among x es
skips x z es e = ap (λ (b : Bool). if b then z ∷ among x es else x ∷ z ∷ es) e

stops : (x z : EndedCall) (es : List EndedCall) → nat_le z.task x.task ≡ false → among x (z ∷ es) ≡ x ∷ z ∷ es
stops x z es e = ap (λ (b : Bool). if b then z ∷ among x es else x ∷ z ∷ es) e

-- before these calls two of different tasks are put in either order
both_before : (x y : EndedCall) (es : List EndedCall) → x.task ≢ y.task → among x es ≡ x ∷ es → among y es ≡ y ∷ es
    → among x (y ∷ es) ≡ among y (x ∷ es)
both_before x y es other a b = by_test (nat_le y.task x.task) refl
  where
    by_test : (c : Bool) → nat_le y.task x.task ≡ c → among x (y ∷ es) ≡ among y (x ∷ es)
    by_test true e = skips x y es e ∙ (ap (λ (rest : List EndedCall). y ∷ rest) a
        ∙ sym (stops y x es (tells_gt x.task y.task (let le = le_tells y.task x.task e in less x.task y.task other le))))
    by_test false e = stops x y es e ∙ sym (skips y x es (tells_le x.task y.task (let gt = gt_tells y.task x.task e in omega (arith, gt)))
        ∙ ap (λ (rest : List EndedCall). x ∷ rest) b)

-- and so among others
among_either : (x y : EndedCall) (es : List EndedCall) → x.task ≢ y.task → among x (among y es) ≡ among y (among x es)
among_either x y [] other = both_before x y [] other refl refl
among_either x y (z ∷ es) other = by_tests (nat_le z.task y.task) (nat_le z.task x.task) refl refl (among_either x y es other)
  where
    by_tests : (b c : Bool) → nat_le z.task y.task ≡ b → nat_le z.task x.task ≡ c → among x (among y es) ≡ among y (among x es)
        → among x (among y (z ∷ es)) ≡ among y (among x (z ∷ es))
    by_tests true true e d rest_of = ap (among x) (skips y z es e) ∙ (skips x z (among y es) d
        ∙ (ap (λ (rest : List EndedCall). z ∷ rest) rest_of
        ∙ sym (ap (among y) (skips x z es d) ∙ skips y z (among x es) e)))
    by_tests true false e d rest_of = ap (among x) (skips y z es e) ∙ (stops x z (among y es) d
        ∙ sym (ap (among y) (stops x z es d) ∙ (skips y x (z ∷ es) (tells_le x.task y.task
        (let le = le_tells z.task y.task e in let gt = gt_tells z.task x.task d in omega (arith, le, gt)))
        ∙ ap (λ (rest : List EndedCall). x ∷ rest) (skips y z es e))))
    by_tests false true e d rest_of = ap (among x) (stops y z es e) ∙ (skips x y (z ∷ es) (tells_le y.task x.task
        (let gt = gt_tells z.task y.task e in let le = le_tells z.task x.task d in omega (arith, gt, le)))
        ∙ (ap (λ (rest : List EndedCall). y ∷ rest) (skips x z es d)
        ∙ sym (ap (among y) (skips x z es d) ∙ stops y z (among x es) e)))
    by_tests false false e d rest_of = ap (among x) (stops y z es e)
        ∙ (both_before x y (z ∷ es) other (stops x z es d) (stops y z es e) ∙ sym (ap (among y) (stops x z es d)))

-- an event ends no call, or one of the task that it is a step of
data Ends (ms : List Moment) (e : Event) (o : Outcome) : Type 0 where
  NoCall : ended_by ms e o ≡ [] → Ends ms e o
  OneCall : (x : EndedCall) → ended_by ms e o ≡ x ∷ [] → IsOf x.task e → Ends ms e o

ends_few : (ms : List Moment) (e : Event) (o : Outcome) → Ends ms e o
ends_few ms (Begin t op) o = NoCall refl
ends_few ms (Step t grant) Begun = NoCall refl
ends_few ms (Step t grant) (Moved p) = NoCall refl
ends_few ms (Step t grant) (Blocked h) = NoCall refl
ends_few ms (Step t grant) (Ended a) = OneCall (record { task = t; call = last_call t ms; answer = a }) refl refl
ends_few ms (Step t grant) Marked = NoCall refl
ends_few ms (Step t grant) (Resized f) = NoCall refl
ends_few ms (Step t grant) (Refused why) = NoCall refl
ends_few ms (Kill t) o = NoCall refl
ends_few ms (Resize f) o = NoCall refl

-- so what two events of different tasks end is put among others in either order
all_either : (ms ns : List Moment) (e d : Event) (o u : Outcome) (es : List EndedCall) → ((t : ℕ) → IsOf t e → IsOf t d → ⊥)
    → all_among (ended_by ms e o) (all_among (ended_by ns d u) es) ≡ all_among (ended_by ns d u) (all_among (ended_by ms e o) es)
all_either ms ns e d o u es other = either (ends_few ms e o) (ends_few ns d u)
  where
    either : Ends ms e o → Ends ns d u
        → all_among (ended_by ms e o) (all_among (ended_by ns d u) es) ≡ all_among (ended_by ns d u) (all_among (ended_by ms e o) es)
    either (NoCall a) b = (λ i. all_among (a i) (all_among (ended_by ns d u) es)) ∙ (λ i. all_among (ended_by ns d u) (all_among (sym a i) es))
    either (OneCall x a of) (NoCall b) =
        (λ i. all_among (ended_by ms e o) (all_among (b i) es)) ∙ (λ i. all_among (sym b i) (all_among (ended_by ms e o) es))
    either (OneCall x a of) (OneCall y b on) =
        (λ i. all_among (a i) (all_among (b i) es))
        ∙ (among_either x y es (λ same. other y.task (subst (λ (t : ℕ). IsOf t e) same of) on)
        ∙ (λ i. all_among (sym b i) (all_among (sym a i) es)))

-- what a moment of another task leaves as it was
module _ (m b : Moment) (ms : List Moment) (other : (t : ℕ) → IsOf t m.event → IsOf t b.event → ⊥) where
  never_begins : (u : ℕ) → IsStepOf u m.event → is_begin u b.event ≡ false
  never_begins u step = not_true (is_begin u b.event) (λ h. other u (step_of u m.event step) (begin_of u b.event h))

  pub same_last : (u : ℕ) → IsStepOf u m.event → last_call u (b ∷ ms) ≡ last_call u ms
  same_last u step = ap (λ (x : Bool). if x && is_begun b.outcome then asked_word b.event else last_call u ms) (never_begins u step)

  pub same_begun : (u : ℕ) → IsStepOf u m.event → calls_begun u (b ∷ ms) ≡ calls_begun u ms
  same_begun u step =
      ap (λ (x : Bool). if x && is_begun b.outcome then calls_begun u ms + 1 else calls_begun u ms) (never_begins u step)

-- an answer that comes in one order comes in the other
comes_too : (m b : Moment) (ms : List Moment) → ((t : ℕ) → IsOf t m.event → IsOf t b.event → ⊥) → (s : SoughtAnswer) → s.counted ≡ None
    → Comes s (m ∷ b ∷ ms) → Comes s (b ∷ m ∷ ms)
unfolding Once
comes_too m b ms other s none (inl here) =
    inr (inl (answered_too s (b ∷ ms) ms m m none (record { event = refl; outcome = refl })
    (λ u step. (same_last m b ms other u step, same_begun m b ms other u step)) here))
comes_too m b ms other s none (inr (inl here)) =
    inl (answered_too s ms (m ∷ ms) b b none (record { event = refl; outcome = refl })
    (λ u step. (sym (same_last b m ms (λ t x y. other t y x) u step), sym (same_begun b m ms (λ t x y. other t y x) u step))) here)
comes_too m b ms other s none (inr (inr before)) = inr (inr before)

pub change_places : (m b : Moment) (ms : List Moment) → ((t : ℕ) → IsOf t m.event → IsOf t b.event → ⊥) → TellSame (m ∷ b ∷ ms) (b ∷ m ∷ ms)
change_places m b ms other = record {
  long = refl;
  last = λ u. either_way (is_begin u m.event && is_begun m.outcome) (is_begin u b.event && is_begun b.outcome) (asked_word m.event)
      (asked_word b.event) (last_call u ms) (λ x y. other u (begin_of u m.event (first_true _ _ x)) (begin_of u b.event (first_true _ _ y)));
  begun = λ u. either_count (is_begin u m.event && is_begun m.outcome) (is_begin u b.event && is_begun b.outcome) (calls_begun u ms);
  answers = (λ i. all_among (ended_like (b ∷ ms) ms m.event m.outcome (same_last m b ms other) i) (all_among (ended_by ms b.event b.outcome) (answers_in ms)))
      ∙ (all_either ms ms m.event b.event m.outcome b.outcome (answers_in ms) other
      ∙ (λ i. all_among (ended_like ms (m ∷ ms) b.event b.outcome (λ u step. sym (same_last b m ms (λ t x y. other t y x) u step)) i)
      (all_among (ended_by ms m.event m.outcome) (answers_in ms))));
  on = comes_too m b ms other;
  back = comes_too b m ms (λ t x y. other t y x);
}

-- two events of a task and not of it are never of one
pub never_both : (t : ℕ) (d e : Event) → IsOf t e → (IsOf t d → ⊥) → (u : ℕ) → IsOf u d → IsOf u e → ⊥
never_both t d e of off u on there = off (subst (λ (k : ℕ). IsOf k d) (one_task u t e there of) on)
