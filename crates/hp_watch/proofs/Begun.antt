-- What is known of the calls of tasks can be known of one moment more.
use Rattle.std.proofs.Common.{◌≡◌, ◌≢◌, ◌∙◌, ℕ, zero, suc, ◌+◌, ◌<◌, refl, ap, sym, subst, arith, inl, inr, List, [], ◌∷◌, ◌++◌, length, length-append}
use Rattle.std.specs.Prelude.{◌==◌, ◌&&◌, Bool, true, false, if◌then◌else◌, replicate, slice_index_or, slice_set}
use Rattle.std.proofs.lemmas.Bool.Decides.{nat_tests}
use Rattle.std.proofs.lemmas.List.{get_or-set_other, get_or-set_same, length-replicate}
use Rattle.hp_base.proofs.Puts.{same_or_other}
use Rattle.hp_base.specs.declared.event.Event.{Event}
use Rattle.hp_base.specs.declared.event.Event.TheVariants.{Begin, Step, Kill, Resize}
use Rattle.hp_base.specs.declared.event.Op.{Op}
use Rattle.hp_machine.specs.Events.{is_begun}
use Rattle.hp_machine.specs.declared.outcome.Outcome.{Outcome}
use Rattle.hp_machine.specs.declared.outcome.Outcome.TheVariants.{Begun, Moved, Blocked, Ended, Marked, Resized, Refused}
use Rattle.hp_core.specs.State.{CoreState}
use Rattle.hp_watch.specs.CallWords.{word_of}
use Rattle.hp_watch.specs.Calls.{AreCalls, asked_word, calls_begun, calls_of, is_begin, last_call, none_begun}
use Rattle.hp_watch.specs.Moments.{Moment}
use Rattle.hp_watch.specs.declared.calls.TaskCalls.{TaskCalls}

-- room behind the end has no calls
empty : (n t : ℕ) → slice_index_or (replicate n none_begun) t none_begun ≡ none_begun
empty zero t = refl
empty (suc n) zero = refl
empty (suc n) (suc t) = empty n t

padded : (calls : List TaskCalls) (n t : ℕ) → calls_of (calls ++ replicate n none_begun) t ≡ calls_of calls t
padded [] n t = empty n t
padded (x ∷ xs) n zero = refl
padded (x ∷ xs) n (suc t) = padded xs n t

off : (b : Bool) → (b && false) ≡ false
off true = refl
off false = refl

its_own : {A : Type 0} (t : ℕ) (x was : A) → (if (t == t) && true then x else was) ≡ x
its_own t x was = grind (arith, nat_tests)

anothers : {A : Type 0} (u t : ℕ) (x was : A) → t ≢ u → (if (u == t) && true then x else was) ≡ was
anothers u t x was other = grind (arith, nat_tests)

module _ (calls : List TaskCalls) (before : List Moment) (h : AreCalls calls before) where
  stays : (event : Event) (o : Outcome) (core : CoreState) → ((t : ℕ) → (is_begin t event && is_begun o) ≡ false)
      → AreCalls calls (record { event = event; outcome = o; core = core } ∷ before)
  stays event o core none = record {
    last = λ t. h.last t ∙ ap (λ (b : Bool). if b then asked_word event else last_call t before) (sym (none t));
    begun = λ t. h.begun t ∙ ap (λ (b : Bool). if b then calls_begun t before + 1 else calls_begun t before) (sym (none t));
  }

  -- the task's own, as it begins one more
  next : ℕ → Op → TaskCalls
  next u op = record { last = word_of op; begun = (calls_of calls u).begun + 1 }

  room : ℕ → List TaskCalls
  room u = calls ++ replicate (u + 1) none_begun

  there : (u : ℕ) → u < length (room u)
  unfolding room
  there u = omega (arith, length-append calls (replicate (u + 1) none_begun), length-replicate {A = TaskCalls} (u + 1) none_begun)

  begins : (u : ℕ) (op : Op) (core : CoreState)
      → AreCalls (slice_set (room u) u (next u op)) (record { event = Begin u op; outcome = Begun; core = core } ∷ before)
  unfolding room next
  begins u op core = record {
    last = λ t. elim (same_or_other t u) [
      | inl same ↦ subst (λ (k : ℕ). (calls_of (slice_set (room u) u (next u op)) k).last
          ≡ (if (u == k) && true then word_of op else last_call k before)) (sym same)
          (ap (λ (c : TaskCalls). c.last) (get_or-set_same (room u) u (next u op) none_begun (there u))
          ∙ sym (its_own u (word_of op) (last_call u before)))
      | inr other ↦ ap (λ (c : TaskCalls). c.last) (get_or-set_other (room u) u t (next u op) none_begun other ∙ padded calls (u + 1) t)
          ∙ h.last t ∙ sym (anothers u t (word_of op) (last_call t before) other)
    ];
    begun = λ t. elim (same_or_other t u) [
      | inl same ↦ subst (λ (k : ℕ). (calls_of (slice_set (room u) u (next u op)) k).begun
          ≡ (if (u == k) && true then calls_begun k before + 1 else calls_begun k before)) (sym same)
          (ap (λ (c : TaskCalls). c.begun) (get_or-set_same (room u) u (next u op) none_begun (there u))
          ∙ ap (λ (n : ℕ). n + 1) (h.begun u) ∙ sym (its_own u (calls_begun u before + 1) (calls_begun u before)))
      | inr other ↦ ap (λ (c : TaskCalls). c.begun) (get_or-set_other (room u) u t (next u op) none_begun other ∙ padded calls (u + 1) t)
          ∙ h.begun t ∙ sym (anothers u t (calls_begun t before + 1) (calls_begun t before) other)
    ];
  }

  more : (event : Event) (o : Outcome) (core : CoreState)
      → (x : List TaskCalls) × AreCalls x (record { event = event; outcome = o; core = core } ∷ before)
  more (Begin u op) Begun core = (slice_set (room u) u (next u op), begins u op core)
  more (Begin u op) (Moved p) core = (calls, stays (Begin u op) (Moved p) core (λ t. off (u == t)))
  more (Begin u op) (Blocked holder) core = (calls, stays (Begin u op) (Blocked holder) core (λ t. off (u == t)))
  more (Begin u op) (Ended a) core = (calls, stays (Begin u op) (Ended a) core (λ t. off (u == t)))
  more (Begin u op) Marked core = (calls, stays (Begin u op) Marked core (λ t. off (u == t)))
  more (Begin u op) (Resized n) core = (calls, stays (Begin u op) (Resized n) core (λ t. off (u == t)))
  more (Begin u op) (Refused why) core = (calls, stays (Begin u op) (Refused why) core (λ t. off (u == t)))
  more (Step u granted) o core = (calls, stays (Step u granted) o core (λ t. refl))
  more (Kill u) o core = (calls, stays (Kill u) o core (λ t. refl))
  more (Resize n) o core = (calls, stays (Resize n) o core (λ t. refl))

pub one_more_call : (calls : List TaskCalls) (before : List Moment) (m : Moment) → AreCalls calls before
    → (x : List TaskCalls) × AreCalls x (m ∷ before)
one_more_call calls before m h = more calls before h m.event m.outcome m.core
