-- Which calls are in flight while a round goes on.
use Rattle.std.proofs.Common.{◌≡◌, ◌≢◌, ℕ, zero, suc, ◌+◌, ◌≤◌, ◌<◌, Bool, true, false, Option, Some, None}
use Rattle.std.proofs.Common.{IsSome, is_some, MatchOption}
use Rattle.std.proofs.Common.{List, [], ◌∷◌, length, get_or, set, All, Contains, inl, inr}
use Rattle.std.proofs.Common.{refl, sym, ap, subst, ◌∙◌, arith}
use Rattle.std.proofs.lemmas.Bool.{cases_lt}
use Rattle.std.proofs.lemmas.List.{get_or_default, get_or-set_same, get_or-set_other, length-set}
use Rattle.hp_base.proofs.Puts.{same_or_other}
use Rattle.hp_base.specs.declared.answer.Answer.{Answer}
use Rattle.hp_base.specs.declared.event.Op.{Op}
use Rattle.hp_base.specs.declared.event.Event.TheVariants.{Begin, Step}
use Rattle.hp_machine.specs.State as machine
use Rattle.hp_machine.specs.Events as events
use Rattle.hp_machine.specs.declared.call.Call.{Call}
use Rattle.hp_machine.specs.declared.phase.Phase.{Phase}
use Rattle.hp_machine.specs.declared.outcome.Refusal.{Refusal}
use Rattle.hp_machine.specs.declared.outcome.Outcome.{Outcome}
use Rattle.hp_machine.specs.declared.outcome.Outcome.TheVariants as outcome
use Rattle.hp_laws.specs.Laws.{Began, BeginsBegin, BlockedByHolders, CallsStep, OthersStay, SomeCallGoesOn, StepsRunOut, Went}
use Rattle.hp_laws.specs.StepsLeft.{goes_on, left_to_all}
use Rattle.hp_core.specs.Runs.{Row}
use Rattle.hp_core.specs.State.{CoreState, as_state}
use Rattle.hp_client.specs.Rounds.{Advance, AreBlocked, FinishStops, Leaves, TurnsFail, in_flight, IsInFlight, AreInFlight}
use Rattle.hp_client.specs.Rounds.{AreAll, AreOfDistinctTasks}
use Rattle.hp_client.specs.declared.fault.ClientFault.{ClientFault}
use Rattle.hp_client.specs.declared.fault.ClientFault.TheVariants.{Memory, NotSupported, Refused, Stuck, Unaligned}
use Rattle.hp_client.specs.declared.rounds.Asked.{Asked}

-- what is some is something
pub some_of : {A : Type 0} (o : Option A) → IsSome o → (x : A) × (o ≡ Some x)
some_of None h = (let no : false ≡ true = h in absurd (cc))
some_of (Some x) h = (x, refl)

-- what one call's step does to the calls in flight
pub record Follows (s : CoreState) (call : Asked) (new : CoreState) (next : Asked) : Type 0 where
  pub task : next.task ≡ call.task
  pub others : (u : ℕ) → u ≢ call.task → (as_state new).calls u ≡ (as_state s).calls u
  pub goes : next.answer ≡ None → (call.answer ≡ None) × IsInFlight new call.task
  pub ends : call.answer ≡ None → IsInFlight new call.task → next.answer ≡ None
  pub stays : (answer : Answer) → call.answer ≡ Some answer → IsInFlight new call.task → IsInFlight s call.task

-- a call that a step moves or that is blocked stays as it was
unended : (s new : CoreState) (call next : Asked) → call.answer ≡ None → next ≡ call
    → ((u : ℕ) → u ≢ call.task → (as_state new).calls u ≡ (as_state s).calls u) → IsInFlight new call.task
    → Follows s call new next
unended s new call next none same others going = record {
  task = ap (λ (c : Asked). c.task) same;
  others = others;
  goes = λ is. (none, going);
  ends = λ is there. ap (λ (c : Asked). c.answer) same ∙ none;
  stays = λ answer is there. (let no : ◌≡◌ {A = Option Answer} None (Some answer) = sym none ∙ is in absurd (cc));
}

-- by what it is told as
told_follows : (s new : CoreState) (call next : Asked) (o : Outcome) → call.answer ≡ None → IsInFlight s call.task
    → ((u : ℕ) → u ≢ call.task → (as_state new).calls u ≡ (as_state s).calls u)
    → Leaves o call next → Went (as_state s) call.task o (as_state new) → Follows s call new next
told_follows s new call next (outcome.Moved p) none here others leaves went = unended s new call next none leaves others went
told_follows s new call next (outcome.Blocked u) none here others leaves went =
    unended s new call next none leaves others
    (subst (λ (m : machine.State). IsSome (m.calls call.task)) (sym went) here)
told_follows s new call next (outcome.Ended a) none here others leaves went = record {
  task = ap (λ (c : Asked). c.task) leaves;
  others = others;
  goes = λ is. (let no : ◌≡◌ {A = Option Answer} (Some a) None = sym (ap (λ (c : Asked). c.answer) leaves) ∙ is in absurd (cc));
  ends = λ is there. (let no : ◌≡◌ {A = Bool} false true = sym (ap (λ (c : Option Call). is_some c) went) ∙ there in absurd (cc));
  stays = λ answer is there. (let no : ◌≡◌ {A = Option Answer} None (Some answer) = sym none ∙ is in absurd (cc));
}
told_follows s new call next outcome.Begun none here others leaves went = absurd leaves
told_follows s new call next outcome.Marked none here others leaves went = absurd leaves
told_follows s new call next (outcome.Resized n) none here others leaves went = absurd leaves
told_follows s new call next (outcome.Refused why) none here others leaves went = absurd leaves

-- a step of a core leaves the calls of other tasks
others_of : (s new : CoreState) (t : ℕ) (grant : Bool) (o : Outcome) → OthersStay (as_state s) → Row s (Step t grant) o new
    → (u : ℕ) → u ≢ t → (as_state new).calls u ≡ (as_state s).calls u
unfolding Row
others_of s new t grant o law row u other = (law (Step t grant) o (as_state new) u row.0 other).0

-- and goes on with its own
went_of : (s new : CoreState) (t : ℕ) (grant : Bool) (o : Outcome) → CallsStep (as_state s) → IsInFlight s t
    → Row s (Step t grant) o new → Went (as_state s) t o (as_state new)
unfolding Row
went_of s new t grant o law there row =
    let c = some_of ((as_state s).calls t) there in
    law t grant c.0 o (as_state new) c.1 row.0

-- so does one call's advance
pub advance_follows : (s new : CoreState) (call next : Asked) → OthersStay (as_state s) → CallsStep (as_state s)
    → (call.answer ≡ None → IsInFlight s call.task) → Advance s call new next → Follows s call new next
advance_follows s new call next others steps there made = by_answer call.answer refl made
  where
    by_answer : (o : Option Answer) → call.answer ≡ o
        → MatchOption o ((outcome : Outcome) × Row s (Step call.task true) outcome new × Leaves outcome call next)
        (λ answer. (new ≡ s) × (next ≡ call)) → Follows s call new next
    by_answer None is m =
        told_follows s new call next m.0 is (there is) (others_of s new call.task true m.0 others m.1) m.2
        (went_of s new call.task true m.0 steps (there is) m.1)
    by_answer (Some a) is m = record {
      task = ap (λ (c : Asked). c.task) m.1;
      others = λ u other. ap (λ (x : CoreState). (as_state x).calls u) m.0;
      goes =
          λ none. (let no : ◌≡◌ {A = Option Answer} (Some a) None = sym is ∙ (sym (ap (λ (c : Asked). c.answer) m.1)
          ∙ none) in absurd (cc));
      ends = λ none going. (let no : ◌≡◌ {A = Option Answer} (Some a) None = sym is ∙ none in absurd (cc));
      stays = λ answer some going. subst (λ (x : CoreState). IsInFlight x call.task) m.0 going;
    }

-- the call at a place is in flight, if it hasn't ended
pub in_flight_at : (s : CoreState) (asked : List Asked) (i : ℕ) (d : Asked) → i < length asked → AreInFlight s asked
    → (get_or asked i d).answer ≡ None → IsInFlight s (get_or asked i d).task
unfolding AreInFlight
in_flight_at s asked i d within all = all i d within

-- the other calls stand where they stood, and the call at its place is the new one
at_others : (asked : List Asked) (i k : ℕ) (after d : Asked) → k ≢ i → get_or (set asked i after) k d ≡ get_or asked k d
at_others asked i k after d other = get_or-set_other asked i k after d other

at_same : (asked : List Asked) (i k : ℕ) (after d : Asked) → k ≡ i → i < length asked → get_or (set asked i after) k d ≡ after
at_same asked i k after d same within =
    ap (λ (n : ℕ). get_or (set asked i after) n d) same ∙ get_or-set_same asked i after d within

-- calls at two places are of two tasks
tasks_differ : (asked : List Asked) (i k : ℕ) (d e : Asked) → k ≢ i → i < length asked → k < length asked
    → AreOfDistinctTasks asked → (get_or asked k e).task ≢ (get_or asked i d).task
tasks_differ asked i k d e other within there apart equal = elim (cases_lt i k) [
  | inl less ↦ apart i k d less there (sym (sym task ∙ equal))
  | inr more ↦ apart k i d (omega (arith, more, other)) within (sym task ∙ equal)
]
  where
    task : (get_or asked k e).task ≡ (get_or asked k d).task
    task = ap (λ (c : Asked). c.task) (get_or_default asked k e d there)

-- after one call's step the tasks are distinct still
pub apart_next : (asked : List Asked) (i : ℕ) (d after : Asked) → i < length asked → after.task ≡ (get_or asked i d).task
    → AreOfDistinctTasks asked → AreOfDistinctTasks (set asked i after)
apart_next asked i d after within same apart j k e before there equal =
    apart j k e before (old k there) (sym (task j (omega (arith, before, old k there))) ∙ equal ∙ task k (old k there))
  where
    old : (m : ℕ) → m < length (set asked i after) → m < length asked
    old m l = let e = length-set asked i after in omega (arith, e, l)

    task : (m : ℕ) → m < length asked → (get_or (set asked i after) m e).task ≡ (get_or asked m e).task
    task m l = elim (same_or_other m i) [
      | inl q ↦ ap (λ (c : Asked). c.task) (at_same asked i m after e q within) ∙ same
          ∙ ap (λ (c : Asked). c.task) (get_or_default asked i d e within)
          ∙ ap (λ (n : ℕ). (get_or asked n e).task) (sym q)
      | inr q ↦ ap (λ (c : Asked). c.task) (at_others asked i m after e q)
    ]

-- each that hasn't ended is in flight still
pub in_flight_next : (s new : CoreState) (asked : List Asked) (i : ℕ) (d after : Asked) → i < length asked
    → AreOfDistinctTasks asked → Follows s (get_or asked i d) new after → AreInFlight s asked
    → AreInFlight new (set asked i after)
unfolding AreInFlight
in_flight_next s new asked i d after within apart follows all k e there none = elim (same_or_other k i) [
  | inl q ↦
      (let same = at_same asked i k after e q within in
      let goes = (follows.goes (sym (ap (λ (c : Asked). c.answer) same) ∙ none)).1 in
      subst (λ (t : ℕ). IsInFlight new t) (sym (ap (λ (c : Asked). c.task) same ∙ follows.task)) goes)
  | inr q ↦
      (let same = at_others asked i k after e q in
      let old : k < length asked = (let l = length-set asked i after in omega (arith, l, there)) in
      let was = all k e old (sym (ap (λ (c : Asked). c.answer) same) ∙ none) in
      let stays = follows.others (get_or asked k e).task (tasks_differ asked i k d e q within old apart) in
      subst (λ (t : ℕ). IsInFlight new t) (sym (ap (λ (c : Asked). c.task) same))
      (subst (λ (c : Option Call). IsSome c) (sym stays) was))
]

-- a call of the task that hasn't ended
abbrev pub waiting : ℕ → Asked
waiting t = record { task = t; answer = None }

-- one that stands elsewhere stands there still
stands_on : (asked : List Asked) (i t : ℕ) (after : Asked) (found : Contains asked (waiting t)) → found.0 ≢ i
    → Contains (set asked i after) (waiting t)
stands_on asked i t after (k, there, is) other =
    (k, (let l = length-set asked i after in omega (arith, l, there)), at_others asked i k after (waiting t) other ∙ is)

-- the call that made its step, if it is the task's and hasn't ended
is_waiting : (t : ℕ) (after : Asked) → after.task ≡ t → after.answer ≡ None → after ≡ waiting t
is_waiting t after task none = λ i. record { task = task i; answer = none i }

-- and every call in flight is one of them still
pub all_next : (s new : CoreState) (asked : List Asked) (i : ℕ) (d after : Asked) → i < length asked
    → Follows s (get_or asked i d) new after → AreAll s asked → AreAll new (set asked i after)
unfolding AreAll
all_next s new asked i d after within follows all t there = elim (same_or_other t (get_or asked i d).task) [
  | inl q ↦ own q (get_or asked i d).answer refl
  | inr q ↦
      (let found = all t (subst (λ (c : Option Call). IsSome c) (follows.others t q) there) in
      stands_on asked i t after found (λ same. q (sym (ap (λ (c : Asked). c.task) (at_found found same)))))
]
  where
    at_found : (found : Contains asked (waiting t)) → found.0 ≡ i → get_or asked i d ≡ waiting t
    at_found found same =
        get_or_default asked i d (waiting t) within ∙ ap (λ (n : ℕ). get_or asked n (waiting t)) (sym same) ∙ found.2

    own : t ≡ (get_or asked i d).task → (o : Option Answer) → (get_or asked i d).answer ≡ o
        → Contains (set asked i after) (waiting t)
    own q None is =
        let still = follows.ends is (subst (λ (u : ℕ). IsInFlight new u) q there) in (
          i,
          (let l = length-set asked i after in omega (arith, l, within)),
          at_same asked i i after (waiting t) refl within ∙ is_waiting t after (follows.task ∙ sym q) still,
        )
    own q (Some a) is =
        let was = follows.stays a is (subst (λ (u : ℕ). IsInFlight new u) q there) in
        let found = all t (subst (λ (u : ℕ). IsInFlight s u) (sym q) was) in
        stands_on asked i t after found
        (λ same. (let no : ◌≡◌ {A = Option Answer} (Some a) None =
        sym is ∙ ap (λ (c : Asked). c.answer) (at_found found same) in absurd (cc)))

-- a blocked turn changes nothing, and each call that hasn't ended is blocked in it
abbrev Blocks : CoreState → ℕ → Type 0
Blocks s t = (u : ℕ) × (after : machine.State) × events.Row (as_state s) (Step t true) (outcome.Blocked u) after

blocked_row : (s mid next : CoreState) (t u : ℕ) → as_state mid ≡ as_state s → Row mid (Step t true) (outcome.Blocked u) next
    → events.Row (as_state s) (Step t true) (outcome.Blocked u) (as_state next)
unfolding Row
blocked_row s mid next t u same row =
    subst (λ (m : machine.State). events.Row m (Step t true) (outcome.Blocked u) (as_state next)) same row.0

pub blocked_at : (s mid new : CoreState) (asked : List Asked) (t : ℕ) → BlockedByHolders (as_state s) → as_state mid ≡ as_state s
    → AreBlocked mid asked new → Contains asked (waiting t) → Blocks s t
blocked_at s mid new [] t law same blocked (k, there, is) = absurd (omega (arith, there))
blocked_at s mid new (first ∷ others) t law same (next, step, rest) (zero, there, is) =
    of_first (subst (λ (c : Asked). MatchOption c.answer ((holder : ℕ) × Row mid (Step c.task true) (outcome.Blocked holder) next)
    (λ answer. next ≡ mid)) is step)
  where
    of_first : (holder : ℕ) × Row mid (Step t true) (outcome.Blocked holder) next → Blocks s t
    of_first (u, row) = (u, as_state next, blocked_row s mid next t u same row)
blocked_at s mid new (first ∷ others) t law same (next, step, rest) (suc k, there, is) =
    blocked_at s next new others t law (on first.answer step) rest (k, omega (arith, there), is)
  where
    on : (o : Option Answer) → MatchOption o ((holder : ℕ) × Row mid (Step first.task true) (outcome.Blocked holder) next)
        (λ answer. next ≡ mid) → as_state next ≡ as_state s
    on None (u, row) = (law first.task true u (as_state next) (blocked_row s mid next first.task u same row)).0
    on (Some a) e = ap (λ (x : CoreState). as_state x) e ∙ same

-- a list in which not every call has ended has one that hasn't
abbrev OneWaits : List Asked → Type 0
OneWaits asked = (k : ℕ) × (k < length asked) × ((get_or asked k (waiting 0)).answer ≡ None)

waits_in : (first : Asked) (others : List Asked) (o : Option Answer) → first.answer ≡ o
    → (All (λ (c : Asked). IsSome c.answer) (first ∷ others) → ⊥)
    → ((All (λ (c : Asked). IsSome c.answer) others → ⊥) → OneWaits others) → OneWaits (first ∷ others)
waits_in first others None is not more = (0, omega arith, is)
waits_in first others (Some a) is not more =
    let found = more (λ all. not (both all)) in
    (suc found.0, (let l = found.1 in omega (arith, l)), found.2)
  where
    both : All (λ (c : Asked). IsSome c.answer) others → All (λ (c : Asked). IsSome c.answer) (first ∷ others)
    both all zero d there = ap (λ (o : Option Answer). is_some o) is
    both all (suc k) d there = all k d (omega (arith, there))

one_waits : (asked : List Asked) → (All (λ (c : Asked). IsSome c.answer) asked → ⊥) → OneWaits asked
one_waits [] not = absurd (not (λ k d there. absurd (omega (arith, there))))
one_waits (first ∷ others) not = waits_in first others first.answer refl not (λ n. one_waits others n)

-- where every call in flight is one of them, not all are blocked
pub never_stuck : (s new : CoreState) (asked : List Asked) → BlockedByHolders (as_state s) → SomeCallGoesOn (as_state s)
    → (All (λ (c : Asked). IsSome c.answer) asked → ⊥) → AreInFlight s asked → AreAll s asked → AreBlocked s asked new → ⊥
unfolding AreAll AreInFlight
never_stuck s new asked holders goes not there all blocked =
    let waits = one_waits asked not in
    let call = some_of ((as_state s).calls (get_or asked waits.0 (waiting 0)).task) (there waits.0 (waiting 0) waits.1 waits.2) in
    let free = goes (get_or asked waits.0 (waiting 0)).task call.0 call.1 in
    let found = all free.0 (ap (λ (o : Option Call). is_some o) free.2) in
    let row = blocked_at s s new asked free.0 holders refl blocked found in
    free.4 true row.0 row.1 row.2

-- where all have ended and every call in flight is one of them, none is in flight
pub none_flies : (s : CoreState) (asked : List Asked) → All (λ (c : Asked). IsSome c.answer) asked → AreAll s asked → (t : ℕ)
    → IsInFlight s t → ⊥
unfolding AreAll
none_flies s asked ended all t there =
    let found = all t there in
    let some : is_some (get_or asked found.0 (waiting t)).answer ≡ true = ended found.0 (waiting t) found.1 in
    let no : ◌≡◌ {A = Bool} false true = sym (ap (λ (c : Asked). is_some c.answer) found.2) ∙ some in
    cc

-- a begin is begun or refused
no_begun : (s n : machine.State) (t : ℕ) (op : Op) (o : Outcome) → Began s t op o n → (o ≡ outcome.Begun → ⊥)
    → ((why : Refusal) → o ≡ outcome.Refused why → ⊥) → ⊥
no_begun s n t op outcome.Begun h begun refused = begun refl
no_begun s n t op (outcome.Refused why) h begun refused = refused why refl
no_begun s n t op (outcome.Moved p) h begun refused = h
no_begun s n t op (outcome.Blocked u) h begun refused = h
no_begun s n t op (outcome.Ended a) h begun refused = h
no_begun s n t op outcome.Marked h begun refused = h
no_begun s n t op (outcome.Resized f) h begun refused = h

pub no_begin : (s n : CoreState) (t : ℕ) (op : Op) (o : Outcome) → ((m : machine.State) → BeginsBegin m) → Row s (Begin t op) o n
    → (o ≡ outcome.Begun → ⊥) → ((why : Refusal) → o ≡ outcome.Refused why → ⊥) → ⊥
unfolding Row
no_begin s n t op o law row begun refused =
    no_begun (as_state s) (as_state n) t op o (law (as_state s) t op o (as_state n) row.0) begun refused

-- a step of a call in flight moves it, ends it or is blocked
no_went : (s n : machine.State) (t : ℕ) (o : Outcome) → Went s t o n → ((p : Phase) → o ≡ outcome.Moved p → ⊥)
    → ((a : Answer) → o ≡ outcome.Ended a → ⊥) → ((u : ℕ) → o ≡ outcome.Blocked u → ⊥) → ⊥
no_went s n t (outcome.Moved p) h moved ended blocked = moved p refl
no_went s n t (outcome.Ended a) h moved ended blocked = ended a refl
no_went s n t (outcome.Blocked u) h moved ended blocked = blocked u refl
no_went s n t outcome.Begun h moved ended blocked = h
no_went s n t (outcome.Refused why) h moved ended blocked = h
no_went s n t outcome.Marked h moved ended blocked = h
no_went s n t (outcome.Resized f) h moved ended blocked = h

pub no_step : (s n : CoreState) (t : ℕ) (o : Outcome) → CallsStep (as_state s) → IsInFlight s t → Row s (Step t true) o n
    → ((p : Phase) → o ≡ outcome.Moved p → ⊥) → ((a : Answer) → o ≡ outcome.Ended a → ⊥) → ((u : ℕ)
    → o ≡ outcome.Blocked u → ⊥) → ⊥
no_step s n t o law there row moved ended blocked =
    no_went (as_state s) (as_state n) t o (went_of s n t true o law there row) moved ended blocked

-- of a core: a step that goes on leaves fewer steps
pub core_nearer : (s n : CoreState) (t : ℕ) (o : Outcome) → StepsRunOut (as_state s) → Row s (Step t true) o n
    → left_to_all (as_state n) + goes_on o ≤ left_to_all (as_state s)
unfolding Row
core_nearer s n t o law row = (law t true o (as_state n) row.0).2

-- no answer, if there isn't some
pub unanswered : (o : Option Answer) → is_some o ≡ false → o ≡ None
unanswered None e = refl
unanswered (Some a) e = (let no : ◌≡◌ {A = Bool} true false = e in absurd (cc))

-- a finish that turns fail, and that isn't stuck, was refused memory
pub finish_stops : (fault : ClientFault) (old new : CoreState) → TurnsFail fault old (in_flight old) new → fault ≢ Stuck
    → FinishStops fault old new
finish_stops Memory old new fails free = inr fails
finish_stops Stuck old new fails free = absurd (free refl)
finish_stops Unaligned old new fails free = fails
finish_stops NotSupported old new fails free = fails
finish_stops (Refused why) old new fails free = fails
