-- A run and a schedule that tell the same meet the same conditions.
use Rattle.std.proofs.Common.{◌≡◌, ℕ, suc, ◌+◌, ◌<◌, refl, ap, sym, ◌∙◌, subst, inl, inr, arith, List, [], ◌∷◌, length}
use Rattle.std.specs.Prelude.{◌&&◌, Some, if◌then◌else◌}
use Rattle.hp_base.specs.declared.event.Event.{Event}
use Rattle.hp_base.specs.declared.event.Event.TheVariants.{Begin, Step, Kill, Resize}
use Rattle.hp_machine.specs.Events.{is_begun}
use Rattle.hp_machine.specs.declared.outcome.Outcome.{Outcome}
use Rattle.hp_core.specs.State.{CoreState}
use Rattle.hp_core.specs.Readers.{phase_of}
use Rattle.hp_text.specs.declared.script.Script.{Script}
use Rattle.hp_watch.specs.Moments.{Moment, Once, last_of}
use Rattle.hp_explore.specs.declared.line.Finish.TheVariants.{Finished}
use Rattle.hp_watch.specs.Calls.{asked_word, calls_begun, is_begin, last_call}
use Rattle.hp_watch.specs.declared.call_word.CallWord.{CallWord}
use Rattle.hp_hunt.specs.Conditions.{Finds, HasCount, IsEnd, IsMetAt, IsSomeBlocked, IsSoughtEnd, IsStepOf, Meets, MeetsChoice, SomeRunMisses}
use Rattle.hp_hunt.specs.declared.condition.Condition.{Condition}
use Rattle.hp_hunt.specs.declared.condition.Sought.{Sought}
use Rattle.hp_hunt.specs.declared.condition.Sought.TheVariants as sought
use Rattle.hp_every.specs.Schedules.{IsShortest, NoScheduleMeets, ScheduleMeets}
use Rattle.hp_every.proofs.Runs.{event_count, wanted_too}
use Rattle.hp_every.specs.Scheduled.{IsScheduled, asked, told}

-- what one moment tells
abbrev Told : Type 0
Told = Event × (Outcome × CoreState)

-- lists that tell the same have the same first moment, and the same before it
record SameFirst (m n : Moment) (ms ns : List Moment) : Type 0 where
  pub event : asked m.event ≡ asked n.event
  pub outcome : m.outcome ≡ n.outcome
  pub core : m.core ≡ n.core
  pub rest : told ms ≡ told ns

same_first : (m n : Moment) (ms ns : List Moment) → told (m ∷ ms) ≡ told (n ∷ ns) → SameFirst m n ms ns
same_first m n ms ns e =
    let pair : ◌≡◌ {A = Told} (asked m.event, (m.outcome, m.core)) (asked n.event, (n.outcome, n.core)) = cc in
    let rest : told ms ≡ told ns = cc in
    record {
      event = ap (λ (x : Told). x.0) pair;
      outcome = ap (λ (x : Told). x.1.0) pair;
      core = ap (λ (x : Told). x.1.1) pair;
      rest = rest;
    }

-- whether a step is granted doesn't show in what it asks for
begin_asked : (t : ℕ) (e : Event) → is_begin t (asked e) ≡ is_begin t e
begin_asked t (Begin u op) = refl
begin_asked t (Step u granted) = refl
begin_asked t (Kill u) = refl
begin_asked t (Resize frames) = refl

step_asked : (t : ℕ) (e : Event) → IsStepOf t e → IsStepOf t (asked e)
step_asked t (Begin u op) h = h
step_asked t (Step u granted) h = h
step_asked t (Kill u) h = h
step_asked t (Resize frames) h = h

step_back : (t : ℕ) (e : Event) → IsStepOf t (asked e) → IsStepOf t e
step_back t (Begin u op) h = h
step_back t (Step u granted) h = h
step_back t (Kill u) h = h
step_back t (Resize frames) h = h

word_asked : (e : Event) → asked_word (asked e) ≡ asked_word e
word_asked (Begin u op) = refl
word_asked (Step u granted) = refl
word_asked (Kill u) = refl
word_asked (Resize frames) = refl

-- so each task has begun as many calls, and the same last,
tracked_same : (t : ℕ) (ms ns : List Moment) → told ms ≡ told ns → (last_call t ms ≡ last_call t ns) × (calls_begun t ms ≡ calls_begun t ns)
tracked_same t [] [] e = (refl, refl)
tracked_same t [] (n ∷ ns) e = absurd (cc)
tracked_same t (m ∷ ms) [] e = absurd (cc)
tracked_same t (m ∷ ms) (n ∷ ns) e =
    let h = same_first m n ms ns e in
    let asks : is_begin t m.event ≡ is_begin t n.event =
    sym (begin_asked t m.event) ∙ (ap (λ (x : Event). is_begin t x) h.event ∙ begin_asked t n.event) in
    let word : asked_word m.event ≡ asked_word n.event = sym (word_asked m.event) ∙ (ap asked_word h.event ∙ word_asked n.event) in
    let before = tracked_same t ms ns h.rest in (
      λ i. if asks i && is_begun (h.outcome i) then word i else before.0 i,
      λ i. if asks i && is_begun (h.outcome i) then before.1 i + 1 else before.1 i,
    )

-- the same is met at the first moment,
met_same : (s : Sought) (m n : Moment) (ms ns : List Moment) → told (m ∷ ms) ≡ told (n ∷ ns) → IsMetAt s ms m → IsMetAt s ns n
met_same (sought.Answer s) m n ms ns e is =
    let h = same_first m n ms ns e in
    let same = tracked_same is.task ms ns h.rest in
    record {
      task = is.task;
      answer = is.answer;
      step = step_back is.task n.event (subst (IsStepOf is.task) h.event (step_asked is.task m.event is.step));
      end = subst (IsEnd is.answer) h.outcome is.end;
      is = subst (λ (c : CoreState). IsSoughtEnd s (last_call is.task ns) (calls_begun is.task ns) is.task is.answer c) h.core
          (subst (λ (k : ℕ). IsSoughtEnd s (last_call is.task ns) k is.task is.answer m.core) same.1
          (subst (λ (w : CallWord). IsSoughtEnd s w (calls_begun is.task ms) is.task is.answer m.core) same.0 is.is));
    }
met_same (sought.Blocked t) m n ms ns e h = subst (λ (c : CoreState). IsSomeBlocked t c) (same_first m n ms ns e).core h
met_same (sought.Meet t p u q) m n ms ns e (one, other) =
    let core = (same_first m n ms ns e).core in (
      subst (λ (c : CoreState). phase_of c t ≡ Some p) core one,
      subst (λ (c : CoreState). phase_of c u ≡ Some q) core other,
    )
met_same (sought.Final c) m n ms ns e h = h

-- and at any
once_same : (c : Sought) (ms ns : List Moment) → told ms ≡ told ns → Once (IsMetAt c) ms → Once (IsMetAt c) ns
unfolding Once
once_same c [] ns e h = absurd h
once_same c (m ∷ ms) [] e h = absurd (cc)
once_same c (m ∷ ms) (n ∷ ns) e (inl here) = inl (met_same c m n ms ns e here)
once_same c (m ∷ ms) (n ∷ ns) e (inr before) = inr (once_same c ms ns (same_first m n ms ns e).rest before)

last_same : (first : CoreState) (ms ns : List Moment) → told ms ≡ told ns → last_of first ms ≡ last_of first ns
last_same first [] [] e = refl
last_same first [] (n ∷ ns) e = absurd (cc)
last_same first (m ∷ ms) [] e = absurd (cc)
last_same first (m ∷ ms) (n ∷ ns) e = (same_first m n ms ns e).core

finds_same : (first : CoreState) (ms ns : List Moment) (s : Sought) → told ms ≡ told ns → Finds first ms s → Finds first ns s
finds_same first ms ns (sought.Answer s) e h = once_same (sought.Answer s) ms ns e h
finds_same first ms ns (sought.Blocked t) e h = once_same (sought.Blocked t) ms ns e h
finds_same first ms ns (sought.Meet t p u q) e h = once_same (sought.Meet t p u q) ms ns e h
finds_same first ms ns (sought.Final c) e h = subst (λ (core : CoreState). HasCount c core) (last_same first ms ns e) h

meets_same : (first : CoreState) (ms ns : List Moment) (c : Condition) → told ms ≡ told ns → Meets first ms c → Meets first ns c
meets_same first ms ns c e h =
    wanted_too c.wanted (Finds first ms c.sought) (Finds first ns c.sought) (finds_same first ms ns c.sought e)
    (finds_same first ns ms c.sought (sym e)) h

choice_same : (conditions : List Condition) (first : CoreState) (ms ns : List Moment) (choice : ℕ) → told ms ≡ told ns
    → MeetsChoice conditions first ms choice → MeetsChoice conditions first ns choice
choice_same conditions first ms ns choice e h =
    record { condition = h.condition; given = h.given; same = h.same; meets = meets_same first ms ns h.condition e h.meets }

-- what its schedule doesn't meet a finished run misses
missed_by : (script : Script) (denials kills : ℕ) (conditions : List Condition) (events : List Event)
    → (scheduled : IsScheduled script denials kills events Finished)
    → (ScheduleMeets script denials kills conditions scheduled.moments → ⊥) → SomeRunMisses script.config events conditions
missed_by script denials kills conditions events scheduled none = record {
  first = scheduled.first;
  moments = scheduled.made;
  run = scheduled.run;
  misses = λ meets. none record {
    first = scheduled.first;
    last = scheduled.last;
    schedule = scheduled.schedule;
    looked_at = λ k d within final. scheduled.ended refl;
    meets = λ k d within. choice_same conditions scheduled.first scheduled.made scheduled.moments _ (sym scheduled.same) (meets k d within);
  };
}

-- so what no schedule meets
pub missed : (script : Script) (denials kills : ℕ) (conditions : List Condition) (events : List Event)
    → NoScheduleMeets script denials kills conditions → IsScheduled script denials kills events Finished
    → SomeRunMisses script.config events conditions
missed script denials kills conditions events none scheduled =
    missed_by script denials kills conditions events scheduled (none scheduled.moments)

-- lists that tell the same are equally long
told_long : (ms : List Moment) → length (told ms) ≡ length ms
told_long [] = refl
told_long (m ∷ ms) = ap suc (told_long ms)

-- and a run of fewer events than a shortest schedule misses, too
pub missed_before : (script : Script) (denials kills : ℕ) (conditions : List Condition) (events others : List Event)
    → IsShortest script denials kills conditions events → IsScheduled script denials kills others Finished
    → length others < length events → SomeRunMisses script.config others conditions
missed_before script denials kills conditions events others h scheduled fewer =
    let here : length events ≡ length h.moments = ap (λ (es : List Event). length es) (sym h.made) ∙ event_count h.moments in
    let there : length others ≡ length scheduled.made =
    ap (λ (es : List Event). length es) (sym scheduled.run.made) ∙ event_count scheduled.made in
    let long : length scheduled.moments ≡ length scheduled.made =
    sym (told_long scheduled.moments) ∙ (ap (λ (xs : List Told). length xs) scheduled.same ∙ told_long scheduled.made) in
    missed_by script denials kills conditions others scheduled
    (λ meets. let least = h.shortest scheduled.moments meets in absurd (omega (arith, here, there, long, least, fewer)))
