-- What watches know of one schedule they know of another that stands in the same place.
use Rattle.std.proofs.Common.{◌≡◌, ℕ, ◌+◌, ◌<◌, refl, ap, sym, ◌∙◌, subst, inl, inr, arith, List, [], ◌∷◌, length}
use Rattle.std.specs.Prelude.{◌&&◌, Bool, false, Option, None, Some, IfSome, is_some, map, slice_index_or, if◌then◌else◌}
use Rattle.std.proofs.lemmas.List.{get_or-map, length-map}
use Rattle.std.proofs.Math.Path.{fun_ext}
use Rattle.hp_base.specs.Indices.{count_below}
use Rattle.hp_base.specs.declared.answer.Answer.{Answer}
use Rattle.hp_base.specs.declared.limits.TheConstants.{LIMIT}
use Rattle.hp_machine.specs.Events.{is_begun}
use Rattle.hp_machine.specs.Headline.{all_calls}
use Rattle.hp_machine.specs.State.{State}
use Rattle.hp_alike.proofs.Twins.{Twins, blocked_there, same_free, same_resv, still_some}
use Rattle.hp_sequential.specs.Renaming.{call_renamed}
use Rattle.hp_core.specs.State.{CoreState, as_state}
use Rattle.hp_core.specs.Readers as readers
use Rattle.hp_core.specs.Runs.{Row}
use Rattle.hp_core.specs.Waiting.{WaitsFor}
use Rattle.hp_watch.specs.Moments.{Moment, Once, events_of, last_of}
use Rattle.hp_watch.specs.Calls.{AreCalls, asked_word, calls_begun, is_begin, last_call}
use Rattle.hp_watch.specs.declared.call_word.CallWord.{CallWord}
use Rattle.hp_watch.specs.declared.calls.TaskCalls.{TaskCalls}
use Rattle.hp_hunt.specs.Conditions.{Compares, Finds, HasCount, IsEnd, IsMetAt, IsSoughtEnd, IsStepOf, Meets, count_of}
use Rattle.hp_hunt.specs.Watching.{AllKnow, Known, Knows, of_watch}
use Rattle.hp_hunt.specs.declared.condition.Comparison.{Comparison}
use Rattle.hp_hunt.specs.declared.condition.Condition.{Condition}
use Rattle.hp_hunt.specs.declared.condition.PoolCount.{PoolCount}
use Rattle.hp_hunt.specs.declared.condition.PoolCount.TheVariants.{Resv, Free, Used, Calls, Reserved, Pages}
use Rattle.hp_hunt.specs.declared.condition.Sought.{Sought}
use Rattle.hp_hunt.specs.declared.condition.Sought.TheVariants as sought
use Rattle.hp_hunt.specs.declared.condition.SoughtAnswer.{SoughtAnswer}
use Rattle.hp_hunt.specs.declared.watching.Watch.{Watch}
use Rattle.hp_key.proofs.Tells.{cons_same}
use Rattle.hp_every.specs.Places.{IsPlaceOf, outcomes_of}
use Rattle.hp_every.specs.Schedules.{Place, plan_for}
use Rattle.hp_every.specs.Search.{Question, IsRun, MeetsHere}
use Rattle.hp_every.proofs.Paths.{last_same, never_empty, one_place}
use Rattle.hp_every.proofs.Renamed.{phase_there}
use Rattle.hp_every.proofs.Runs.{wanted_too}
use Rattle.hp_every.proofs.Sames.{Same, by_events, last_core, looks, may_there, place_is, split, twins_of}

-- ---- moments that tell the same

pub record SameMoment (m n : Moment) : Type 0 where
  pub event : m.event ≡ n.event
  pub outcome : m.outcome ≡ n.outcome
  pub cores : Twins (as_state m.core) (as_state n.core)

-- moment by moment
abbrev pub AreSame : List Moment → List Moment → Type 0
AreSame [] [] = Unit {0}
AreSame [] (n ∷ ns) = ⊥
AreSame (m ∷ ms) [] = ⊥
AreSame (m ∷ ms) (n ∷ ns) = SameMoment m n × AreSame ms ns

pub moment_twins : (a : Question) (m n : Moment) (p q : Place) → IsPlaceOf a.script p → IsPlaceOf a.script q → Same p q → m.core ≡ p.core
    → n.core ≡ q.core → Twins (as_state m.core) (as_state n.core)
moment_twins a m n p q here there same x y =
    subst (λ (s : CoreState). Twins (as_state s) (as_state n.core)) (sym x)
    (subst (λ (s : CoreState). Twins (as_state p.core) (as_state s)) (sym y) (twins_of a.script p q here there same.on))

pub all_same : (a : Question) (f g : CoreState) (ms ns : List Moment) (p q : Place) → IsRun a f ms p → IsRun a g ns q
    → events_of ms ≡ events_of ns → AreSame ms ns
all_same a f g [] [] p q here there e = tt
all_same a f g [] (n ∷ ns) p q here there e = never_empty (events_of ns) n.event e
all_same a f g (m ∷ ms) [] p q here there e = never_empty (events_of ms) m.event (sym e)
all_same a f g (m ∷ ms) (n ∷ ns) p q here there e =
    let last = last_same (events_of ms) (events_of ns) m.event n.event e in
    let x = split a f m ms p here in
    let y = split a g n ns q there in
    let same = by_events a f g (m ∷ ms) (n ∷ ns) p q here there e in (
      record {
        event = last.1;
        outcome = (cons_same m.outcome n.outcome (outcomes_of ms) (outcomes_of ns)
            (one_place a.script a.denials a.kills f g (m ∷ ms) (n ∷ ns) p q here there e).0).0;
        cores = moment_twins a m n p q (place_is a f (m ∷ ms) p here) (place_is a g (n ∷ ns) q there) same x.core y.core;
      },
      all_same a f g ms ns x.before y.before x.run y.run last.0,
    )

-- ---- the calls of tasks

-- each task has begun as many calls, and the same last
unfoldable pub AreTracked : List Moment → List Moment → Type 0
AreTracked ms ns = (t : ℕ) → (last_call t ms ≡ last_call t ns) × (calls_begun t ms ≡ calls_begun t ns)

tracked_more : (ms ns : List Moment) (m n : Moment) → SameMoment m n → AreTracked ms ns → AreTracked (m ∷ ms) (n ∷ ns)
unfolding AreTracked
tracked_more ms ns m n h before t =
    let old = before t in (
      λ i. if is_begin t (h.event i) && is_begun (h.outcome i) then asked_word (h.event i) else old.0 i,
      λ i. if is_begin t (h.event i) && is_begun (h.outcome i) then old.1 i + 1 else old.1 i,
    )

pub tracked_there : (ms ns : List Moment) → AreSame ms ns → AreTracked ms ns
unfolding AreTracked
tracked_there [] [] h = λ t. (refl, refl)
tracked_there [] (n ∷ ns) h = absurd h
tracked_there (m ∷ ms) [] h = absurd h
tracked_there (m ∷ ms) (n ∷ ns) (one, rest) = tracked_more ms ns m n one (tracked_there ms ns rest)

-- what is known of both tells that they are the same
pub tracked_by : (calls : List TaskCalls) (ms ns : List Moment) → AreCalls calls ms → AreCalls calls ns → AreTracked ms ns
unfolding AreTracked
tracked_by calls ms ns a b t = (sym (a.last t) ∙ b.last t, sym (a.begun t) ∙ b.begun t)

calls_too : (calls : List TaskCalls) (ms ns : List Moment) → AreTracked ms ns → AreCalls calls ms → AreCalls calls ns
unfolding AreTracked
calls_too calls ms ns same h = record { last = λ t. h.last t ∙ (same t).0; begun = λ t. h.begun t ∙ (same t).1 }

-- ---- counts

-- as many calls are in flight
calls_there : (s n : State) → Twins s n → all_calls n ≡ all_calls s
calls_there s n h =
    ap all_calls h.alike.1
    ∙ ap (λ (busy : ℕ → Bool). count_below busy (s.geometry.tasks + 1))
    (fun_ext (λ t. still_some (call_renamed h.alike.0.to) (s.calls t)))

-- and a file has as many pages
pages_there : (s n : State) (f : ℕ) → Twins s n
    → count_below (λ i. is_some (n.pages f i)) LIMIT ≡ count_below (λ i. is_some (s.pages f i)) LIMIT
pages_there s n f h =
    ap (λ (x : State). count_below (λ i. is_some (x.pages f i)) LIMIT) h.alike.1
    ∙ ap (λ (there : ℕ → Bool). count_below there LIMIT) (fun_ext (λ i. still_some h.alike.0.to (s.pages f i)))

pub count_there : (count : PoolCount) (s n : CoreState) → Twins (as_state s) (as_state n) → count_of count n ≡ count_of count s
unfolding readers.resv_of readers.free_of readers.used_of readers.calls_of readers.reserved_of readers.pages_of
count_there Resv s n h = same_resv (as_state s) (as_state n) h
count_there Free s n h = same_free (as_state s) (as_state n) h
count_there Used s n h = ap (λ (x : State). x.used) h.alike.1
count_there Calls s n h = calls_there (as_state s) (as_state n) h
count_there (Reserved f) s n h = ap (λ (x : State). count_below (x.reserved f) LIMIT) h.alike.1
count_there (Pages f) s n h = pages_there (as_state s) (as_state n) f h

has_there : (c : Comparison) (s n : CoreState) → Twins (as_state s) (as_state n) → HasCount c s → HasCount c n
has_there c s n h has = subst (λ (k : ℕ). Compares c.relation k c.number) (sym (count_there c.count s n h)) has

has_back : (c : Comparison) (s n : CoreState) → Twins (as_state s) (as_state n) → HasCount c n → HasCount c s
has_back c s n h has = subst (λ (k : ℕ). Compares c.relation k c.number) (count_there c.count s n h) has

counted_there : (counted : Option Comparison) (s n : CoreState) → Twins (as_state s) (as_state n) → IfSome counted (λ c. HasCount c s)
    → IfSome counted (λ c. HasCount c n)
counted_there None s n h has = tt
counted_there (Some c) s n h has = has_there c s n h has

-- ---- what is sought

end_there : (s : SoughtAnswer) (last : CallWord) (begun t : ℕ) (a : Answer) (c d : CoreState) → Twins (as_state c) (as_state d)
    → IsSoughtEnd s last begun t a c → IsSoughtEnd s last begun t a d
end_there s last begun t a c d h (of, (call, (named, counted))) = (of, (call, (named, counted_there s.counted c d h counted)))

met_there : (s : Sought) (ms ns : List Moment) (m n : Moment) → SameMoment m n → AreTracked ms ns → IsMetAt s ms m → IsMetAt s ns n
unfolding WaitsFor Row AreTracked
met_there (sought.Answer s) ms ns m n h same is = record {
  task = is.task;
  answer = is.answer;
  step = subst (IsStepOf is.task) h.event is.step;
  end = subst (IsEnd is.answer) h.outcome is.end;
  is = end_there s (last_call is.task ns) (calls_begun is.task ns) is.task is.answer m.core n.core h.cores
      (subst (λ (k : ℕ). IsSoughtEnd s (last_call is.task ns) k is.task is.answer m.core) (same is.task).1
      (subst (λ (w : CallWord). IsSoughtEnd s w (calls_begun is.task ms) is.task is.answer m.core) (same is.task).0 is.is));
}
met_there (sought.Blocked asked) ms ns m n h same (t, of, (holder, waits)) = (
  t,
  of,
  (
    holder,
    λ grant. (blocked_there (as_state m.core) (as_state n.core) (as_state m.core) t holder grant h.cores (waits grant).0, refl),
  ),
)
met_there (sought.Meet t p u q) ms ns m n h same (one, other) =
    (phase_there m.core n.core t h.cores.alike ∙ one, phase_there m.core n.core u h.cores.alike ∙ other)
met_there (sought.Final c) ms ns m n h same bad = bad

once_there : (s : Sought) (ms ns : List Moment) → AreSame ms ns → Once (IsMetAt s) ms → Once (IsMetAt s) ns
unfolding Once
once_there s [] ns h once = absurd once
once_there s (m ∷ ms) [] h once = absurd h
once_there s (m ∷ ms) (n ∷ ns) (one, rest) (inl here) = inl (met_there s ms ns m n one (tracked_there ms ns rest) here)
once_there s (m ∷ ms) (n ∷ ns) (one, rest) (inr before) = inr (once_there s ms ns rest before)

-- ---- a watch

-- what it knows of the one it knows of the other
pub knows_too : (w : Watch) (ms ns : List Moment) → AreSame ms ns → AreSame ns ms → Knows w ms → Knows w ns
knows_too w ms ns on back h = record {
  seen = (
    λ seen. once_there w.condition.sought ms ns on (h.seen.0 seen),
    λ once. h.seen.1 (once_there w.condition.sought ns ms back once),
  );
}

pub all_know_too : (conditions : List Condition) (known : Known) (ms ns : List Moment) → AreSame ms ns → AreSame ns ms
    → AllKnow conditions known ms → AllKnow conditions known ns
all_know_too conditions known ms ns on back h = record {
  calls = calls_too known.calls ms ns (tracked_there ms ns on) h.calls;
  of = h.of;
  each = λ k d within. knows_too (slice_index_or known.watches k d) ms ns on back (h.each k d within);
}

once_more : (w : Watch) (ms ns : List Moment) (m n : Moment) → SameMoment m n → AreTracked ms ns → Knows w ms → Knows w ns
    → Once (IsMetAt w.condition.sought) (m ∷ ms) → Once (IsMetAt w.condition.sought) (n ∷ ns)
unfolding Once
once_more w ms ns m n h same a b (inl here) = inl (met_there w.condition.sought ms ns m n h same here)
once_more w ms ns m n h same a b (inr before) = inr (b.seen.0 (a.seen.1 before))

-- what one knows behind a moment of the one it knows behind the same moment of the other
knows_more : (v w : Watch) (ms ns : List Moment) (m n : Moment) → v.condition ≡ w.condition → SameMoment m n → SameMoment n m
    → AreTracked ms ns → AreTracked ns ms → Knows w ms → Knows w ns → Knows v (m ∷ ms) → Knows v (n ∷ ns)
knows_more v w ms ns m n same on back tracked turned a b h = record {
  seen = (
    λ seen. subst (λ (c : Condition). Once (IsMetAt c.sought) (n ∷ ns)) (sym same)
        (once_more w ms ns m n on tracked a b (subst (λ (c : Condition). Once (IsMetAt c.sought) (m ∷ ms)) same (h.seen.0 seen))),
    λ once. h.seen.1 (subst (λ (c : Condition). Once (IsMetAt c.sought) (m ∷ ms)) (sym same)
        (once_more w ns ms n m back turned b a (subst (λ (c : Condition). Once (IsMetAt c.sought) (n ∷ ns)) same once))),
  );
}

pub as_many : (conditions : List Condition) (watches : List Watch) → map of_watch watches ≡ conditions → length watches ≡ length conditions
as_many conditions watches of = sym (length-map watches of_watch) ∙ ap (λ (cs : List Condition). length cs) of

same_at : (conditions : List Condition) (vs ws : List Watch) → map of_watch vs ≡ conditions → map of_watch ws ≡ conditions
    → (k : ℕ) (d : Watch) → k < length vs → k < length ws → (slice_index_or vs k d).condition ≡ (slice_index_or ws k d).condition
same_at conditions vs ws of other k d within long =
    sym (get_or-map of_watch vs k d d.condition within)
    ∙ (ap (λ (cs : List Condition). slice_index_or cs k d.condition) (of ∙ sym other)
    ∙ get_or-map of_watch ws k d d.condition long)

pub all_know_more : (conditions : List Condition) (v w : Known) (ms ns : List Moment) (m n : Moment) → SameMoment m n → SameMoment n m
    → AllKnow conditions w ms → AllKnow conditions w ns → AllKnow conditions v (m ∷ ms) → AllKnow conditions v (n ∷ ns)
all_know_more conditions v w ms ns m n on back a b h =
    let tracked = tracked_by w.calls ms ns a.calls b.calls in
    let turned = tracked_by w.calls ns ms b.calls a.calls in
    record {
      calls = calls_too v.calls (m ∷ ms) (n ∷ ns) (tracked_more ms ns m n on tracked) h.calls;
      of = h.of;
      each = λ k d within. (
          let long : k < length w.watches = omega (arith, within, as_many conditions v.watches h.of, as_many conditions w.watches a.of) in
          let same = same_at conditions v.watches w.watches h.of a.of k d within long in
          knows_more (slice_index_or v.watches k d) (slice_index_or w.watches k d) ms ns m n same on back tracked turned (a.each k d long)
          (b.each k d long) (h.each k d within));
    }

-- what one knows where another knows both
knows_on : (v w : Watch) (ms ns : List Moment) → v.condition ≡ w.condition → Knows v ms → Knows w ms → Knows w ns → Knows v ns
knows_on v w ms ns same h a b = record {
  seen = (
    λ seen. subst (λ (c : Condition). Once (IsMetAt c.sought) ns) (sym same)
        (b.seen.0 (a.seen.1 (subst (λ (c : Condition). Once (IsMetAt c.sought) ms) same (h.seen.0 seen)))),
    λ once. h.seen.1 (subst (λ (c : Condition). Once (IsMetAt c.sought) ms) (sym same)
        (a.seen.0 (b.seen.1 (subst (λ (c : Condition). Once (IsMetAt c.sought) ns) same once)))),
  );
}

pub all_know_on : (conditions : List Condition) (v w : Known) (ms ns : List Moment) → AllKnow conditions v ms → AllKnow conditions w ms
    → AllKnow conditions w ns → AllKnow conditions v ns
all_know_on conditions v w ms ns h a b = record {
  calls = calls_too v.calls ms ns (tracked_by w.calls ms ns a.calls b.calls) h.calls;
  of = h.of;
  each = λ k d within. (
      let long : k < length w.watches = omega (arith, within, as_many conditions v.watches h.of, as_many conditions w.watches a.of) in
      knows_on (slice_index_or v.watches k d) (slice_index_or w.watches k d) ms ns
      (same_at conditions v.watches w.watches h.of a.of k d within long) (h.each k d within) (a.each k d long) (b.each k d long));
}

-- ---- all conditions

-- a watch that knows both tells that what is found in the one is found in the other
found_too : (w : Watch) (f g : CoreState) (ms ns : List Moment) → Twins (as_state (last_of f ms)) (as_state (last_of g ns)) → Knows w ms
    → Knows w ns → (s : Sought) → w.condition.sought ≡ s → Finds f ms s → Finds g ns s
found_too w f g ms ns twins a b s is h = by s (subst (λ (x : Sought). Once (IsMetAt x) ms → Once (IsMetAt x) ns) is
    (λ once. b.seen.0 (a.seen.1 once))) h
  where
    by : (s : Sought) → (Once (IsMetAt s) ms → Once (IsMetAt s) ns) → Finds f ms s → Finds g ns s
    by (sought.Answer s) once h = once h
    by (sought.Blocked t) once h = once h
    by (sought.Meet t p u q) once h = once h
    by (sought.Final c) once h = has_there c (last_of f ms) (last_of g ns) twins h

found_back : (w : Watch) (f g : CoreState) (ms ns : List Moment) → Twins (as_state (last_of f ms)) (as_state (last_of g ns)) → Knows w ms
    → Knows w ns → (s : Sought) → w.condition.sought ≡ s → Finds g ns s → Finds f ms s
found_back w f g ms ns twins a b s is h = by s (subst (λ (x : Sought). Once (IsMetAt x) ns → Once (IsMetAt x) ms) is
    (λ once. a.seen.0 (b.seen.1 once))) h
  where
    by : (s : Sought) → (Once (IsMetAt s) ns → Once (IsMetAt s) ms) → Finds g ns s → Finds f ms s
    by (sought.Answer s) once h = once h
    by (sought.Blocked t) once h = once h
    by (sought.Meet t p u q) once h = once h
    by (sought.Final c) once h = has_back c (last_of f ms) (last_of g ns) twins h

met_too : (w : Watch) (f g : CoreState) (ms ns : List Moment) → Twins (as_state (last_of f ms)) (as_state (last_of g ns)) → Knows w ms → Knows w ns
    → (c : Condition) → w.condition ≡ c → Meets f ms c → Meets g ns c
met_too w f g ms ns twins a b c is h =
    let same = ap (λ (x : Condition). x.sought) is in
    wanted_too c.wanted (Finds f ms c.sought) (Finds g ns c.sought) (found_too w f g ms ns twins a b c.sought same)
    (found_back w f g ms ns twins a b c.sought same) h

-- what meets all conditions meets them in the other's place, too
pub meets_there : (a : Question) (f g : CoreState) (ms ns : List Moment) (p q : Place) (known : Known) → IsRun a f ms p → IsRun a g ns q
    → Same p q → AllKnow a.conditions known ms → AllKnow a.conditions known ns
    → MeetsHere (plan_for a.script) a.conditions f ms p → MeetsHere (plan_for a.script) a.conditions g ns q
meets_there a f g ms ns p q known here there same knows too h =
    let x = place_is a f ms p here in
    let y = place_is a g ns q there in
    let back = looks a.script q p y x same.back in
    let twins : Twins (as_state (last_of f ms)) (as_state (last_of g ns)) =
    subst (λ (s : CoreState). Twins (as_state s) (as_state (last_of g ns))) (sym (last_core a f ms p here))
    (subst (λ (s : CoreState). Twins (as_state p.core) (as_state s)) (sym (last_core a g ns q there)) (twins_of a.script p q x y same.on)) in
    record {
      looked_at = λ k d within final next may.
          h.looked_at k d within final next (may_there (plan_for a.script) q p back next may);
      meets = λ k d within. (
          let choice = h.meets k d within in
          let c = choice.condition in
          let at = choice.given in
          let w : Watch = record { condition = c; seen = false } in
          let long : at.0 < length known.watches = omega (arith, at.1, as_many a.conditions known.watches knows.of) in
          let is : (slice_index_or known.watches at.0 w).condition ≡ c =
          sym (get_or-map of_watch known.watches at.0 w c long)
          ∙ (ap (λ (cs : List Condition). slice_index_or cs at.0 c) knows.of ∙ at.2) in
          record {
            condition = c;
            given = choice.given;
            same = choice.same;
            meets = met_too (slice_index_or known.watches at.0 w) f g ms ns twins (knows.each at.0 w long) (too.each at.0 w long) c is choice.meets;
          });
    }
