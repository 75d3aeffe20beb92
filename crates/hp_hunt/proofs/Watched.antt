-- What watches know stays right, moment by moment.
use Rattle.std.proofs.Common.{◌≡◌, ◌≢◌, ℕ, ◌+◌, ◌<◌, ◌≤◌, zero, suc, List, [], ◌∷◌, ◌++◌, length, refl, sym, ap, subst, ◌∙◌, arith, inl, inr}
use Rattle.std.specs.Prelude.{◌↔◌, ◌||◌, Bool, true, false, None, Some, IsTrue, MatchBool}
use Rattle.std.specs.Prelude.{All, Contains, map, slice_index_or, slice_set}
use Rattle.std.proofs.lemmas.List.{get_or-map, get_or_default, get_or-set_same, get_or-set_other, length-map, length-set}
use Rattle.std.proofs.lemmas.List.Elements.{All-append, Contains-get_or}
use Rattle.std.proofs.Math.Seq.{map-set_same}
use Rattle.hp_base.proofs.Puts.{same_or_other}
use Rattle.hp_base.specs.declared.config.Config.{Config}
use Rattle.hp_base.specs.declared.event.Event.{Event}
use Rattle.hp_machine.specs.declared.outcome.Outcome.{Outcome}
use Rattle.hp_core.specs.Readers.{config_of}
use Rattle.hp_core.specs.Runs.{IsOfConfig, IsOpening, Row}
use Rattle.hp_core.specs.State.{CoreState, as_state}
use Rattle.hp_core.specs.Waiting.{WaitsFor}
use Rattle.hp_machine.specs.Events.{IsReached}
use Rattle.hp_watch.proofs.Standing.{waits_there}
use Rattle.std.proofs.lemmas.Bool.{cases_lt}
use Rattle.hp_hunt.specs.Conditions.{IsMetAt, IsSomeBlocked, Meets, MeetsAll, MeetsChoice, SomeRunMeets, SomeRunMisses}
use Rattle.hp_watch.specs.Moments.{Moment, IsHistory, IsRunOf, Once, last_of}
use Rattle.hp_hunt.specs.Watching.{AllKnow, Known, Knows, of_watch}
use Rattle.hp_hunt.specs.declared.condition.Condition.{Condition}
use Rattle.hp_hunt.specs.declared.watching.Watch.{Watch}
use Rattle.hp_watch.specs.Calls.{AreCalls}
use Rattle.hp_watch.specs.declared.calls.TaskCalls.{TaskCalls}

-- it was seen before, or is met now
pub either : (P : List Moment → Moment → Type 0) (m : Moment) (before : List Moment) (seen met : Bool)
    → (IsTrue seen ↔ Once P before) → (IsTrue met ↔ P before m) → (IsTrue (seen || met) ↔ Once P (m ∷ before))
unfolding Once
either P m before true met was now = (λ h. inr (was.0 refl), λ h. refl)
either P m before false met was now = (
  λ h. inl (now.0 h),
  λ h. elim h [
    | inl here ↦ now.1 here
    | inr once ↦ (let bad = was.1 once in absurd (cc))
  ],
)

pub knows_more : (old new : Watch) (m : Moment) (before : List Moment) (met : Bool) → new.condition ≡ old.condition
    → new.seen ≡ (old.seen || met) → (IsTrue met ↔ IsMetAt old.condition.sought before m) → Knows old before → Knows new (m ∷ before)
knows_more old new m before met same seen now knew =
    record {
      seen =
          subst (λ (c : Condition). IsTrue new.seen ↔ Once (IsMetAt c.sought) (m ∷ before)) (sym same)
          (subst (λ (b : Bool). IsTrue b ↔ Once (IsMetAt old.condition.sought) (m ∷ before)) (sym seen)
          (either (IsMetAt old.condition.sought) m before old.seen met knew.seen now));
    }

-- ---- before any event

pub fresh : (c : Condition) → Knows (record { condition = c; seen = false }) []
unfolding Once
fresh c = record { seen = (λ h. let bad : ⊥ = cc in bad, λ h. absurd h) }

-- one watch more
pub all_fresh : (watches : List Watch) (w : Watch) → All (λ (x : Watch). Knows x []) watches → Knows w []
    → All (λ (x : Watch). Knows x []) (watches ++ w ∷ [])
all_fresh watches w all knows = All-append (λ (x : Watch). Knows x []) watches (w ∷ []) all last
  where
    last : All (λ (x : Watch). Knows x []) (w ∷ [])
    last zero d l = knows
    last (suc k) d l = absurd (omega (arith, l))

-- ---- a moment for all watches

-- the first n watches have seen the moment
pub record SeenSoFar (calls : List TaskCalls) (old now : List Watch) (m : Moment) (n : ℕ) : Type 0 where
  pub count : length now ≡ length old
  pub same : map of_watch now ≡ map of_watch old
  pub seen : (before : List Moment) → AreCalls calls before → All (λ (w : Watch). Knows w before) old → (k : ℕ) (d : Watch) → k < n
      → Knows (slice_index_or now k d) (m ∷ before)
  pub unseen : (k : ℕ) (d : Watch) → n ≤ k → slice_index_or now k d ≡ slice_index_or old k d

pub none_seen : (calls : List TaskCalls) (old : List Watch) (m : Moment) → SeenSoFar calls old old m 0
none_seen calls old m =
    record {
      count = refl;
      same = refl;
      seen = λ before were all k d lt. absurd (omega (arith, lt));
      unseen = λ k d le. refl;
    }

pub one_seen : (calls : List TaskCalls) (old now : List Watch) (m : Moment) (n : ℕ) (was w : Watch) → SeenSoFar calls old now m n → n < length now
    → was ≡ slice_index_or now n was → w.condition ≡ was.condition
    → ((before : List Moment) → AreCalls calls before → Knows was before → Knows w (m ∷ before))
    → SeenSoFar calls old (slice_set now n w) m (n + 1)
one_seen calls old now m n was w s within is same knows =
    record {
      count = length-set now n w ∙ s.count;
      same = map-set_same of_watch now n w was (same ∙ ap of_watch is) ∙ s.same;
      seen = λ before were all k d lt. elim (same_or_other k n) [
        | inl e ↦ subst (λ (i : ℕ). Knows (slice_index_or (slice_set now n w) i d) (m ∷ before)) (sym e)
            (subst (λ (x : Watch). Knows x (m ∷ before)) (sym (get_or-set_same now n w d within)) (knows before were (had before all)))
        | inr other ↦ subst (λ (x : Watch). Knows x (m ∷ before)) (sym (get_or-set_other now n k w d other))
            (s.seen before were all k d (less k lt other))
      ];
      unseen = λ k d le. get_or-set_other now n k w d (λ e. absurd (omega (arith, le, e))) ∙ s.unseen k d (omega (arith, le));
    }
  where
    less : (k : ℕ) → k < n + 1 → k ≢ n → k < n
    less k lt other = omega (arith, lt, other)

    had : (before : List Moment) → All (λ (x : Watch). Knows x before) old → Knows was before
    had before all =
        subst (λ (x : Watch). Knows x before) (sym (s.unseen n was (omega arith)) ∙ sym is)
        (all n was (omega (arith, within, s.count)))

pub all_seen : (calls : List TaskCalls) (old now : List Watch) (m : Moment) (n : ℕ) (before : List Moment) → SeenSoFar calls old now m n
    → length now ≤ n → AreCalls calls before → All (λ (w : Watch). Knows w before) old → All (λ (w : Watch). Knows w (m ∷ before)) now
all_seen calls old now m n before s le were all k d within = s.seen before were all k d (omega (arith, within, le))

-- ---- at the end

-- a watch among those that know
pub knows_at : (watches : List Watch) (moments : List Moment) (k : ℕ) (w : Watch) → All (λ (x : Watch). Knows x moments) watches
    → k < length watches → w ≡ slice_index_or watches k w → Knows w moments
knows_at watches moments k w all there is = subst (λ (x : Watch). Knows x moments) (sym is) (all k w there)

module _ (conditions : List Condition) (known : Known) (first : CoreState) (moments : List Moment)
    (know : AllKnow conditions known moments) where
  -- the watch at that place is one of a condition that is given
  given_at : (k : ℕ) (d : Watch) → k < length known.watches
      → Contains conditions (slice_index_or known.watches k d).condition
  given_at k d within =
      subst (λ (cs : List Condition). Contains cs (slice_index_or known.watches k d).condition) know.of
      (k, omega (arith, within, length-map known.watches of_watch), get_or-map of_watch known.watches k d _ within)

  -- a condition that is given has a watch
  watched_at : (c : Condition) → Contains conditions c
      → (k : ℕ) × (k < length known.watches) × ((d : Watch) → (slice_index_or known.watches k d).condition ≡ c)
  watched_at c given =
      let mapped = subst (λ (cs : List Condition). Contains cs c) (sym know.of) given in
      let k = mapped.0 in
      let there : k < length known.watches = omega (arith, mapped.1, length-map known.watches of_watch) in
      (k, there, λ d. sym (get_or-map of_watch known.watches k d c there) ∙ mapped.2)

  -- one of the alternatives is met
  pub choice_met : (choice k : ℕ) (w : Watch) → k < length known.watches → w ≡ slice_index_or known.watches k w
      → w.condition.choice ≡ choice → Meets first moments w.condition → MeetsChoice conditions first moments choice
  choice_met choice k w there is same meets =
      record {
        condition = w.condition;
        given = subst (λ (x : Watch). Contains conditions x.condition) (sym is) (given_at k w there);
        same = same;
        meets = meets;
      }

  -- none is
  pub choice_missed : (choice : ℕ)
      → ((k : ℕ) (d : Watch) → k < length known.watches → (slice_index_or known.watches k d).condition.choice ≡ choice
      → Meets first moments (slice_index_or known.watches k d).condition → ⊥)
      → MeetsChoice conditions first moments choice → ⊥
  choice_missed choice none h =
      let at = watched_at h.condition h.given in
      let d : Watch = record { condition = h.condition; seen = false } in
      let is = at.2 d in
      none at.0 d at.1 (ap (λ (c : Condition). c.choice) is ∙ h.same) (subst (Meets first moments) (sym is) h.meets)

  -- each condition is met, or another in its place
  pub all_met : ((k : ℕ) (d : Watch) → k < length known.watches
      → MeetsChoice conditions first moments (slice_index_or known.watches k d).condition.choice) → MeetsAll conditions first moments
  all_met each k c within =
      let at = watched_at (slice_index_or conditions k c) (Contains-get_or conditions k c within) in
      let d : Watch = record { condition = c; seen = false } in
      subst (λ (x : Condition). MeetsChoice conditions first moments x.choice) (at.2 d) (each at.0 d at.1)

  -- neither is
  pub one_missed : (k : ℕ) (w : Watch) → k < length known.watches → w ≡ slice_index_or known.watches k w
      → (MeetsChoice conditions first moments w.condition.choice → ⊥) → MeetsAll conditions first moments → ⊥
  one_missed k w there is missed all =
      let given = given_at k w there in
      let c = (slice_index_or known.watches k w).condition in
      missed (subst (λ (x : Watch). MeetsChoice conditions first moments x.condition.choice) (sym is)
      (subst (λ (x : Condition). MeetsChoice conditions first moments x.choice) given.2 (all given.0 c given.1)))

-- ---- a run that is watched

-- a run of these events led to this core, and the watches know of it
pub record IsWatched (config : Config) (conditions : List Condition) (events : List Event) (core : CoreState) (known : Known)
    : Type 0 where
  pub first : CoreState
  pub moments : List Moment
  pub run : IsRunOf config events first moments
  pub last : core ≡ last_of first moments
  pub know : AllKnow conditions known moments

pub watch_starts : (config : Config) (conditions : List Condition) (events : List Event) (core : CoreState) (known : Known)
    → IsOpening config core → events ≡ [] → AllKnow conditions known [] → IsWatched config conditions events core known
unfolding IsHistory
watch_starts config conditions events core known opening none know =
    record {
      first = core;
      moments = [];
      run = record { opening = opening; history = tt; made = sym none };
      last = refl;
      know = know;
    }

pub watch_goes_on : (config : Config) (conditions : List Condition) (events more : List Event) (core new : CoreState)
    (known seen : Known) (e : Event) (o : Outcome) → IsWatched config conditions events core known → Row core e o new
    → more ≡ events ++ e ∷ []
    → ((cs : List Condition) (before : List Moment) → AllKnow cs known before
    → AllKnow cs seen (record { event = e; outcome = o; core = new } ∷ before))
    → IsWatched config conditions more new seen
unfolding IsHistory
watch_goes_on config conditions events more core new known seen e o w row is saw =
    record {
      first = w.first;
      moments = record { event = e; outcome = o; core = new } ∷ w.moments;
      run = record {
        opening = w.run.opening;
        history = (w.run.history, subst (λ (s : CoreState). Row s e o new) w.last row);
        made = ap (λ (es : List Event). es ++ e ∷ []) w.run.made ∙ sym is;
      };
      last = refl;
      know = saw conditions w.moments w.know;
    }

-- what the watches say at its end
pub judged : (config : Config) (conditions : List Condition) (events : List Event) (core : CoreState) (known : Known) (met : Bool)
    → IsWatched config conditions events core known
    → (met ≡ true → (cs : List Condition) (first : CoreState) (moments : List Moment) → core ≡ last_of first moments
    → AllKnow cs known moments → MeetsAll cs first moments)
    → (met ≡ false → (cs : List Condition) (first : CoreState) (moments : List Moment) → core ≡ last_of first moments
    → AllKnow cs known moments → MeetsAll cs first moments → ⊥)
    → MatchBool met (SomeRunMeets config events conditions) (SomeRunMisses config events conditions)
judged config conditions events core known true w all some =
    record { first = w.first; moments = w.moments; run = w.run; meets = all refl conditions w.first w.moments w.last w.know }
judged config conditions events core known false w all some =
    record { first = w.first; moments = w.moments; run = w.run; misses = some refl conditions w.first w.moments w.last w.know }

-- ---- tasks that are held up

-- the next step of the task's call is blocked by somebody
abbrev pub Waits : CoreState → (task : ℕ) → Type 0
Waits core t = (holder : ℕ) × WaitsFor core t (Some holder)

-- one task more isn't held up
pub none_more : (core : CoreState) (n t : ℕ) (held : Bool) → held ≡ false → t ≡ n + 1 → (IsTrue held ↔ Waits core t)
    → ((u : ℕ) → 1 ≤ u → u ≤ n → Waits core u → ⊥) → (u : ℕ) → 1 ≤ u → u ≤ n + 1 → Waits core u → ⊥
none_more core n t held not is asks none u some most waits = elim (cases_lt n u) [
  | inr before ↦ none u some before waits
  | inl past ↦ (let same : u ≡ t = omega (arith, past, most, is) in
      let yes = asks.1 (subst (Waits core) same waits) in
      let bad : ⊥ = cc in bad)
]

-- none is
pub none_held_up : (core : CoreState) (n tasks : ℕ) → IsReached (as_state core) → IsOfConfig core → tasks ≡ (config_of core).tasks → tasks ≤ n
    → ((u : ℕ) → 1 ≤ u → u ≤ n → Waits core u → ⊥) → (IsTrue false ↔ IsSomeBlocked None core)
none_held_up core n tasks reached sized is most none = (
  λ h. let bad : ⊥ = cc in absurd bad,
  λ h. (
      let there = waits_there core h.0 h.2.0 reached sized h.2.1 in
      absurd (none h.0 there.0 (omega (arith, there.1, is, most)) h.2)),
)

-- one watch more has no alternative that is met
pub none_met : (watches : List Watch) (choice n : ℕ) (w : Watch) (first : CoreState) (moments : List Moment) → w ≡ slice_index_or watches n w
    → n < length watches → (w.condition.choice ≡ choice → Meets first moments w.condition → ⊥)
    → ((k : ℕ) (d : Watch) → k < n → (slice_index_or watches k d).condition.choice ≡ choice
    → Meets first moments (slice_index_or watches k d).condition → ⊥)
    → (k : ℕ) (d : Watch) → k < n + 1 → (slice_index_or watches k d).condition.choice ≡ choice
    → Meets first moments (slice_index_or watches k d).condition → ⊥
none_met watches choice n w first moments is there not none k d within same meets = elim (cases_lt k n) [
  | inl before ↦ none k d before same meets
  | inr past ↦ (let at : k ≡ n = omega (arith, past, within) in
      let here : slice_index_or watches k d ≡ w =
      (λ i. slice_index_or watches (at i) d) ∙ (get_or_default watches n d w there ∙ sym is) in
      not (sym (ap (λ (x : Watch). x.condition.choice) here) ∙ same) (subst (λ (x : Watch). Meets first moments x.condition) here meets))
]
