-- Each schedule is reached by a search that tries every turn.
use Rattle.std.proofs.Common.{◌≡◌, ℕ, zero, suc, ◌+◌, ◌<◌, ◌⊎◌, refl, ap, sym, ◌∙◌, subst, inl, inr, arith, List, [], ◌∷◌, ◌++◌, length}
use Rattle.std.proofs.Common.{length-append, take}
use Rattle.std.proofs.lemmas.List.{get_or_append_left, get_or_push, take-append-le, take_all}
use Rattle.std.specs.Prelude.{true, false, All, slice_index_or}
use Rattle.std.proofs.lemmas.Bool.{cases_lt}
use Rattle.hp_laws.proofs.Deciding.{never}
use Rattle.hp_core.specs.State.{CoreState}
use Rattle.hp_watch.specs.Moments.{Moment, Once}
use Rattle.hp_layers.specs.Layers.{IsReached, NoneMeets}
use Rattle.hp_watch.proofs.Begun.{one_more_call}
use Rattle.hp_watch.specs.Calls.{AreCalls}
use Rattle.hp_watch.specs.declared.calls.TaskCalls.{TaskCalls}
use Rattle.hp_hunt.specs.Conditions.{IsMetAt}
use Rattle.hp_hunt.specs.Watching.{AllKnow, Known, Knows}
use Rattle.hp_hunt.specs.declared.condition.Condition.{Condition}
use Rattle.hp_hunt.specs.declared.watching.Watch.{Watch}
use Rattle.hp_every.specs.declared.turn.Turn.{Turn}
use Rattle.hp_every.specs.Schedules.{MayTurn, Place, ScheduleMeets, plan_for}
use Rattle.hp_every.specs.Search.{Question, GoesOn, HasTurns, IsPath, IsRun, MayGoOn, MeetsHere, PathState}
use Rattle.hp_every.specs.Search.{search_key}
use Rattle.hp_every.specs.Turns.{turn_of, turns_of}
use Rattle.hp_every.proofs.Good.{know_by_turns, run_of, same_by_turns}
use Rattle.hp_every.proofs.Knowing.{meets_there}
use Rattle.hp_every.proofs.Sames.{looks, may_of, may_there, place_is, split, turned_round}

-- ---- schedules, turn by turn

-- what may be done behind the same turns
pub may_at : (a : Question) (turns : List Turn) (x y : HasTurns a turns) (next : Turn) → MayTurn (plan_for a.script) x.last next
    → MayTurn (plan_for a.script) y.last next
may_at a turns x y next may =
    let here = place_is a x.first x.moments x.last x.run in
    let there = place_is a y.first y.moments y.last y.run in
    may_there (plan_for a.script) x.last y.last (looks a.script x.last y.last here there (same_by_turns a turns x y).on) next may

-- so many turns, and the next
turn_at : (a : Question) (f : CoreState) (ms : List Moment) (p : Place) → IsRun a f ms p → (k : ℕ) (d : Turn) → k < length (turns_of ms)
    → MayGoOn a (take k (turns_of ms)) (slice_index_or (turns_of ms) k d)
turn_at a f [] p run k d within = absurd (omega (arith, within))
turn_at a f (m ∷ ms) p run k d within =
    let s = split a f m ms p run in
    let long : length (turns_of ms ++ turn_of m.event ∷ []) ≡ length (turns_of ms) + 1 = length-append (turns_of ms) (turn_of m.event ∷ []) in
    elim (cases_lt k (length (turns_of ms))) [
      | inl before ↦ subst (λ (xs : List Turn). MayGoOn a xs (slice_index_or (turns_of ms ++ turn_of m.event ∷ []) k d))
          (sym (take-append-le k (turns_of ms) (turn_of m.event ∷ []) (omega (arith, before))))
          (subst (λ (x : Turn). MayGoOn a (take k (turns_of ms)) x) (sym (get_or_append_left (turns_of ms) (turn_of m.event ∷ []) d k before))
          (turn_at a f ms s.before s.run k d before))
      | inr past ↦ (let is : k ≡ length (turns_of ms) = omega (arith, past, within, long) in
          subst (λ (j : ℕ). MayGoOn a (take j (turns_of ms ++ turn_of m.event ∷ [])) (slice_index_or (turns_of ms ++ turn_of m.event ∷ []) j d))
          (sym is)
          (subst (λ (xs : List Turn). MayGoOn a xs (slice_index_or (turns_of ms ++ turn_of m.event ∷ []) (length (turns_of ms)) d))
          (sym (take-append-le (length (turns_of ms)) (turns_of ms) (turn_of m.event ∷ []) (omega arith)
          ∙ take_all (length (turns_of ms)) (turns_of ms) (omega arith)))
          (subst (λ (x : Turn). MayGoOn a (turns_of ms) x) (sym (get_or_push (turns_of ms) (turn_of m.event) d (length (turns_of ms)) refl))
          (record {
            has = record { first = f; moments = ms; last = s.before; run = s.run; made = refl };
            may = may_of (plan_for a.script) s.before p m.event m.outcome s.last;
          }))))
    ]

pub may_at_place : (a : Question) (turns : List Turn) → HasTurns a turns → (k : ℕ) (d : Turn) → k < length turns
    → MayGoOn a (take k turns) (slice_index_or turns k d)
may_at_place a turns h k d within =
    subst (λ (xs : List Turn). MayGoOn a (take k xs) (slice_index_or xs k d)) h.made
    (turn_at a h.first h.moments h.last h.run k d (subst (λ (xs : List Turn). k < length xs) (sym h.made) within))

-- ---- what is said of all schedules

-- not the contrary
abbrev pub Doubly : Type 0 → Type 0
Doubly A = (A → ⊥) → ⊥

pub decided : {P : Type 0} → Doubly (P ⊎ (P → ⊥))
decided k = k (inr (λ p. k (inl p)))

-- a watch that knows
knowing : (c : Condition) (moments : List Moment) → Once (IsMetAt c.sought) moments ⊎ (Once (IsMetAt c.sought) moments → ⊥)
    → (w : Watch) × (w.condition ≡ c) × Knows w moments
knowing c moments (inl once) = (record { condition = c; seen = true }, refl, record { seen = (λ s. once, λ o. refl) })
knowing c moments (inr none) =
    (record { condition = c; seen = false }, refl, record { seen = (λ s. never s, λ o. absurd (none o)) })

-- what is known of the calls
pub tracking : (moments : List Moment) → (calls : List TaskCalls) × AreCalls calls moments
tracking [] = ([], record { last = λ t. refl; begun = λ t. refl })
tracking (m ∷ before) = one_more_call (tracking before).0 before m (tracking before).1

pub all_knowing : (conditions : List Condition) (moments : List Moment) → Doubly ((k : Known) × AllKnow conditions k moments)
all_knowing [] moments k =
    let calls = tracking moments in
    k (
      record { calls = calls.0; watches = [] },
      record { calls = calls.1; of = refl; each = λ j d within. absurd (omega (arith, within)) },
    )
all_knowing (c ∷ cs) moments k =
    all_knowing cs moments (λ rest. decided (λ d. (
    let one = knowing c moments d in
    k (
      record { calls = rest.0.calls; watches = one.0 ∷ rest.0.watches },
      record { calls = rest.1.calls; of = λ i. one.1 i ∷ rest.1.of i; each = each one.0 rest.0.watches one.2 rest.1.each },
    ))))
  where
    each : (w : Watch) (ws : List Watch) → Knows w moments → All (λ (v : Watch). Knows v moments) ws
        → All (λ (v : Watch). Knows v moments) (w ∷ ws)
    each w ws one rest zero d within = one
    each w ws one rest (suc j) d within = rest j d (omega (arith, within))

-- a schedule as a search would keep it
pub path_of : (a : Question) (f : CoreState) (ms : List Moment) (p : Place) → IsRun a f ms p → (known : Known) → AllKnow a.conditions known ms
    → MeetsHere (plan_for a.script) a.conditions f ms p ⊎ (MeetsHere (plan_for a.script) a.conditions f ms p → ⊥)
    → (s : PathState) × IsPath a s × (s.turns ≡ turns_of ms)
path_of a f ms p run known know (inl meets) = (
  record { turns = turns_of ms; key = search_key known p; met = true },
  record {
    first = f;
    moments = ms;
    last = p;
    known = known;
    run = run;
    made = refl;
    know = know;
    key = refl;
    met = (λ m. meets, λ m. refl);
  },
  refl,
)
path_of a f ms p run known know (inr none) = (
  record { turns = turns_of ms; key = search_key known p; met = false },
  record {
    first = f;
    moments = ms;
    last = p;
    known = known;
    run = run;
    made = refl;
    know = know;
    key = refl;
    met = (λ m. never m, λ m. absurd (none m));
  },
  refl,
)

-- each schedule is reached by a search, in as many turns as it has
record IsKept (a : Question) (first : PathState) (ms : List Moment) : Type 0 where
  pub state : PathState
  pub reached : IsReached (GoesOn a) first (length ms) state
  pub path : IsPath a state
  pub turns : state.turns ≡ turns_of ms

kept : (a : Question) (first : PathState) → IsPath a first → first.turns ≡ [] → (f : CoreState) (ms : List Moment) (p : Place) → IsRun a f ms p
    → Doubly (IsKept a first ms)
unfolding IsReached
kept a first path none f [] p run k = k (record { state = first; reached = refl; path = path; turns = none })
kept a first path none f (m ∷ ms) p run k =
    let s = split a f m ms p run in
    kept a first path none f ms s.before s.run (λ before. all_knowing a.conditions (m ∷ ms) (λ known. decided (λ d. (
    let here = path_of a f (m ∷ ms) p run known.0 known.1 d in
    k (record {
      state = here.0;
      reached = (
        before.state,
        before.reached,
        record {
          next = turn_of m.event;
          turns = here.2 ∙ ap (λ (xs : List Turn). xs ++ turn_of m.event ∷ []) (sym before.turns);
          path = here.1;
        },
      );
      path = here.1;
      turns = here.2;
    })))))

-- what is kept of a schedule tells whether it meets all conditions
pub meets_as : (a : Question) (s : PathState) (x : IsPath a s) (y : HasTurns a s.turns) → MeetsHere (plan_for a.script) a.conditions y.first y.moments y.last
    → s.met ≡ true
meets_as a s x y meets =
    let same = same_by_turns a s.turns (run_of a s x) y in
    x.met.1 (meets_there a y.first x.first y.moments x.moments y.last x.last x.known y.run x.run (turned_round x.last y.last same)
    (know_by_turns a s.turns (run_of a s x) y x.known x.know) x.know meets)

pub met_as : (a : Question) (s : PathState) (x : IsPath a s) (y : HasTurns a s.turns) → s.met ≡ true
    → MeetsHere (plan_for a.script) a.conditions y.first y.moments y.last
met_as a s x y met =
    let same = same_by_turns a s.turns (run_of a s x) y in
    meets_there a x.first y.first x.moments y.moments x.last y.last x.known x.run y.run same x.know
    (know_by_turns a s.turns (run_of a s x) y x.known x.know) (x.met.0 met)

-- where nothing that is reached in so many turns is met, no schedule of so many events meets the conditions
pub no_schedule : (a : Question) (first : PathState) → IsPath a first → first.turns ≡ [] → (moments : List Moment)
    → NoneMeets (GoesOn a) (λ s. s.met ≡ true) first (length moments) → ScheduleMeets a.script a.denials a.kills a.conditions moments → ⊥
unfolding NoneMeets
no_schedule a first path none moments never_met h =
    kept a first path none h.first moments h.last h.schedule (λ there. never_met there.state there.reached
    (meets_as a there.state there.path
    (record { first = h.first; moments = moments; last = h.last; run = h.schedule; made = sym there.turns })
    (record { looked_at = h.looked_at; meets = h.meets })))

-- what is reached is a schedule of so many turns
pub reached_path : (a : Question) (first : PathState) → IsPath a first → first.turns ≡ [] → (n : ℕ) (s : PathState)
    → IsReached (GoesOn a) first n s → IsPath a s × (length s.turns ≡ n)
unfolding IsReached
reached_path a first path none zero s is =
    (subst (IsPath a) (sym is) path, ap (λ (t : PathState). length t.turns) is ∙ ap (λ (xs : List Turn). length xs) none)
reached_path a first path none (suc n) s (before, reached, goes) =
    let long = (reached_path a first path none n before reached).1 in
    let more = length-append before.turns (goes.next ∷ []) in
    let is = ap (λ (xs : List Turn). length xs) goes.turns in
    (goes.path, omega (arith, long, more, is))

-- as many turns as moments
pub turn_count : (moments : List Moment) → length (turns_of moments) ≡ length moments
turn_count [] = refl
turn_count (m ∷ before) =
    length-append (turns_of before) (turn_of m.event ∷ []) ∙ (ap (λ (n : ℕ). n + 1) (turn_count before) ∙ omega arith)
