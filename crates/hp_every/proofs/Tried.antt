-- What a search found that may be eager is said of all schedules.
use Rattle.std.proofs.Common.{◌≡◌, ◌∙◌, ℕ, zero, suc, ◌+◌, ◌≤◌, refl, ap, sym, subst, inl, inr, arith, List, [], ◌∷◌, ◌++◌, length}
use Rattle.std.proofs.lemmas.Bool.{cases_lt}
use Rattle.std.proofs.Common.{length-append}
use Rattle.std.proofs.lemmas.List.{append-nil, append_assoc}
use Rattle.std.specs.Prelude.{◌↔◌, All, Bool, None, true, false}
use Rattle.hp_base.specs.declared.event.Event.{Event}
use Rattle.hp_core.specs.State.{CoreState}
use Rattle.hp_watch.specs.Moments.{Moment, events_of}
use Rattle.hp_layers.specs.Layers.{AreAllAfter, IsAsGood, IsCovered, IsReached, IsShortest, NoneBefore, NoneMeets}
use Rattle.hp_explore.specs.Schedule.{Plan}
use Rattle.hp_hunt.specs.Conditions.{Finds, MeetsAll}
use Rattle.hp_hunt.specs.declared.condition.Condition.{Condition}
use Rattle.hp_hunt.specs.declared.condition.Sought.{Sought}
use Rattle.hp_hunt.specs.declared.condition.Sought.TheVariants.{Blocked}
use Rattle.hp_every.specs.declared.turn.Turn.{Turn}
use Rattle.hp_every.specs.declared.turn.Turn.TheVariants.{Next}
use Rattle.hp_every.specs.Eager.{AreTried, IsEager, IsKept, IsTried, MayBeEager, MayBegin, MayGoFirst, MayStepAlone, Tries}
use Rattle.hp_every.specs.Schedules as schedules
use Rattle.hp_every.specs.Schedules.{AnyTurn, Ends, Leads, MayTurn, NoScheduleMeets, Place, ScheduleMeets, first_place, plan_for}
use Rattle.hp_every.specs.Search.{AreAsGood, AreBehind, GoesOn, HasTurns, IsPath, IsRun, PathState, Question}
use Rattle.hp_every.specs.Turns.{turn_of, turns_of}
use Rattle.hp_every.proofs.Answers.{Doubly, all_knowing, decided, may_at, meets_as, met_as, no_schedule, path_of, reached_path, turn_count}
use Rattle.hp_every.proofs.First.{goes_first}
use Rattle.hp_every.proofs.Good.{by_path, follows_by, last_turn, onward, same_by_turns}
use Rattle.hp_every.proofs.Looks.{LooksAlike, can_there}
use Rattle.hp_every.proofs.Runs.{wanted_too}
use Rattle.hp_every.proofs.Sames.{joined, looks, may_of, place_is}

-- ---- the same task is eager in places that differ in the names of frames alone

begins_there : (plan : Plan) (p q : Place) (t : ℕ) → LooksAlike p q → MayBegin plan p t → MayBegin plan q t
begins_there plan p q t h may = record {
  there = (may.there.0, subst (λ (made : List ℕ). t ≤ length made) (sym h.made) may.there.1);
  idle = h.calls t ∙ may.idle;
  can = can_there plan p q h t may.can;
  alive = h.lives t ∙ may.alive;
}

steps_there : (p q : Place) (t : ℕ) → LooksAlike p q → MayStepAlone p t → MayStepAlone q t
steps_there p q t h may = record {
  there = (may.there.0, subst (λ (made : List ℕ). t ≤ length made) (sym h.made) may.there.1);
  lives = h.lives t ∙ may.lives;
  private = h.private t may.private;
}

goes_there : (plan : Plan) (p q : Place) (t : ℕ) → LooksAlike p q → MayGoFirst plan p t → MayGoFirst plan q t
goes_there plan p q t h (inl may) = inl (begins_there plan p q t h may)
goes_there plan p q t h (inr may) = inr (steps_there p q t h may)

eager_there : (plan : Plan) (p q : Place) (t : ℕ) → LooksAlike p q → LooksAlike q p → IsEager plan p t → IsEager plan q t
eager_there plan p q t on back h = record {
  calm = record { denials = on.denials ∙ h.calm.denials; kills = on.kills ∙ h.calm.kills };
  goes = goes_there plan p q t on h.goes;
  first = λ u less may. h.first u less (goes_there plan q p u back may);
}

tried_there : (plan : Plan) (p q : Place) (eager : Bool) (x : Turn) → LooksAlike p q → LooksAlike q p → IsTried plan p eager x
    → IsTried plan q eager x
tried_there plan p q false x on back h = tt
tried_there plan p q true x on back h = λ t is. h t (eager_there plan q p t back on is)

-- one task is
pub one_eager : (plan : Plan) (p : Place) (t u : ℕ) → IsEager plan p t → IsEager plan p u → t ≡ u
one_eager plan p t u a b = elim (cases_lt t u) [
  | inl less ↦ absurd (b.first t less a.goes)
  | inr more ↦ elim (cases_lt u t) [
    | inl less ↦ absurd (a.first u less b.goes)
    | inr same ↦ omega (arith, more, same)
  ]
]

-- what is tried behind these turns in one place is tried in each
tried_by_turns : (a : Question) (eager : Bool) (turns : List Turn) (x y : HasTurns a turns) (next : Turn)
    → IsTried (plan_for a.script) x.last eager next → IsTried (plan_for a.script) y.last eager next
tried_by_turns a eager turns x y next h =
    let here = place_is a x.first x.moments x.last x.run in
    let there = place_is a y.first y.moments y.last y.run in
    let same = same_by_turns a turns x y in
    tried_there (plan_for a.script) x.last y.last eager next (looks a.script x.last y.last here there same.on)
    (looks a.script y.last x.last there here same.back) h

-- ---- what a search stands on

pub as_good_tried : (a : Question) (eager : Bool) (K : Type 0) → IsAsGood (λ s. K × IsPath a s) (Tries a eager) (λ s. s.met ≡ true) (AreAsGood a)
as_good_tried a eager K = record {
  stays = λ s t valid tries. (valid.0, tries.goes.path);
  itself = λ s valid. by_path a s s valid.1 valid.1 refl;
  onward = onward a;
  follows = λ s t after good tries.
      let z = follows_by a s t after tries.goes.next good tries.goes.turns tries.goes.path in (
        z.0,
        record {
          goes = record { next = tries.goes.next; turns = z.1; path = z.2 };
          tried = λ y. (
              let x = good.here in
              let w = good.there in
              let here = place_is a x.first x.moments x.last x.run in
              let there = place_is a w.first w.moments w.last w.run in
              tried_by_turns a eager t.turns w y tries.goes.next
              (tried_there (plan_for a.script) x.last w.last eager tries.goes.next (looks a.script x.last w.last here there good.alike)
              (looks a.script w.last x.last there here good.back) (tries.tried x)));
        },
        z.3,
      );
  meets_too = λ s t good met. sym good.met ∙ met;
}

-- those that are tried are all that come next
pub all_tried : (a : Question) (eager : Bool) (s : PathState) (here : HasTurns a s.turns) (turns : List Turn) (next : List PathState)
    → AreTried (plan_for a.script) here.last eager turns → AreBehind a s turns next → AreAllAfter (Tries a eager) (AreAsGood a) s next
unfolding AreTried IsCovered
all_tried a eager s here turns next all behind = record {
  some = λ t there. (
      let goes = behind.some t there in
      record { goes = goes.0; tried = λ x. tried_by_turns a eager s.turns here x goes.0.next ((all goes.0.next).0 goes.1).1 });
  all = λ t tries. (
      let goes = tries.goes in
      let z = goes.path in
      let l = last_turn a z.first s.turns goes.next z.moments z.last z.run (z.made ∙ goes.turns) in
      let there : HasTurns a s.turns =
      record { first = z.first; moments = l.ms; last = l.split.before; run = l.split.run; made = l.made } in
      let may = may_at a s.turns there here goes.next (subst (λ (x : Turn). MayTurn (plan_for a.script) l.split.before x) l.last
      (may_of (plan_for a.script) l.split.before z.last l.m.event l.m.outcome l.split.last)) in
      let found = behind.all goes.next ((all goes.next).1 (may, tries.tried here)) in
      (found.0, found.1, by_path a t found.0 z (behind.some found.0 found.1).0.path (goes.turns ∙ sym found.2)));
}

-- ---- what is reached

-- what is reached by some turns is reached by more
pub reached_as : {S : Type 0} (turn other : S → S → Type 0) → ((s t : S) → turn s t → other s t) → (first : S) (n : ℕ) (s : S)
    → IsReached turn first n s → IsReached other first n s
unfolding IsReached
reached_as turn other on first zero s is = is
reached_as turn other on first (suc n) s (before, reached, goes) = (before, reached_as turn other on first n before reached, on before s goes)

pub tries_go : (a : Question) (eager : Bool) (s t : PathState) → Tries a eager s t → GoesOn a s t
tries_go a eager s t tries = tries.goes

-- ---- each schedule to its end is one that a search tries, in another order of its turns

-- these moments are those of a schedule that is tried
record IsFollowed (a : Question) (first : PathState) (moments : List Moment) : Type 0 where
  pub state : PathState
  pub reached : IsReached (Tries a true) first (length moments) state
  pub path : IsPath a state
  pub turns : state.turns ≡ turns_of moments

-- and so those of one turn more that is tried
followed_more : (a : Question) (first : PathState) (f : CoreState) (m : Moment) (ms : List Moment) (p q : Place) → IsRun a f ms p → IsRun a f (m ∷ ms) q
    → IsFollowed a first ms → IsTried (plan_for a.script) p true (turn_of m.event) → Doubly (IsFollowed a first (m ∷ ms))
unfolding IsReached
followed_more a first f m ms p q run more before tried k =
    all_knowing a.conditions (m ∷ ms) (λ known. decided (λ d. (
    let here = path_of a f (m ∷ ms) q more known.0 known.1 d in
    let own : HasTurns a before.state.turns = record { first = f; moments = ms; last = p; run = run; made = sym before.turns } in
    k (record {
      state = here.0;
      reached = (
        before.state,
        before.reached,
        record {
          goes = record {
            next = turn_of m.event;
            turns = here.2 ∙ ap (λ (xs : List Turn). xs ++ turn_of m.event ∷ []) (sym before.turns);
            path = here.1;
          };
          tried = λ x. tried_by_turns a true before.state.turns own x (turn_of m.event) tried;
        },
      );
      path = here.1;
      turns = here.2;
    }))))

-- a schedule that is tried, to its end
record IsTriedOut (a : Question) (first : PathState) (f : CoreState) (n : ℕ) : Type 0 where
  pub moments : List Moment
  pub last : Place
  pub run : IsRun a f moments last
  pub followed : IsFollowed a first moments
  pub over : Ends (plan_for a.script) last
  pub meets : MeetsAll a.conditions f moments
  pub long : length moments ≡ n

-- the first turn of some
record FirstTurn (plan : Plan) (p : Place) (moments : List Moment) (last : Place) : Type 0 where
  pub m : Moment
  pub next : Place
  pub turn : AnyTurn plan p m.event m.outcome next
  pub core : m.core ≡ next.core
  pub others : List Moment
  pub leads : Leads plan next others last
  pub is : moments ≡ others ++ m ∷ []

first_turn : (plan : Plan) (p : Place) (m : Moment) (ms : List Moment) (last : Place) → Leads plan p (m ∷ ms) last
    → FirstTurn plan p (m ∷ ms) last
unfolding Leads
first_turn plan p m [] last (q, same, core, turn) = record {
  m = m;
  next = last;
  turn = subst (λ (x : Place). AnyTurn plan x m.event m.outcome last) same turn;
  core = core;
  others = [];
  leads = refl;
  is = refl;
}
first_turn plan p m (n ∷ ns) last (q, leads, core, turn) =
    let h = first_turn plan p n ns q leads in
    record {
      m = h.m;
      next = h.next;
      turn = h.turn;
      core = h.core;
      others = m ∷ h.others;
      leads = (q, h.leads, core, turn);
      is = λ i. m ∷ h.is i;
    }

-- conditions that are kept are met by both
meets_on : (conditions : List Condition) (f : CoreState) (ms ns : List Moment) → All (λ c. IsKept c.sought) conditions
    → ((s : Sought) → IsKept s → (Finds f ms s ↔ Finds f ns s)) → MeetsAll conditions f ms → MeetsAll conditions f ns
meets_on conditions f ms ns kept both meets = λ k d within. (
    let choice = meets k d within in
    let c = choice.condition in
    let at = choice.given in
    let one = both c.sought (subst (λ (x : Condition). IsKept x.sought) at.2 (kept at.0 c at.1)) in
    record {
      condition = c;
      given = choice.given;
      same = choice.same;
      meets = wanted_too c.wanted (Finds f ms c.sought) (Finds f ns c.sought) one.0 one.1 choice.meets;
    })

-- Each way on of so many turns, to its end, from behind a schedule that is tried, has one of as many that is tried.
abbrev AreFollowed : Question → (first : PathState) → (f : CoreState) → (n : ℕ) → Type 0
AreFollowed a first f n = (before : List Moment) (p : Place) → IsRun a f before p → IsFollowed a first before → (rest : List Moment) (last : Place)
    → length rest ≡ n → Leads (plan_for a.script) p rest last → Ends (plan_for a.script) last → MeetsAll a.conditions f (rest ++ before)
    → Doubly (IsTriedOut a first f (n + length before))

follow_none : (a : Question) (first : PathState) (f : CoreState) → AreFollowed a first f 0
unfolding Leads
follow_none a first f before p run followed [] last long leads over meets k = k (record {
  moments = before;
  last = p;
  run = run;
  followed = followed;
  over = subst (λ (x : Place). Ends (plan_for a.script) x) leads over;
  meets = meets;
  long = omega arith;
})
follow_none a first f before p run followed (m ∷ ms) last long leads over meets k = absurd (omega (arith, long))

follow_more : (a : Question) → All (λ c. IsKept c.sought) a.conditions → (first : PathState) (f : CoreState) (n : ℕ) → AreFollowed a first f n
    → AreFollowed a first f (suc n)
follow_more a kept first f n rest_of before p run followed [] last long leads over meets k = absurd (omega (arith, long))
follow_more a kept first f n rest_of before p run followed (m ∷ ms) last long leads over meets k =
    decided {P = (t : ℕ) × IsEager (plan_for a.script) p t} (λ d. elim d [
      | inl some ↦ early some.0 some.1
      | inr none ↦ late none
    ])
  where
    on : (b : Moment) (q : Place) (others : List Moment) → AnyTurn (plan_for a.script) p b.event b.outcome q → b.core ≡ q.core
        → Leads (plan_for a.script) q others last → length others ≡ n → MeetsAll a.conditions f (others ++ b ∷ before)
        → IsTried (plan_for a.script) p true (turn_of b.event) → ⊥
    on b q others turn core leads long meets tried =
        let more = joined a f b before p q run core turn in
        followed_more a first f b before p q run more followed tried (λ there.
        rest_of (b ∷ before) q more there others last long leads over meets (λ z. k (record {
          moments = z.moments;
          last = z.last;
          run = z.run;
          followed = z.followed;
          over = z.over;
          meets = z.meets;
          long = (let whole = z.long in omega (arith, whole));
        })))

    early : (t : ℕ) → IsEager (plan_for a.script) p t → ⊥
    early t eager =
        let h = goes_first a.script p t (m ∷ ms) last (place_is a f before p run) eager.goes eager.calm leads over in
        on h.own h.next h.others h.turn h.core h.leads (let whole = h.long in omega (arith, whole, long))
        (meets_on a.conditions f ((m ∷ ms) ++ before) (h.others ++ h.own ∷ before) kept (h.kept f before) meets)
        (λ u other. h.is ∙ ap (λ (x : ℕ). Next x) (one_eager (plan_for a.script) p t u eager other))

    late : ((t : ℕ) × IsEager (plan_for a.script) p t → ⊥) → ⊥
    late none =
        let h = first_turn (plan_for a.script) p m ms last leads in
        let is : (m ∷ ms) ++ before ≡ h.others ++ h.m ∷ before =
        ap (λ (xs : List Moment). xs ++ before) h.is ∙ append_assoc h.others (h.m ∷ []) before in
        let whole = ap (λ (xs : List Moment). length xs) h.is ∙ length-append h.others (h.m ∷ []) in
        on h.m h.next h.others h.turn h.core h.leads (omega (arith, whole, long))
        (subst (λ (xs : List Moment). MeetsAll a.conditions f xs) is meets) (λ u other. absurd (none (u, other)))

follow : (a : Question) → All (λ c. IsKept c.sought) a.conditions → (first : PathState) (f : CoreState) (n : ℕ) → AreFollowed a first f n
follow a kept first f zero = follow_none a first f
follow a kept first f (suc n) = follow_more a kept first f n (follow a kept first f n)

-- where nothing that is tried is met in so many turns, no schedule of so many events meets the conditions
no_eager : (a : Question) (first : PathState) → IsPath a first → first.turns ≡ [] → MayBeEager a.conditions → (moments : List Moment)
    → NoneMeets (Tries a true) (λ s. s.met ≡ true) first (length moments) → ScheduleMeets a.script a.denials a.kills a.conditions moments → ⊥
unfolding NoneMeets Leads IsReached
no_eager a first path none may moments never_met h =
    let d : Condition = record { sought = Blocked None; wanted = true; choice = 0 } in
    let over = h.looked_at may.place d may.within (may.whole d) in
    let start = first_place a.script a.denials a.kills h.first in
    let run : IsRun a h.first [] start = record { opening = h.schedule.opening; leads = refl } in
    let begun : IsFollowed a first [] = record { state = first; reached = refl; path = path; turns = none } in
    let meets : MeetsAll a.conditions h.first (moments ++ []) =
    subst (λ (xs : List Moment). MeetsAll a.conditions h.first xs) (sym (append-nil moments)) h.meets in
    follow a may.kept first h.first (length moments) [] start run begun moments h.last refl h.schedule.leads over meets (λ z. (
    let there = z.followed in
    let whole = z.long in
    let long : length z.moments ≡ length moments = omega (arith, whole) in
    never_met there.state (subst (λ (n : ℕ). IsReached (Tries a true) first n there.state) long there.reached)
    (meets_as a there.state there.path
    (record { first = h.first; moments = z.moments; last = z.last; run = z.run; made = sym there.turns })
    (record { looked_at = λ k e within final. z.over; meets = z.meets }))))

no_tried : (a : Question) (eager : Bool) (first : PathState) → IsPath a first → first.turns ≡ [] → (eager ≡ true → MayBeEager a.conditions)
    → (moments : List Moment) → NoneMeets (Tries a eager) (λ s. s.met ≡ true) first (length moments)
    → ScheduleMeets a.script a.denials a.kills a.conditions moments → ⊥
unfolding NoneMeets
no_tried a true first path none may moments never_met h = no_eager a first path none (may refl) moments never_met h
no_tried a false first path none may moments never_met h =
    no_schedule a first path none moments (λ s reached met. never_met s
    (reached_as (GoesOn a) (Tries a false) (λ s t goes. record { goes = goes; tried = λ x. tt }) first (length moments) s reached) met) h

-- ---- what is said of all schedules

pub never_means : (a : Question) (eager : Bool) (first : PathState) → IsPath a first → first.turns ≡ [] → (eager ≡ true → MayBeEager a.conditions)
    → ((turns : ℕ) → NoneMeets (Tries a eager) (λ s. s.met ≡ true) first turns) → NoScheduleMeets a.script a.denials a.kills a.conditions
never_means a eager first path none may never_met moments h = no_tried a eager first path none may moments (never_met (length moments)) h

pub cut_means : (a : Question) (eager : Bool) (first : PathState) → IsPath a first → first.turns ≡ [] → (eager ≡ true → MayBeEager a.conditions)
    → (n : ℕ) → NoneBefore (Tries a eager) (λ s. s.met ≡ true) first n
    → (moments : List Moment) → ScheduleMeets a.script a.denials a.kills a.conditions moments → n ≤ length moments
unfolding NoneBefore
cut_means a eager first path none may n never_met moments h = elim (cases_lt (length moments) n) [
  | inl few ↦ absurd (no_tried a eager first path none may moments (never_met (length moments) few) h)
  | inr many ↦ many
]

-- a shortest path is a shortest schedule, by whatever moments its turns were made
pub met_means : (a : Question) (eager : Bool) (first s : PathState) (n : ℕ) → IsPath a first → first.turns ≡ []
    → (eager ≡ true → MayBeEager a.conditions) → IsShortest (Tries a eager) (λ s. s.met ≡ true) first s n
    → (run : HasTurns a s.turns) (events : List Event) → events_of run.moments ≡ events
    → schedules.IsShortest a.script a.denials a.kills a.conditions events
met_means a eager first s n path none may h run events told =
    let there = reached_path a first path none n s (reached_as (Tries a eager) (GoesOn a) (tries_go a eager) first n s h.reached) in
    let meets = met_as a s there.0 run h.meets_it in
    let long : length run.moments ≡ n =
    sym (turn_count run.moments) ∙ (ap (λ (xs : List Turn). length xs) run.made ∙ there.1) in
    record {
      moments = run.moments;
      made = told;
      meets = record {
        first = run.first;
        last = run.last;
        schedule = run.run;
        looked_at = meets.looked_at;
        meets = meets.meets;
      };
      shortest = λ others other. (let least = cut_means a eager first path none may n h.shortest others other in omega (arith, long, least));
    }
