-- What a task may do first it may as well do first.
use Rattle.std.proofs.Common.{◌≡◌, ◌≢◌, ◌∙◌, ℕ, ◌+◌, ◌≤◌, refl, ap, sym, subst, inl, inr, arith, List, [], ◌∷◌, ◌++◌, length}
use Rattle.std.proofs.Common.{length-append}
use Rattle.std.specs.Prelude.{◌⊎◌, ◌↔◌}
use Rattle.hp_base.proofs.Puts.{same_or_other}
use Rattle.hp_base.specs.declared.event.Event.{Event}
use Rattle.hp_laws.specs.Laws.{IsOf}
use Rattle.hp_machine.specs.declared.outcome.Outcome.{Outcome}
use Rattle.hp_core.specs.State.{CoreState, as_state}
use Rattle.hp_text.specs.declared.script.Script.{Script}
use Rattle.hp_watch.specs.Moments.{Moment, last_of}
use Rattle.hp_explore.specs.Schedule.{Plan}
use Rattle.hp_hunt.specs.Conditions.{Finds, HasCount}
use Rattle.hp_hunt.specs.declared.condition.Sought.{Sought}
use Rattle.hp_hunt.specs.declared.condition.Sought.TheVariants as sought
use Rattle.hp_every.specs.declared.turn.Turn.TheVariants.{Next}
use Rattle.hp_every.specs.Eager.{BeginsFirst, ComesFirst, IsCalm, IsKept, MayBegin, MayGoFirst, MayStepAlone, StepsFirst}
use Rattle.hp_every.specs.Places.{IsPlaceOf}
use Rattle.hp_every.specs.Schedules.{AnyTurn, Ends, Leads, MayTurn, Place, plan_for}
use Rattle.hp_every.specs.Turns.{turn_of}
use Rattle.hp_every.proofs.Begins.{MayBeginIt, begin_does, begin_stays, the_begin, the_op}
use Rattle.hp_every.proofs.Deeds.{Deed, IsDone, MayDo, done_there, not_its, turn_after}
use Rattle.hp_every.proofs.Futures.{place_reached}
use Rattle.hp_every.proofs.Private.{MayStepIt, can, step_does, step_stays, step_there, the_step}
use Rattle.hp_every.proofs.Shuffled.{IsLike, TellSame, change_places, never_both, tell_more, tell_self, tell_then}

-- a moment at which it is done
record IsDeed (d : Deed) (m : Moment) : Type 0 where
  pub event : m.event ≡ d.event
  pub outcome : m.outcome ≡ d.outcome

deeds_like : (d : Deed) (m n : Moment) → IsDeed d m → IsDeed d n → IsLike m n
deeds_like d m n a b = record { event = a.event ∙ sym b.event; outcome = a.outcome ∙ sym b.outcome }

-- Behind the deed other moments lead there. They tell the same as those moments with the deed behind them.
record IsMovedUp (plan : Plan) (p : Place) (t : ℕ) (d : Deed) (moments : List Moment) (last : Place) : Type 0 where
  pub next : Place
  pub done : IsDone p t d next
  pub others : List Moment
  pub leads : Leads plan next others last
  pub same : (before : List Moment) (b c : Moment) → IsDeed d b → IsDeed d c → TellSame (b ∷ (moments ++ before)) (others ++ c ∷ before)

-- or it was done in one of them, and other moments begin with that
record HasDone (plan : Plan) (p : Place) (t : ℕ) (d : Deed) (moments : List Moment) (last : Place) : Type 0 where
  pub next : Place
  pub done : IsDone p t d next
  pub others : List Moment
  pub leads : Leads plan next others last
  pub same : (before : List Moment) (c : Moment) → IsDeed d c → TellSame (moments ++ before) (others ++ c ∷ before)

tell_back : (ms ns : List Moment) → TellSame ms ns → TellSame ns ms
tell_back ms ns a = record {
  long = sym a.long;
  last = λ u. sym (a.last u);
  begun = λ u. sym (a.begun u);
  answers = sym a.answers;
  on = a.back;
  back = a.on;
}

-- What is so of each place where the task may do it, and stays so behind each turn of another task.
module _ (plan : Plan) (t : ℕ) (d : Deed) (May : Place → Type 0) (does : (p : Place) → May p → MayDo plan p t d)
    (stays : (p q : Place) (event : Event) (outcome : Outcome) → May p → (turn : AnyTurn plan p event outcome q) → turn.task ≢ t → May q)
    (of : IsOf t d.event) where
  -- The task may still do it behind these moments, and the deed may be moved up before them; or it did it in one of them.
  abbrev Waits : Place → List Moment → Place → Type 0
  Waits p moments last = May last × ((q : Place) → IsDone last t d q → IsMovedUp plan p t d moments q)

  -- before any moment
  no_moment : (p : Place) → May p → Waits p [] p
  unfolding Leads
  no_moment p may = (
    may,
    λ q done. record {
      next = q;
      done = done;
      others = [];
      leads = refl;
      same = λ before b c x y. tell_more before before b c (deeds_like d b c x y) (tell_self before);
    },
  )

  -- one moment more of another task
  another : (p q last : Place) (m : Moment) (moments : List Moment) → Waits p moments q → (turn : AnyTurn plan q m.event m.outcome last)
      → turn.task ≢ t → Waits p (m ∷ moments) last
  unfolding Leads
  another p q last m moments h turn other = (
    stays q last m.event m.outcome h.0 turn other,
    λ r done.
        let may = does q h.0 in
        let mid = done_there q t d may.alive in
        let was = h.1 mid.0 mid.1 in
        let n : Moment = record { event = m.event; outcome = m.outcome; core = r.core } in
        let after = turn_after plan q last t d m.event m.outcome may turn other mid.0 r mid.1 done in
        let off = not_its plan q last m.event m.outcome may.calm turn t other in
        record {
          next = was.next;
          done = was.done;
          others = n ∷ was.others;
          leads = (mid.0, was.leads, refl, after);
          same = λ before b c x y.
              tell_then (b ∷ (m ∷ (moments ++ before))) (m ∷ (b ∷ (moments ++ before))) (n ∷ (was.others ++ c ∷ before))
              (tell_back (m ∷ (b ∷ (moments ++ before))) (b ∷ (m ∷ (moments ++ before)))
              (change_places m b (moments ++ before)
              (never_both t m.event b.event (subst (IsOf t) (sym x.event) of) off)))
              (tell_more (b ∷ (moments ++ before)) (was.others ++ c ∷ before) m n (record { event = refl; outcome = refl })
              (was.same before b c x y));
        },
  )

  -- its own
  its_own : (p q last : Place) (m : Moment) (moments : List Moment) → Waits p moments q → (turn : AnyTurn plan q m.event m.outcome last)
      → turn.task ≡ t → HasDone plan p t d (m ∷ moments) last
  its_own p q last m moments h turn its =
      let own = (does q h.0).own m.event m.outcome last turn its in
      let was = h.1 last own.2 in
      record {
        next = was.next;
        done = was.done;
        others = was.others;
        leads = was.leads;
        same = λ before c x. was.same before m c (record { event = own.0; outcome = own.1 }) x;
      }

  -- one more behind it
  behind : (p q last : Place) (m : Moment) (moments : List Moment) → HasDone plan p t d moments q
      → m.core ≡ last.core → AnyTurn plan q m.event m.outcome last → HasDone plan p t d (m ∷ moments) last
  unfolding Leads
  behind p q last m moments h core turn = record {
    next = h.next;
    done = h.done;
    others = m ∷ h.others;
    leads = (q, h.leads, core, turn);
    same = λ before c x. tell_more (moments ++ before) (h.others ++ c ∷ before) m m (record { event = refl; outcome = refl }) (h.same before c x);
  }

  waits_or_has : (p : Place) (moments : List Moment) (last : Place) → May p → Leads plan p moments last
      → Waits p moments last ⊎ HasDone plan p t d moments last
  unfolding Leads
  waits_or_has p [] last may leads =
      subst (λ (q : Place). Waits p [] q ⊎ HasDone plan p t d [] q) (sym leads) (inl (no_moment p may))
  waits_or_has p (m ∷ ms) last may (q, leads, core, turn) = elim (waits_or_has p ms q may leads) [
    | inl waits ↦ elim (same_or_other turn.task t) [
      | inl its ↦ inr (its_own p q last m ms waits turn its)
      | inr other ↦ inl (another p q last m ms waits turn other)
    ]
    | inr has ↦ inr (behind p q last m ms has core turn)
  ]

-- ---- so a schedule to its end may have it first

-- moments that lead there have its core last
last_there : (plan : Plan) (first : CoreState) (p last : Place) (moments before : List Moment) → Leads plan p moments last
    → 1 ≤ length moments → last_of first (moments ++ before) ≡ last.core
unfolding Leads
last_there plan first p last [] before leads some = absurd (omega (arith, some))
last_there plan first p last (m ∷ ms) before (q, leads, core, turn) some = core

last_own : (plan : Plan) (first : CoreState) (b : Moment) (next last : Place) (others before : List Moment) → Leads plan next others last
    → b.core ≡ next.core → last_of first (others ++ b ∷ before) ≡ last.core
unfolding Leads
last_own plan first b next last [] before leads core = core ∙ ap (λ (q : Place). q.core) (sym leads)
last_own plan first b next last (m ∷ ms) before (q, leads, is, turn) core = is

-- what is kept is found in both
found_both : (first : CoreState) (ms ns : List Moment) (s : Sought) → IsKept s → TellSame ms ns → last_of first ms ≡ last_of first ns
    → (Finds first ms s ↔ Finds first ns s)
found_both first ms ns (sought.Answer s) none same core = (same.on s none, same.back s none)
found_both first ms ns (sought.Blocked t) none same core = absurd none
found_both first ms ns (sought.Meet t phase u other) none same core = absurd none
found_both first ms ns (sought.Final c) none same core = (
  λ has. subst (λ (x : CoreState). HasCount c x) core has,
  λ has. subst (λ (x : CoreState). HasCount c x) (sym core) has,
)

-- whatever a task may do first comes first in another schedule
comes_first : (plan : Plan) (t : ℕ) (d : Deed) (May : Place → Type 0) → ((p : Place) → May p → MayDo plan p t d)
    → ((p q : Place) (event : Event) (outcome : Outcome) → May p → (turn : AnyTurn plan p event outcome q) → turn.task ≢ t → May q)
    → IsOf t d.event → turn_of d.event ≡ Next t → (p : Place) (moments : List Moment) (last : Place) → May p → Leads plan p moments last
    → Ends plan last → (h : ComesFirst plan p t moments last) × (h.own.event ≡ d.event) × (h.own.outcome ≡ d.outcome)
comes_first plan t d May does stays of is_next p moments last may leads over =
    elim (waits_or_has plan t d May does stays of p moments last may leads) [
      | inl waits ↦ (let still = does last waits.0 in absurd (over (Next t) (still.there, still.can)))
      | inr has ↦ first has
    ]
  where
    first : HasDone plan p t d moments last
        → (h : ComesFirst plan p t moments last) × (h.own.event ≡ d.event) × (h.own.outcome ≡ d.outcome)
    first has =
        let b : Moment = record { event = d.event; outcome = d.outcome; core = has.next.core } in
        let is : IsDeed d b = record { event = refl; outcome = refl } in
        let whole = (has.same [] b is).long in
        let front = length-append moments [] in
        let back = length-append has.others (b ∷ []) in
        let long : length moments ≡ length has.others + 1 = omega (arith, whole, front, back) in (
          record {
            own = b;
            next = has.next;
            turn = (does p may).turn has.next has.done;
            core = refl;
            is = is_next;
            others = has.others;
            leads = has.leads;
            long = long;
            answers = λ before. (has.same before b is).answers;
            kept = λ core before s kept. found_both core (moments ++ before) (has.others ++ b ∷ before) s kept (has.same before b is)
                (last_there plan core p last moments before leads (omega (arith, long))
                ∙ sym (last_own plan core b has.next last has.others before has.leads refl));
          },
          refl,
          refl,
        )

pub begins_first : (plan : Plan) (p : Place) (t : ℕ) (moments : List Moment) (last : Place) → MayBegin plan p t → IsCalm p
    → Leads plan p moments last → Ends plan last → BeginsFirst plan p t moments last
begins_first plan p t moments last may calm leads over =
    let op = the_op plan p t may in
    let h = comes_first plan t (the_begin t op.0) (MayBeginIt plan t op.0) (begin_does plan t op.0) (begin_stays plan t op.0) refl refl p moments
    last (record { may = may; calm = calm; next = op.1 }) leads over in
    record { first = h.0; begun = h.2 }

pub steps_first : (script : Script) (p : Place) (t : ℕ) (moments : List Moment) (last : Place) → IsPlaceOf script p → MayStepAlone p t
    → IsCalm p → Leads (plan_for script) p moments last → Ends (plan_for script) last → StepsFirst (plan_for script) p t moments last
steps_first script p t moments last place may calm leads over =
    let plan = plan_for script in
    let c = step_there p t may in
    let d = the_step t ((as_state p.core).mappings t) c.0 in
    let h = comes_first plan t d (MayStepIt t d) (step_does plan t d) (step_stays plan t d) refl refl p moments last (record {
      may = may;
      calm = calm;
      reached = (place_reached script p place).0;
      call = c.0;
      has = c.1;
      private = c.2;
      is = refl;
    }) leads over in
    record { first = h.0; step = h.1 }

-- either way
pub goes_first : (script : Script) (p : Place) (t : ℕ) (moments : List Moment) (last : Place) → IsPlaceOf script p
    → MayGoFirst (plan_for script) p t → IsCalm p → Leads (plan_for script) p moments last → Ends (plan_for script) last
    → ComesFirst (plan_for script) p t moments last
goes_first script p t moments last place (inl may) calm leads over = (begins_first (plan_for script) p t moments last may calm leads over).first
goes_first script p t moments last place (inr may) calm leads over = (steps_first script p t moments last place may calm leads over).first

-- and it is a turn that may be made
pub goes_turn : (plan : Plan) (p : Place) (t : ℕ) → IsCalm p → MayGoFirst plan p t → MayTurn plan p (Next t)
goes_turn plan p t calm (inl may) = (may.there, may.can)
goes_turn plan p t calm (inr may) = (let c = step_there p t may in (may.there, can plan p t may c.0 c.1 c.2 calm))
