-- Schedules of the same turns: they have the same events, and stand in places that differ in the names of frames alone.
use Rattle.std.proofs.Common.{◌≡◌, ℕ, ◌≤◌, refl, ap, sym, ◌∙◌, subst, inl, inr, arith, List, [], ◌∷◌, ◌++◌, length}
use Rattle.std.specs.Prelude.{Bool, true, false, Option, Some, None}
use Rattle.hp_base.specs.declared.event.Op.{Op}
use Rattle.hp_base.specs.declared.event.Event.{Event}
use Rattle.hp_base.specs.declared.event.Event.TheVariants as event
use Rattle.hp_machine.specs.State.{State}
use Rattle.hp_machine.specs.Events as events
use Rattle.hp_machine.specs.declared.outcome.Outcome.{Outcome}
use Rattle.hp_laws.proofs.Leads.{no_dead_ends}
use Rattle.hp_alike.proofs.Twins.{Twins, told_same}
use Rattle.hp_core.specs.State.{CoreState, as_state}
use Rattle.hp_core.specs.Runs.{Row}
use Rattle.hp_text.specs.declared.script.Script.{Script}
use Rattle.hp_watch.specs.Moments.{Moment, events_of, last_of}
use Rattle.hp_explore.specs.Schedule.{Plan, in_call, next_call}
use Rattle.hp_every.specs.declared.turn.Turn.{Turn}
use Rattle.hp_every.specs.declared.turn.Turn.TheVariants as turn
use Rattle.hp_every.specs.Places.{AreAlike, HasFuture, IsPlaceOf, place_words}
use Rattle.hp_every.specs.Schedules.{AnyTurn, Leads, MayTurn, Place, first_place, plan_for, world}
use Rattle.hp_every.specs.Search.{Question, IsRun}
use Rattle.hp_every.specs.Turns.{task_of, turn_of, turns_of}
use Rattle.hp_every.proofs.Alike.{alike_turn, twins_look}
use Rattle.hp_every.proofs.Futures.{alike_words, place_reached}
use Rattle.hp_every.proofs.Looks.{LooksAlike, can_there, same_done}
use Rattle.hp_every.proofs.Paths.{last_same, never_empty, one_place}
use Rattle.hp_every.proofs.Renamed.{alike_on, core_of}
use Rattle.hp_every.proofs.Runs.{history}

-- ---- what may be done

-- whatever is done may be done
pub may_of : (plan : Plan) (p q : Place) (event : Event) (outcome : Outcome) → AnyTurn plan p event outcome q
    → MayTurn plan p (turn_of event)
may_of plan p q event outcome made = elim made.choice [
  | inl c ↦ subst May (sym c.is) (there, c.can)
  | inr (inl c) ↦ subst May (sym c.is) (there, c.can)
  | inr (inr (inl c)) ↦ (let left = c.denials in subst May (sym c.is) (there, c.can, c.busy, c.wants, omega (arith, left)))
  | inr (inr (inr c)) ↦ (let left = c.kills in subst May (sym c.is) (there, c.alive, c.more, omega (arith, left)))
]
  where
    May : Event → Type 0
    May e = MayTurn plan p (turn_of e)

    there : (1 ≤ made.task) × (made.task ≤ length p.made)
    there = (made.some, made.there)

-- the event of a turn, as the place tells it
asks : (busy : Bool) → Option Op → Turn → Event
asks true next (turn.Next t) = event.Step t true
asks false (Some op) (turn.Next t) = event.Begin t op
asks false None (turn.Next t) = event.Step t true
asks busy next (turn.Denied t) = event.Step t false
asks busy next (turn.Killed t) = event.Kill t

asked_at : Plan → Place → Turn → Event
asked_at plan p x = asks (in_call (world p) (task_of x)) (next_call plan p.made (task_of x)) x

asked_is : (plan : Plan) (p q : Place) (event : Event) (outcome : Outcome) → AnyTurn plan p event outcome q
    → asked_at plan p (turn_of event) ≡ event
unfolding asked_at asks
asked_is plan p q event outcome made = elim made.choice [
  | inl c ↦ subst Is (sym c.is) (λ i. asks (c.idle i) (c.next i) (turn.Next made.task))
  | inr (inl c) ↦ subst Is (sym c.is) (λ i. asks (c.busy i) (next_call plan p.made made.task) (turn.Next made.task))
  | inr (inr (inl c)) ↦ subst Is (sym c.is) refl
  | inr (inr (inr c)) ↦ subst Is (sym c.is) refl
]
  where
    Is : Event → Type 0
    Is e = asked_at plan p (turn_of e) ≡ e

module _ (plan : Plan) (p q : Place) (h : LooksAlike p q) where
  is_there : (t : ℕ) → (1 ≤ t) × (t ≤ length p.made) → (1 ≤ t) × (t ≤ length q.made)
  is_there t (some, last) = (some, subst (λ (made : List ℕ). t ≤ length made) (sym h.made) last)

  -- what may be done in the one may be done in the other
  pub may_there : (x : Turn) → MayTurn plan p x → MayTurn plan q x
  may_there (turn.Next t) (there, can) = (is_there t there, can_there plan p q h t can)
  may_there (turn.Denied t) (there, can, busy, wants, left) =
      (is_there t there, can_there plan p q h t can, h.calls t ∙ busy, h.wants t wants, subst (λ (n : ℕ). 1 ≤ n) (sym h.denials) left)
  may_there (turn.Killed t) (there, alive, more, left) =
      (is_there t there, h.lives t ∙ alive, same_done plan p q h t ∙ more, subst (λ (n : ℕ). 1 ≤ n) (sym h.kills) left)

  -- and is the same event
  pub same_event : (e f : Event) (o u : Outcome) (r s : Place) → AnyTurn plan p e o r → AnyTurn plan q f u s → turn_of e ≡ turn_of f → e ≡ f
  unfolding asked_at
  same_event e f o u r s a b same =
      let x = turn_of e in
      let calls = sym (h.calls (task_of x)) in
      let made = sym h.made in
      let there : asked_at plan p x ≡ asked_at plan q x = λ i. asks (calls i) (next_call plan (made i) (task_of x)) x in
      sym (asked_is plan p r e o a) ∙ (there ∙ (ap (λ (y : Turn). asked_at plan q y) same ∙ asked_is plan q s f u b))

-- ---- places that differ in the names of frames alone

-- either way
pub record Same (p q : Place) : Type 0 where
  pub on : AreAlike p q
  pub back : AreAlike q p

pub turned_round : (p q : Place) → Same p q → Same q p
turned_round p q h = record { on = h.back; back = h.on }

alike_then : (p q r : Place) → AreAlike p q → AreAlike q r → AreAlike p r
alike_then p q r a b = record {
  state = alike_on (as_state p.core) (as_state q.core) (as_state r.core) a.state b.state;
  sizes = a.sizes ∙ b.sizes;
  made = a.made ∙ b.made;
  denials = a.denials ∙ b.denials;
  kills = a.kills ∙ b.kills;
}

pub same_then : (p q r : Place) → Same p q → Same q r → Same p r
same_then p q r a b = record { on = alike_then p q r a.on b.on; back = alike_then r q p b.back a.back }

pub twins_of : (script : Script) (p q : Place) → IsPlaceOf script p → IsPlaceOf script q → AreAlike p q
    → Twins (as_state p.core) (as_state q.core)
twins_of script p q here there h = record {
  reached = (place_reached script p here).0;
  other = (place_reached script q there).0;
  alike = h.state;
}

pub looks : (script : Script) (p q : Place) → IsPlaceOf script p → IsPlaceOf script q → AreAlike p q → LooksAlike p q
looks script p q here there h = twins_look p q (twins_of script p q here there h) h

-- a turn of both
pub same_turn : (script : Script) (p q r s : Place) (event : Event) (o u : Outcome) → IsPlaceOf script p → IsPlaceOf script q → Same p q
    → AnyTurn (plan_for script) p event o r → AnyTurn (plan_for script) q event u s → (o ≡ u) × Same r (record r { core = s.core })
same_turn script p q r s event o u here there h a b =
    let on = alike_turn script p q r event o u s.core here there h.on a b.row in
    let back = alike_turn script q p (record r { core = s.core }) event u o r.core there here h.back on.0 a.row in
    (sym on.1, record { on = on.2; back = back.2 })

-- a turn of the one is a turn of the other
pub turn_also : (script : Script) (p q r : Place) (event : Event) (o : Outcome) → IsPlaceOf script p → IsPlaceOf script q → Same p q
    → AnyTurn (plan_for script) p event o r → (s : Place) × AnyTurn (plan_for script) q event o s × Same r s
unfolding Row
turn_also script p q r event o here there h a =
    let next = no_dead_ends (as_state q.core) event (place_reached script q there).0 in
    let both = told_same (as_state p.core) (as_state q.core) (as_state r.core) next.1 event o next.0
    (twins_of script p q here there h.on) a.row.0 next.2 in
    let core = core_of r.core next.1 both.1.alike in
    let sizes : core.0.sizes ≡ q.core.sizes = core.2 ∙ (a.row.1 ∙ h.on.sizes) in
    let row : Row q.core event next.0 core.0 =
    (subst (λ (n : State). events.Row (as_state q.core) event next.0 n) (sym core.1) next.2, sizes) in
    let on = alike_turn script p q r event o next.0 core.0 here there h.on a row in
    let back = alike_turn script q p (record r { core = core.0 }) event next.0 o r.core there here h.back on.0 a.row in (
      record r { core = core.0 },
      subst (λ (u : Outcome). AnyTurn (plan_for script) q event u (record r { core = core.0 })) on.1 on.0,
      record { on = on.2; back = back.2 },
    )

-- ---- equal words

pub same_words : (script : Script) (p q : Place) → IsPlaceOf script p → IsPlaceOf script q → place_words p ≡ place_words q → Same p q
same_words script p q here there e =
    record { on = alike_words script p q here there e; back = alike_words script q p there here (sym e) }

-- turns behind turns
leads_on : (plan : Plan) (f g h : Place) (ms ns : List Moment) → Leads plan f ms g → Leads plan g ns h → Leads plan f (ns ++ ms) h
unfolding Leads
leads_on plan f g h ms [] a b = subst (λ (p : Place). Leads plan f ms p) (sym b) a
leads_on plan f g h ms (n ∷ ns) a (before, b, core, turn) = (before, leads_on plan f g before ms ns a b, core, turn)

-- whatever follows from a place of the script is one
place_on : (script : Script) (p q : Place) (ms : List Moment) → IsPlaceOf script p → Leads (plan_for script) p ms q → IsPlaceOf script q
place_on script p q ms here leads = record {
  denials = here.denials;
  kills = here.kills;
  first = here.first;
  moments = ms ++ here.moments;
  schedule = record {
    opening = here.schedule.opening;
    leads = leads_on (plan_for script) (first_place script here.denials here.kills here.first) p q here.moments ms here.schedule.leads leads;
  };
}

-- what follows from the one follows from the other
same_future : (script : Script) (p q : Place) (moments : List Moment) (last : Place) → IsPlaceOf script p → IsPlaceOf script q → Same p q
    → Leads (plan_for script) p moments last → (z : HasFuture (plan_for script) q moments last) × Same last z.there
unfolding Leads
same_future script p q [] last here there h same =
    let on = subst (λ (x : Place). Same x q) (sym same) h in
    (record { others = []; there = q; leads = refl; events = refl; outcomes = refl; alike = on.on }, on)
same_future script p q (m ∷ before) last here there h (r, leads, core, turn) =
    let so_far = same_future script p q before r here there h leads in
    let z = so_far.0 in
    let also = turn_also script r z.there last m.event m.outcome (place_on script p r before here leads)
    (place_on script q z.there z.others there z.leads) so_far.1 turn in (
      record {
        others = record { event = m.event; outcome = m.outcome; core = also.0.core } ∷ z.others;
        there = also.0;
        leads = (z.there, z.leads, refl, also.1);
        events = λ i. z.events i ++ m.event ∷ [];
        outcomes = λ i. m.outcome ∷ z.outcomes i;
        alike = also.2.on;
      },
      also.2,
    )

pub equal_future : (script : Script) (p q : Place) (moments : List Moment) (last : Place) → IsPlaceOf script p → IsPlaceOf script q
    → place_words p ≡ place_words q → Leads (plan_for script) p moments last → HasFuture (plan_for script) q moments last
equal_future script p q moments last here there e leads =
    (same_future script p q moments last here there (same_words script p q here there e) leads).0

-- ---- the same turns

pub place_is : (a : Question) (f : CoreState) (ms : List Moment) (p : Place) → IsRun a f ms p → IsPlaceOf a.script p
place_is a f ms p run = record { denials = a.denials; kills = a.kills; first = f; moments = ms; schedule = run }

-- a schedule without its last turn
pub record Split (a : Question) (f : CoreState) (m : Moment) (ms : List Moment) (p : Place) : Type 0 where
  pub before : Place
  pub run : IsRun a f ms before
  pub core : m.core ≡ p.core
  pub last : AnyTurn (plan_for a.script) before m.event m.outcome p

pub split : (a : Question) (f : CoreState) (m : Moment) (ms : List Moment) (p : Place) → IsRun a f (m ∷ ms) p → Split a f m ms p
unfolding Leads
split a f m ms p run =
    let l = run.leads in
    record { before = l.0; run = record { opening = run.opening; leads = l.1 }; core = l.2; last = l.3 }

-- and with one more
pub joined : (a : Question) (f : CoreState) (m : Moment) (ms : List Moment) (p q : Place) → IsRun a f ms p → m.core ≡ q.core
    → AnyTurn (plan_for a.script) p m.event m.outcome q → IsRun a f (m ∷ ms) q
unfolding Leads
joined a f m ms p q run core last = record { opening = run.opening; leads = (p, run.leads, core, last) }

-- the same events lead to the same place
pub by_events : (a : Question) (f g : CoreState) (ms ns : List Moment) (p q : Place) → IsRun a f ms p → IsRun a g ns q
    → events_of ms ≡ events_of ns → Same p q
by_events a f g ms ns p q here there e = record {
  on = (one_place a.script a.denials a.kills f g ms ns p q here there e).1;
  back = (one_place a.script a.denials a.kills g f ns ms q p there here (sym e)).1;
}

-- the same turns are the same events
pub same_events : (a : Question) (f g : CoreState) (ms ns : List Moment) (p q : Place) → IsRun a f ms p → IsRun a g ns q
    → turns_of ms ≡ turns_of ns → events_of ms ≡ events_of ns
same_events a f g [] [] p q here there e = refl
same_events a f g [] (n ∷ ns) p q here there e = never_empty (turns_of ns) (turn_of n.event) e
same_events a f g (m ∷ ms) [] p q here there e = never_empty (turns_of ms) (turn_of m.event) (sym e)
same_events a f g (m ∷ ms) (n ∷ ns) p q here there e =
    let last = last_same (turns_of ms) (turns_of ns) (turn_of m.event) (turn_of n.event) e in
    let x = split a f m ms p here in
    let y = split a g n ns q there in
    let before = same_events a f g ms ns x.before y.before x.run y.run last.0 in
    let same = by_events a f g ms ns x.before y.before x.run y.run before in
    let look = looks a.script x.before y.before (place_is a f ms x.before x.run) (place_is a g ns y.before y.run) same.on in
    let one = same_event (plan_for a.script) x.before y.before look m.event n.event m.outcome n.outcome p q x.last y.last last.1 in
    λ i. before i ++ one i ∷ []

pub by_turns : (a : Question) (f g : CoreState) (ms ns : List Moment) (p q : Place) → IsRun a f ms p → IsRun a g ns q
    → turns_of ms ≡ turns_of ns → Same p q
by_turns a f g ms ns p q here there e = by_events a f g ms ns p q here there (same_events a f g ms ns p q here there e)

-- the moments lead to the place
pub last_core : (a : Question) (f : CoreState) (ms : List Moment) (p : Place) → IsRun a f ms p → last_of f ms ≡ p.core
last_core a f ms p run = (history (plan_for a.script) (first_place a.script a.denials a.kills f) ms p run.leads).1
