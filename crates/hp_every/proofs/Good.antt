-- Schedules that stand in the same place, and have seen the same, are as good as each other.
use Rattle.std.proofs.Common.{◌≡◌, ℕ, refl, ap, sym, ◌∙◌, subst, List, [], ◌∷◌, ◌++◌, length}
use Rattle.std.specs.Prelude.{Bool, true, false, map, slice_index_or}
use Rattle.std.specs.List.{flat_map}
use Rattle.std.proofs.lemmas.List.{map-id}
use Rattle.hp_core.specs.State.{CoreState}
use Rattle.hp_watch.specs.Moments.{Moment}
use Rattle.hp_key.specs.Numbers.{counted}
use Rattle.hp_key.proofs.Tells.{Own, Tells, cons_same, tells_at, tells_counted, tells_flag, tells_wide}
use Rattle.hp_key.proofs.Unpacking.{unpacked}
use Rattle.hp_hunt.specs.Watching.{AllKnow, Known, of_watch}
use Rattle.hp_hunt.specs.declared.watching.Watch.{Watch}
use Rattle.hp_every.specs.declared.turn.Turn.{Turn}
use Rattle.hp_every.specs.Places.{IsPlaceOf, place_words}
use Rattle.hp_every.specs.Schedules.{AnyTurn, Place, plan_for}
use Rattle.hp_every.specs.Search.{AreAsGood, Question, HasTurns, IsPath, IsRun, PathState, search_key, search_words}
use Rattle.hp_every.specs.Search.{call_number, calls_words, watch_words}
use Rattle.hp_watch.specs.declared.call_word.CallWord.{CallWord}
use Rattle.hp_watch.specs.declared.call_word.CallWord.TheVariants as call
use Rattle.hp_every.specs.Turns.{turn_of, turns_of}
use Rattle.hp_every.proofs.Knowing.{SameMoment, all_know_more, all_know_on, all_know_too, all_same, as_many, meets_there, moment_twins}
use Rattle.hp_every.proofs.Paths.{last_same, never_empty}
use Rattle.hp_every.proofs.Sames.{Same, Split, by_events, by_turns, joined, place_is, same_events, same_then, split, turn_also}
use Rattle.hp_every.proofs.Sames.{same_words, turned_round}

-- two flags that follow from each other are one
pub one_flag : (b c : Bool) → (b ≡ true → c ≡ true) → (c ≡ true → b ≡ true) → b ≡ c
one_flag true c on back = sym (on refl)
one_flag false true on back = back refl
one_flag false false on back = refl

abbrev pub run_of : (a : Question) (s : PathState) → IsPath a s → HasTurns a s.turns
run_of a s h = record { first = h.first; moments = h.moments; last = h.last; run = h.run; made = h.made }

-- what is known of one schedule is known of each of the same turns
pub know_by_turns : (a : Question) (turns : List Turn) (x y : HasTurns a turns) (known : Known) → AllKnow a.conditions known x.moments
    → AllKnow a.conditions known y.moments
know_by_turns a turns x y known know =
    let same = same_events a x.first y.first x.moments y.moments x.last y.last x.run y.run (x.made ∙ sym y.made) in
    all_know_too a.conditions known x.moments y.moments
    (all_same a x.first y.first x.moments y.moments x.last y.last x.run y.run same)
    (all_same a y.first x.first y.moments x.moments y.last x.last y.run x.run (sym same)) know

pub same_by_turns : (a : Question) (turns : List Turn) (x y : HasTurns a turns) → Same x.last y.last
same_by_turns a turns x y = by_turns a x.first y.first x.moments y.moments x.last y.last x.run y.run (x.made ∙ sym y.made)

-- two of the same place of which the same is known
pub as_good_of : (a : Question) (s t : PathState) (x : IsPath a s) (y : IsPath a t) (known : Known) → AllKnow a.conditions known x.moments
    → AllKnow a.conditions known y.moments → Same x.last y.last → AreAsGood a s t
as_good_of a s t x y known here there same = record {
  here = run_of a s x;
  there = run_of a t y;
  known = known;
  knows_here = here;
  knows_there = there;
  alike = same.on;
  back = same.back;
  met = one_flag s.met t.met
      (λ met. y.met.1 (meets_there a x.first y.first x.moments y.moments x.last y.last known x.run y.run same here there (x.met.0 met)))
      (λ met. x.met.1 (meets_there a y.first x.first y.moments x.moments y.last x.last known y.run x.run (turned_round x.last y.last same)
      there here (y.met.0 met)));
}

-- paths of the same turns are as good
pub by_path : (a : Question) (s t : PathState) → IsPath a s → IsPath a t → s.turns ≡ t.turns → AreAsGood a s t
by_path a s t x y e =
    let here : HasTurns a t.turns = subst (HasTurns a) e (run_of a s x) in
    let same = same_events a x.first y.first x.moments y.moments x.last y.last x.run y.run (x.made ∙ (e ∙ sym y.made)) in
    as_good_of a s t x y y.known
    (all_know_too a.conditions y.known y.moments x.moments
    (all_same a y.first x.first y.moments x.moments y.last x.last y.run x.run (sym same))
    (all_same a x.first y.first x.moments y.moments x.last y.last x.run y.run same) y.know)
    y.know (by_events a x.first y.first x.moments y.moments x.last y.last x.run y.run same)

-- ---- equal keys

-- what a watch has seen is told by its word
seen_by : Watch → Bool
seen_by w = w.seen

tells_watch : Tells watch_words watch_words seen_by seen_by
unfolding seen_by
tells_watch = tells_at (λ (w : Watch). w.seen) tells_flag

same_watches : (vs ws : List Watch) → map of_watch vs ≡ map of_watch ws → map seen_by vs ≡ map seen_by ws → vs ≡ ws
unfolding seen_by
same_watches [] [] c s = refl
same_watches [] (w ∷ ws) c s = absurd (cc)
same_watches (v ∷ vs) [] c s = absurd (cc)
same_watches (v ∷ vs) (w ∷ ws) c s =
    let x = cons_same v.condition w.condition (map of_watch vs) (map of_watch ws) c in
    let y = cons_same v.seen w.seen (map seen_by vs) (map seen_by ws) s in
    let rest = same_watches vs ws x.1 y.1 in
    λ i. record { condition = x.0 i; seen = y.0 i } ∷ rest i

-- which call it is is told by its number
pub named : ℕ → CallWord
named n = slice_index_or (call.Nothing ∷ call.Map ∷ call.MapNoReserve ∷ call.Unmap ∷ call.Load ∷ call.Store ∷ call.Alloc ∷ call.AllocKeep
    ∷ call.Punch ∷ call.Truncate ∷ call.Exit ∷ []) n call.Nothing

pub by_number : (w : CallWord) → named (call_number w) ≡ w
unfolding named
by_number call.Nothing = refl
by_number call.Map = refl
by_number call.MapNoReserve = refl
by_number call.Unmap = refl
by_number call.Load = refl
by_number call.Store = refl
by_number call.Alloc = refl
by_number call.AllocKeep = refl
by_number call.Punch = refl
by_number call.Truncate = refl
by_number call.Exit = refl

tells_calls : Own calls_words
tells_calls = record {
  tells = λ c d ss ts e. (
      let x = cons_same (call_number c.last) (call_number d.last) (c.begun ∷ ss) (d.begun ∷ ts) e in
      let y = cons_same c.begun d.begun ss ts x.1 in
      let last = sym (by_number c.last) ∙ (ap named x.0 ∙ by_number d.last) in
      (λ i. record { last = last i; begun = y.0 i }, y.1));
}

-- two lists of which each tells its own are told by their words, where they are equally long
pub tells_list : {A B : Type 0} {u : A → List ℕ} {f : A → B} → Tells u u f f → (xs ys : List A) (ss ts : List ℕ) → length xs ≡ length ys
    → flat_map u xs ++ ss ≡ flat_map u ys ++ ts → (map f xs ≡ map f ys) × (ss ≡ ts)
tells_list {u = u} tells xs ys ss ts long e =
    let front : counted u xs ++ ss ≡ counted u ys ++ ts = λ i. long i ∷ e i in
    (tells_counted tells).tells xs ys ss ts front

-- so equal words are of the same knowledge and of one place
words_tell : (a : Question) (v w : Known) (p q : Place) → map of_watch v.watches ≡ a.conditions → map of_watch w.watches ≡ a.conditions
    → search_words v p ≡ search_words w q → (v ≡ w) × (place_words p ≡ place_words q)
words_tell a v w p q c d e =
    let rest = λ (k : Known) (x : Place). flat_map calls_words k.calls ++ (flat_map watch_words k.watches ++ place_words x) in
    let count = tells_wide.tells (length v.calls) (length w.calls) (rest v p) (rest w q) e in
    let calls = tells_list tells_calls v.calls w.calls (flat_map watch_words v.watches ++ place_words p)
    (flat_map watch_words w.watches ++ place_words q) count.0 count.1 in
    let long = as_many a.conditions v.watches c ∙ sym (as_many a.conditions w.watches d) in
    let seen = tells_list tells_watch v.watches w.watches (place_words p) (place_words q) long calls.1 in
    let watches = same_watches v.watches w.watches (c ∙ sym d) seen.0 in
    let same : v.calls ≡ w.calls = sym (map-id v.calls) ∙ (calls.0 ∙ map-id w.calls) in
    (λ i. record { calls = same i; watches = watches i }, seen.1)

pub by_key : (a : Question) (s t : PathState) → IsPath a s → IsPath a t → s.key ≡ t.key → AreAsGood a s t
by_key a s t x y e =
    let words = unpacked (search_words x.known x.last) (search_words y.known y.last) (sym x.key ∙ (e ∙ y.key)) in
    let both = words_tell a x.known y.known x.last y.last x.know.of y.know.of words in
    let one = same_words a.script x.last y.last (place_is a x.first x.moments x.last x.run) (place_is a y.first y.moments y.last y.run) both.1 in
    as_good_of a s t x y x.known x.know (subst (λ (ws : Known). AllKnow a.conditions ws y.moments) (sym both.0) y.know) one

-- ---- the same futures

pub onward : (a : Question) (s t u : PathState) → AreAsGood a s t → AreAsGood a t u → AreAsGood a s u
onward a s t u x y =
    let mid = same_by_turns a t.turns x.there y.here in
    let first : Same x.here.last x.there.last = record { on = x.alike; back = x.back } in
    let second : Same y.here.last y.there.last = record { on = y.alike; back = y.back } in
    let whole = same_then x.here.last x.there.last y.there.last first (same_then x.there.last y.here.last y.there.last mid second) in
    record {
      here = x.here;
      there = y.there;
      known = x.known;
      knows_here = x.knows_here;
      knows_there = all_know_on a.conditions x.known y.known y.here.moments y.there.moments
          (know_by_turns a t.turns x.there y.here x.known x.knows_there) y.knows_here y.knows_there;
      alike = whole.on;
      back = whole.back;
      met = x.met ∙ y.met;
    }

-- the last turn of a schedule of these turns and one more
pub record LastTurn (a : Question) (f : CoreState) (turns : List Turn) (next : Turn) (moments : List Moment) (p : Place) : Type 0 where
  pub m : Moment
  pub ms : List Moment
  pub is : moments ≡ m ∷ ms
  pub made : turns_of ms ≡ turns
  pub last : turn_of m.event ≡ next
  pub split : Split a f m ms p

pub last_turn : (a : Question) (f : CoreState) (turns : List Turn) (next : Turn) (moments : List Moment) (p : Place) → IsRun a f moments p
    → turns_of moments ≡ turns ++ next ∷ [] → LastTurn a f turns next moments p
last_turn a f turns next [] p run e = never_empty turns next e
last_turn a f turns next (m ∷ ms) p run e =
    let last = last_same (turns_of ms) turns (turn_of m.event) next e in
    record { m = m; ms = ms; is = refl; made = last.0; last = last.1; split = split a f m ms p run }

-- A schedule that goes on, and another that does so as well: by the same event, with the same outcome, to the same place.
pub record AlsoGoes (a : Question) (s t : PathState) (x : AreAsGood a s t) (next : Turn) (z : HasTurns a (s.turns ++ next ∷ [])) : Type 0 where
  pub last : LastTurn a z.first s.turns next z.moments z.last
  pub n : Moment
  pub place : Place
  pub run : IsRun a x.there.first (n ∷ x.there.moments) place
  pub same : Same z.last place
  pub on : SameMoment last.m n
  pub back : SameMoment n last.m

pub also_goes : (a : Question) (s t : PathState) (x : AreAsGood a s t) (next : Turn) (z : HasTurns a (s.turns ++ next ∷ []))
    → AlsoGoes a s t x next z
also_goes a s t x next z = record { last = l; n = n; place = r; run = run; same = same; on = on; back = back }
  where
    l : LastTurn a z.first s.turns next z.moments z.last
    l = last_turn a z.first s.turns next z.moments z.last z.run z.made

    here : HasTurns a s.turns
    here = record { first = z.first; moments = l.ms; last = l.split.before; run = l.split.run; made = l.made }

    before : Same l.split.before x.there.last
    before = same_then l.split.before x.here.last x.there.last (same_by_turns a s.turns here x.here) (record { on = x.alike; back = x.back })

    also : (r : Place) × AnyTurn (plan_for a.script) x.there.last l.m.event l.m.outcome r × Same z.last r
    also = turn_also a.script l.split.before x.there.last z.last l.m.event l.m.outcome
        (place_is a z.first l.ms l.split.before l.split.run)
        (place_is a x.there.first x.there.moments x.there.last x.there.run) before l.split.last

    r : Place
    r = also.0

    same : Same z.last r
    same = also.2

    n : Moment
    n = record { event = l.m.event; outcome = l.m.outcome; core = r.core }

    run : IsRun a x.there.first (n ∷ x.there.moments) r
    run = joined a x.there.first n x.there.moments x.there.last r x.there.run refl also.1

    is_place : IsPlaceOf a.script z.last
    is_place = place_is a z.first z.moments z.last z.run

    is_other : IsPlaceOf a.script r
    is_other = place_is a x.there.first (n ∷ x.there.moments) r run

    on : SameMoment l.m n
    on = record { event = refl; outcome = refl; cores = moment_twins a l.m n z.last r is_place is_other same l.split.core refl }

    back : SameMoment n l.m
    back = record {
      event = refl;
      outcome = refl;
      cores = moment_twins a n l.m r z.last is_other is_place (turned_round z.last r same) refl l.split.core;
    }

-- those behind the last turn, as a schedule
abbrev pub before_last : (a : Question) (turns : List Turn) (next : Turn) (z : HasTurns a (turns ++ next ∷ []))
    → LastTurn a z.first turns next z.moments z.last → HasTurns a turns
before_last a turns next z l = record { first = z.first; moments = l.ms; last = l.split.before; run = l.split.run; made = l.made }

-- the other one, with its turns
abbrev pub other_goes : (a : Question) (s t : PathState) (x : AreAsGood a s t) (next : Turn) (z : HasTurns a (s.turns ++ next ∷ []))
    → AlsoGoes a s t x next z → HasTurns a (t.turns ++ next ∷ [])
other_goes a s t x next z g = record {
  first = x.there.first;
  moments = g.n ∷ x.there.moments;
  last = g.place;
  run = g.run;
  made = λ i. x.there.made i ++ (ap turn_of (sym g.on.event) ∙ g.last.last) i ∷ [];
}

pub follows_by : (a : Question) (s t after : PathState) (next : Turn) → AreAsGood a s t → after.turns ≡ s.turns ++ next ∷ []
    → IsPath a after → (u : PathState) × (u.turns ≡ t.turns ++ next ∷ []) × IsPath a u × AreAsGood a after u
unfolding also_goes
follows_by a s t after next x turns z = (u, refl, path, as_good_of a after u z path z.known z.know know g.same)
  where
    h : HasTurns a (s.turns ++ next ∷ [])
    h = record { first = z.first; moments = z.moments; last = z.last; run = z.run; made = z.made ∙ turns }

    g : AlsoGoes a s t x next h
    g = also_goes a s t x next h

    o : HasTurns a (t.turns ++ next ∷ [])
    o = other_goes a s t x next h g

    here : HasTurns a s.turns
    here = before_last a s.turns next h g.last

    know : AllKnow a.conditions z.known (g.n ∷ x.there.moments)
    know = all_know_more a.conditions z.known x.known g.last.ms x.there.moments g.last.m g.n g.on g.back
        (know_by_turns a s.turns x.here here x.known x.knows_here) x.knows_there
        (subst (λ (ms : List Moment). AllKnow a.conditions z.known ms) g.last.is z.know)

    u : PathState
    u = record { turns = t.turns ++ next ∷ []; key = search_key z.known g.place; met = after.met }

    path : IsPath a u
    path = record {
      first = x.there.first;
      moments = g.n ∷ x.there.moments;
      last = g.place;
      known = z.known;
      run = g.run;
      made = o.made;
      know = know;
      key = refl;
      met = (
        λ met. meets_there a z.first x.there.first z.moments (g.n ∷ x.there.moments) z.last g.place z.known z.run g.run g.same z.know know
            (z.met.0 met),
        λ meets. z.met.1 (meets_there a x.there.first z.first (g.n ∷ x.there.moments) z.moments g.place z.last z.known g.run z.run
            (turned_round z.last g.place g.same) know z.know meets),
      );
    }
