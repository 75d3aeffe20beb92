-- Schedules that are told apart by the answers of their calls, too, and how they end.
use Rattle.std.proofs.Common.{◌≡◌, ◌∙◌, ℕ, zero, suc, refl, ap, sym, subst, arith, List, [], ◌∷◌, ◌++◌, length, length-append}
use Rattle.std.specs.Prelude.{Contains, true, nat_eq, Option, None, Some}
use Rattle.std.specs.Cmp.Lexicographic.{bytes_decides, pointwise}
use Rattle.std.specs.List.{flat_map}
use Rattle.std.proofs.lemmas.List.{append_assoc, map-id}
use Rattle.hp_base.specs.declared.event.Event.{Event}
use Rattle.hp_base.specs.declared.event.Event.TheVariants.{Begin, Step, Kill, Resize}
use Rattle.hp_machine.specs.declared.outcome.Outcome.{Outcome}
use Rattle.hp_machine.specs.declared.outcome.Outcome.TheVariants.{Begun, Moved, Blocked, Ended as Answered, Marked, Resized, Refused}
use Rattle.hp_core.specs.State.{CoreState}
use Rattle.hp_explore.specs.Schedule.{Plan}
use Rattle.hp_hunt.specs.Watching.{AllKnow, Known}
use Rattle.hp_hunt.specs.declared.condition.Condition.{Condition}
use Rattle.hp_hunt.specs.declared.condition.PoolCount.TheVariants.{Resv, Free, Used}
use Rattle.hp_key.specs.Numbers.{answer_words, wide}
use Rattle.hp_key.specs.Packed.{packed, word_bytes}
use Rattle.hp_key.proofs.Calls.{own_answer}
use Rattle.hp_key.proofs.Tells.{Own, cons_same, tells_wide}
use Rattle.hp_key.proofs.Unpacking.{unpacked}
use Rattle.std.proofs.lemmas.List.Concat.{flat_map-append}
use Rattle.hp_layers.specs.Ended.{EndsAlike}
use Rattle.hp_layers.specs.Layers.{IsAsGood, IsReached}
use Rattle.hp_layers.specs.Named.{AreNamed, LeadsBy}
use Rattle.hp_watch.specs.Calls.{ended_by, ended_so}
use Rattle.hp_watch.specs.Moments.{Moment}
use Rattle.hp_watch.specs.declared.calls.EndedCall.{EndedCall}
use Rattle.hp_every.specs.declared.turn.Turn.{Turn}
use Rattle.hp_every.specs.Endings.{AreEndsAlike, EndState, Ended, GoesBy, GoesOnBy, IsEndState, IsEnding, all_among, answers_in}
use Rattle.hp_every.specs.Endings.{answers_words, ended_at, ended_call_words, ended_key, ended_words}
use Rattle.hp_every.specs.Schedules.{AnyTurn, Ends, MayTurn, Place, plan_for}
use Rattle.hp_every.specs.Search.{AreAsGood, HasTurns, IsRun, MeetsHere, PathState, Question, call_number, search_key, search_words}
use Rattle.hp_every.specs.Turns.{AreAllTurns, turn_of, turns_of}
use Rattle.hp_every.proofs.Answers.{may_at, tracking}
use Rattle.hp_every.proofs.Good.{also_goes, before_last, by_key, by_number, by_path, follows_by, know_by_turns, last_turn, named, onward, other_goes}
use Rattle.hp_every.proofs.Good.{run_of, same_by_turns, tells_list}
use Rattle.hp_every.proofs.Knowing.{AreSame, AreTracked, all_same, count_there, tracked_by, tracked_there}
use Rattle.hp_every.proofs.Sames.{Same, looks, may_of, may_there, place_is, same_events, same_then, split, turned_round, twins_of}

-- ---- the answers of the same schedule

-- the same call ends by the same event
ended_same : (ms ns : List Moment) (e f : Event) (o u : Outcome) → AreTracked ms ns → e ≡ f → o ≡ u → ended_by ms e o ≡ ended_by ns f u
unfolding AreTracked
ended_same ms ns e f o u same asks comes = by e o ∙ (λ i. ended_by ns (asks i) (comes i))
  where
    so : (t : ℕ) (x : Outcome) → ended_so ms t x ≡ ended_so ns t x
    so t Begun = refl
    so t (Moved phase) = refl
    so t (Blocked holder) = refl
    so t (Answered answer) = λ i. record { task = t; call = (same t).0 i; answer = answer } ∷ []
    so t Marked = refl
    so t (Resized frames) = refl
    so t (Refused why) = refl

    by : (e : Event) (o : Outcome) → ended_by ms e o ≡ ended_by ns e o
    by (Begin t op) x = refl
    by (Step t granted) x = so t x
    by (Kill t) x = refl
    by (Resize frames) x = refl

answers_more : (ms ns : List Moment) (m n : Moment) → AreTracked ms ns → m.event ≡ n.event → m.outcome ≡ n.outcome
    → answers_in ms ≡ answers_in ns → answers_in (m ∷ ms) ≡ answers_in (n ∷ ns)
answers_more ms ns m n same asks comes before =
    λ i. all_among (ended_same ms ns m.event n.event m.outcome n.outcome same asks comes i) (before i)

answers_same : (ms ns : List Moment) → AreSame ms ns → answers_in ms ≡ answers_in ns
answers_same [] [] h = refl
answers_same [] (n ∷ ns) h = absurd h
answers_same (m ∷ ms) [] h = absurd h
answers_same (m ∷ ms) (n ∷ ns) (one, rest) =
    answers_more ms ns m n (tracked_there ms ns rest) one.event one.outcome (answers_same ms ns rest)

-- schedules of the same turns have the same answers
pub answers_by_turns : (a : Question) (turns : List Turn) (x y : HasTurns a turns) → answers_in x.moments ≡ answers_in y.moments
answers_by_turns a turns x y =
    let same = same_events a x.first y.first x.moments y.moments x.last y.last x.run y.run (x.made ∙ sym y.made) in
    answers_same x.moments y.moments (all_same a x.first y.first x.moments y.moments x.last y.last x.run y.run same)

-- ---- endings

counts_same : (a : Question) (p q : Place) (f g : CoreState) (ms ns : List Moment) → IsRun a f ms p → IsRun a g ns q → Same p q
    → answers_in ms ≡ answers_in ns → ended_at ms p.core ≡ ended_at ns q.core
counts_same a p q f g ms ns here there same answers =
    let twins = twins_of a.script p q (place_is a f ms p here) (place_is a g ns q there) same.on in
    let free = sym (count_there Free p.core q.core twins) in
    let resv = sym (count_there Resv p.core q.core twins) in
    let used = sym (count_there Used p.core q.core twins) in
    λ i. record { answers = answers i; free = free i; resv = resv i; used = used i }

over_there : (a : Question) (p q : Place) (f g : CoreState) (ms ns : List Moment) → IsRun a f ms p → IsRun a g ns q → Same p q
    → Ends (plan_for a.script) p → Ends (plan_for a.script) q
over_there a p q f g ms ns here there same over next may =
    over next (may_there (plan_for a.script) q p
    (looks a.script q p (place_is a g ns q there) (place_is a f ms p here) same.back) next may)

-- in the same place, with the same answers, the ending is the same
ending_there : (a : Question) (p q : Place) (f g : CoreState) (ms ns : List Moment) → IsRun a f ms p → IsRun a g ns q → Same p q
    → answers_in ms ≡ answers_in ns → (o : Option (List ℕ)) → IsEnding (plan_for a.script) ms p o → IsEnding (plan_for a.script) ns q o
unfolding IsEnding
ending_there a p q f g ms ns here there same answers None none = λ over. none (over_there a q p g f ns ms there here (turned_round p q same) over)
ending_there a p q f g ms ns here there same answers (Some words) some = (
  over_there a p q f g ms ns here there same some.0,
  some.1 ∙ ap ended_key (counts_same a p q f g ms ns here there same answers),
)

-- and so it is of schedules of the same turns
pub ending_by_turns : (a : Question) (turns : List Turn) (x y : HasTurns a turns) (o : Option (List ℕ))
    → IsEnding (plan_for a.script) x.moments x.last o → IsEnding (plan_for a.script) y.moments y.last o
ending_by_turns a turns x y o h = ending_there a x.last y.last x.first y.first x.moments y.moments x.run y.run (same_by_turns a turns x y)
    (answers_by_turns a turns x y) o h

-- a place has one ending
one_ending : (plan : Plan) (ms : List Moment) (p : Place) (o u : Option (List ℕ)) → IsEnding plan ms p o → IsEnding plan ms p u → o ≡ u
unfolding IsEnding
one_ending plan ms p None None x y = refl
one_ending plan ms p None (Some v) x y = absurd (x y.0)
one_ending plan ms p (Some w) None x y = absurd (y x.0)
one_ending plan ms p (Some w) (Some v) x y = ap (λ (l : List ℕ). Some l) (x.1 ∙ sym y.1)

-- ---- which schedules are alike

ends_alike_of : (a : Question) (s t : EndState) (x : IsEndState a s) (y : IsEndState a t) → AreAsGood a s.path t.path
    → answers_in x.path.moments ≡ answers_in y.path.moments → AreEndsAlike a s t
ends_alike_of a s t x y paths answers =
    let here = run_of a s.path x.path in
    let there = run_of a t.path y.path in
    let on : Same paths.here.last paths.there.last = record { on = paths.alike; back = paths.back } in
    let same : Same x.path.last y.path.last = same_then x.path.last paths.here.last y.path.last (same_by_turns a s.path.turns here paths.here)
    (same_then paths.here.last paths.there.last y.path.last on (same_by_turns a t.path.turns paths.there there)) in
    record {
      paths = paths;
      answers = answers_by_turns a s.path.turns paths.here here ∙ (answers ∙ answers_by_turns a t.path.turns there paths.there);
      endings = one_ending (plan_for a.script) y.path.moments y.path.last s.ending t.ending
          (ending_there a x.path.last y.path.last x.path.first y.path.first x.path.moments y.path.moments x.path.run y.path.run same answers
          s.ending x.ending)
          y.ending;
    }

pub ends_by_turns : (a : Question) (s t : EndState) → IsEndState a s → IsEndState a t → s.path.turns ≡ t.path.turns → AreEndsAlike a s t
ends_by_turns a s t x y same =
    let here : HasTurns a t.path.turns = subst (HasTurns a) same (run_of a s.path x.path) in
    let h : HasTurns a t.path.turns =
    record { first = x.path.first; moments = x.path.moments; last = x.path.last; run = x.path.run; made = x.path.made ∙ same } in
    ends_alike_of a s t x y (by_path a s.path t.path x.path y.path same)
    (answers_by_turns a t.path.turns h (run_of a t.path y.path))

-- a call with its answer is told by its words
tells_ended : Own ended_call_words
tells_ended = record {
  tells = λ c d ss ts e. (
      let task = cons_same c.task d.task (call_number c.call ∷ (answer_words c.answer ++ ss)) (call_number d.call ∷ (answer_words d.answer ++ ts)) e in
      let call = cons_same (call_number c.call) (call_number d.call) (answer_words c.answer ++ ss) (answer_words d.answer ++ ts) task.1 in
      let answer = own_answer.tells c.answer d.answer ss ts call.1 in
      let which = sym (by_number c.call) ∙ (ap named call.0 ∙ by_number d.call) in
      (λ i. record { task = task.0 i; call = which i; answer = answer.0 i }, answer.1));
}

tells_answers : (xs ys : List EndedCall) (ss ts : List ℕ) → answers_words xs ++ ss ≡ answers_words ys ++ ts → (xs ≡ ys) × (ss ≡ ts)
tells_answers xs ys ss ts e =
    let count = tells_wide.tells (length xs) (length ys) (flat_map ended_call_words xs ++ ss) (flat_map ended_call_words ys ++ ts)
    (sym (append_assoc (wide (length xs)) (flat_map ended_call_words xs) ss) ∙ (e
    ∙ append_assoc (wide (length ys)) (flat_map ended_call_words ys) ts)) in
    let all = tells_list tells_ended xs ys ss ts count.0 count.1 in
    (sym (map-id xs) ∙ (all.0 ∙ map-id ys), all.1)

-- an ending is told by its key
pub one_ended : (d e : Ended) → ended_key d ≡ ended_key e → d ≡ e
one_ended d e bytes =
    let same = unpacked (ended_words d) (ended_words e) bytes in
    let free = cons_same d.free e.free (d.resv ∷ d.used ∷ answers_words d.answers) (e.resv ∷ e.used ∷ answers_words e.answers) same in
    let resv = cons_same d.resv e.resv (d.used ∷ answers_words d.answers) (e.used ∷ answers_words e.answers) free.1 in
    let used = cons_same d.used e.used (answers_words d.answers) (answers_words e.answers) resv.1 in
    let answers = tells_answers d.answers e.answers [] [] (λ i. used.1 i ++ []) in
    λ i. record { answers = answers.0 i; free = free.0 i; resv = resv.0 i; used = used.0 i }

pub ends_by_key : (a : Question) (s t : EndState) → IsEndState a s → IsEndState a t → s.key ≡ t.key → AreEndsAlike a s t
ends_by_key a s t x y same =
    let here = search_words x.path.known x.path.last in
    let there = search_words y.path.known y.path.last in
    let bytes : packed (answers_words (answers_in x.path.moments) ++ here) ≡ packed (answers_words (answers_in y.path.moments) ++ there) =
    flat_map-append word_bytes (answers_words (answers_in x.path.moments)) here
    ∙ (ap (λ (key : List ℕ). packed (answers_words (answers_in x.path.moments)) ++ key) (sym x.path.key) ∙ (sym x.key ∙ (same ∙ (y.key
    ∙ (ap (λ (key : List ℕ). packed (answers_words (answers_in y.path.moments)) ++ key) y.path.key
    ∙ sym (flat_map-append word_bytes (answers_words (answers_in y.path.moments)) there)))))) in
    let both = tells_answers (answers_in x.path.moments) (answers_in y.path.moments) here there (unpacked _ _ bytes) in
    ends_alike_of a s t x y (by_key a s.path t.path x.path y.path (x.path.key ∙ (ap packed both.1 ∙ sym y.path.key))) both.0

-- ---- the same futures

ends_onward : (a : Question) (s t u : EndState) → AreEndsAlike a s t → AreEndsAlike a t u → AreEndsAlike a s u
ends_onward a s t u x y = record {
  paths = onward a s.path t.path u.path x.paths y.paths;
  answers = answers_by_turns a s.path.turns (onward a s.path t.path u.path x.paths y.paths).here x.paths.here
      ∙ (x.answers ∙ (answers_by_turns a t.path.turns x.paths.there y.paths.here ∙ (y.answers
      ∙ answers_by_turns a u.path.turns y.paths.there (onward a s.path t.path u.path x.paths y.paths).there)));
  endings = x.endings ∙ y.endings;
}

-- it goes the other way
abbrev good_back : (a : Question) (s t : PathState) → AreAsGood a s t → AreAsGood a t s
good_back a s t x = record {
  here = x.there;
  there = x.here;
  known = x.known;
  knows_here = x.knows_there;
  knows_there = x.knows_here;
  alike = x.back;
  back = x.alike;
  met = sym x.met;
}

ends_back : (a : Question) (s t : EndState) → AreEndsAlike a s t → AreEndsAlike a t s
ends_back a s t x = record { paths = good_back a s.path t.path x.paths; answers = sym x.answers; endings = sym x.endings }

-- behind the same turn both have the same answers
answers_go_on : (a : Question) (s t : PathState) (x : AreAsGood a s t) (next : Turn) (z : HasTurns a (s.turns ++ next ∷ []))
    → answers_in x.here.moments ≡ answers_in x.there.moments → (w : HasTurns a (t.turns ++ next ∷ []))
    → answers_in z.moments ≡ answers_in w.moments
answers_go_on a s t x next z answers w =
    let g = also_goes a s t x next z in
    let here = before_last a s.turns next z g.last in
    let calls = know_by_turns a s.turns x.here here x.known x.knows_here in
    let tracked = tracked_by x.known.calls g.last.ms x.there.moments calls.calls x.knows_there.calls in
    ap answers_in g.last.is
    ∙ (answers_more g.last.ms x.there.moments g.last.m g.n tracked g.on.event g.on.outcome (answers_by_turns a s.turns here x.here ∙ answers)
    ∙ answers_by_turns a (t.turns ++ next ∷ []) (other_goes a s t x next z g) w)

ends_follow : (a : Question) (s t after : EndState) (next : Turn) → AreEndsAlike a s t → GoesBy a s next after
    → (u : EndState) × GoesBy a t next u × AreEndsAlike a after u
ends_follow a s t after next x goes =
    let z = goes.state.path in
    let f = follows_by a s.path t.path after.path next x.paths goes.turns z in
    let p = f.2 in
    let here : HasTurns a (s.path.turns ++ next ∷ []) =
    record { first = z.first; moments = z.moments; last = z.last; run = z.run; made = z.made ∙ goes.turns } in
    let there : HasTurns a (t.path.turns ++ next ∷ []) =
    record { first = p.first; moments = p.moments; last = p.last; run = p.run; made = p.made ∙ f.1 } in
    let answers = answers_go_on a s.path t.path x.paths next here x.answers there in
    let on : Same f.3.here.last f.3.there.last = record { on = f.3.alike; back = f.3.back } in
    let same : Same z.last p.last = same_then z.last f.3.here.last p.last (same_by_turns a after.path.turns (run_of a after.path z) f.3.here)
    (same_then f.3.here.last f.3.there.last p.last on (same_by_turns a f.0.turns f.3.there (run_of a f.0 p))) in
    let u : EndState = record { path = f.0; key = packed (answers_words (answers_in p.moments)) ++ f.0.key; ending = after.ending } in
    let state : IsEndState a u = record {
      path = p;
      key = refl;
      ending = ending_there a z.last p.last z.first p.first z.moments p.moments z.run p.run same answers after.ending goes.state.ending;
    } in
    (u, record { turns = f.1; state = state }, ends_alike_of a after u goes.state state f.3 answers)

ends_one : (a : Question) (s t b c : EndState) (next : Turn) → AreEndsAlike a s t → GoesBy a s next b → GoesBy a t next c → AreEndsAlike a b c
ends_one a s t b c next x one other =
    let f = ends_follow a s t b next x one in
    ends_onward a b f.0 c f.2 (ends_by_turns a f.0 c f.1.state other.state (f.1.turns ∙ sym other.turns))

-- ---- what a table of endings stands on

pub as_good_ends : (a : Question) (K : Type 0) → IsAsGood (λ s. K × IsEndState a s) (GoesOnBy a) (λ s. ⊥) (AreEndsAlike a)
as_good_ends a K = record {
  stays = λ s t valid goes. (valid.0, goes.1.state);
  itself = λ s valid. ends_by_turns a s s valid.1 valid.1 refl;
  onward = ends_onward a;
  follows = λ s t after x goes. (let f = ends_follow a s t after goes.0 x goes.1 in (f.0, (goes.0, f.1), f.2));
  meets_too = λ s t good met. met;
}

pub named_ends : (a : Question) → AreNamed (GoesOnBy a) (AreEndsAlike a) (λ s next t. GoesBy a s next t)
named_ends a = record {
  is_turn = λ s t next goes. (next, goes);
  named = λ s t goes. goes;
  back = ends_back a;
  follows = λ s t after next x goes. ends_follow a s t after next x goes;
  one = λ s t b c next x one other. ends_one a s t b c next x one other;
}

pub ends_alike : (a : Question) → EndsAlike (pointwise nat_eq) (AreEndsAlike a) (λ (s : EndState). s.ending)
ends_alike a = record { alike_ends = λ s t x. sym x.endings; one = λ d e same. (bytes_decides d e).0 same }

-- ---- each schedule to its end is reached

-- the turn that must be listed
pub turn_listed : (a : Question) (turns : List Turn) (here : HasTurns a turns) (listed : List Turn)
    → AreAllTurns (plan_for a.script) here.last listed → (next : Turn) → HasTurns a (turns ++ next ∷ []) → Contains listed next
unfolding AreAllTurns
turn_listed a turns here listed all next z =
    let l = last_turn a z.first turns next z.moments z.last z.run z.made in
    let may = may_at a turns (before_last a turns next z l) here next (subst (λ (x : Turn). MayTurn (plan_for a.script) l.split.before x) l.last
    (may_of (plan_for a.script) l.split.before z.last l.m.event l.m.outcome l.split.last)) in
    (all next).1 may

-- a schedule as it is kept, which is reached
pub record IsKeptSo (a : Question) (first : EndState) (ms : List Moment) (o : Option (List ℕ)) : Type 0 where
  pub state : EndState
  pub reached : IsReached (GoesOnBy a) first (length ms) state
  pub is : IsEndState a state
  pub turns : state.path.turns ≡ turns_of ms
  pub ending : state.ending ≡ o

-- with no conditions, each schedule meets all
no_conditions : (a : Question) → a.conditions ≡ [] → (f : CoreState) (ms : List Moment) (p : Place)
    → MeetsHere (plan_for a.script) a.conditions f ms p
no_conditions a none f ms p = record {
  looked_at = λ k d within. absurd (let z = ap (λ (cs : List Condition). length cs) none in omega (arith, within, z));
  meets = λ k d within. absurd (let z = ap (λ (cs : List Condition). length cs) none in omega (arith, within, z));
}

known_of_none : (a : Question) → a.conditions ≡ [] → (ms : List Moment) → (k : Known) × AllKnow a.conditions k ms
known_of_none a none ms =
    let calls = tracking ms in (
      record { calls = calls.0; watches = [] },
      record { calls = calls.1; of = sym none; each = λ j d within. absurd (omega (arith, within)) },
    )

-- the state of a schedule
state_of_run : (a : Question) → a.conditions ≡ [] → (f : CoreState) (ms : List Moment) (p : Place) → IsRun a f ms p → (o : Option (List ℕ))
    → IsEnding (plan_for a.script) ms p o → (s : EndState) × IsEndState a s × (s.path.turns ≡ turns_of ms) × (s.ending ≡ o)
state_of_run a none f ms p run o ending =
    let known = known_of_none a none ms in (
      record {
        path = record { turns = turns_of ms; key = search_key known.0 p; met = true };
        key = packed (answers_words (answers_in ms)) ++ search_key known.0 p;
        ending = o;
      },
      record {
        path = record {
          first = f;
          moments = ms;
          last = p;
          known = known.0;
          run = run;
          made = refl;
          know = known.1;
          key = refl;
          met = (λ m. no_conditions a none f ms p, λ m. refl);
        };
        key = refl;
        ending = ending;
      },
      refl,
      refl,
    )

-- where a turn is made, the schedule isn't over
goes_not_over : (a : Question) (p q : Place) (m : Moment) → AnyTurn (plan_for a.script) p m.event m.outcome q → (ms : List Moment)
    → IsEnding (plan_for a.script) ms p None
unfolding IsEnding
goes_not_over a p q m turn ms = λ over. over (turn_of m.event) (may_of (plan_for a.script) p q m.event m.outcome turn)

pub kept_so : (a : Question) → a.conditions ≡ [] → (first : EndState) → IsEndState a first → first.path.turns ≡ [] → (f : CoreState)
    (ms : List Moment) (p : Place) → IsRun a f ms p → (o : Option (List ℕ)) → IsEnding (plan_for a.script) ms p o → IsKeptSo a first ms o
unfolding IsReached
kept_so a none first is empty f [] p run o ending =
    let own = state_of_run a none f [] p run o ending in
    let alike = ends_by_turns a first own.0 is own.1 (empty ∙ sym own.2) in
    record { state = first; reached = refl; is = is; turns = empty; ending = alike.endings ∙ own.3 }
kept_so a none first is empty f (m ∷ ms) p run o ending =
    let s = split a f m ms p run in
    let before = kept_so a none first is empty f ms s.before s.run None
    (goes_not_over a s.before p m s.last ms) in
    let own = state_of_run a none f (m ∷ ms) p run o ending in
    record {
      state = own.0;
      reached = (
        before.state,
        before.reached,
        (
          turn_of m.event,
          record { turns = own.2 ∙ ap (λ (xs : List Turn). xs ++ turn_of m.event ∷ []) (sym before.turns); state = own.1 },
        ),
      );
      is = own.1;
      turns = own.2;
      ending = own.3;
    }

-- what is reached is right, and has as many turns
pub reached_so : (a : Question) (first : EndState) → IsEndState a first → first.path.turns ≡ [] → (n : ℕ) (s : EndState)
    → IsReached (GoesOnBy a) first n s → IsEndState a s × (length s.path.turns ≡ n)
unfolding IsReached
reached_so a first is empty zero s e =
    (subst (IsEndState a) (sym e) is, ap (λ (t : EndState). length t.path.turns) e ∙ ap (λ (xs : List Turn). length xs) empty)
reached_so a first is empty (suc n) s (before, reached, (next, goes)) =
    let long = (reached_so a first is empty n before reached).1 in
    let more = length-append before.path.turns (next ∷ []) in
    let same = ap (λ (xs : List Turn). length xs) goes.turns in
    (goes.state, omega (arith, long, more, same))

-- and the names of its turns lead there
pub reached_by : (a : Question) (first : EndState) → first.path.turns ≡ [] → (n : ℕ) (s : EndState) → IsReached (GoesOnBy a) first n s
    → LeadsBy (λ u next t. GoesBy a u next t) first n s.path.turns s
unfolding IsReached LeadsBy
reached_by a first empty zero s e = (ap (λ (t : EndState). t.path.turns) e ∙ empty, e)
reached_by a first empty (suc n) s (before, reached, (next, goes)) =
    (before.path.turns, before, next, reached_by a first empty n before reached, goes, goes.turns)

pub leads_so : (a : Question) (first : EndState) → IsEndState a first → first.path.turns ≡ [] → (n : ℕ) (names : List Turn) (s : EndState)
    → LeadsBy (λ u next t. GoesBy a u next t) first n names s → IsEndState a s × (s.path.turns ≡ names)
unfolding LeadsBy
leads_so a first is empty zero names s (none, same) =
    (subst (IsEndState a) (sym same) is, ap (λ (t : EndState). t.path.turns) same ∙ (empty ∙ sym none))
leads_so a first is empty (suc n) names s (before, u, next, leads, goes, longer) =
    let turns = (leads_so a first is empty n before u leads).1 in
    (goes.state, goes.turns ∙ (ap (λ (xs : List Turn). xs ++ next ∷ []) turns ∙ sym longer))

-- ---- what an ending says

-- a state that ends is that of a schedule that is over and ends so
pub ends_so_at : (a : Question) (s : EndState) (x : IsEndState a s) (words : List ℕ) → s.ending ≡ Some words
    → Ends (plan_for a.script) x.path.last × (words ≡ ended_key (ended_at x.path.moments x.path.last.core))
unfolding IsEnding
ends_so_at a s x words is = taken (subst (IsEnding (plan_for a.script) x.path.moments x.path.last) is x.ending)
  where
    taken : IsEnding (plan_for a.script) x.path.moments x.path.last (Some words)
        → Ends (plan_for a.script) x.path.last × (words ≡ ended_key (ended_at x.path.moments x.path.last.core))
    taken h = h

-- and so is each of the same turns
pub ends_there_too : (a : Question) (s : EndState) (x : IsEndState a s) (words : List ℕ) → s.ending ≡ Some words
    → (y : HasTurns a s.path.turns)
    → Ends (plan_for a.script) y.last × (words ≡ ended_key (ended_at y.moments y.last.core))
ends_there_too a s x words is y =
    let h = ends_so_at a s x words is in
    let here = run_of a s.path x.path in
    let same = same_by_turns a s.path.turns here y in (
      over_there a x.path.last y.last x.path.first y.first x.path.moments y.moments x.path.run y.run same h.0,
      h.1 ∙ ap ended_key (counts_same a x.path.last y.last x.path.first y.first x.path.moments y.moments x.path.run y.run same
          (answers_by_turns a s.path.turns here y)),
    )

pub ending_of_words : (plan : Plan) (ms : List Moment) (p : Place) → Ends plan p
    → IsEnding plan ms p (Some (ended_key (ended_at ms p.core)))
unfolding IsEnding
ending_of_words plan ms p over = (over, refl)
