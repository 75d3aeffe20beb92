-- Each run of an explorer is a schedule, up to denials that no step felt.
use Rattle.std.proofs.Common.{◌≡◌, ℕ, zero, suc, ◌+◌, ◌≤◌, ◌%◌, refl, ap, sym, ◌∙◌, subst, inl, inr, arith}
use Rattle.std.proofs.Common.{List, [], ◌∷◌, ◌++◌, length}
use Rattle.std.specs.Prelude.{Bool, true, false, not, ◌&&◌, ◌-◌, ◌==◌, nat_lt, nat_le, Option, Some, None}
use Rattle.std.specs.Prelude.{is_some, is_none, IsTrue, MatchBool, if◌then◌else◌, slice_index, slice_set}
use Rattle.std.specs.Option.{option_map}
use Rattle.std.proofs.lemmas.List.{append_assoc, append-nil}
use Rattle.std.proofs.lemmas.List.Elements.{All-append}
use Rattle.std.proofs.lemmas.Nat.{mod_below}
use Rattle.rand_pcg.specs.Lcg.{Lcg}
use Rattle.hp_base.specs.declared.event.Op.{Op}
use Rattle.hp_base.specs.declared.event.Event.{Event}
use Rattle.hp_base.specs.declared.event.Event.TheVariants.{Begin, Step, Kill}
use Rattle.hp_audit.specs.declared.finding.Finding.{Finding}
use Rattle.hp_machine.specs.State.{is_alive}
use Rattle.hp_machine.specs.Events.{IsReached, word_of}
use Rattle.hp_machine.specs.Events as events
use Rattle.hp_machine.specs.declared.outcome.Life.{Life}
use Rattle.hp_machine.specs.declared.outcome.Life.TheVariants as life
use Rattle.hp_machine.specs.declared.outcome.Outcome.{Outcome}
use Rattle.hp_laws.proofs.Deciding.{never}
use Rattle.hp_laws.proofs.Denials.{same_step}
use Rattle.hp_core.specs.State.{CoreState, as_state, calls_of}
use Rattle.hp_core.specs.Readers.{phase_of, life_of}
use Rattle.hp_core.specs.Runs.{IsOpening, Row, StepWants}
use Rattle.hp_core.specs.Waiting.{WaitsFor}
use Rattle.hp_core.proofs.InFlight.{some_of}
use Rattle.hp_core.proofs.Rows.{task_state_wants}
use Rattle.hp_text.specs.declared.script.Script.{Script}
use Rattle.hp_watch.specs.Moments.{Moment, IsHistory, events_of, last_of}
use Rattle.hp_explore.specs.Schedule.{Plan, World, Choice, Turn, CanTurn, AreRunnableOf, in_call, next_call, may_begin}
use Rattle.hp_explore.specs.Schedule.{call_choice, kill_choice, choice_of, picked, drawn, word, plan_of}
use Rattle.hp_explore.specs.Explored.{IsRun, IsExplored, all_done, turn_limit}
use Rattle.hp_explore.specs.declared.line.Finish.TheVariants.{Finished, Found}
use Rattle.hp_explore.specs.declared.line.RunLine.{RunLine}
use Rattle.hp_explore.proofs.Others.{all_can}
use Rattle.hp_explore.proofs.Runnable.{InRange}
use Rattle.hp_every.specs.Schedules.{Place, AnyTurn, Leads, first_place, plan_for}
use Rattle.hp_every.specs.Scheduled.{IsScheduled, asked, how_many, is_denied, is_kill, told}
use Rattle.hp_every.proofs.Ending.{done_ends, idle_done, last_done, second_true}
use Rattle.hp_every.proofs.Wanting.{wants_or_not}

-- the run between two turns as a place in a schedule
abbrev pub at : World → (denials kills : ℕ) → Place
at w denials kills = record { core = w.core; made = w.made; denials = denials; kills = kills }

-- one if the test passes
abbrev one_if : Bool → ℕ
one_if b = if b then 1 else 0

-- the turn leads from the one run to the other, with as much left as the event may have used
record Goes (script : Script) (w : World) (denials kills : ℕ) (event : Event) (outcome : Outcome) (v : World) : Type 0 where
  pub left : ℕ
  pub lives : ℕ
  pub taken : Event
  pub turn : AnyTurn (plan_for script) (at w denials kills) taken outcome (at v left lives)
  pub alike : asked taken ≡ asked event
  pub denied : denials ≤ one_if (is_denied event) + left
  pub killed : kills ≤ one_if (is_kill event) + lives

-- each task that may take a turn is there
wider : (n : ℕ) (tasks : List ℕ) → InRange n tasks → InRange (suc n) tasks
wider n tasks h k d within = let one = h k d within in (one.0, omega (arith, one.1))

the_last : (n : ℕ) → InRange (suc n) (suc n ∷ [])
the_last n zero d l = (omega arith, omega arith)
the_last n (suc k) d l = absurd (omega (arith, l))

in_range : (plan : Plan) (w : World) (n : ℕ) (tasks : List ℕ) → AreRunnableOf plan w n tasks → InRange n tasks
unfolding AreRunnableOf
in_range plan w zero tasks h = subst (InRange zero) (sym h) (λ k d within. absurd (omega (arith, within)))
in_range plan w (suc n) tasks (front, before, inl last) =
    subst (InRange (suc n)) (sym last.1)
    (All-append (λ (t : ℕ). (1 ≤ t) × (t ≤ suc n)) front (suc n ∷ []) (wider n front (in_range plan w n front before)) (the_last n))
in_range plan w (suc n) tasks (front, before, inr last) =
    subst (InRange (suc n)) (sym last.1) (wider n front (in_range plan w n front before))

-- a life in which one is alive
alive_told : (l : Life) → is_alive l ≡ true → l ≡ life.Alive
alive_told life.Alive e = refl
alive_told life.Killed e = never e
alive_told life.Dead e = never e

-- a call that is in flight has a phase
busy_phase : {A B : Type 0} (f : A → B) (o : Option A) → is_some (option_map f o) ≡ true → is_some o ≡ true
busy_phase f None e = never e
busy_phase f (Some x) e = refl

-- who begins a call has one left
none_to_begin : {P : Type 0} (o : Option Op) (all : Bool) → IsTrue (is_some o && all) → o ≡ None → P
none_to_begin None all h e = never h
none_to_begin (Some op) all h e = absurd (cc)

-- and so isn't done
not_done : (busy : Bool) (o : Option Op) (P : Type 0) (all : Bool) → MatchBool busy P (IsTrue (is_some o && all))
    → (not busy && is_none o) ≡ false
not_done true o P all h = refl
not_done false (Some op) P all h = refl
not_done false None P all h = never h

one_less : (n : ℕ) → 1 ≤ n → (m : ℕ) × (n ≡ m + 1)
one_less zero h = absurd (omega (arith, h))
one_less (suc n) h = (n, omega arith)

module _ (script : Script) (deny kill : ℕ) (w v : World) (denials kills : ℕ) (event : Event) (outcome : Outcome) (t : ℕ)
    (some : 1 ≤ t) (there : t ≤ length w.made) (can : CanTurn (plan_for script) w t) (row : Row w.core event outcome v.core)
    (may_deny : one_if (is_denied event) ≤ denials) (may_kill : one_if (is_kill event) ≤ kills) where
  -- a call is begun
  begun : (op : Op) → next_call (plan_for script) w.made t ≡ Some op → in_call w t ≡ false → event ≡ Begin t op
      → v.made ≡ slice_set w.made (t - 1) (slice_index w.made (t - 1) + 1) → Goes script w denials kills event outcome v
  begun op next idle is made = record {
    left = denials;
    lives = kills;
    taken = event;
    turn = record {
      task = t;
      some = some;
      there = there;
      choice =
          inl (record { idle = idle; can = can; op = op; next = next; is = is; made = made; denials = refl; kills = refl });
      row = row;
    };
    alike = refl;
    denied = omega arith;
    killed = omega arith;
  }

  -- a step is granted, or felt no denial
  granted : (grant : Bool) → event ≡ Step t grant → Row w.core (Step t true) outcome v.core → in_call w t ≡ true → v.made ≡ w.made
      → Goes script w denials kills event outcome v
  granted grant is same busy made = record {
    left = denials;
    lives = kills;
    taken = Step t true;
    turn = record {
      task = t;
      some = some;
      there = there;
      choice = inr (inl (record { busy = busy; can = can; is = refl; made = made; denials = refl; kills = refl }));
      row = same;
    };
    alike = sym (ap (λ (e : Event). asked e) is);
    denied = omega arith;
    killed = omega arith;
  }

  -- a step that wants memory is denied
  felt : StepWants w.core.parts w.core.task_states t → event ≡ Step t false → in_call w t ≡ true → v.made ≡ w.made
      → Goes script w denials kills event outcome v
  felt wants is busy made =
      let one : one_if (is_denied event) ≡ 1 = ap (λ (e : Event). one_if (is_denied e)) is in
      let less = one_less denials (omega (arith, one, may_deny)) in
      record {
        left = less.0;
        lives = kills;
        taken = event;
        turn = record {
          task = t;
          some = some;
          there = there;
          choice = inr (inr (inl (record {
            busy = busy;
            can = can;
            wants = wants;
            is = is;
            made = made;
            denials = less.1;
            kills = refl;
          })));
          row = row;
        };
        alike = refl;
        denied = omega (arith, one, less.1);
        killed = omega arith;
      }

  -- a step is denied
  refused : event ≡ Step t false → in_call w t ≡ true → v.made ≡ w.made → Goes script w denials kills event outcome v
  unfolding phase_of Row calls_of
  refused is busy made =
      let call = some_of ((as_state w.core).calls t) (busy_phase word_of ((as_state w.core).calls t) busy) in
      elim (wants_or_not (as_state w.core).pool t call.0) [
        | inl wants ↦ felt (task_state_wants (as_state w.core).pool t ((as_state w.core).calls t) call.0 call.1 wants) is busy made
        | inr not_wanted ↦ granted false is (
          (same_step (as_state w.core) t call.0 outcome (as_state v.core) call.1 not_wanted).0
              (subst (λ (e : Event). events.Row (as_state w.core) e outcome (as_state v.core)) is row.0),
          row.1,
        )
            busy made
      ]

  -- a step, granted or not
  stepped : (grant : Bool) → event ≡ Step t grant → in_call w t ≡ true → v.made ≡ w.made → Goes script w denials kills event outcome v
  stepped true is busy made = granted true is (subst (λ (e : Event). Row w.core e outcome v.core) is row) busy made
  stepped false is busy made = refused is busy made

  -- the task is killed
  slain : life_of w.core t ≡ life.Alive → event ≡ Kill t → v.made ≡ w.made → Goes script w denials kills event outcome v
  slain alive is made =
      let one : one_if (is_kill event) ≡ 1 = ap (λ (e : Event). one_if (is_kill e)) is in
      let less = one_less kills (omega (arith, one, may_kill)) in
      record {
        left = denials;
        lives = less.0;
        taken = event;
        turn = record {
          task = t;
          some = some;
          there = there;
          choice = inr (inr (inr (record {
            alive = alive;
            more = not_done (in_call w t) (next_call (plan_for script) w.made t) (WaitsFor w.core t None) _ can;
            is = is;
            made = made;
            denials = refl;
            kills = less.1;
          })));
          row = row;
        };
        alike = refl;
        denied = omega arith;
        killed = omega (arith, one, less.1);
      }

  -- a begin or a step
  called : (busy : Bool) (next : Option Op) (rng : Lcg) → in_call w t ≡ busy → next_call (plan_for script) w.made t ≡ next
      → event ≡ (call_choice busy next deny w.made t rng).event → v.made ≡ (call_choice busy next deny w.made t rng).made
      → Goes script w denials kills event outcome v
  called false (Some op) rng busy next is made = begun op next busy is made
  called false None rng busy next is made =
      none_to_begin (next_call (plan_for script) w.made t) _
      (subst (λ (b : Bool). MatchBool b (WaitsFor w.core t None) (IsTrue (may_begin (plan_for script) w t))) busy can) next
  called true next rng busy e is made = stepped (nat_le deny (word rng % 1000)) is busy made

  -- whatever the generator chose
  chosen : (never_kills hit : Bool) (rng : Lcg) → (hit ≡ true → life_of w.core t ≡ life.Alive)
      → (c : Choice)
      → c ≡ (if never_kills then call_choice (in_call w t) (next_call (plan_for script) w.made t) deny w.made t rng
      else (if hit then kill_choice w.made t (drawn rng)
      else call_choice (in_call w t) (next_call (plan_for script) w.made t) deny w.made t (drawn rng)))
      → event ≡ c.event → v.made ≡ c.made → Goes script w denials kills event outcome v
  chosen true hit rng alive c same is made =
      called (in_call w t) (next_call (plan_for script) w.made t) rng refl refl
      (is ∙ ap (λ (x : Choice). x.event) same) (made ∙ ap (λ (x : Choice). x.made) same)
  chosen false true rng alive c same is made =
      slain (alive refl) (is ∙ ap (λ (x : Choice). x.event) same) (made ∙ ap (λ (x : Choice). x.made) same)
  chosen false false rng alive c same is made =
      called (in_call w t) (next_call (plan_for script) w.made t) (drawn rng) refl refl
      (is ∙ ap (λ (x : Choice). x.event) same) (made ∙ ap (λ (x : Choice). x.made) same)

-- each turn of an explorer is a turn of a schedule
goes : (script : Script) (deny kill : ℕ) (w v : World) (denials kills : ℕ) (event : Event)
    → (turn : Turn (plan_of script deny kill) w event v) → one_if (is_denied event) ≤ denials → one_if (is_kill event) ≤ kills
    → Goes script w denials kills event turn.outcome v
goes script deny kill w v denials kills event turn may_deny may_kill =
    let plan = plan_of script deny kill in
    let below = mod_below (word w.rng) (length turn.tasks) turn.some in
    let place : ℕ = word w.rng % length turn.tasks in
    let t : ℕ = picked turn.tasks w.rng in
    let range = in_range plan w (length w.made) turn.tasks turn.runnable place 0 below in
    let can = all_can plan w (length w.made) turn.tasks turn.runnable place 0 below in
    let rng = drawn w.rng in
    chosen script deny kill w v denials kills event turn.outcome t range.0 range.1 can turn.row may_deny may_kill
    (kill == 0) (nat_lt (word rng % 1000) kill && is_alive (life_of w.core t)) rng
    (λ hit. alive_told (life_of w.core t) (second_true _ _ hit))
    (choice_of plan w turn.tasks) refl turn.chosen turn.made

-- a run that an audit stops isn't finished
not_found : {P : Type 0} (found : Finding) → Found found ≡ Finished → P
not_found found e = absurd (cc)

-- a run and a schedule up to here, and the run's rest
module _ (script : Script) (deny kill run : ℕ) (line : RunLine) (most_denials most_kills : ℕ) (first : CoreState)
    (opening : IsOpening script.config first) where
  -- they have the same moments, and enough is left for the rest
  record SoFar (made : List Moment) (w : World) (rest : List Event) : Type 0 where
    pub history : IsHistory first made
    pub last : last_of first made ≡ w.core
    pub moments : List Moment
    pub denials : ℕ
    pub kills : ℕ
    pub leads : Leads (plan_for script) (first_place script most_denials most_kills first) moments (at w denials kills)
    pub same : told moments ≡ told made
    pub denied : how_many is_denied rest ≤ denials
    pub killed : how_many is_kill rest ≤ kills

  -- nothing is left
  ends : (made : List Moment) (w : World) (rest : List Event) → SoFar made w rest → rest ≡ []
      → (line.finish ≡ Finished → all_done (plan_for script) w ≡ true)
      → IsScheduled script most_denials most_kills (events_of made ++ rest) line.finish
  ends made w rest so_far none done = record {
    first = first;
    made = made;
    run = record {
      opening = opening;
      history = so_far.history;
      made = sym (ap (λ (es : List Event). events_of made ++ es) none ∙ append-nil (events_of made));
    };
    moments = so_far.moments;
    last = at w so_far.denials so_far.kills;
    schedule = record { opening = opening; leads = so_far.leads };
    same = so_far.same;
    ended = λ finished. done_ends (plan_for script) (at w so_far.denials so_far.kills) (done finished);
  }

  -- one turn more
  abbrev moment : (w v : World) (event : Event) → Turn (plan_of script deny kill) w event v → Moment
  moment w v event turn = record { event = event; outcome = turn.outcome; core = v.core }

  more : (made : List Moment) (w v : World) (event : Event) (rest : List Event) → SoFar made w (event ∷ rest)
      → (turn : Turn (plan_of script deny kill) w event v) → SoFar (moment w v event turn ∷ made) v rest
  unfolding IsHistory Leads
  more made w v event rest so_far turn =
      let d = so_far.denied in
      let k = so_far.killed in
      let on = goes script deny kill w v so_far.denials so_far.kills event turn (omega (arith, d)) (omega (arith, k)) in
      let felt = on.denied in
      let slain = on.killed in
      record {
        history = (so_far.history, subst (λ (c : CoreState). Row c event turn.outcome v.core) (sym so_far.last) turn.row);
        last = refl;
        moments = record { event = on.taken; outcome = turn.outcome; core = v.core } ∷ so_far.moments;
        denials = on.left;
        kills = on.lives;
        leads = (at w so_far.denials so_far.kills, so_far.leads, refl, on.turn);
        same = λ i. (on.alike i, (turn.outcome, v.core)) ∷ so_far.same i;
        denied = omega (arith, d, felt);
        killed = omega (arith, k, slain);
      }

  -- the whole rest
  walk : (left : ℕ) (made : List Moment) (w : World) (rest : List Event) → SoFar made w rest
      → IsRun (plan_of script deny kill) run left w rest line
      → IsScheduled script most_denials most_kills (events_of made ++ rest) line.finish
  unfolding IsRun
  walk zero made w rest so_far (tasks, idle, none, is) =
      ends made w rest so_far none (λ finished. last_done (plan_for script) w tasks (sym (ap (λ (l : RunLine). l.finish) is) ∙ finished))
  walk (suc left) made w rest so_far (inl (idle, none, is)) =
      ends made w rest so_far none (λ finished. idle_done (plan_for script) w (sym (ap (λ (l : RunLine). l.finish) is) ∙ finished))
  walk (suc left) made w rest so_far (inr (event, others, v, events, turn, after)) =
      let on = more made w v event others (subst (SoFar made w) events so_far) turn in
      let now : List Moment = moment w v event turn ∷ made in
      let whole : IsScheduled script most_denials most_kills (events_of now ++ others) line.finish = elim after [
        | inl goes_on ↦ walk left now v others on goes_on.1
        | inr found ↦ ends now v others on found.2 (λ finished. not_found found.0 (sym (ap (λ (l : RunLine). l.finish) found.3) ∙ finished))
      ] in
      let spelled : events_of now ++ others ≡ events_of made ++ rest =
      append_assoc (events_of made) (event ∷ []) others ∙ ap (λ (es : List Event). events_of made ++ es) (sym events) in
      subst (λ (es : List Event). IsScheduled script most_denials most_kills es line.finish) spelled whole

-- each explored run is a schedule
pub scheduled : (script : Script) (seed deny kill run : ℕ) (events : List Event) (line : RunLine) (denials kills : ℕ)
    → IsExplored script seed deny kill run events line → how_many is_denied events ≤ denials → how_many is_kill events ≤ kills
    → IsScheduled script denials kills events line.finish
unfolding IsExplored IsHistory Leads
scheduled script seed deny kill run events line denials kills (w, start, runs) few_denials few_kills =
    walk script deny kill run line denials kills w.core start.core turn_limit [] w events
    record {
      history = tt;
      last = refl;
      moments = [];
      denials = denials;
      kills = kills;
      leads = λ i. record { core = w.core; made = start.made i; denials = denials; kills = kills };
      same = refl;
      denied = few_denials;
      killed = few_kills;
    }
    runs
