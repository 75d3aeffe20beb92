-- What a task does that changes nothing but where its call stands, and the turns of other tasks beside it.
use Rattle.std.proofs.Common.{◌≡◌, ◌≢◌, ◌∙◌, ℕ, ◌+◌, ◌≤◌, refl, ap, sym, subst, inl, inr, arith, List, [], ◌∷◌, length}
use Rattle.std.proofs.lemmas.List.{get_or-set_other, get_or-set_same, length-set, set_comm}
use Rattle.std.specs.Prelude.{◌-◌, ◌&&◌, Bool, true, false, IsTrue, MatchBool, Option, None, is_some, nat_le, slice_get}
use Rattle.std.specs.Prelude.{if◌then◌else◌, slice_index, slice_index_or, slice_set}
use Rattle.std.specs.List.{list_all}
use Rattle.std.specs.Option.{option_map}
use Rattle.std.proofs.lemmas.Bool.Decides.{nat_tests}
use Rattle.hp_base.proofs.Puts.{put_other, same_or_other}
use Rattle.hp_base.specs.declared.event.Event.{Event}
use Rattle.hp_base.specs.declared.event.Event.TheVariants.{Step}
use Rattle.hp_laws.specs.Laws.{IsOf}
use Rattle.hp_laws.proofs.Nearing.{others_stay}
use Rattle.hp_machine.specs.Events as events
use Rattle.hp_machine.specs.Events.{word_of}
use Rattle.hp_machine.specs.State.{State, is_dead}
use Rattle.hp_machine.specs.declared.call.Call.{Call}
use Rattle.hp_machine.specs.declared.outcome.Life.TheVariants.{Alive}
use Rattle.hp_machine.specs.declared.outcome.Outcome.{Outcome}
use Rattle.hp_machine.specs.declared.outcome.Outcome.TheVariants.{Blocked}
use Rattle.hp_core.specs.Readers.{life_of, phase_of}
use Rattle.hp_core.specs.Runs.{Row}
use Rattle.hp_core.specs.State.{CoreState, as_state, lives_of, task_state_at}
use Rattle.hp_core.specs.TaskStates.{with_task_state}
use Rattle.hp_core.specs.Waiting.{WaitsFor}
use Rattle.hp_core.specs.declared.task_state.TaskState.{TaskState}
use Rattle.hp_core.proofs.TaskStates.{at_false, at_true, calls_set, lives_same, seated}
use Rattle.hp_explore.specs.Schedule.{Plan, World, CanTurn, ended, in_call, is_over, may_begin, next_needs}
use Rattle.hp_text.specs.declared.needs.Need.{Need}
use Rattle.hp_every.specs.Eager.{IsCalm}
use Rattle.hp_every.specs.Schedules.{AnyTurn, Begins, IsTask, Place, Steps, world}
use Rattle.hp_every.proofs.Beside.{calling, row_before, row_beside}
use Rattle.hp_every.proofs.Ending.{first_true, second_true}

-- ---- a core with a call in flight

core_with : (s : CoreState) (t : ℕ) (c : Option Call) → life_of s t ≡ Alive
    → (n : CoreState) × (as_state n ≡ calling (as_state s) t c) × (n.sizes ≡ s.sizes)
unfolding life_of lives_of
core_with s t c alive =
    let seat = seated s.task_states t (ap is_dead alive) in
    let y : TaskState = record { life = (task_state_at s.task_states t).life; call = c } in
    let lives = lives_same s.task_states t y seat.0 seat.1 refl in
    let calls = calls_set s.task_states t y seat.0 seat.1 in (
      record s { task_states = with_task_state s.task_states t y },
      λ i. record (as_state s) { life = lives i; calls = calls i },
      refl,
    )

-- ---- deeds

-- an event of a task, its outcome, the call that it leaves in flight, and whether it begins one
pub record Deed : Type 0 where
  pub event : Event
  pub outcome : Outcome
  pub call : Option Call
  pub begins : Bool

-- how many calls each task has begun behind it
abbrev pub made_by : (begins : Bool) (t : ℕ) → List ℕ → List ℕ
made_by true t made = slice_set made (t - 1) (slice_index made (t - 1) + 1)
made_by false t made = made

-- the second place is the first with the deed done
pub record IsDone (p : Place) (t : ℕ) (d : Deed) (q : Place) : Type 0 where
  pub state : as_state q.core ≡ calling (as_state p.core) t d.call
  pub sizes : q.core.sizes ≡ p.core.sizes
  pub made : q.made ≡ made_by d.begins t p.made
  pub denials : q.denials ≡ p.denials
  pub kills : q.kills ≡ p.kills

pub done_there : (p : Place) (t : ℕ) (d : Deed) → life_of p.core t ≡ Alive → (q : Place) × IsDone p t d q
done_there p t d alive =
    let core = core_with p.core t d.call alive in (
      record p { core = core.0; made = made_by d.begins t p.made },
      record { state = core.1; sizes = core.2; made = refl; denials = refl; kills = refl },
    )

-- Where nothing is denied or killed, the deed is a turn of the task, and each turn of the task is the deed.
pub record MayDo (plan : Plan) (p : Place) (t : ℕ) (d : Deed) : Type 0 where
  pub there : IsTask p t
  pub can : CanTurn plan (world p) t
  pub alive : life_of p.core t ≡ Alive
  pub calm : IsCalm p
  pub turn : (q : Place) → IsDone p t d q → AnyTurn plan p d.event d.outcome q
  pub own : (event : Event) (outcome : Outcome) (q : Place) → (turn : AnyTurn plan p event outcome q) → turn.task ≡ t
      → (event ≡ d.event) × (outcome ≡ d.outcome) × IsDone p t d q

-- ---- how many calls of a task are over

pub both_true : (a b : Bool) → a ≡ true → b ≡ true → (a && b) ≡ true
both_true true b e d = d
both_true false b e d = absurd (cc)

-- what all pass that passes another test
all_too : (f g : Need → Bool) (xs : List Need) → ((x : Need) → f x ≡ true → g x ≡ true) → list_all f xs ≡ true → list_all g xs ≡ true
all_too f g [] on h = refl
all_too f g (x ∷ xs) on h =
    both_true (g x) (list_all g xs) (on x (first_true _ _ h)) (all_too f g xs on (second_true _ _ h))

-- no fewer pass
no_fewer : (n a b : ℕ) → a ≤ b → nat_le n a ≡ true → nat_le n b ≡ true
no_fewer n a b le e = grind (arith, nat_tests)

abbrev one_if : Bool → ℕ
one_if b = if b then 1 else 0

at_most_one : (b : Bool) → one_if b ≤ 1
at_most_one true = omega arith
at_most_one false = omega arith

-- places of other tasks
apart : (s u : ℕ) → 1 ≤ s → 1 ≤ u → s ≢ u → (s - 1) ≢ (u - 1)
apart s u a b h e = h (omega (arith, a, b, e))

-- who may begin by as many calls begun, and no fewer over
pub may_on : (plan : Plan) (w v : World) (t : ℕ) → slice_index v.made (t - 1) ≡ slice_index w.made (t - 1)
    → ((s : ℕ) → 1 ≤ s → ended w s ≤ ended v s) → may_begin plan w t ≡ true → may_begin plan v t ≡ true
may_on plan w v t same grows h =
    both_true _ _
    (ap (λ (k : ℕ). is_some (slice_get (slice_index_or plan.queues (t - 1) []) k)) same ∙ first_true _ _ h)
    (ap (λ (k : ℕ). list_all (is_over v) (slice_index_or (slice_index_or plan.needs (t - 1) []) k [])) same
    ∙ all_too (is_over w) (is_over v) (next_needs plan w.made t)
    (λ need over. no_fewer need.calls (ended w (need.place + 1)) (ended v (need.place + 1)) (grows (need.place + 1) (omega arith)) over)
    (second_true _ _ h))

-- what one task has begun is as many behind a deed of another
made_other : (b : Bool) (t s : ℕ) (made : List ℕ) → 1 ≤ t → 1 ≤ s → s ≢ t
    → slice_index (made_by b t made) (s - 1) ≡ slice_index made (s - 1)
made_other true t s made low some other = get_or-set_other made (t - 1) (s - 1) _ 0 (apart s t some low other)
made_other false t s made low some other = refl

made_long : (b : Bool) (t : ℕ) (made : List ℕ) → length (made_by b t made) ≡ length made
made_long true t made = length-set made (t - 1) _
made_long false t made = refl

-- and the deeds of two tasks may be done in either order
made_either : (b : Bool) (t u : ℕ) (made : List ℕ) → 1 ≤ t → 1 ≤ u → u ≢ t
    → made_by b t (made_by true u made) ≡ made_by true u (made_by b t made)
made_either true t u made low some other =
    ap (λ (n : ℕ). slice_set (made_by true u made) (t - 1) (n + 1)) (made_other true u t made some low (λ e. other (sym e)))
    ∙ (set_comm made (u - 1) (t - 1) _ _ (apart u t some low other)
    ∙ ap (λ (n : ℕ). slice_set (made_by true t made) (u - 1) (n + 1)) (sym (made_other true t u made low some other)))
made_either false t u made low some other = refl

-- ---- any turn

module _ (plan : Plan) (p q : Place) (event : Event) (outcome : Outcome) (calm : IsCalm p) (turn : AnyTurn plan p event outcome q) where
  -- it is a begin or a granted step
  pub by_turn : {P : Type 0} → (Begins plan p turn.task event q → P) → (Steps plan p turn.task event q → P) → P
  by_turn begins steps = elim turn.choice [
    | inl c ↦ begins c
    | inr (inl c) ↦ steps c
    | inr (inr (inl c)) ↦ (let left = c.denials in let none = calm.denials in absurd (omega (arith, left, none)))
    | inr (inr (inr c)) ↦ (let left = c.kills in let none = calm.kills in absurd (omega (arith, left, none)))
  ]

  of_none : (s : ℕ) → s ≢ turn.task → IsOf s event → ⊥
  of_none s h = by_turn
      (λ c. subst (λ (e : Event). IsOf s e → ⊥) (sym c.is) (λ d. h d))
      (λ c. subst (λ (e : Event). IsOf s e → ⊥) (sym c.is) (λ d. h d))

  pub stays : (s : ℕ) → s ≢ turn.task
      → ((as_state q.core).calls s ≡ (as_state p.core).calls s) × ((as_state q.core).life s ≡ (as_state p.core).life s)
  unfolding Row
  stays s h = others_stay (as_state p.core) (as_state q.core) event outcome s turn.row.0 (of_none s h)

  same_call : (s : ℕ) → s ≢ turn.task → in_call (world q) s ≡ in_call (world p) s
  unfolding phase_of
  same_call s h = ap (λ (o : Option Call). is_some (option_map word_of o)) (stays s h).0

  pub same_made : (s : ℕ) → 1 ≤ s → s ≢ turn.task → slice_index q.made (s - 1) ≡ slice_index p.made (s - 1)
  same_made s low h = by_turn
      (λ c. ap (λ (made : List ℕ). slice_index made (s - 1)) c.made ∙ made_other true turn.task s p.made turn.some low h)
      (λ c. ap (λ (made : List ℕ). slice_index made (s - 1)) c.made)

  same_long : length q.made ≡ length p.made
  same_long = by_turn
      (λ c. ap (λ (made : List ℕ). length made) c.made ∙ made_long true turn.task p.made)
      (λ c. ap (λ (made : List ℕ). length made) c.made)

  -- no fewer calls of any task are over
  pub grows : (s : ℕ) → 1 ≤ s → ended (world p) s ≤ ended (world q) s
  grows s low = elim (same_or_other s turn.task) [
    | inl e ↦ subst (λ (k : ℕ). ended (world p) k ≤ ended (world q) k) (sym e) its_own
    | inr h ↦ (let made = same_made s low h in
        let calls = ap one_if (same_call s h) in
        omega (arith, made, calls))
  ]
    where
      its_own : ended (world p) turn.task ≤ ended (world q) turn.task
      its_own = by_turn
          (λ c. (let now : slice_index q.made (turn.task - 1) ≡ slice_index p.made (turn.task - 1) + 1 =
          ap (λ (made : List ℕ). slice_index made (turn.task - 1)) c.made
          ∙ get_or-set_same p.made (turn.task - 1) _ 0 (let low = turn.some in let high = turn.there in omega (arith, low, high)) in
          let most = at_most_one (in_call (world q) turn.task) in
          omega (arith, now, most)))
          (λ c. (let now : slice_index q.made (turn.task - 1) ≡ slice_index p.made (turn.task - 1) =
          ap (λ (made : List ℕ). slice_index made (turn.task - 1)) c.made in
          let one : one_if (in_call (world p) turn.task) ≡ 1 = ap one_if c.busy in
          let most = at_most_one (in_call (world q) turn.task) in
          omega (arith, now, one, most)))

  pub still_calm : IsCalm q
  still_calm = record {
    denials = by_turn (λ c. c.denials) (λ c. c.denials) ∙ calm.denials;
    kills = by_turn (λ c. c.kills) (λ c. c.kills) ∙ calm.kills;
  }

  -- a task that it isn't of is there, and alive or not, as before
  module _ (t : ℕ) (other : turn.task ≢ t) where
    pub not_this : t ≢ turn.task
    not_this e = other (sym e)

    pub not_its : IsOf t event → ⊥
    not_its = of_none t not_this

    pub still_there : IsTask p t → IsTask q t
    still_there there = (there.0, subst (λ (n : ℕ). t ≤ n) (sym same_long) there.1)

    pub still_alive : life_of p.core t ≡ Alive → life_of q.core t ≡ Alive
    unfolding life_of
    still_alive alive = (stays t not_this).1 ∙ alive

    pub still_called : in_call (world q) t ≡ in_call (world p) t
    still_called = same_call t not_this

-- ---- a turn of another task may as well be made behind the deed

module _ (plan : Plan) (p q : Place) (t : ℕ) (d : Deed) (event : Event) (outcome : Outcome) (may : MayDo plan p t d)
    (turn : AnyTurn plan p event outcome q) (other : turn.task ≢ t) (p' q' : Place) (here : IsDone p t d p') (there : IsDone q t d q') where
  off : t ≢ turn.task
  off e = other (sym e)

  its : IsOf t event → ⊥
  its = not_its plan p q event outcome may.calm turn t other

  calls : in_call (world p') turn.task ≡ in_call (world p) turn.task
  unfolding phase_of
  calls = ap (λ (o : Option Call). is_some (option_map word_of o))
      (ap (λ (m : State). m.calls turn.task) here.state ∙ put_other (as_state p.core).calls t d.call turn.task other)

  made_off : slice_index p'.made (turn.task - 1) ≡ slice_index p.made (turn.task - 1)
  made_off = ap (λ (made : List ℕ). slice_index made (turn.task - 1)) here.made
      ∙ made_other d.begins t turn.task p.made may.there.0 turn.some other

  may_there : may_begin plan (world p) turn.task ≡ true → may_begin plan (world p') turn.task ≡ true
  may_there h = may_on plan (world p) (world p') turn.task made_off
      (grows plan p p' d.event d.outcome may.calm (may.turn p' here)) h

  -- whoever waits for nobody waits for nobody
  waits_there : WaitsFor p.core turn.task None → WaitsFor p'.core turn.task None
  unfolding WaitsFor Row life_of
  waits_there none = λ grant holder new row.
      let before : events.Row (calling (as_state p.core) t d.call) (Step turn.task grant) (Blocked holder) (as_state new) =
      subst (λ (m : State). events.Row m (Step turn.task grant) (Blocked holder) (as_state new)) here.state row.0 in
      let alive : life_of new t ≡ Alive =
      (others_stay (calling (as_state p.core) t d.call) (as_state new) (Step turn.task grant) (Blocked holder) t before off).1 ∙ may.alive in
      let back = core_with new t ((as_state p.core).calls t) alive in
      let was = row_before (as_state p.core) (as_state new) t d.call (Step turn.task grant) (Blocked holder) off before in
      none grant holder back.0 (
        subst (λ (m : State). events.Row (as_state p.core) (Step turn.task grant) (Blocked holder) m) (sym back.1) was,
        back.2 ∙ (row.1 ∙ here.sizes),
      )

  begins_there : Begins plan p turn.task event q → Begins plan p' turn.task event q'
  begins_there b = record {
    idle = calls ∙ b.idle;
    can = at_false (WaitsFor p'.core turn.task None) (IsTrue (may_begin plan (world p') turn.task)) (in_call (world p') turn.task)
        (calls ∙ b.idle)
        (may_there (subst (λ (x : Bool). MatchBool x (WaitsFor p.core turn.task None) (IsTrue (may_begin plan (world p) turn.task))) b.idle
        b.can));
    op = b.op;
    next = ap (λ (k : ℕ). slice_get (slice_index_or plan.queues (turn.task - 1) []) k) made_off ∙ b.next;
    is = b.is;
    made = there.made ∙ (ap (λ (made : List ℕ). made_by d.begins t made) b.made
        ∙ (made_either d.begins t turn.task p.made may.there.0 turn.some other
        ∙ ap (λ (made : List ℕ). made_by true turn.task made) (sym here.made)));
    denials = there.denials ∙ (b.denials ∙ sym here.denials);
    kills = there.kills ∙ (b.kills ∙ sym here.kills);
  }

  steps_there : Steps plan p turn.task event q → Steps plan p' turn.task event q'
  steps_there b = record {
    busy = calls ∙ b.busy;
    can = at_true (WaitsFor p'.core turn.task None) (IsTrue (may_begin plan (world p') turn.task)) (in_call (world p') turn.task)
        (calls ∙ b.busy)
        (waits_there (subst (λ (x : Bool). MatchBool x (WaitsFor p.core turn.task None) (IsTrue (may_begin plan (world p) turn.task))) b.busy
        b.can));
    is = b.is;
    made = there.made ∙ (ap (λ (made : List ℕ). made_by d.begins t made) b.made ∙ sym here.made);
    denials = there.denials ∙ (b.denials ∙ sym here.denials);
    kills = there.kills ∙ (b.kills ∙ sym here.kills);
  }

  pub turn_after : AnyTurn plan p' event outcome q'
  unfolding Row
  turn_after = record {
    task = turn.task;
    some = turn.some;
    there = subst (λ (n : ℕ). turn.task ≤ n) (sym (ap (λ (made : List ℕ). length made) here.made ∙ made_long d.begins t p.made)) turn.there;
    choice = by_turn plan p q event outcome may.calm turn (λ b. inl (begins_there b)) (λ b. inr (inl (steps_there b)));
    row = (
      subst (λ (m : State). events.Row m event outcome (as_state q'.core)) (sym here.state)
          (subst (λ (m : State). events.Row (calling (as_state p.core) t d.call) event outcome m) (sym there.state)
          (row_beside (as_state p.core) (as_state q.core) t d.call outcome event its turn.row.0)),
      there.sizes ∙ (turn.row.1 ∙ sym here.sizes),
    );
  }
