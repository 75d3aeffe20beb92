-- The begin of a task's next call, as what the task does.
use Rattle.std.proofs.Common.{◌≡◌, ◌≢◌, ◌∙◌, ℕ, refl, ap, sym, subst, inl, inr, arith}
use Rattle.std.specs.Prelude.{◌-◌, Bool, true, false, IsTrue, MatchBool, Option, None, Some, is_some, slice_get, slice_index_or, []}
use Rattle.std.specs.Option.{option_map}
use Rattle.hp_base.specs.declared.event.Op.{Op}
use Rattle.hp_base.specs.declared.event.Event.{Event}
use Rattle.hp_base.specs.declared.event.Event.TheVariants.{Begin}
use Rattle.hp_laws.proofs.Deciding.{clash, never, some_same}
use Rattle.hp_machine.specs.Events as events
use Rattle.hp_machine.specs.Events.{first, word_of}
use Rattle.hp_machine.specs.State.{is_dead, is_killed}
use Rattle.hp_machine.specs.declared.outcome.Outcome.{Outcome}
use Rattle.hp_machine.specs.declared.outcome.Outcome.TheVariants.{Begun}
use Rattle.hp_core.specs.Readers.{life_of, phase_of}
use Rattle.hp_core.specs.Runs.{Row}
use Rattle.hp_core.specs.State.{as_state}
use Rattle.hp_core.specs.Waiting.{WaitsFor}
use Rattle.hp_core.proofs.TaskStates.{at_false}
use Rattle.hp_explore.specs.Schedule.{Plan, in_call, may_begin, next_call}
use Rattle.hp_every.specs.Eager.{IsCalm, MayBegin}
use Rattle.hp_every.specs.Schedules.{AnyTurn, Place, world}
use Rattle.hp_every.proofs.Beside.{begun_row, row_begun}
use Rattle.hp_every.proofs.Deeds.{Deed, IsDone, MayDo, grows, made_by, may_on, not_this, same_made, still_alive, still_called, still_calm, still_there}
use Rattle.hp_every.proofs.Ending.{first_true}

none_of : {A B : Type 0} (f : A → B) (o : Option A) → is_some (option_map f o) ≡ false → o ≡ None
none_of f None e = refl
none_of f (Some x) e = never (sym e)

some_of : {A : Type 0} (o : Option A) → is_some o ≡ true → (x : A) × (o ≡ Some x)
some_of None e = never e
some_of (Some x) e = (x, refl)

-- the begin of that call
abbrev pub the_begin : ℕ → Op → Deed
the_begin t op = record { event = Begin t op; outcome = Begun; call = Some (first op); begins = true }

-- the task may begin it, and no step may be denied and no task killed
pub record MayBeginIt (plan : Plan) (t : ℕ) (op : Op) (p : Place) : Type 0 where
  pub may : MayBegin plan p t
  pub calm : IsCalm p
  pub next : next_call plan p.made t ≡ Some op

module _ (plan : Plan) (p : Place) (t : ℕ) (may : MayBegin plan p t) where
  may_test : may_begin plan (world p) t ≡ true
  may_test = subst (λ (b : Bool). MatchBool b (WaitsFor p.core t None) (IsTrue (may_begin plan (world p) t))) may.idle may.can

  -- the call that it begins
  pub the_op : (op : Op) × (next_call plan p.made t ≡ Some op)
  the_op = some_of (next_call plan p.made t) (first_true _ _ may_test)

  none_there : (as_state p.core).calls t ≡ None
  unfolding phase_of
  none_there = none_of word_of ((as_state p.core).calls t) may.idle

  lives : is_dead ((as_state p.core).life t) ≡ false
  unfolding life_of
  lives = ap is_dead may.alive

  not_killed : is_killed ((as_state p.core).life t) ≡ false
  unfolding life_of
  not_killed = ap is_killed may.alive

  -- it begins
  begin_turn : (op : Op) (q : Place) → next_call plan p.made t ≡ Some op → IsDone p t (the_begin t op) q → AnyTurn plan p (Begin t op) Begun q
  unfolding Row
  begin_turn op q next done = record {
    task = t;
    some = may.there.0;
    there = may.there.1;
    choice = inl (record {
      idle = may.idle;
      can = may.can;
      op = op;
      next = next;
      is = refl;
      made = done.made;
      denials = done.denials;
      kills = done.kills;
    });
    row = (begun_row (as_state p.core) (as_state q.core) t op Begun lives none_there not_killed done.state refl, done.sizes);
  }

  -- where nothing is denied or killed, no turn of the task is another
  its_turn : (op : Op) (event : Event) (outcome : Outcome) (q : Place) → next_call plan p.made t ≡ Some op → IsCalm p
      → (turn : AnyTurn plan p event outcome q) → turn.task ≡ t
      → (event ≡ Begin t op) × (outcome ≡ Begun) × IsDone p t (the_begin t op) q
  unfolding Row
  its_turn op event outcome q next calm turn its = elim turn.choice [
    | inl c ↦ (let ops : c.op ≡ op = some_same (sym c.next ∙ (ap (λ (u : ℕ). next_call plan p.made u) its ∙ next)) in
        let is : event ≡ Begin t op = c.is ∙ (λ i. Begin (its i) (ops i)) in
        let row = row_begun (as_state p.core) (as_state q.core) t op outcome lives none_there not_killed
        (subst (λ (e : Event). events.Row (as_state p.core) e outcome (as_state q.core)) is turn.row.0) in (
          is,
          row.0,
          record {
            state = row.1;
            sizes = turn.row.1;
            made = c.made ∙ ap (λ (u : ℕ). made_by true u p.made) its;
            denials = c.denials;
            kills = c.kills;
          },
        ))
    | inr (inl c) ↦ clash (in_call (world p) t) (sym (ap (λ (u : ℕ). in_call (world p) u) its) ∙ c.busy) may.idle
    | inr (inr (inl c)) ↦ (let left = c.denials in let none = calm.denials in absurd (omega (arith, left, none)))
    | inr (inr (inr c)) ↦ (let left = c.kills in let none = calm.kills in absurd (omega (arith, left, none)))
  ]

-- so the begin is what the task may do
pub begin_does : (plan : Plan) (t : ℕ) (op : Op) (p : Place) → MayBeginIt plan t op p → MayDo plan p t (the_begin t op)
begin_does plan t op p h = record {
  there = h.may.there;
  can = h.may.can;
  alive = h.may.alive;
  calm = h.calm;
  turn = λ q done. begin_turn plan p t h.may op q h.next done;
  own = λ event outcome q turn its. its_turn plan p t h.may op event outcome q h.next h.calm turn its;
}

-- and may still do behind a turn of another task
pub begin_stays : (plan : Plan) (t : ℕ) (op : Op) (p q : Place) (event : Event) (outcome : Outcome) → MayBeginIt plan t op p
    → (turn : AnyTurn plan p event outcome q) → turn.task ≢ t → MayBeginIt plan t op q
begin_stays plan t op p q event outcome h turn other =
    let calm = h.calm in
    let same = same_made plan p q event outcome calm turn t h.may.there.0 (not_this plan p q event outcome calm turn t other) in
    let idle : in_call (world q) t ≡ false = still_called plan p q event outcome calm turn t other ∙ h.may.idle in
    record {
      may = record {
        there = still_there plan p q event outcome calm turn t other h.may.there;
        idle = idle;
        can = at_false (WaitsFor q.core t None) (IsTrue (may_begin plan (world q) t)) (in_call (world q) t) idle
            (may_on plan (world p) (world q) t same (grows plan p q event outcome calm turn) (may_test plan p t h.may));
        alive = still_alive plan p q event outcome calm turn t other h.may.alive;
      };
      calm = still_calm plan p q event outcome calm turn;
      next = ap (λ (k : ℕ). slice_get (slice_index_or plan.queues (t - 1) []) k) same ∙ h.next;
    }
