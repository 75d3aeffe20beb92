-- A private step of a call, as what its task does.
use Rattle.std.proofs.Common.{◌≡◌, ◌≢◌, ◌∙◌, ℕ, refl, ap, sym, subst, inl, inr, arith, List}
use Rattle.std.specs.Prelude.{Bool, true, false, IsTrue, MatchBool, MatchOption, Option, None, Some, IsSomeAnd, is_some}
use Rattle.std.specs.Option.{option_map}
use Rattle.hp_base.specs.Numbers.{put}
use Rattle.hp_base.specs.declared.answer.Answer.{Answer}
use Rattle.hp_base.specs.declared.answer.Answer.TheVariants as answer
use Rattle.hp_base.specs.declared.event.Event.{Event}
use Rattle.hp_base.specs.declared.event.Event.TheVariants.{Step}
use Rattle.hp_base.specs.declared.mapping.Mapping.{Mapping}
use Rattle.hp_base.specs.Mappings.{find, first_base, is_base}
use Rattle.hp_laws.proofs.Deciding.{clash}
use Rattle.hp_laws.proofs.Reading.{step_of}
use Rattle.hp_machine.specs.Events as events
use Rattle.hp_machine.specs.Events.{CallRow, IsReached, StepRow, left, lives_after, outcome_of, word_of}
use Rattle.hp_machine.specs.State.{Pool, State, is_dead, is_killed, pool_of, with_pool}
use Rattle.hp_machine.specs.declared.call.Call.{Call}
use Rattle.hp_machine.specs.declared.call.Call.TheVariants as call
use Rattle.hp_machine.specs.declared.call.Turn as phases
use Rattle.hp_machine.specs.declared.call.Turn.TheVariants as turns
use Rattle.hp_machine.specs.declared.touch.Look.{Look}
use Rattle.hp_machine.specs.declared.touch.TouchPhase.{TouchPhase}
use Rattle.hp_machine.specs.declared.touch.TouchPhase.TheVariants as touch
use Rattle.hp_machine.specs.declared.alloc.Head.{Head}
use Rattle.hp_machine.specs.declared.alloc.AllocPhase.TheVariants as alloc
use Rattle.hp_machine.specs.declared.unmap.Start as unmap_start
use Rattle.hp_machine.specs.declared.unmap.UnmapPhase.TheVariants as unmap
use Rattle.hp_machine.specs.declared.exit.ExitPhase.TheVariants as exit
use Rattle.hp_machine.specs.declared.outcome.Life.{Life}
use Rattle.hp_machine.specs.declared.outcome.Outcome.{Outcome}
use Rattle.hp_machine.specs.declared.outcome.Outcome.TheVariants.{Blocked, Ended, Moved}
use Rattle.hp_machine.specs.declared.phase.Phase.{Phase}
use Rattle.hp_machine.specs.declared.phase.Phase.TheVariants as word
use Rattle.hp_core.specs.Readers.{life_of, phase_of}
use Rattle.hp_core.specs.Runs.{Row}
use Rattle.hp_core.specs.State.{as_state, calls_of}
use Rattle.hp_core.specs.Waiting.{WaitsFor}
use Rattle.hp_core.proofs.Holds.{reached_next}
use Rattle.hp_core.proofs.TaskStates.{at_false, at_true}
use Rattle.hp_explore.specs.Schedule.{CanTurn, Plan, in_call, may_begin}
use Rattle.hp_every.specs.Eager.{IsCalm, MayStepAlone}
use Rattle.hp_every.specs.Private.{IsPrivate}
use Rattle.hp_every.specs.Schedules.{AnyTurn, Place, world}
use Rattle.hp_every.proofs.Apart.{Lacks, begin_lacks, step_lacks}
use Rattle.hp_every.proofs.Beside.{at_none, at_some, calling}
use Rattle.hp_every.proofs.Deeds.{Deed, IsDone, MayDo, by_turn, not_this, stays, still_alive, still_calm, still_there}

-- ---- a row that looks at the mappings of its task alone

-- The call's step has that outcome and leaves that call, whether memory is granted or not, and the pool stays.
pub record OwnRow (s : Pool) (t : ℕ) (c : Call) (o : Outcome) (next : Option Call) : Type 0 where
  pub on : CallRow s t false true c o s next
  pub only : (grant : Bool) (u : Outcome) (new : Pool) (d : Option Call) → CallRow s t false grant c u new d
      → (u ≡ o) × (new ≡ s) × (d ≡ next)
  pub free : (holder : ℕ) → o ≡ Blocked holder → ⊥
  pub lives : (lives : ℕ → Life) → lives_after lives t c next ≡ lives

-- what a turn tells where its row is known
only_by : {P : Type 0} (call : P → Call) (wanted turn : phases.Turn P) (s new : Pool) (u : Outcome) (d : Option Call)
    → (turn ≡ wanted) × (new ≡ s) → u ≡ outcome_of call turn → d ≡ left call turn
    → (u ≡ outcome_of call wanted) × (new ≡ s) × (d ≡ left call wanted)
only_by call wanted turn s new u d r tells leaves = (tells ∙ ap (outcome_of call) r.0, r.1, leaves ∙ ap (left call) r.0)

-- the way that is taken where it is known which
way_none : {A : Type 0} (P : Type 0) (Q : A → Type 0) (o : Option A) → o ≡ None → MatchOption o P Q → P
way_none {A} P Q o e m = subst (λ (x : Option A). MatchOption x P Q) e m

way_some : {A : Type 0} (P : Type 0) (Q : A → Type 0) (o : Option A) (x : A) → o ≡ Some x → MatchOption o P Q → Q x
way_some {A} P Q o x e m = subst (λ (y : Option A). MatchOption y P Q) e m

way_test : (P Q : Type 0) (b c : Bool) → b ≡ c → MatchBool b P Q → MatchBool c P Q
way_test P Q b c e m = subst (λ (x : Bool). MatchBool x P Q) e m

next_want : Look → (ℕ × ℕ) → TouchPhase
next_want p place = touch.Want (record { touch = record { vpn = p.vpn; access = p.access; file = place.0; index = place.1 } })

-- what a step does by the mappings of its task: its outcome, and the call that it leaves
look_told : Look → Option (ℕ × ℕ) → Outcome × Option Call
look_told p None = (Ended answer.Segv, None)
look_told p (Some place) = (
  Moved word.Want,
  Some (call.Touch (next_want p place)),
)

unmap_told : (base : ℕ) → (there : Bool) → Outcome × Option Call
unmap_told base true = (Moved word.Clear, Some (call.Unmap (unmap.Clear (record { base = base }))))
unmap_told base false = (Ended answer.NotMapped, None)

exit_told : Option ℕ → Outcome × Option Call
exit_told None = (Moved word.Leave, Some (call.Exit exit.Leave))
exit_told (Some base) = (Moved word.Clear, Some (call.Exit (exit.Clear (record { base = base }))))

-- neither outcome is that a call is blocked
ended_free : (a : Answer) (holder : ℕ) → Ended a ≡ Blocked holder → ⊥
ended_free a holder e = absurd (cc)

moved_free : (p : Phase) (holder : ℕ) → Moved p ≡ Blocked holder → ⊥
moved_free p holder e = absurd (cc)

look_row : (s : Pool) (t : ℕ) (p : Look) (found : Option (ℕ × ℕ)) → s.entries t p.vpn ≡ None → find (s.mappings t) p.vpn ≡ found
    → OwnRow s t (call.Touch (touch.Look p)) (look_told p found).0 (look_told p found).1
unfolding CallRow look_told next_want
look_row s t p None none is = record {
  on = (turns.Ended answer.Segv, at_none _ _ _ is (refl, refl), refl, refl);
  only = λ grant u new d (turn, row, tells, leaves).
      only_by call.Touch (turns.Ended answer.Segv) turn s new u d (way_none _ _ _ is row) tells leaves;
  free = λ holder e. ended_free answer.Segv holder e;
  lives = λ lives. refl;
}
look_row s t p (Some place) none is = record {
  on = (turns.Moved (next_want p place), at_some _ _ _ place is (at_none _ _ _ none (refl, refl)), refl, refl);
  only = λ grant u new d (turn, row, tells, leaves).
      only_by call.Touch (turns.Moved (next_want p place)) turn s new u d (way_none _ _ _ none (way_some _ _ _ place is row)) tells leaves;
  free = λ holder e. moved_free word.Want holder e;
  lives = λ lives. refl;
}

head_told : Head → Outcome × Option Call
head_told p = (Moved word.Want, Some (call.Alloc (alloc.Want (record { allocation = p.allocation; index = p.index }))))

head_row : (s : Pool) (t : ℕ) (p : Head) → OwnRow s t (call.Alloc (alloc.Head p)) (head_told p).0 (head_told p).1
unfolding CallRow head_told
head_row s t p = record {
  on = (turns.Moved (alloc.Want (record { allocation = p.allocation; index = p.index })), (refl, refl), refl, refl);
  only = λ grant u new d (turn, row, tells, leaves).
      only_by call.Alloc (turns.Moved (alloc.Want (record { allocation = p.allocation; index = p.index }))) turn s new u d row tells leaves;
  free = λ holder e. moved_free word.Want holder e;
  lives = λ lives. refl;
}

unmap_row : (s : Pool) (t : ℕ) (p : unmap_start.Start) (there : Bool) → is_base (s.mappings t) p.base ≡ there
    → OwnRow s t (call.Unmap (unmap.Start p)) (unmap_told p.base there).0 (unmap_told p.base there).1
unfolding CallRow unmap_told
unmap_row s t p true is = record {
  on = (turns.Moved (unmap.Clear (record { base = p.base })), at_true _ _ _ is (refl, refl), refl, refl);
  only = λ grant u new d (turn, row, tells, leaves).
      only_by call.Unmap (turns.Moved (unmap.Clear (record { base = p.base }))) turn s new u d (way_test _ _ _ true is row) tells leaves;
  free = λ holder e. moved_free word.Clear holder e;
  lives = λ lives. refl;
}
unmap_row s t p false is = record {
  on = (turns.Ended answer.NotMapped, at_false _ _ _ is (refl, refl), refl, refl);
  only = λ grant u new d (turn, row, tells, leaves).
      only_by call.Unmap (turns.Ended answer.NotMapped) turn s new u d (way_test _ _ _ false is row) tells leaves;
  free = λ holder e. ended_free answer.NotMapped holder e;
  lives = λ lives. refl;
}

exit_row : (s : Pool) (t : ℕ) (base : Option ℕ) → first_base (s.mappings t) ≡ base
    → OwnRow s t (call.Exit exit.Start) (exit_told base).0 (exit_told base).1
unfolding CallRow exit_told
exit_row s t None is = record {
  on = (turns.Moved exit.Leave, at_none _ _ _ is (refl, refl), refl, refl);
  only = λ grant u new d (turn, row, tells, leaves).
      only_by call.Exit (turns.Moved exit.Leave) turn s new u d (way_none _ _ _ is row) tells leaves;
  free = λ holder e. moved_free word.Leave holder e;
  lives = λ lives. refl;
}
exit_row s t (Some base) is = record {
  on = (turns.Moved (exit.Clear (record { base = base })), at_some _ _ _ base is (refl, refl), refl, refl);
  only = λ grant u new d (turn, row, tells, leaves).
      only_by call.Exit (turns.Moved (exit.Clear (record { base = base }))) turn s new u d (way_some _ _ _ base is row) tells leaves;
  free = λ holder e. moved_free word.Clear holder e;
  lives = λ lives. refl;
}

-- of a private step; where a step isn't, nothing is said
pub told : List Mapping → Call → Outcome × Option Call
told mappings (call.Touch (touch.Look p)) = look_told p (find mappings p.vpn)
told mappings (call.Alloc (alloc.Head p)) = head_told p
told mappings (call.Unmap (unmap.Start p)) = unmap_told p.base (is_base mappings p.base)
told mappings (call.Exit exit.Start) = exit_told (first_base mappings)
told mappings other = (Blocked 0, Some other)

own_row : (s : Pool) (t : ℕ) (c : Call) → IsPrivate s t c → OwnRow s t c (told (s.mappings t) c).0 (told (s.mappings t) c).1
unfolding told
own_row s t (call.Touch (touch.Look p)) private = look_row s t p (find (s.mappings t) p.vpn) private refl
own_row s t (call.Alloc (alloc.Head p)) private = head_row s t p
own_row s t (call.Unmap (unmap.Start p)) private = unmap_row s t p (is_base (s.mappings t) p.base) refl
own_row s t (call.Exit exit.Start) private = exit_row s t (first_base (s.mappings t)) refl
own_row s t other private = absurd private

-- it stays private where another task makes a step
still_private : (s n : Pool) (t : ℕ) (c : Call) → Lacks s n t → IsPrivate s t c → IsPrivate n t c
still_private s n t (call.Touch (touch.Look p)) lacks private = lacks.entries p.vpn private
still_private s n t other lacks private = private

-- ---- a private step is what the task may do

abbrev pub the_step : ℕ → List Mapping → Call → Deed
the_step t mappings c = record {
  event = Step t true;
  outcome = (told mappings c).0;
  call = (told mappings c).1;
  begins = false;
}

-- the task may make it, and no step may be denied and no task killed
pub record MayStepIt (t : ℕ) (d : Deed) (p : Place) : Type 0 where
  pub may : MayStepAlone p t
  pub calm : IsCalm p
  pub reached : IsReached (as_state p.core)
  pub call : Call
  pub has : (as_state p.core).calls t ≡ Some call
  pub private : IsPrivate (pool_of (as_state p.core)) t call
  pub is : the_step t ((as_state p.core).mappings t) call ≡ d

-- the call of a task that may step alone
has_some : (s : Pool) (t : ℕ) (o : Option Call) → IsSomeAnd o (λ c. IsPrivate s t c) → (c : Call) × (o ≡ Some c) × IsPrivate s t c
has_some s t None h = absurd h
has_some s t (Some c) h = (c, refl, h)

pub step_there : (p : Place) (t : ℕ) → MayStepAlone p t → (c : Call) × ((as_state p.core).calls t ≡ Some c)
    × IsPrivate (pool_of (as_state p.core)) t c
unfolding calls_of
step_there p t may = has_some (pool_of (as_state p.core)) t ((as_state p.core).calls t) may.private

module _ (plan : Plan) (p : Place) (t : ℕ) (may : MayStepAlone p t) (c : Call) (has : (as_state p.core).calls t ≡ Some c)
    (private : IsPrivate (pool_of (as_state p.core)) t c) (calm : IsCalm p) where
  lives : is_dead ((as_state p.core).life t) ≡ false
  unfolding life_of
  lives = ap is_dead may.lives

  not_killed : is_killed ((as_state p.core).life t) ≡ false
  unfolding life_of
  not_killed = ap is_killed may.lives

  the_row : OwnRow (pool_of (as_state p.core)) t c (told ((as_state p.core).mappings t) c).0 (told ((as_state p.core).mappings t) c).1
  the_row = own_row (pool_of (as_state p.core)) t c private

  busy : in_call (world p) t ≡ true
  unfolding phase_of
  busy = ap (λ (o : Option Call). is_some (option_map word_of o)) has

  -- a step of the task is that
  step_is : (grant : Bool) (o : Outcome) (n : State) → StepRow (as_state p.core) t grant o n
      → (o ≡ (told ((as_state p.core).mappings t) c).0) × (n ≡ calling (as_state p.core) t (told ((as_state p.core).mappings t) c).1)
  step_is grant o n row =
      let r = step_of (as_state p.core) t grant c o n row lives has in
      let only = the_row.only grant o r.0 r.1
      (subst (λ (b : Bool). CallRow (pool_of (as_state p.core)) t b grant c o r.0 r.1) not_killed r.2) in
      let life = ap (lives_after (as_state p.core).life t c) only.2 ∙ the_row.lives (as_state p.core).life in (
        only.0,
        r.3 ∙ (λ i. record (with_pool (as_state p.core) (only.1 i)) { life = life i; calls = put (as_state p.core).calls t (only.2 i) }),
      )

  pub can : CanTurn plan (world p) t
  unfolding WaitsFor Row
  can = at_true (WaitsFor p.core t None) (IsTrue (may_begin plan (world p) t)) (in_call (world p) t) busy
      (λ grant holder new row. the_row.free holder (sym (step_is grant (Blocked holder) (as_state new) row.0).0))

  step_turn : (q : Place) → IsDone p t (the_step t ((as_state p.core).mappings t) c) q
      → AnyTurn plan p (Step t true) (told ((as_state p.core).mappings t) c).0 q
  unfolding Row StepRow
  step_turn q done = record {
    task = t;
    some = may.there.0;
    there = may.there.1;
    choice = inr (inl (record {
      busy = busy;
      can = can;
      is = refl;
      made = done.made;
      denials = done.denials;
      kills = done.kills;
    }));
    row = (
      at_false _ _ _ lives (at_some _ _ _ c has (
        pool_of (as_state p.core),
        (told ((as_state p.core).mappings t) c).1,
        subst (λ (b : Bool). CallRow (pool_of (as_state p.core)) t b true c (told ((as_state p.core).mappings t) c).0
            (pool_of (as_state p.core)) (told ((as_state p.core).mappings t) c).1) (sym not_killed) the_row.on,
        done.state ∙ (λ i. record (as_state p.core) {
          life = sym (the_row.lives (as_state p.core).life) i;
          calls = put (as_state p.core).calls t (told ((as_state p.core).mappings t) c).1;
        }),
      )),
      done.sizes,
    );
  }

  -- where nothing is denied or killed, no turn of the task is another
  its_step : (event : Event) (outcome : Outcome) (q : Place) → (turn : AnyTurn plan p event outcome q) → turn.task ≡ t
      → (event ≡ Step t true) × (outcome ≡ (told ((as_state p.core).mappings t) c).0)
      × IsDone p t (the_step t ((as_state p.core).mappings t) c) q
  unfolding Row
  its_step event outcome q turn its = elim turn.choice [
    | inl b ↦ clash (in_call (world p) t) busy (sym (ap (λ (u : ℕ). in_call (world p) u) its) ∙ b.idle)
    | inr (inl b) ↦ (let is : event ≡ Step t true = b.is ∙ (λ i. Step (its i) true) in
        let row = step_is true outcome (as_state q.core)
        (subst (λ (e : Event). events.Row (as_state p.core) e outcome (as_state q.core)) is turn.row.0) in (
          is,
          row.0,
          record { state = row.1; sizes = turn.row.1; made = b.made; denials = b.denials; kills = b.kills },
        ))
    | inr (inr (inl b)) ↦ (let left = b.denials in let none = calm.denials in absurd (omega (arith, left, none)))
    | inr (inr (inr b)) ↦ (let left = b.kills in let none = calm.kills in absurd (omega (arith, left, none)))
  ]

  may_step : MayDo plan p t (the_step t ((as_state p.core).mappings t) c)
  may_step = record {
    there = may.there;
    can = can;
    alive = may.lives;
    calm = calm;
    turn = step_turn;
    own = its_step;
  }

pub step_does : (plan : Plan) (t : ℕ) (d : Deed) (p : Place) → MayStepIt t d p → MayDo plan p t d
step_does plan t d p h = subst (λ (e : Deed). MayDo plan p t e) h.is (may_step plan p t h.may h.call h.has h.private h.calm)

-- behind a turn of another task
turn_lacks : (plan : Plan) (p q : Place) (t : ℕ) (event : Event) (outcome : Outcome) → IsCalm p → IsReached (as_state p.core)
    → (turn : AnyTurn plan p event outcome q) → turn.task ≢ t → Lacks (pool_of (as_state p.core)) (pool_of (as_state q.core)) t
unfolding Row
turn_lacks plan p q t event outcome calm reached turn other = by_turn plan p q event outcome calm turn
    (λ b. begin_lacks (as_state p.core) (as_state q.core) turn.task b.op outcome t
    (subst (λ (e : Event). events.Row (as_state p.core) e outcome (as_state q.core)) b.is turn.row.0))
    (λ b. step_lacks (as_state p.core) (as_state q.core) turn.task t true outcome reached
    (not_this plan p q event outcome calm turn t other)
    (subst (λ (e : Event). events.Row (as_state p.core) e outcome (as_state q.core)) b.is turn.row.0))

-- and may still do behind a turn of another task
pub step_stays : (plan : Plan) (t : ℕ) (d : Deed) (p q : Place) (event : Event) (outcome : Outcome) → MayStepIt t d p
    → (turn : AnyTurn plan p event outcome q) → turn.task ≢ t → MayStepIt t d q
unfolding Row calls_of
step_stays plan t d p q event outcome h turn other =
    let off = not_this plan p q event outcome h.calm turn t other in
    let lacks = turn_lacks plan p q t event outcome h.calm h.reached turn other in
    let has : (as_state q.core).calls t ≡ Some h.call = (stays plan p q event outcome h.calm turn t off).0 ∙ h.has in
    let private = still_private (pool_of (as_state p.core)) (pool_of (as_state q.core)) t h.call lacks h.private in
    record {
      may = record {
        there = still_there plan p q event outcome h.calm turn t other h.may.there;
        lives = still_alive plan p q event outcome h.calm turn t other h.may.lives;
        private = subst (λ (o : Option Call). IsSomeAnd o (λ c. IsPrivate (pool_of (as_state q.core)) t c)) (sym has) private;
      };
      calm = still_calm plan p q event outcome h.calm turn;
      reached = reached_next (as_state p.core) (as_state q.core) event outcome h.reached turn.row.0;
      call = h.call;
      has = has;
      private = private;
      is = ap (λ (ms : List Mapping). the_step t ms h.call) lacks.mappings ∙ h.is;
    }
