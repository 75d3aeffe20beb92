-- Who holds what behind an event, and who waits for whom then: where a task's call keeps what it held, all others wait for whom they
-- waited for.
use Rattle.std.proofs.Common.{◌≡◌, ℕ, refl, ap, sym, ◌∙◌, subst, inl, inr}
use Rattle.std.specs.Prelude.{Bool, true, false, ◌||◌, Option, None, Some, IfSome, ◌∷◌, [], ◌++◌, length, nat_le, if◌then◌else◌}
use Rattle.std.specs.Option.{option_map}
use Rattle.hp_base.proofs.Puts.{put_same, same_or_other}
use Rattle.hp_base.specs.declared.event.Op.{Op}
use Rattle.hp_base.specs.declared.event.Op.TheVariants as op
use Rattle.hp_base.specs.declared.event.Event.{Event}
use Rattle.hp_base.specs.declared.event.Event.TheVariants.{Begin, Step, Kill, Resize}
use Rattle.hp_machine.specs.State.{Geometry, Pool, State, pool_of, slot_of, is_dead, is_killed}
use Rattle.hp_machine.specs.Events as machine
use Rattle.hp_machine.specs.Events.{IsReached, word_of, first, opening}
use Rattle.hp_machine.specs.Views.{slot_held, locked_file}
use Rattle.hp_machine.specs.declared.call.Call.{Call}
use Rattle.hp_machine.specs.declared.call.Call.TheVariants as call
use Rattle.hp_machine.specs.declared.touch.TouchPhase.TheVariants as touch
use Rattle.hp_machine.specs.declared.map.MapPhase.TheVariants as map
use Rattle.hp_machine.specs.declared.alloc.AllocPhase.TheVariants as alloc
use Rattle.hp_machine.specs.declared.punch.PunchPhase.TheVariants as punch
use Rattle.hp_machine.specs.declared.truncate.TruncatePhase.TheVariants as truncate
use Rattle.hp_machine.specs.declared.outcome.Life.{Life}
use Rattle.hp_machine.specs.declared.outcome.Outcome.{Outcome}
use Rattle.hp_machine.specs.declared.outcome.Outcome.TheVariants.{Blocked}
use Rattle.hp_laws.specs.Laws.{IsOf}
use Rattle.hp_laws.proofs.Deciding.{never}
use Rattle.hp_laws.proofs.Nearing.{others_stay}
use Rattle.hp_laws.proofs.Reading.{begin_cases, step_cases, kill_cases}
use Rattle.hp_laws.proofs.Runs.{always, measures_stay}
use Rattle.hp_laws.proofs.Standing.{HasSlot, HasLock}
use Rattle.hp_parts.specs.State.{PartsState}
use Rattle.hp_parts.specs.View.{holders_of}
use Rattle.hp_slots.specs.Holders.{slot_number}
use Rattle.hp_core.specs.Blockers.{slot_blocker, lock_blocker, call_blocker, task_state_call_blocker, task_blocker, is_bad}
use Rattle.hp_core.specs.Holding.{held_by, holding_of}
use Rattle.hp_core.specs.Passing.{WaitOn, may_release, task_may_leave, task_may_pass}
use Rattle.hp_core.specs.Readers.{phase_of}
use Rattle.hp_core.specs.Runs.{Row}
use Rattle.hp_core.specs.State.{CoreState, as_state, task_state_at, calls_of, lives_of}
use Rattle.hp_core.specs.Waiting.{WaitsFor}
use Rattle.hp_core.specs.declared.holding.Holding.{Holding}
use Rattle.hp_core.proofs.Growing.{HeldOn, held_same, call_grows}
use Rattle.hp_core.proofs.Quiet.{call_keeps}
use Rattle.hp_core.proofs.Steps.{run_on}
use Rattle.hp_core.proofs.Waits.{nobody, step_blocks, step_held}

-- a call that begins holds nothing
first_holds_nothing : (p : Op) → held_by (Some (first p)) ≡ held_by None
first_holds_nothing (op.Map f i l) = refl
first_holds_nothing (op.MapNoReserve f i l) = refl
first_holds_nothing (op.Unmap b) = refl
first_holds_nothing (op.Load v) = refl
first_holds_nothing (op.Store v w) = refl
first_holds_nothing (op.Alloc f i l k) = refl
first_holds_nothing (op.Punch f i l) = refl
first_holds_nothing (op.Truncate f n) = refl
first_holds_nothing op.Exit = refl

-- so behind a begin the task holds what it held
begin_holds : (s n : State) (u : ℕ) (p : Op) (o : Outcome) → machine.BeginRow s u p o n → held_by (n.calls u) ≡ held_by (s.calls u)
begin_holds s n u p o row = begin_cases s u p o n (held_by (n.calls u) ≡ held_by (s.calls u)) row
    (λ why e d. ap (λ (m : State). held_by (m.calls u)) d)
    (λ lives none may e d. ap (λ (m : State). held_by (m.calls u)) d ∙ (ap held_by (put_same s.calls u (Some (first p)))
    ∙ (first_holds_nothing p ∙ ap held_by (sym none))))

-- What holds of what a call holds before and after its step holds of what a task's call holds before and after an event of that task:
-- no other event changes that.
by_event : (R : Holding → Holding → Type 0) → ((a b : Holding) → b ≡ a → R a b) → (s n : State) (event : Event) (o : Outcome) (t : ℕ)
    → machine.Row s event o n → ((u : ℕ) → IsOf u event → u ≡ t)
    → ((killed grant : Bool) (c : Call) (pool : Pool) (next : Option Call) → s.calls t ≡ Some c
    → machine.CallRow (pool_of s) t killed grant c o pool next → R (held_by (Some c)) (held_by next))
    → R (held_by (s.calls t)) (held_by (n.calls t))
by_event R same s n (Begin u p) o t row of step =
    subst (λ (k : ℕ). R (held_by (s.calls k)) (held_by (n.calls k))) (of u refl) (same _ _ (begin_holds s n u p o row))
by_event R same s n (Step u grant) o t row of step =
    subst (λ (k : ℕ). R (held_by (s.calls k)) (held_by (n.calls k))) (of u refl)
    (step_cases s u grant o n (R (held_by (s.calls u)) (held_by (n.calls u))) row
    (λ why e d. same _ _ (ap (λ (m : State). held_by (m.calls u)) d))
    (λ c lives e pool next r d.
    let after : held_by (n.calls u) ≡ held_by next = ap (λ (m : State). held_by (m.calls u)) d ∙ ap held_by (put_same s.calls u next) in
    subst (R (held_by (s.calls u))) (sym after)
    (subst (λ (h : Holding). R h (held_by next)) (ap held_by (sym e))
    (step _ grant c pool next (ap s.calls (sym (of u refl)) ∙ e)
    (subst (λ (k : ℕ). machine.CallRow (pool_of s) k (is_killed (s.life u)) grant c o pool next) (of u refl) r)))))
by_event R same s n (Kill u) o t row of step = same _ _ (kill_cases s u o n (held_by (n.calls t) ≡ held_by (s.calls t)) row
    (λ why e d. ap (λ (m : State). held_by (m.calls t)) d)
    (λ alive e d. ap (λ (m : State). held_by (m.calls t)) d))
by_event R same s n (Resize size) o t row of step = same _ _ (ap held_by (others_stay s n (Resize size) o t row (λ z. z)).0)

-- what a task's call holds stays where the word of its phase doesn't say otherwise
pub holding_stays : (s v : CoreState) (event : Event) (o : Outcome) (t : ℕ) → Row s event o v → ((u : ℕ) → IsOf u event → u ≡ t)
    → task_may_pass (phase_of s t) ≡ false → holding_of v t ≡ holding_of s t
unfolding Row holding_of phase_of
holding_stays s v event o t row of q =
    by_event (λ a b. b ≡ a) (λ a b e. e) (as_state s) (as_state v) event o t row.0 of
    (λ killed grant c pool next e r. call_keeps (pool_of (as_state s)) t killed grant c o pool next
    (ap (λ (x : Option Call). task_may_pass (option_map word_of x)) (sym e) ∙ q) r)

-- and what was held is held where its word doesn't say otherwise
pub holds_on : (s v : CoreState) (event : Event) (o : Outcome) (t : ℕ) → Row s event o v → ((u : ℕ) → IsOf u event → u ≡ t)
    → task_may_leave (phase_of s t) ≡ false → HeldOn (holding_of s t) (holding_of v t)
unfolding Row holding_of phase_of
holds_on s v event o t row of q =
    by_event HeldOn held_same (as_state s) (as_state v) event o t row.0 of
    (λ killed grant c pool next e r. call_grows (pool_of (as_state s)) t killed grant c o pool next
    (ap (λ (x : Option Call). task_may_leave (option_map word_of x)) (sym e) ∙ q) r)

-- an event leads from a reached state to one
pub reached_next : (s new : State) (e : Event) (o : Outcome) → IsReached s → machine.Row s e o new → IsReached new
reached_next s new e o reached row =
    let same = measures_stay s e o new (always s reached) row in
    let on = run_on (opening s.geometry reached.0) s new reached.1.0 e o reached.1.1 row in (
      reached.0,
      (
        reached.1.0 ++ (e, o) ∷ [],
        subst (λ (g : Geometry). machine.Run (opening g reached.0) (reached.1.0 ++ (e, o) ∷ []) new) (sym same) on,
      ),
    )

-- Two reached states of one geometry, in the second of which the calls hold all that they hold in the first: who holds a slot in
-- the first holds it in the second,
abbrev pub HoldOn : State → State → Type 0
HoldOn s v =
    record {
      reached : IsReached s;
      other : IsReached v;
      geometry : v.geometry ≡ s.geometry;
      held : (u : ℕ) → HeldOn (held_by (s.calls u)) (held_by (v.calls u));
    }

pub slot_kept : (s v : State) → HoldOn s v → (k u : ℕ) → s.slots k ≡ Some u → v.slots k ≡ Some u
slot_kept s v h k u e =
    let place = (always s h.reached).inv.holders.slot k u e in
    let there : slot_held (v.calls u) ≡ Some place.0 = (h.held u).slot place.0 place.1 in
    let has : v.slots (slot_of v.geometry place.0.0 place.0.1) ≡ Some u =
    subst (λ (o : Option (ℕ × ℕ)). IfSome o (λ p. HasSlot v.geometry v u p.0 p.1)) there ((always v h.other).inv.stands u).slot in
    subst (λ (n : ℕ). v.slots n ≡ Some u) (ap (λ (g : Geometry). slot_of g place.0.0 place.0.1) h.geometry ∙ place.2) has

-- and so of a lock
pub lock_kept : (s v : State) → HoldOn s v → (f u : ℕ) → s.locks f ≡ Some u → v.locks f ≡ Some u
lock_kept s v h f u e =
    let there : locked_file (v.calls u) ≡ Some f = (h.held u).lock f ((always s h.reached).inv.holders.lock f u e) in
    subst (λ (o : Option ℕ). IfSome o (λ file. HasLock v u file)) there ((always v h.other).inv.stands u).lock

-- An event of the task alone, behind which its call holds all that it held: so do all calls.
pub holds_on_all : (s v : CoreState) (event : Event) (o : Outcome) (t : ℕ) → IsReached (as_state s) → Row s event o v
    → ((u : ℕ) → IsOf u event → u ≡ t) → HeldOn (holding_of s t) (holding_of v t) → HoldOn (as_state s) (as_state v)
unfolding Row holding_of
holds_on_all s v event o t reached row of held = record {
  reached = reached;
  other = reached_next (as_state s) (as_state v) event o reached row.0;
  geometry = measures_stay (as_state s) event o (as_state v) (always (as_state s) reached) row.0;
  held = λ u. elim (same_or_other u t) [
    | inl e ↦ subst (λ (k : ℕ). HeldOn (held_by ((as_state s).calls k)) (held_by ((as_state v).calls k))) (sym e) held
    | inr other ↦ held_same _ _ (ap held_by (others_stay (as_state s) (as_state v) event o u row.0 (λ is. other (of u is))).0)
  ];
}

-- whom a task of this life, with this call, waits for
abbrev pub blocker : PartsState → Life → Option Call → Option ℕ
blocker p life o = if is_dead life then None else task_state_call_blocker p (is_killed life) o

-- parts with as many files and slots, in the second of which whoever holds something in the first holds it
abbrev pub KeepHolders : PartsState → PartsState → Type 0
KeepHolders p q = record {
  files : length q.files ≡ length p.files;
  many : length q.slots ≡ length p.slots;
  slots : (k h : ℕ) → holders_of p.slots k ≡ Some h → holders_of q.slots k ≡ Some h;
  locks : (f h : ℕ) → holders_of p.locks f ≡ Some h → holders_of q.locks f ≡ Some h;
}

still_if : (b : Bool) (x y : Option ℕ) → ((h : ℕ) → x ≡ Some h → y ≡ Some h) → (h : ℕ)
    → (if b then None else x) ≡ Some h → (if b then None else y) ≡ Some h
still_if true x y on h e = e
still_if false x y on h e = on h e

-- who is held up at a slot is held up there,
still_slot : (p q : PartsState) → KeepHolders p q → (f i h : ℕ) → slot_blocker p f i ≡ Some h → slot_blocker q f i ≡ Some h
unfolding holders_of
still_slot p q k f i h e =
    ap (λ (n : ℕ). holders_of q.slots (slot_number n f i)) k.many ∙ k.slots (slot_number (length p.slots) f i) h e

-- and who is at a lock
still_lock : (p q : PartsState) → KeepHolders p q → (killed : Bool) (f : ℕ) (bad : Bool) (h : ℕ)
    → lock_blocker p killed f bad ≡ Some h → lock_blocker q killed f bad ≡ Some h
unfolding holders_of
still_lock p q k killed f bad h e =
    ap (λ (n : ℕ). if nat_le n f || bad || killed then None else holders_of q.locks f) k.files
    ∙ still_if (nat_le (length p.files) f || bad || killed) (holders_of p.locks f) (holders_of q.locks f) (k.locks f) h e

-- so is the call
still_blocked : (p q : PartsState) → KeepHolders p q → (killed : Bool) (c : Call) (h : ℕ) → call_blocker p killed c ≡ Some h
    → call_blocker q killed c ≡ Some h
still_blocked p q k killed (call.Touch (touch.Want s)) h e = still_if killed _ _ (still_slot p q k s.touch.file s.touch.index) h e
still_blocked p q k killed (call.Map (map.Start s)) h e = still_lock p q k killed s.map.file (is_bad s.map.from s.map.len) h e
still_blocked p q k killed (call.Alloc (alloc.Start s)) h e =
    still_lock p q k killed s.allocation.file (is_bad s.allocation.from s.allocation.len) h e
still_blocked p q k killed (call.Alloc (alloc.Want s)) h e = still_if killed _ _ (still_slot p q k s.allocation.file s.index) h e
still_blocked p q k killed (call.Punch (punch.Start s)) h e = still_lock p q k killed s.hole.file (is_bad s.hole.from s.hole.len) h e
still_blocked p q k killed (call.Punch (punch.Want s)) h e = still_slot p q k s.hole.file s.index h e
still_blocked p q k killed (call.Truncate (truncate.Start s)) h e = still_lock p q k killed s.truncation.file _ h e
still_blocked p q k killed (call.Truncate (truncate.Want s)) h e = still_slot p q k s.truncation.file s.index h e
still_blocked p q k killed c h e = e

pub still_for : (p q : PartsState) → KeepHolders p q → (life : Life) (o : Option Call) (h : ℕ) → blocker p life o ≡ Some h
    → blocker q life o ≡ Some h
still_for p q k life None h e = e
still_for p q k life (Some c) h e = still_if (is_dead life) _ _ (still_blocked p q k (is_killed life) c) h e

-- so the parts of a core in which the calls hold on
pub keep_holders : (s v : CoreState) → HoldOn (as_state s) (as_state v) → KeepHolders s.parts v.parts
keep_holders s v h = record {
  files = ap (λ (g : Geometry). g.files) h.geometry;
  many = ap (λ (g : Geometry). g.slots) h.geometry;
  slots = slot_kept (as_state s) (as_state v) h;
  locks = lock_kept (as_state s) (as_state v) h;
}

-- a task waits for nobody exactly where the reader names nobody
pub names_nobody : (s : CoreState) (t : ℕ) → WaitsFor s t None → task_blocker s.parts (task_state_at s.task_states t) ≡ None
unfolding WaitsFor Row
names_nobody s t free = by (task_blocker s.parts (task_state_at s.task_states t)) refl
  where
    by : (o : Option ℕ) → task_blocker s.parts (task_state_at s.task_states t) ≡ o
        → task_blocker s.parts (task_state_at s.task_states t) ≡ None
    by None e = e
    by (Some h) e = absurd (free true h s (step_blocks s t true h e, refl))

pub waits_for_nobody : (s : CoreState) (t : ℕ) → task_blocker s.parts (task_state_at s.task_states t) ≡ None → WaitsFor s t None
unfolding WaitsFor Row
waits_for_nobody s t e =
    λ grant holder new row. nobody holder (sym e ∙ sym (step_held s t grant (Blocked holder) (as_state new) row.0))

-- a task waits for a holder exactly where the reader names that holder
pub names_holder : (s : CoreState) (t h : ℕ) → WaitsFor s t (Some h) → task_blocker s.parts (task_state_at s.task_states t) ≡ Some h
unfolding WaitsFor Row
names_holder s t h waits = sym (step_held s t true (Blocked h) (as_state s) (waits true).0)

pub waits_for_holder : (s : CoreState) (t h : ℕ) → task_blocker s.parts (task_state_at s.task_states t) ≡ Some h → WaitsFor s t (Some h)
unfolding WaitsFor Row
waits_for_holder s t h e = λ grant. (step_blocks s t grant h e, refl)

-- of two cores, in the second of which the calls hold all that they hold in the first, a task with the same call and life waits in the
-- second for whom it waits for in the first
pub keeps_waiting : (s v : CoreState) (t h : ℕ) → HoldOn (as_state s) (as_state v) → (as_state v).calls t ≡ (as_state s).calls t
    → (as_state v).life t ≡ (as_state s).life t → WaitsFor s t (Some h) → WaitsFor v t (Some h)
unfolding calls_of lives_of
keeps_waiting s v t h on calls life waits =
    let same : blocker v.parts (task_state_at v.task_states t).life (task_state_at v.task_states t).call
    ≡ blocker v.parts (task_state_at s.task_states t).life (task_state_at s.task_states t).call = λ i. blocker v.parts (life i) (calls i) in
    waits_for_holder v t h (same
    ∙ still_for s.parts v.parts (keep_holders s v on) (task_state_at s.task_states t).life (task_state_at s.task_states t).call h
    (names_holder s t h waits))

-- an event that may let nobody go on leaves all calls what they held
holds_after : (s v : CoreState) (event : Event) (o : Outcome) → IsReached (as_state s) → Row s event o v → may_release s event ≡ false
    → HoldOn (as_state s) (as_state v)
unfolding Row holding_of
holds_after s v (Begin u p) o reached row q =
    holds_on_all s v (Begin u p) o u reached row (λ k e. e) (held_same _ _ (begin_holds (as_state s) (as_state v) u p o row.0))
holds_after s v (Step u grant) o reached row q =
    holds_on_all s v (Step u grant) o u reached row (λ k e. e) (holds_on s v (Step u grant) o u row (λ k e. e) q)
holds_after s v (Kill u) o reached row q = never (sym q)
holds_after s v (Resize size) o reached row q =
    holds_on_all s v (Resize size) o 0 reached row (λ k e. absurd e)
    (held_same _ _ (ap held_by (others_stay (as_state s) (as_state v) (Resize size) o 0 row.0 (λ e. e)).0))

-- so whoever waited for a holder waits for it, but for the task whose event it was
pub waits_on : (s v : CoreState) (event : Event) (o : Outcome) → IsReached (as_state s) → Row s event o v → may_release s event ≡ false
    → WaitOn event s v
unfolding Row
waits_on s v event o reached row q =
    λ t h other waits.
    let stay = others_stay (as_state s) (as_state v) event o t row.0 other in
    keeps_waiting s v t h (holds_after s v event o reached row q) stay.0 stay.1 waits
