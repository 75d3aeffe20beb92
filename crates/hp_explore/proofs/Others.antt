-- A turn that leaves what its task's call holds leaves all other tasks as able to take one as they were.
use Rattle.std.proofs.Common.{◌≡◌, ◌≢◌, ℕ, zero, suc, ◌+◌, ◌-◌, ◌%◌, ◌≤◌, ◌<◌, refl, ap, sym, ◌∙◌, subst, arith, inl, inr}
use Rattle.std.specs.Prelude.{◌⊎◌, Bool, true, false, ◌||◌, ◌&&◌, ◌==◌, Option, None, Some, List, [], ◌∷◌, MatchBool}
use Rattle.std.specs.Prelude.{is_some, length, nat_le, nat_lt, if◌then◌else◌, slice_get, slice_index, slice_index_or}
use Rattle.std.specs.List.{All, list_all}
use Rattle.std.proofs.lemmas.Grind.{common_steps}
use Rattle.std.proofs.lemmas.List.{get_or-set_other}
use Rattle.std.proofs.lemmas.List.Elements.{All-append}
use Rattle.rand_pcg.specs.Lcg.{Lcg}
use Rattle.hp_base.proofs.Puts.{same_or_other}
use Rattle.hp_base.specs.declared.event.Op.{Op}
use Rattle.std.specs.Option.{option_map}
use Rattle.hp_base.specs.declared.event.Event.{Event}
use Rattle.hp_machine.specs.State.{Geometry, State, is_dead, is_killed}
use Rattle.hp_machine.specs.Events.{IsReached, word_of}
use Rattle.hp_machine.specs.declared.call.Call.{Call}
use Rattle.hp_machine.specs.declared.call.Call.TheVariants as call
use Rattle.hp_machine.specs.declared.touch.TouchPhase.TheVariants as touch
use Rattle.hp_machine.specs.declared.map.MapPhase.TheVariants as map
use Rattle.hp_machine.specs.declared.alloc.AllocPhase.TheVariants as alloc
use Rattle.hp_machine.specs.declared.punch.PunchPhase.TheVariants as punch
use Rattle.hp_machine.specs.declared.truncate.TruncatePhase.TheVariants as truncate
use Rattle.hp_machine.specs.declared.outcome.Life.{Life}
use Rattle.hp_machine.specs.declared.outcome.Outcome.{Outcome}
use Rattle.hp_laws.specs.Laws.{IsOf}
use Rattle.hp_laws.proofs.Nearing.{others_stay}
use Rattle.hp_parts.specs.State.{PartsState}
use Rattle.hp_parts.specs.View.{holders_of}
use Rattle.hp_slots.specs.Holders.{slot_number}
use Rattle.hp_core.specs.Blockers.{slot_blocker, lock_blocker, call_blocker, is_bad}
use Rattle.hp_core.specs.Holding.{held_by, holding_of}
use Rattle.hp_core.specs.Readers.{phase_of}
use Rattle.hp_core.specs.Runs.{Row}
use Rattle.hp_core.specs.State.{CoreState, as_state, task_state_at, calls_of, lives_of}
use Rattle.hp_core.specs.Waiting.{WaitsFor}
use Rattle.hp_core.proofs.Growing.{HeldOn, held_same}
use Rattle.hp_core.proofs.Holds.{HoldOn, blocker, holds_on_all, lock_kept, names_nobody, slot_kept, waits_for_nobody}
use Rattle.hp_text.specs.declared.needs.Need.{Need}
use Rattle.hp_explore.specs.Schedule.{Plan, World, Choice, CanTurn, AreRunnable, AreRunnableOf, in_call, next_call, word, drawn}
use Rattle.hp_explore.specs.Schedule.{may_begin, next_needs, is_over}
use Rattle.hp_explore.specs.Schedule.{call_choice, kill_choice, step_choice, task_choice}

-- two states of which the calls hold the same
abbrev HoldAlike : State → State → Type 0
HoldAlike s v = HoldOn s v × HoldOn v s

turned : (s v : State) → HoldAlike s v → HoldAlike v s
turned s v h = (h.1, h.0)

-- options that have a value where the other has it are the same
same_option : (a b : Option ℕ) → ((u : ℕ) → a ≡ Some u → b ≡ Some u) → ((u : ℕ) → b ≡ Some u → a ≡ Some u) → b ≡ a
same_option None None there back = refl
same_option None (Some u) there back = sym (back u refl)
same_option (Some u) b there back = there u refl

same_slots : (s v : State) → HoldAlike s v → (k : ℕ) → v.slots k ≡ s.slots k
same_slots s v h k = same_option (s.slots k) (v.slots k) (slot_kept s v h.0 k) (slot_kept v s h.1 k)

same_locks : (s v : State) → HoldAlike s v → (f : ℕ) → v.locks f ≡ s.locks f
same_locks s v h f = same_option (s.locks f) (v.locks f) (lock_kept s v h.0 f) (lock_kept v s h.1 f)

-- parts with as many files and slots, and with the same holders
abbrev AreHeldAlike : PartsState → PartsState → Type 0
AreHeldAlike p q =
    record {
      files : length q.files ≡ length p.files;
      many : length q.slots ≡ length p.slots;
      slots : (k : ℕ) → holders_of q.slots k ≡ holders_of p.slots k;
      locks : (f : ℕ) → holders_of q.locks f ≡ holders_of p.locks f;
    }

-- in them the same task holds up who wants a slot,
same_slot : (p q : PartsState) → AreHeldAlike p q → (f i : ℕ) → slot_blocker q f i ≡ slot_blocker p f i
unfolding holders_of
same_slot p q h f i =
    h.slots (slot_number (length q.slots) f i) ∙ ap (λ (n : ℕ). holders_of p.slots (slot_number n f i)) h.many

unless_killed : (p q : PartsState) → AreHeldAlike p q → (killed : Bool) (f i : ℕ)
    → (if killed then None else slot_blocker q f i) ≡ (if killed then None else slot_blocker p f i)
unless_killed p q h killed f i = ap (λ (o : Option ℕ). if killed then None else o) (same_slot p q h f i)

-- and who wants a lock
same_lock : (p q : PartsState) → AreHeldAlike p q → (killed : Bool) (f : ℕ) (bad : Bool)
    → lock_blocker q killed f bad ≡ lock_blocker p killed f bad
unfolding holders_of
same_lock p q h killed f bad =
    ap (λ (n : ℕ). if nat_le n f || bad || killed then None else holders_of q.locks f) h.files
    ∙ ap (λ (o : Option ℕ). if nat_le (length p.files) f || bad || killed then None else o) (h.locks f)

-- so a call has the same blocker
same_blocker : (p q : PartsState) → AreHeldAlike p q → (killed : Bool) (c : Call) → call_blocker q killed c ≡ call_blocker p killed c
same_blocker p q h killed (call.Touch (touch.Want s)) = unless_killed p q h killed s.touch.file s.touch.index
same_blocker p q h killed (call.Map (map.Start s)) = same_lock p q h killed s.map.file (is_bad s.map.from s.map.len)
same_blocker p q h killed (call.Alloc (alloc.Start s)) =
    same_lock p q h killed s.allocation.file (is_bad s.allocation.from s.allocation.len)
same_blocker p q h killed (call.Alloc (alloc.Want s)) = unless_killed p q h killed s.allocation.file s.index
same_blocker p q h killed (call.Punch (punch.Start s)) = same_lock p q h killed s.hole.file (is_bad s.hole.from s.hole.len)
same_blocker p q h killed (call.Punch (punch.Want s)) = same_slot p q h s.hole.file s.index
same_blocker p q h killed (call.Truncate (truncate.Start s)) = same_lock p q h killed s.truncation.file _
same_blocker p q h killed (call.Truncate (truncate.Want s)) = same_slot p q h s.truncation.file s.index
same_blocker p q h killed c = refl

same_for : (p q : PartsState) → AreHeldAlike p q → (life : Life) (o : Option Call) → blocker q life o ≡ blocker p life o
same_for p q h life None = refl
same_for p q h life (Some c) = ap (λ (o : Option ℕ). if is_dead life then None else o) (same_blocker p q h (is_killed life) c)

-- so of two cores whose calls hold the same, a task with the same call and life waits for nobody in both
waits_alike : (s v : CoreState) (t : ℕ) → HoldAlike (as_state s) (as_state v) → (as_state v).calls t ≡ (as_state s).calls t
    → (as_state v).life t ≡ (as_state s).life t → WaitsFor s t None → WaitsFor v t None
unfolding calls_of lives_of
waits_alike s v t h calls life free =
    let parts : AreHeldAlike s.parts v.parts = record {
      files = ap (λ (g : Geometry). g.files) h.0.geometry;
      many = ap (λ (g : Geometry). g.slots) h.0.geometry;
      slots = same_slots (as_state s) (as_state v) h;
      locks = same_locks (as_state s) (as_state v) h;
    } in
    let own = same_for s.parts v.parts parts (task_state_at v.task_states t).life (task_state_at v.task_states t).call in
    let task_state : blocker s.parts (task_state_at v.task_states t).life (task_state_at v.task_states t).call
    ≡ blocker s.parts (task_state_at s.task_states t).life (task_state_at s.task_states t).call = λ i. blocker s.parts (life i) (calls i) in
    waits_for_nobody v t (own ∙ task_state ∙ names_nobody s t free)

-- a choice of the task is an event of it alone
of_call : (busy : Bool) (next : Option Op) (deny : ℕ) (made : List ℕ) (t : ℕ) (rng : Lcg) (u : ℕ)
    → IsOf u (call_choice busy next deny made t rng).event → u ≡ t
of_call false (Some op) deny made t rng u h = h
of_call false None deny made t rng u h = h
of_call true next deny made t rng u h = h

of_either : (b : Bool) (x y : Choice) (t u : ℕ) → (IsOf u x.event → u ≡ t) → (IsOf u y.event → u ≡ t)
    → IsOf u (if b then x else y).event → u ≡ t
of_either true x y t u first second h = first h
of_either false x y t u first second h = second h

pub of_choice : (plan : Plan) (busy alive : Bool) (made : List ℕ) (t : ℕ) (rng : Lcg) (u : ℕ)
    → IsOf u (task_choice plan busy alive made t rng).event → u ≡ t
of_choice plan busy alive made t rng u =
    let next = next_call plan made t in
    let killed = kill_choice made t (drawn rng) in
    let other = call_choice busy next plan.deny made t (drawn rng) in
    let test = nat_lt (word rng % 1000) plan.kill && alive in
    of_either (plan.kill == 0) (call_choice busy next plan.deny made t rng) (if test then killed else other) t u
    (of_call busy next plan.deny made t rng u)
    (of_either test killed other t u (λ h. h) (of_call busy next plan.deny made t (drawn rng) u))

-- it leaves the calls that other tasks have begun
abbrev pub LeavesOthers : (made : List ℕ) (t : ℕ) → Choice → Type 0
LeavesOthers made t choice =
    record {
      long : length choice.made ≡ length made;
      others : (k : ℕ) → k ≢ t - 1 → slice_index choice.made k ≡ slice_index made k;
    }

leaves_all : (made : List ℕ) (t : ℕ) (choice : Choice) → choice.made ≡ made → LeavesOthers made t choice
leaves_all made t choice e = record {
  long = ap (λ (m : List ℕ). length m) e;
  others = λ k other. ap (λ (m : List ℕ). slice_index m k) e;
}

call_leaves : (busy : Bool) (next : Option Op) (deny : ℕ) (made : List ℕ) (t : ℕ) (rng : Lcg)
    → LeavesOthers made t (call_choice busy next deny made t rng)
call_leaves false (Some op) deny made t rng = record {
  long = grind (arith, common_steps);
  others = λ k other. get_or-set_other made (t - 1) k (slice_index made (t - 1) + 1) _ other;
}
call_leaves false None deny made t rng = leaves_all made t (step_choice deny made t rng) refl
call_leaves true next deny made t rng = leaves_all made t (step_choice deny made t rng) refl

either_leaves : (made : List ℕ) (t : ℕ) (b : Bool) (x y : Choice) → LeavesOthers made t x → LeavesOthers made t y
    → LeavesOthers made t (if b then x else y)
either_leaves made t true x y first second = first
either_leaves made t false x y first second = second

pub choice_leaves : (plan : Plan) (busy alive : Bool) (made : List ℕ) (t : ℕ) (rng : Lcg)
    → LeavesOthers made t (task_choice plan busy alive made t rng)
choice_leaves plan busy alive made t rng =
    let next = next_call plan made t in
    let killed = kill_choice made t (drawn rng) in
    let other = call_choice busy next plan.deny made t (drawn rng) in
    let test = nat_lt (word rng % 1000) plan.kill && alive in
    either_leaves made t (plan.kill == 0) (call_choice busy next plan.deny made t rng) (if test then killed else other)
    (call_leaves busy next plan.deny made t rng)
    (either_leaves made t test killed other (leaves_all made t killed refl) (call_leaves busy next plan.deny made t (drawn rng)))

-- and where it holds the same, the calls hold the same
held_alike : (s v : CoreState) (event : Event) (o : Outcome) (t : ℕ) → IsReached (as_state s) → Row s event o v
    → ((u : ℕ) → IsOf u event → u ≡ t) → holding_of v t ≡ holding_of s t → HoldAlike (as_state s) (as_state v)
unfolding Row holding_of
held_alike s v event o t reached row of held =
    let on : HoldOn (as_state s) (as_state v) = holds_on_all s v event o t reached row of (held_same _ _ held) in (
      on,
      record {
        reached = on.other;
        other = on.reached;
        geometry = sym on.geometry;
        held = λ u. elim (same_or_other u t) [
          | inl e ↦ subst (λ (k : ℕ). HeldOn (held_by ((as_state v).calls k)) (held_by ((as_state s).calls k))) (sym e)
              (held_same _ _ (sym held))
          | inr other ↦ held_same _ _ (sym (ap held_by (others_stay (as_state s) (as_state v) event o u row.0 (λ is. other (of u is))).0))
        ];
      },
    )

-- a task that can take a turn can take one where it is the same
pub can_same : {A B C D : Type 0} (b c : Bool) → c ≡ b → (A → B) → (C → D) → MatchBool b A C → MatchBool c B D
can_same true true e f g h = f h
can_same false false e f g h = g h
can_same true false e f g h = absurd (cc)
can_same false true e f g h = absurd (cc)

still_can : (plan : Plan) (w v : World) (t : ℕ) → HoldAlike (as_state w.core) (as_state v.core)
    → (as_state v.core).calls t ≡ (as_state w.core).calls t → (as_state v.core).life t ≡ (as_state w.core).life t
    → may_begin plan v t ≡ may_begin plan w t → CanTurn plan w t → CanTurn plan v t
unfolding phase_of
still_can plan w v t h calls life begins can =
    can_same (in_call w t) (in_call v t) (ap (λ (c : Option Call). is_some (option_map word_of c)) calls)
    (waits_alike w.core v.core t h calls life) (λ may. begins ∙ may) can

-- the list of the tasks that can take a turn is the same where they are the same
listed_alike : (plan : Plan) (w v : World) (n : ℕ) (tasks : List ℕ)
    → ((t : ℕ) → 1 ≤ t → t ≤ n → CanTurn plan w t → CanTurn plan v t)
    → ((t : ℕ) → 1 ≤ t → t ≤ n → CanTurn plan v t → CanTurn plan w t)
    → AreRunnableOf plan w n tasks → AreRunnableOf plan v n tasks
unfolding AreRunnableOf
listed_alike plan w v zero tasks on back h = h
listed_alike plan w v (suc n) tasks on back (front, before, last) =
    let rest = listed_alike plan w v n front (λ t one within. on t one (omega (arith, within)))
    (λ t one within. back t one (omega (arith, within))) before in (
      front,
      rest,
      elim last [
        | inl l ↦ inl (on (suc n) (omega arith) (omega arith) l.0, l.1)
        | inr l ↦ inr ((λ can. l.0 (back (suc n) (omega arith) (omega arith) can)), l.1)
      ],
    )

-- each task of the list can take a turn
pub all_can : (plan : Plan) (w : World) (n : ℕ) (tasks : List ℕ) → AreRunnableOf plan w n tasks → All (CanTurn plan w) tasks
unfolding AreRunnableOf
all_can plan w zero tasks h = subst (All (CanTurn plan w)) (sym h) (λ k d within. absurd (omega (arith, within)))
all_can plan w (suc n) tasks (front, before, inl last) =
    subst (All (CanTurn plan w)) (sym last.1) (All-append (CanTurn plan w) front (suc n ∷ []) (all_can plan w n front before) one)
  where
    one : All (CanTurn plan w) (suc n ∷ [])
    one zero d l = last.0
    one (suc k) d l = absurd (omega (arith, l))
all_can plan w (suc n) tasks (front, before, inr last) = subst (All (CanTurn plan w)) (sym last.1) (all_can plan w n front before)

-- what holds of all of a list holds of what is read from it
pub at_index : (P : ℕ → Type 0) (xs : List ℕ) (k x : ℕ) → x ≡ slice_index xs k → All P xs → k < length xs → P x
at_index P xs k x is all within = subst P (sym is) (all k 0 within)

-- as many tasks have calls after a choice as before it
pub long_after : (plan : Plan) (busy alive : Bool) (made : List ℕ) (t : ℕ) (rng : Lcg)
    → length (task_choice plan busy alive made t rng).made ≡ length made
long_after plan busy alive made t rng = (choice_leaves plan busy alive made t rng).long

-- the calls that another task has left stay
pub next_stays : (plan : Plan) (w v : World) (made : List ℕ) (t u : ℕ) (choice : Choice) → LeavesOthers made t choice → v.made ≡ choice.made
    → made ≡ w.made → 1 ≤ t → 1 ≤ u → u ≢ t → next_call plan v.made u ≡ next_call plan w.made u
next_stays plan w v made t u choice leaves begun same_made one above other =
    let at : slice_index v.made (u - 1) ≡ slice_index w.made (u - 1) =
    ap (λ (m : List ℕ). slice_index m (u - 1)) begun ∙ leaves.others (u - 1) (λ e. other (omega (arith, e, above, one)))
    ∙ ap (λ (m : List ℕ). slice_index m (u - 1)) same_made in
    ap (λ (n : ℕ). slice_get (slice_index_or plan.queues (u - 1) []) n) at

-- a choice of a task whose call is in flight begins none
keeps_made : (busy alive : Bool) (plan : Plan) (made : List ℕ) (t : ℕ) (rng : Lcg) → busy ≡ true
    → (task_choice plan busy alive made t rng).made ≡ made
keeps_made busy alive plan made t rng flight =
    ap (λ (b : Bool). (task_choice plan b alive made t rng).made) flight ∙ by (plan.kill == 0)
    (nat_lt (word rng % 1000) plan.kill && alive)
  where
    by : (none killed : Bool)
        → (if none then call_choice true (next_call plan made t) plan.deny made t rng
        else (if killed then kill_choice made t (drawn rng) else call_choice true (next_call plan made t) plan.deny made t
        (drawn rng))).made ≡ made
    by true killed = refl
    by false true = refl
    by false false = refl

-- a task's calls may be begun as before, where no task has begun or ended one
alike_begins : (plan : Plan) (w v : World) (t : ℕ) → v.made ≡ w.made → ((u : ℕ) → in_call v u ≡ in_call w u)
    → may_begin plan v t ≡ may_begin plan w t
alike_begins plan w v t made flight =
    λ i. is_some (next_call plan (made i) t)
    && list_all (λ need. nat_le need.calls (slice_index (made i) (need.place + 1 - 1)
    - (if flight (need.place + 1) i then 1 else 0))) (next_needs plan (made i) t)

-- or where no call waits
free_begins : (plan : Plan) (w v : World) (t : ℕ) → plan.needs ≡ [] → next_call plan v.made t ≡ next_call plan w.made t
    → may_begin plan v t ≡ may_begin plan w t
free_begins plan w v t none next = free v ∙ (ap (λ (o : Option Op). is_some o && true) next ∙ sym (free w))
  where
    free : (x : World) → may_begin plan x t ≡ (is_some (next_call plan x.made t) && true)
    free x =
        ap (λ (ns : List (List (List Need))). is_some (next_call plan x.made t)
        && list_all (is_over x) (slice_index_or (slice_index_or ns (t - 1) []) (slice_index x.made (t - 1)) [])) none

-- A turn ends no call for which others wait: no call waits, or the task's call is in flight before it and behind it.
abbrev pub EndsNone : Plan → (busy : Bool) → World → (task : ℕ) → Type 0
EndsNone plan busy v t = (plan.needs ≡ []) ⊎ ((busy ≡ true) × (in_call v t ≡ true))

-- then another task may begin a call where it might before
pub begins_on : (plan : Plan) (w v : World) (made : List ℕ) (t u : ℕ) (busy alive : Bool) (rng : Lcg) → EndsNone plan busy v t
    → made ≡ w.made → busy ≡ in_call w t → v.made ≡ (task_choice plan busy alive made t rng).made
    → ((u : ℕ) → u ≢ t → (as_state v.core).calls u ≡ (as_state w.core).calls u)
    → 1 ≤ t → 1 ≤ u → u ≢ t → may_begin plan v u ≡ may_begin plan w u
unfolding phase_of
begins_on plan w v made t u busy alive rng (inl none) same_made flight begun stay one above other =
    free_begins plan w v u none
    (next_stays plan w v made t u (task_choice plan busy alive made t rng)
    (choice_leaves plan busy alive made t rng) begun same_made one above other)
begins_on plan w v made t u busy alive rng (inr (was, is)) same_made flight begun stay one above other =
    alike_begins plan w v u (begun ∙ (keeps_made busy alive plan made t rng was ∙ same_made)) (λ n. elim (same_or_other n t) [
      | inl e ↦ ap (λ (k : ℕ). in_call v k) e ∙ (is ∙ (sym was ∙ (flight ∙ ap (λ (k : ℕ). in_call w k) (sym e))))
      | inr away ↦ ap (λ (c : Option Call). is_some (option_map word_of c)) (stay n away)
    ])

-- So after a turn that leaves what its task's call holds, and after which the task can take another, the same tasks can take one.
pub list_stays : (plan : Plan) (w v : World) (core : CoreState) (made : List ℕ) (event : Event) (o : Outcome) (t : ℕ) (busy alive : Bool)
    (rng : Lcg) (tasks : List ℕ) → core ≡ w.core → made ≡ w.made → IsReached (as_state core) → Row core event o v.core
    → event ≡ (task_choice plan busy alive made t rng).event → v.made ≡ (task_choice plan busy alive made t rng).made
    → busy ≡ in_call w t → EndsNone plan busy v t
    → 1 ≤ t → holding_of v.core t ≡ holding_of core t → CanTurn plan w t → CanTurn plan v t
    → AreRunnable plan w tasks → AreRunnable plan v tasks
unfolding Row
list_stays plan w v core made event o t busy alive rng tasks same_core same_made reached row chosen begun flight quiet one held could can listed =
    subst (λ (n : ℕ). AreRunnableOf plan v n tasks) (sym long) (listed_alike plan w v (length w.made) tasks on back listed)
  where
    of : (u : ℕ) → IsOf u event → u ≡ t
    of u h = of_choice plan busy alive made t rng u (subst (λ (e : Event). IsOf u e) chosen h)

    leaves : LeavesOthers made t (task_choice plan busy alive made t rng)
    leaves = choice_leaves plan busy alive made t rng

    long : length v.made ≡ length w.made
    long = ap (λ (m : List ℕ). length m) begun ∙ leaves.long ∙ ap (λ (m : List ℕ). length m) same_made

    alike : HoldAlike (as_state w.core) (as_state v.core)
    alike =
        subst (λ (s : CoreState). HoldAlike (as_state s) (as_state v.core)) same_core
        (held_alike core v.core event o t reached row of held)

    stay : (u : ℕ) → u ≢ t → ((as_state v.core).calls u ≡ (as_state w.core).calls u) × ((as_state v.core).life u ≡ (as_state w.core).life u)
    stay u other =
        subst (λ (s : CoreState). ((as_state v.core).calls u ≡ (as_state s).calls u) × ((as_state v.core).life u ≡ (as_state s).life u))
        same_core
        (others_stay (as_state core) (as_state v.core) event o u row.0 (λ is. other (of u is)))

    next : (u : ℕ) → 1 ≤ u → u ≢ t → may_begin plan v u ≡ may_begin plan w u
    next u above other =
        begins_on plan w v made t u busy alive rng quiet same_made flight begun (λ n away. (stay n away).0) one above other

    on : (u : ℕ) → 1 ≤ u → u ≤ length w.made → CanTurn plan w u → CanTurn plan v u
    on u above within was = elim (same_or_other u t) [
      | inl e ↦ subst (CanTurn plan v) (sym e) can
      | inr other ↦ still_can plan w v u alike (stay u other).0 (stay u other).1 (next u above other) was
    ]

    back : (u : ℕ) → 1 ≤ u → u ≤ length w.made → CanTurn plan v u → CanTurn plan w u
    back u above within is = elim (same_or_other u t) [
      | inl e ↦ subst (CanTurn plan w) (sym e) could
      | inr other ↦ still_can plan v w u (turned (as_state w.core) (as_state v.core) alike) (sym (stay u other).0) (sym (stay u other).1)
          (sym (next u above other)) is
    ]
