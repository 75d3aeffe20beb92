-- Who is blocked, by whom, and how few steps a call makes.
use Rattle.std.proofs.Common.{◌≡◌, ◌≢◌, ℕ, ◌+◌, ◌≤◌, refl, ap, sym, ◌∙◌, subst, arith, inl, inr, ◌⊎◌, length}
use Rattle.std.specs.Prelude.{Bool, true, false, Option, Some, None, IfSome, List, [], ◌∷◌, ◌++◌, ◌==◌}
use Rattle.std.proofs.lemmas.Bool.Decides.{nat_tests}
use Rattle.hp_base.specs.Numbers.{put, bit}
use Rattle.hp_base.specs.declared.event.Op.{Op}
use Rattle.hp_base.specs.declared.event.Op.TheVariants as op
use Rattle.hp_base.specs.declared.event.Event.{Event}
use Rattle.hp_base.specs.declared.event.Event.TheVariants.{Begin, Step, Kill, Resize}
use Rattle.hp_base.specs.declared.mapping.Mapping.{Mapping}
use Rattle.hp_base.proofs.Puts.{put_same, put_other, same_or_other}
use Rattle.hp_machine.specs.State.{Geometry, Pool, State, pool_of, with_pool, slot_of, is_dead, is_killed}
use Rattle.hp_machine.specs.Events.{Row, CallRow, IsReached, first, word_of, lives_after}
use Rattle.hp_machine.specs.Views.{slot_held, locked_file, wants_slot, wants_lock}
use Rattle.hp_machine.specs.declared.outcome.Outcome.{Outcome}
use Rattle.hp_machine.specs.declared.outcome.Outcome.TheVariants as outcome
use Rattle.hp_machine.specs.declared.outcome.Refusal.{Refusal}
use Rattle.hp_machine.specs.declared.phase.Phase.{Phase}
use Rattle.hp_machine.specs.declared.touch.TouchPhase.TheVariants as touch
use Rattle.hp_machine.specs.declared.map.MapPhase.TheVariants as map
use Rattle.hp_machine.specs.declared.alloc.AllocPhase.TheVariants as alloc
use Rattle.hp_machine.specs.declared.punch.PunchPhase.TheVariants as punch
use Rattle.hp_machine.specs.declared.truncate.TruncatePhase.TheVariants as truncate
use Rattle.hp_machine.specs.declared.unmap.UnmapPhase.TheVariants as unmap
use Rattle.hp_machine.specs.declared.exit.ExitPhase.TheVariants as exit
use Rattle.hp_machine.specs.declared.call.Call.{Call}
use Rattle.hp_machine.specs.declared.call.Call.TheVariants as call
use Rattle.hp_laws.specs.Bounds.{most_steps, is_own, own_steps, is_begun, calls_begun, sizes, IsTop, SetsSize, SweepsFrom}
use Rattle.hp_laws.specs.Bounds.{WaitsFor, HoldsUp, IsUnblocked}
use Rattle.hp_laws.specs.Histories.{Moment, History, in_order}
use Rattle.hp_laws.proofs.Deciding.{some_same}
use Rattle.hp_laws.specs.StepsLeft.{steps_left}
use Rattle.hp_laws.proofs.Runs.{Always, always, call_keeps}
use Rattle.hp_laws.proofs.Reading.{begin_cases, step_cases, kill_cases, Gone, Steps, call_steps, same_state}
use Rattle.hp_laws.proofs.Resizing.{resize_cases}
use Rattle.hp_laws.proofs.Histories.{begun_more, history_well}

-- an option isn't both empty and not
none_some : {A P : Type 0} (o : Option A) (a : A) → o ≡ None → o ≡ Some a → P
none_some {A} o a d e = (let c : ◌≡◌ {A = Option A} None (Some a) = sym d ∙ e in absurd (cc))

-- a call that waits for a slot holds none, and waits for no lock
wants_no_slot : (c : Option Call) (k : ℕ × ℕ) → wants_slot c ≡ Some k → (slot_held c ≡ None) × (wants_lock c ≡ None)
wants_no_slot (Some (call.Touch (touch.Want p))) k e = (refl, refl)
wants_no_slot (Some (call.Alloc (alloc.Want p))) k e = (refl, refl)
wants_no_slot (Some (call.Punch (punch.Want p))) k e = (refl, refl)
wants_no_slot (Some (call.Truncate (truncate.Want p))) k e = (refl, refl)
wants_no_slot (Some (call.Map (map.Start _))) k e = none_some None k refl e
wants_no_slot (Some (call.Unmap (unmap.Start _))) k e = none_some None k refl e
wants_no_slot (Some (call.Exit exit.Start)) k e = none_some None k refl e
wants_no_slot c k e = none_some None k refl e

-- a call that waits for a lock holds no slot and no lock
wants_nothing : (c : Option Call) (f : ℕ) → wants_lock c ≡ Some f → (slot_held c ≡ None) × (locked_file c ≡ None)
wants_nothing (Some (call.Map (map.Start p))) k e = (refl, refl)
wants_nothing (Some (call.Alloc (alloc.Start p))) k e = (refl, refl)
wants_nothing (Some (call.Punch (punch.Start p))) k e = (refl, refl)
wants_nothing (Some (call.Truncate (truncate.Start p))) k e = (refl, refl)
wants_nothing (Some (call.Touch (touch.Look _))) f e = none_some None f refl e
wants_nothing (Some (call.Unmap (unmap.Start _))) f e = none_some None f refl e
wants_nothing (Some (call.Exit exit.Start)) f e = none_some None f refl e
wants_nothing c f e = none_some None f refl e

-- a step of a call in flight, by what it does
stepped : (s : State) (t top : ℕ) (grant : Bool) (c : Call) (o : Outcome) (pool : Pool) (next : Option Call) → Always s
    → is_dead (s.life t) ≡ false → s.calls t ≡ Some c → CallRow (pool_of s) t (is_killed (s.life t)) grant c o pool next
    → Steps s t top c o pool next
stepped s t top grant c o pool next h lives e row =
    let is = h.lives.there t lives in
    call_steps s t top (is_killed (s.life t)) grant c o pool next h.inv is.0 (let a = is.1 in omega arith) e row

-- what is refused doesn't move
refused_moves : {P : Type 0} (o : Outcome) (why : Refusal) (p : Phase) → o ≡ outcome.Refused why → o ≡ outcome.Moved p → P
refused_moves o why p e d = (let z : outcome.Refused why ≡ outcome.Moved p = sym e ∙ d in absurd (cc))

-- nor is it blocked
refused_blocks : {P : Type 0} (o : Outcome) (why : Refusal) (u : ℕ) → o ≡ outcome.Refused why → o ≡ outcome.Blocked u → P
refused_blocks o why u e d = (let z : outcome.Refused why ≡ outcome.Blocked u = sym e ∙ d in absurd (cc))

-- a block names one holder
same_holder : {a b : ℕ} → outcome.Blocked a ≡ outcome.Blocked b → a ≡ b
same_holder e = cc

-- a blocked step waits for a holder, and changes nothing
waits : (s : State) (t : ℕ) (grant : Bool) (u : ℕ) (n : State) → IsReached s → Row s (Step t grant) (outcome.Blocked u) n
    → (n ≡ s) × WaitsFor s (s.calls t) u
waits s t grant u n reached row = step_cases s t grant (outcome.Blocked u) n ((n ≡ s) × WaitsFor s (s.calls t) u) row
    (λ why e d. refused_blocks (outcome.Blocked u) why u e refl)
    (λ c lives e pool next r d. elim (stepped s t 0 grant c (outcome.Blocked u) pool next (always s reached) lives e r) [
      | inl w ↦ (
        d ∙ same_state s t c pool next e w.2 w.3,
        subst (WaitsFor s (s.calls t)) (sym (same_holder w.1)) (subst (λ (m : Option Call). WaitsFor s m w.0) (sym e) w.4),
      )
      | inr w ↦ absurd (w.free u refl)
    ])

-- who holds what a call waits for has a call in flight that holds it
holds_up : (s : State) (t u : ℕ) → IsReached s → WaitsFor s (s.calls t) u → HoldsUp s u t
holds_up s t u reached w = let h = (always s reached).inv.holders in elim w [
  | inl k ↦ (let o = h.slot (slot_of s.geometry k.0.0 k.0.1) u k.2 in inl (k.0, o.0, k.1, o.1, o.2))
  | inr f ↦ inr (f.0, f.1, h.lock f.0 u f.2)
]

-- and is another task
other_holder : (s : State) (t u : ℕ) → HoldsUp s u t → u ≢ t
other_holder s t u w d = elim w [
  | inl k ↦ none_some (slot_held (s.calls t)) k.1 (wants_no_slot (s.calls t) k.0 k.2).0
      (ap (λ (m : ℕ). slot_held (s.calls m)) (sym d) ∙ k.3)
  | inr f ↦ none_some (locked_file (s.calls t)) f.0 (wants_nothing (s.calls t) f.0 f.1).1
      (ap (λ (m : ℕ). locked_file (s.calls m)) (sym d) ∙ f.2)
]

-- so a blocked step changes nothing, and waits for another task that holds what it wants
pub blocked_by_holder : (s : State) (t : ℕ) (grant : Bool) (u : ℕ) (n : State) → IsReached s
    → Row s (Step t grant) (outcome.Blocked u) n → (n ≡ s) × (u ≢ t) × HoldsUp s u t
blocked_by_holder s t grant u n reached row =
    let a = waits s t grant u n reached row in
    let b = holds_up s t u reached a.1 in
    (a.0, other_holder s t u b, b)

-- a call that holds a slot is never blocked
pub slot_holder_free : (s : State) (t : ℕ) (k : ℕ × ℕ) → IsReached s → slot_held (s.calls t) ≡ Some k → IsUnblocked s t
slot_holder_free s t k reached e grant u n row = elim (waits s t grant u n reached row).1 [
  | inl o ↦ none_some (slot_held (s.calls t)) k (wants_no_slot (s.calls t) o.0 o.1).0 e
  | inr o ↦ none_some (slot_held (s.calls t)) k (wants_nothing (s.calls t) o.0 o.1).0 e
]

-- a call that holds a lock is blocked only by one that holds a slot
pub lock_holder_waits : (s : State) (t f : ℕ) (grant : Bool) (u : ℕ) (n : State) → IsReached s → locked_file (s.calls t) ≡ Some f
    → Row s (Step t grant) (outcome.Blocked u) n → (k : ℕ × ℕ) × (slot_held (s.calls u) ≡ Some k)
lock_holder_waits s t f grant u n reached e row = elim (blocked_by_holder s t grant u n reached row).2 [
  | inl o ↦ (o.1, o.3)
  | inr o ↦ none_some (locked_file (s.calls t)) f (wants_nothing (s.calls t) o.0 o.1).1 e
]

-- free, or behind the holder of a slot, or waiting for a lock behind its holder
abbrev Stuck : State → ℕ → Type 0
Stuck s t =
    IsUnblocked s t ⊎ (((u : ℕ) × (k : ℕ × ℕ) × (slot_held (s.calls u) ≡ Some k))
    ⊎ ((u f : ℕ) × (wants_lock (s.calls t) ≡ Some f) × (locked_file (s.calls u) ≡ Some f)))

-- the next step of a task is free, or some call holds a slot, or the task waits for the holder of a lock
free_or_behind : (s : State) (t : ℕ) → IsReached s → Stuck s t
free_or_behind s t reached = slot (wants_slot (s.calls t)) refl
  where
    lock : wants_slot (s.calls t) ≡ None → (o : Option ℕ) → wants_lock (s.calls t) ≡ o → Stuck s t
    lock none None e =
        inl (λ grant u n w. elim (waits s t grant u n reached w).1 [
          | inl o ↦
              none_some (wants_slot (s.calls t)) o.0 none o.1
          | inr o ↦ none_some (wants_lock (s.calls t)) o.0 e o.1
        ])
    lock none (Some f) e = holder (s.locks f) refl
      where
        holder : (o : Option ℕ) → s.locks f ≡ o → Stuck s t
        holder None d = inl (λ grant u n w. elim (waits s t grant u n reached w).1 [
          | inl o ↦ none_some (wants_slot (s.calls t)) o.0 none o.1
          | inr o ↦ none_some (s.locks f) u d (ap s.locks (some_same (sym e ∙ o.1)) ∙ o.2)
        ])
        holder (Some u) d = inr (inr (u, f, e, (always s reached).inv.holders.lock f u d))

    slot : (o : Option (ℕ × ℕ)) → wants_slot (s.calls t) ≡ o → Stuck s t
    slot None e = lock e (wants_lock (s.calls t)) refl
    slot (Some k) e = holder (s.slots (slot_of s.geometry k.0 k.1)) refl
      where
        holder : (o : Option ℕ) → s.slots (slot_of s.geometry k.0 k.1) ≡ o → Stuck s t
        holder None d = inl (λ grant u n w. elim (waits s t grant u n reached w).1 [
          | inl o ↦ none_some (s.slots (slot_of s.geometry k.0 k.1)) u d
              (ap (λ (m : ℕ × ℕ). s.slots (slot_of s.geometry m.0 m.1)) (some_same (sym e ∙ o.1)) ∙ o.2)
          | inr o ↦ none_some (wants_lock (s.calls t)) o.0 (wants_no_slot (s.calls t) k e).1 o.1
        ])
        holder (Some u) d = (let o = (always s reached).inv.holders.slot (slot_of s.geometry k.0 k.1) u d in inr (inl (u, o.0, o.1)))

-- a call that isn't none is some call
busy : (c : Option Call) → c ≢ None → (d : Call) × (c ≡ Some d)
busy None e = absurd (e refl)
busy (Some d) e = (d, refl)

-- a task that holds a slot has a call
busy_slot : (c : Option Call) (k : ℕ × ℕ) → slot_held c ≡ Some k → (d : Call) × (c ≡ Some d)
busy_slot c k e = busy c (λ d. none_some (slot_held c) k (ap slot_held d) e)

-- and so has one that holds a lock
busy_lock : (c : Option Call) (f : ℕ) → locked_file c ≡ Some f → (d : Call) × (c ≡ Some d)
busy_lock c f e = busy c (λ d. none_some (locked_file c) f (ap locked_file d) e)

-- a task that lives, with a call in flight whose next step isn't blocked
abbrev Goes : State → Type 0
Goes s = (u : ℕ) × (c : Call) × (s.calls u ≡ Some c) × (is_dead (s.life u) ≡ false) × IsUnblocked s u

-- where a call is in flight, one can go on
pub some_call_goes_on : (s : State) (t : ℕ) (c : Call) → IsReached s → s.calls t ≡ Some c → Goes s
some_call_goes_on s t c reached e = elim (free_or_behind s t reached) [
  | inl free ↦ (t, c, e, (always s reached).lives.busy t c e, free)
  | inr o ↦ elim o [
    | inl k ↦ at_slot k.0 k.1 k.2
    | inr l ↦ elim (free_or_behind s l.0 reached) [
      | inl free ↦ (let b = busy_lock (s.calls l.0) l.1 l.3 in (l.0, b.0, b.1, (always s reached).lives.busy l.0 b.0 b.1, free))
      | inr o ↦ elim o [
        | inl k ↦ at_slot k.0 k.1 k.2
        | inr m ↦ none_some (locked_file (s.calls l.0)) l.1 (wants_nothing (s.calls l.0) m.1 m.2).1 l.3
      ]
    ]
  ]
]
  where
    at_slot : (u : ℕ) (k : ℕ × ℕ) → slot_held (s.calls u) ≡ Some k → Goes s
    at_slot u k e =
        let b = busy_slot (s.calls u) k e in
        (u, b.0, b.1, (always s reached).lives.busy u b.0 b.1, slot_holder_free s u k reached e)

-- an outcome that moved tells the phase where the call stands then
pub moved_tells : (s : State) (t : ℕ) (grant : Bool) (p : Phase) (n : State) → IsReached s
    → Row s (Step t grant) (outcome.Moved p) n → (c : Call) × (n.calls t ≡ Some c) × (word_of c ≡ p)
moved_tells s t grant p n reached row = step_cases s t grant (outcome.Moved p) n ((c : Call) × (n.calls t ≡ Some c) × (word_of c ≡ p)) row
    (λ why e d. refused_moves (outcome.Moved p) why p e refl)
    (λ c lives e pool next r d. elim (stepped s t 0 grant c (outcome.Moved p) pool next (always s reached) lives e r) [
      | inl w ↦ (let z : outcome.Moved p ≡ outcome.Blocked w.0 = w.1 in absurd (cc))
      | inr w ↦ (let o = w.moved p refl in (o.0, ap (λ (m : State). m.calls t) d ∙ (put_same s.calls t next ∙ o.1), o.2))
    ])

-- the steps that are left to task t's call
abbrev left : ℕ → ℕ → State → ℕ
left t top s = steps_left s.geometry (length (s.mappings t)) top (s.calls t)

-- a task counts as itself once
bit_same : (t : ℕ) → bit (t == t) ≡ 1
bit_same t = ap bit (same t)
  where
    same : (k : ℕ) → (k == k) ≡ true
    same k = grind (arith, nat_tests)

-- a test counts once at most
bit_few : (b : Bool) → bit b ≤ 1
bit_few true = omega arith
bit_few false = omega arith

-- another task doesn't count
bit_other : (t u : ℕ) → u ≢ t → bit (u == t) ≡ 0
bit_other t u d = ap bit (other u t d)
  where
    other : (u t : ℕ) → u ≢ t → (u == t) ≡ false
    other u t d = grind (arith, nat_tests)

-- a step counts once at most as the task's own
one_own : (t u : ℕ) (grant : Bool) (o : Outcome) → is_own t (Step u grant) o ≤ 1
one_own t u grant (outcome.Moved p) = bit_few (u == t)
one_own t u grant (outcome.Ended b) = bit_few (u == t)
one_own t u grant outcome.Begun = omega arith
one_own t u grant outcome.Marked = omega arith
one_own t u grant (outcome.Blocked w) = omega arith
one_own t u grant (outcome.Resized m) = omega arith
one_own t u grant (outcome.Refused w) = omega arith

-- a step of another task doesn't
none_own : (t u : ℕ) (grant : Bool) (o : Outcome) → u ≢ t → is_own t (Step u grant) o ≡ 0
none_own t u grant (outcome.Moved p) d = bit_other t u d
none_own t u grant (outcome.Ended b) d = bit_other t u d
none_own t u grant outcome.Begun d = refl
none_own t u grant outcome.Marked d = refl
none_own t u grant (outcome.Blocked w) d = refl
none_own t u grant (outcome.Resized m) d = refl
none_own t u grant (outcome.Refused w) d = refl

-- what a row that isn't refused may tell
abbrev Counts : ℕ → ℕ → State → Event → Outcome → State → Type 0
Counts t top s event o n = is_own t event o + left t top n ≤ left t top s

-- an event that isn't the task's own and changes nothing leaves it as many steps
same_counts : (t top : ℕ) (s n : State) (event : Event) (o : Outcome) → is_own t event o ≡ 0 → n ≡ s → Counts t top s event o n
same_counts t top s n event o a d = let b : left t top n ≡ left t top s = ap (left t top) d in omega arith

-- the steps that are left to a task after a step of task u's call
left_after : (s : State) (t u top : ℕ) (grant : Bool) (c : Call) (o : Outcome) (pool : Pool) (next : Option Call) (n : State)
    → Always s → is_dead (s.life u) ≡ false → s.calls u ≡ Some c
    → CallRow (pool_of s) u (is_killed (s.life u)) grant c o pool next
    → n ≡ record (with_pool s pool) { life = lives_after s.life u c next; calls = put s.calls u next }
    → left t top n ≡ steps_left s.geometry (length (pool.mappings t)) top (put s.calls u next t)
left_after s t u top grant c o pool next n h lives e row d =
    let is = h.lives.there u lives in
    let k = call_keeps s u (is_killed (s.life u)) grant c o pool next h.inv is.0 (let a = is.1 in omega arith) e row in
    ap (left t top) d ∙ ap (λ (m : Geometry). steps_left m (length (pool.mappings t)) top (put s.calls u next t)) k.geometry

-- each event that counts as the task's own leaves its call a step fewer at least, and none leaves it more
row_counts : (s : State) (t top : ℕ) (event : Event) (o : Outcome) (n : State) → Always s → is_begun t event o ≡ 0
    → ((grant : Bool) → event ≡ Step t grant → IfSome (sizes (s.calls t)) (λ f. IsTop s f top)) → Row s event o n
    → Counts t top s event o n
row_counts s t top (Begin u p) o n h quiet is_top row = begin_cases s u p o n (Counts t top s (Begin u p) o n) row
    (λ why e d. same_counts t top s n (Begin u p) o refl d)
    (λ lives none may e d. elim (same_or_other u t) [
      | inl q ↦ (let a : is_begun t (Begin u p) o ≡ 1 = ap (is_begun t (Begin u p)) e
          ∙ (ap (λ (m : ℕ). bit (m == t)) q ∙ bit_same t) in absurd (omega arith))
      | inr q ↦ (let b : left t top n ≡ left t top s = ap (left t top) d
          ∙ ap (steps_left s.geometry (length (s.mappings t)) top)
          (put_other s.calls u (Some (first p)) t (λ z. q (sym z))) in omega arith)
    ])
row_counts s t top (Kill u) o n h quiet is_top row = kill_cases s u o n (Counts t top s (Kill u) o n) row
    (λ why e d. same_counts t top s n (Kill u) o refl d)
    (λ alive e d. let b : left t top n ≡ left t top s = ap (left t top) d in omega arith)
row_counts s t top (Resize size) o n h quiet is_top row = resize_cases s size o n (Counts t top s (Resize size) o n) row
    (λ why e d. same_counts t top s n (Resize size) o refl d)
    (λ told m frame e shifts _ d. let b : left t top n ≡ left t top s = ap (left t top) d in omega arith)
row_counts s t top (Step u grant) o n h quiet is_top row = step_cases s u grant o n (Counts t top s (Step u grant) o n) row
    (λ why e d. same_counts t top s n (Step u grant) o (ap (is_own t (Step u grant)) e) d)
    (λ c lives e pool next r d. elim (stepped s u top grant c o pool next h lives e r) [
      | inl w ↦ same_counts t top s n (Step u grant) o (ap (is_own t (Step u grant)) w.1) (d ∙ same_state s u c pool next e w.2 w.3)
      | inr w ↦ elim (same_or_other u t) [
        | inl q ↦ (let a : is_own t (Step u grant) o ≤ 1 = one_own t u grant o in
            let b = mine c pool next e w (left_after s u u top grant c o pool next n h lives e r d)
            (λ z. is_top grant (ap (λ (m : ℕ). Step m grant) z)) q in
            let x : left t top n + 1 ≤ left t top s = subst (λ (m : ℕ). left m top n + 1 ≤ left m top s) q b in
            omega arith)
        | inr q ↦ (let a : is_own t (Step u grant) o ≡ 0 = none_own t u grant o q in
            let x = left_after s t u top grant c o pool next n h lives e r d in
            let z : steps_left s.geometry (length (pool.mappings t)) top (put s.calls u next t) ≡ left t top s
            =
            ap (λ (m : List Mapping). steps_left s.geometry (length m) top (put s.calls u next t))
            (w.mappings t (λ z. q (sym z)))
            ∙ ap (steps_left s.geometry (length (s.mappings t)) top) (put_other s.calls u next t (λ z. q (sym z))) in
            omega arith)
      ]
    ])
  where
    mine : (c : Call) (pool : Pool) (next : Option Call) → s.calls u ≡ Some c → Gone s u top c o pool next
        → left u top n ≡ steps_left s.geometry (length (pool.mappings u)) top (put s.calls u next u)
        → (u ≡ t → IfSome (sizes (s.calls t)) (λ f. IsTop s f top)) → u ≡ t → left u top n + 1 ≤ left u top s
    mine c pool next e w after tops q =
        let there : IfSome (sizes (Some c)) (λ f. IsTop s f top) =
        subst (λ (m : Option Call). IfSome (sizes m) (λ f. IsTop s f top)) (ap s.calls (sym q) ∙ e) (tops q) in
        let near = w.nearer there in
        let a : steps_left s.geometry (length (pool.mappings u)) top (put s.calls u next u) ≡ steps_left s.geometry
        (length (pool.mappings u)) top next = ap (steps_left s.geometry (length (pool.mappings u)) top) (put_same s.calls u next) in
        let b : left u top s ≡ steps_left s.geometry (length (s.mappings u)) top (Some c) =
        ap (steps_left s.geometry (length (s.mappings u)) top) e in
        omega arith

-- the top is that of the file whose size the call sets
top_of : (t top : ℕ) (m : Moment) → ((f : ℕ) → SetsSize t f m → IsTop m.before f top) → (grant : Bool) → m.event ≡ Step t grant
    → IfSome (sizes (m.before.calls t)) (λ f. IsTop m.before f top)
top_of t top m h grant own = here (sizes (m.before.calls t)) refl
  where
    here : (o : Option ℕ) → sizes (m.before.calls t) ≡ o → IfSome o (λ f. IsTop m.before f top)
    here None e = tt
    here (Some f) e = h f (grant, own, e)

-- the steps of its own in a list with one more event at its end
own_more : (t : ℕ) (es : List (Event × Outcome)) (e : Event) (o : Outcome)
    → own_steps t (es ++ ((e, o) ∷ [])) ≡ own_steps t es + is_own t e o
own_more t [] e o = omega arith
own_more t (x ∷ es) e o = let k = own_more t es e o in omega arith

-- each of the later moments that moves or ends the task's call leaves it fewer steps
later_counts : (g : Geometry) (frames : ℕ) (t top : ℕ) (past later : List Moment) (s : State) → History g frames (later ++ past) s
    → calls_begun t (in_order later) ≡ 0 → SweepsFrom t top later
    → (mid : State) × History g frames past mid × (own_steps t (in_order later) + left t top s ≤ left t top mid)
later_counts g frames t top past [] s h quiet tops = (s, h, omega arith)
later_counts g frames t top past (m ∷ later) s h quiet tops =
    let more = begun_more t (in_order later) m.event m.outcome in
    let own = own_more t (in_order later) m.event m.outcome in
    let k = later_counts g frames t top past later m.before h.2 (omega arith) tops.1 in
    let a : own_steps t (in_order later) + left t top m.before ≤ left t top k.0 = k.2 in
    let b : is_own t m.event m.outcome + left t top m.after ≤ left t top m.before =
    row_counts m.before t top m.event m.outcome m.after (history_well g frames (later ++ past) m.before h.2) (omega arith)
    (top_of t top m tops.0) h.1 in
    let c : left t top m.after ≡ left t top s = ap (left t top) h.0 in
    (k.0, k.1, omega arith)

-- a call that begins has the steps that its operation makes at most
left_first : (g : Geometry) (p : Op) (m top : ℕ) → steps_left g m top (Some (first p)) ≡ most_steps g p m top
left_first g (op.Map f from len) m top = refl
left_first g (op.MapNoReserve f from len) m top = refl
left_first g (op.Unmap base) m top = refl
left_first g (op.Load v) m top = refl
left_first g (op.Store v w) m top = refl
left_first g (op.Alloc f from len k) m top = refl
left_first g (op.Punch f from len) m top = refl
left_first g (op.Truncate f new) m top = refl
left_first g op.Exit m top = refl

-- a call that has begun has at most so many steps left
begun_left : (s : State) (t top : ℕ) (p : Op) (o : Outcome) (n : State) → o ≡ outcome.Begun → Row s (Begin t p) o n
    → left t top n ≡ most_steps s.geometry p (length (s.mappings t)) top
begun_left s t top p o n begun row = begin_cases s t p o n (left t top n ≡ most_steps s.geometry p (length (s.mappings t)) top) row
    (λ why e d. (let z : outcome.Begun ≡ outcome.Refused why = sym begun ∙ e in absurd (cc)))
    (λ lives none may e d. let begins = ap (steps_left s.geometry (length (s.mappings t)) top) (put_same s.calls t (Some (first p))) in
    ap (left t top) d ∙ (begins ∙ left_first s.geometry p (length (s.mappings t)) top))

-- of a call from its begin on the steps that moved or ended it are few
pub own_steps_few : (g : Geometry) (frames : ℕ) (later : List Moment) (begins : Moment) (past : List Moment) (s : State) (t top : ℕ)
    (p : Op)
    → History g frames (later ++ (begins ∷ past)) s → begins.event ≡ Begin t p → begins.outcome ≡ outcome.Begun
    → calls_begun t (in_order later) ≡ 0 → SweepsFrom t top later
    → own_steps t (in_order later) ≤ most_steps begins.before.geometry p (length (begins.before.mappings t)) top
own_steps_few g frames later begins past s t top p h is begun quiet tops =
    let k = later_counts g frames t top (begins ∷ past) later s h quiet tops in
    let a : own_steps t (in_order later) + left t top s ≤ left t top k.0 = k.2 in
    let b : left t top begins.after ≡ left t top k.0 = ap (left t top) k.1.0 in
    let row = subst (λ (m : Event). Row begins.before m begins.outcome begins.after) is k.1.1 in
    let c : left t top begins.after ≡ most_steps begins.before.geometry p (length (begins.before.mappings t)) top =
    begun_left begins.before t top p begins.outcome begins.after begun row in
    omega arith
