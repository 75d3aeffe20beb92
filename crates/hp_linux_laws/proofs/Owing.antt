-- The machine's runs owe nothing: no step lacks what it takes from the reserve count.
use Rattle.std.proofs.Common.{◌≡◌, ℕ, ◌+◌, ◌-◌, ◌==◌, ◌⊎◌, inl, inr, refl, ap, subst, ◌∙◌, arith, eqb-true}
use Rattle.std.specs.Prelude.{Bool, true, false, Option, Some, None, List, [], ◌∷◌, MatchBool, MatchOption, is_some}
use Rattle.hp_base.specs.Numbers.{bit, put}
use Rattle.hp_base.specs.declared.event.Event.{Event}
use Rattle.hp_base.specs.declared.event.Event.TheVariants.{Begin, Step, Kill, Resize}
use Rattle.hp_machine.specs.State.{Pool, State, pool_of, with_pool, is_dead, is_killed}
use Rattle.hp_machine.specs.Parts.{Goes}
use Rattle.hp_machine.specs.Events.{CallRow, Refuses, Row, Run, StepRow, lives_after, opening}
use Rattle.hp_machine.specs.declared.outcome.Outcome.{Outcome}
use Rattle.hp_machine.specs.declared.outcome.Refusal.TheVariants as refusal
use Rattle.hp_machine.specs.declared.call.Call.{Call}
use Rattle.hp_machine.specs.declared.call.Call.TheVariants as call
use Rattle.hp_machine.specs.declared.call.Turn.{Turn}
use Rattle.hp_machine.specs.declared.touch.TouchPhase.{TouchPhase}
use Rattle.hp_machine.specs.declared.touch.TouchPhase.TheVariants as touch
use Rattle.hp_machine.specs.declared.map.MapPhase.{MapPhase}
use Rattle.hp_machine.specs.declared.map.MapPhase.TheVariants as map
use Rattle.hp_machine.specs.declared.alloc.AllocPhase.{AllocPhase}
use Rattle.hp_machine.specs.declared.alloc.AllocPhase.TheVariants as alloc
use Rattle.hp_machine.specs.declared.truncate.Locked.{Locked}
use Rattle.hp_machine.specs.declared.truncate.TruncatePhase.{TruncatePhase}
use Rattle.hp_machine.specs.declared.truncate.TruncatePhase.TheVariants as truncate
use Rattle.hp_laws.specs.Enough.{CanSettle}
use Rattle.hp_laws.proofs.Cover.{can_settle}
use Rattle.hp_laws.proofs.Runs.{Always, opens_well, row_keeps}
use Rattle.hp_laws.proofs.Shared.{stands_at}
use Rattle.hp_counterexamples.specs.Runs.{with_calls}
use Rattle.hp_linux.specs.Late.{LateRun}
use Rattle.hp_linux.specs.Whole.{Linux, WholeRow, lacks, lent, lowers, paid, touch_lowers, map_lowers, alloc_lowers, truncate_lowers}
use Rattle.hp_linux_laws.specs.Laws.{HaveTheMachinesRuns, as_happenings}
use Rattle.hp_linux_laws.specs.MayRows.{MayRow}
use Rattle.hp_linux_laws.proofs.Among.{machine_may, runs_among}

-- a state that owes nothing
abbrev pub owing_nothing : State → Linux
owing_nothing s = record { state = s; debt = 0 }

-- what is lent is paid back
paid_back : (s : State) (k : ℕ) → owing_nothing s ≡ paid (lent s k) (0 + k)
paid_back s k =
    let left : s.resv ≡ s.resv + k - (0 + k) = omega arith in
    let none : 0 ≡ 0 + k - (s.resv + k) = omega arith in
    ap (λ (r : ℕ). record { state = record s { pool = record s.pool { resv = r } }; debt = 0 }) left
    ∙ ap (λ (d : ℕ). record { state = record s { pool = record s.pool { resv = s.resv + k - (0 + k) } }; debt = d }) none

lent_none : (s : State) (k : ℕ) → k ≡ 0 → s ≡ lent s k
lent_none s k e =
    let same : s.resv ≡ s.resv + k = omega (arith, e) in
    ap (λ (r : ℕ). record s { pool = record s.pool { resv = r } }) same

-- the machine's rows, as those of a machine with rows of its own
by_calls : (s : State) (e : Event) (o : Outcome) (n : State) → Row s e o n → with_calls CallRow s e o n
unfolding StepRow
by_calls s (Begin t p) o n r = r
by_calls s (Step t grant) o n r = r
by_calls s (Kill t) o n r = r
by_calls s (Resize size) o n r = r

-- where it lacks nothing
lacks_nothing : (s n : State) (e : Event) (o : Outcome) → lacks s e ≡ 0 → Row s e o n
    → WholeRow (with_calls CallRow) (owing_nothing s) e o (owing_nothing n)
lacks_nothing s n e o none row = (
  lent n (lacks s e),
  subst (λ (x : State). with_calls CallRow (lent s (lacks s e)) e o x) (lent_none n (lacks s e) none)
      (subst (λ (x : State). with_calls CallRow x e o n) (lent_none s (lacks s e) none) (by_calls s e o n row)),
  paid_back n (lacks s e),
)

-- a truncation at a slot looks at no count, whatever is lent
looks_at_none : (s n : State) (t : ℕ) (grant : Bool) (o : Outcome) (p : Locked) (k : ℕ) → s.calls t ≡ Some (call.Truncate (truncate.Locked p))
    → Row s (Step t grant) o n → with_calls CallRow (lent s k) (Step t grant) o (lent n k)
unfolding StepRow CallRow
looks_at_none s n t grant o p k e row = by (is_dead (s.life t)) (s.calls t) e row
  where
    turned : (pages : Bool) (turn : Turn TruncatePhase) (a b : TruncatePhase) (pool : Pool)
        → MatchBool pages (Goes a (pool_of s) turn pool) (Goes b (pool_of s) turn pool)
        → MatchBool pages (Goes a (pool_of (lent s k)) turn (record pool { resv = pool.resv + k }))
        (Goes b (pool_of (lent s k)) turn (record pool { resv = pool.resv + k }))
    turned true turn a b pool (moved, same) = (moved, ap (λ (q : Pool). record q { resv = q.resv + k }) same)
    turned false turn a b pool (moved, same) = (moved, ap (λ (q : Pool). record q { resv = q.resv + k }) same)

    by : (dead : Bool) (c : Option Call) → c ≡ Some (call.Truncate (truncate.Locked p))
        → MatchBool dead (Refuses refusal.NotAlive s o n) (MatchOption c (Refuses refusal.Idle s o n)
        (λ c. (pool : Pool) × (next : Option Call) × CallRow (pool_of s) t (is_killed (s.life t)) grant c o pool next
        × (n ≡ record (with_pool s pool) { life = lives_after s.life t c next; calls = put s.calls t next })))
        → MatchBool dead (Refuses refusal.NotAlive (lent s k) o (lent n k)) (MatchOption c (Refuses refusal.Idle (lent s k) o (lent n k))
        (λ c. (pool : Pool) × (next : Option Call) × CallRow (pool_of (lent s k)) t (is_killed (s.life t)) grant c o pool next
        × (lent n k ≡ record (with_pool (lent s k) pool) { life = lives_after s.life t c next; calls = put s.calls t next })))
    by true c e (told, same) = (told, ap (λ (x : State). lent x k) same)
    by false None e r = absurd cc
    by false (Some (call.Truncate (truncate.Locked q))) e (pool, next, (turn, r, tells, last), is) = (
      record pool { resv = pool.resv + k },
      next,
      (turn, turned (is_some (s.pages q.truncation.file q.index)) turn _ _ pool r, tells, last),
      ap (λ (x : State). lent x k) is,
    )
    by false (Some other) e r = absurd cc

-- how much each step takes is there
touch_pays : (s : State) (p : TouchPhase) → CanSettle s (Some (call.Touch p)) → touch_lowers p - s.resv ≡ 0
touch_pays s (touch.Look p) settles = omega arith
touch_pays s (touch.Want p) settles = omega arith
touch_pays s (touch.Locked p) settles = omega arith
touch_pays s (touch.Missing p) settles = omega arith
touch_pays s (touch.Abort p) settles = omega arith
touch_pays s (touch.Taken p) settles = omega arith
touch_pays s (touch.Committed p) settles = omega arith
touch_pays s (touch.Restore p) settles = omega arith
touch_pays s (touch.Found p) settles = omega arith
touch_pays s (touch.Leave p) settles = omega arith
touch_pays s (touch.Changed p) settles = by (p.pending.missing == 0) refl
  where
    by : (none : Bool) → (p.pending.missing == 0) ≡ none → bit (p.pending.missing == 0) - s.resv ≡ 0
    by true e = let one = settles (eqb-true _ _ e) in rw e (omega (arith, one))
    by false e = rw e (omega arith)
touch_pays s (touch.Settle p) settles = omega (arith, settles.0)

map_pays : (s : State) (p : MapPhase) → CanSettle s (Some (call.Map p)) → map_lowers p - s.resv ≡ 0
map_pays s (map.Start p) settles = omega arith
map_pays s (map.Room p) settles = omega arith
map_pays s (map.Missing p) settles = omega arith
map_pays s (map.Changed p) settles = omega arith
map_pays s (map.Abort p) settles = omega arith
map_pays s (map.Accounted p) settles = omega arith
map_pays s (map.Enter p) settles = omega arith
map_pays s (map.Leave p) settles = omega arith
map_pays s (map.Settle p) settles = omega (arith, settles.0)

alloc_pays : (s : State) (p : AllocPhase) → CanSettle s (Some (call.Alloc p)) → alloc_lowers p - s.resv ≡ 0
alloc_pays s (alloc.Start p) settles = omega arith
alloc_pays s (alloc.Head p) settles = omega arith
alloc_pays s (alloc.Want p) settles = omega arith
alloc_pays s (alloc.Locked p) settles = omega arith
alloc_pays s (alloc.Missing p) settles = omega arith
alloc_pays s (alloc.Abort p) settles = omega arith
alloc_pays s (alloc.Taken p) settles = omega arith
alloc_pays s (alloc.Committed p) settles = omega arith
alloc_pays s (alloc.Restore p) settles = omega arith
alloc_pays s (alloc.Unslot p) settles = omega arith
alloc_pays s (alloc.Extend p) settles = omega arith
alloc_pays s (alloc.Leave p) settles = omega arith
alloc_pays s (alloc.Changed p) settles = by (p.pending.missing == 0) refl
  where
    by : (none : Bool) → (p.pending.missing == 0) ≡ none → bit (p.pending.missing == 0) - s.resv ≡ 0
    by true e = let one = settles (eqb-true _ _ e) in rw e (omega (arith, one))
    by false e = rw e (omega arith)
alloc_pays s (alloc.Settle p) settles = omega (arith, settles.0)

-- but a truncation at a slot takes nothing, though Linux's may
abbrev pub IsAtSlot : TruncatePhase → Type 0
IsAtSlot phase = (p : Locked) × (phase ≡ truncate.Locked p)

truncate_pays : (s : State) (p : TruncatePhase) → CanSettle s (Some (call.Truncate p)) → (truncate_lowers p - s.resv ≡ 0) ⊎ IsAtSlot p
truncate_pays s (truncate.Start p) settles = inl (omega arith)
truncate_pays s (truncate.Size p) settles = inl (omega arith)
truncate_pays s (truncate.Want p) settles = inl (omega arith)
truncate_pays s (truncate.Unmap p) settles = inl (omega arith)
truncate_pays s (truncate.Evict p) settles = inl (omega arith)
truncate_pays s (truncate.Free p) settles = inl (omega arith)
truncate_pays s (truncate.Unslot p) settles = inl (omega arith)
truncate_pays s (truncate.Tail p) settles = inl (omega arith)
truncate_pays s (truncate.Leave p) settles = inl (omega arith)
truncate_pays s (truncate.Locked p) settles = inr (p, refl)
truncate_pays s (truncate.Settle p) settles = inl (omega (arith, settles.0))

call_pays : (s : State) (c : Call) → CanSettle s (Some c)
    → (lowers (Some c) - s.resv ≡ 0) ⊎ ((p : Locked) × (c ≡ call.Truncate (truncate.Locked p)))
call_pays s (call.Touch p) settles = inl (touch_pays s p settles)
call_pays s (call.Map p) settles = inl (map_pays s p settles)
call_pays s (call.Alloc p) settles = inl (alloc_pays s p settles)
call_pays s (call.Punch p) settles = inl (omega arith)
call_pays s (call.Truncate p) settles = elim (truncate_pays s p settles) [
  | inl none ↦ inl none
  | inr at ↦ inr (at.0, ap call.Truncate at.1)
]
call_pays s (call.Unmap p) settles = inl (omega arith)
call_pays s (call.Exit p) settles = inl (omega arith)

-- so each row of the machine is one in which what is lent is paid back
whole_row : (s n : State) (e : Event) (o : Outcome) → Always s → Row s e o n → WholeRow (with_calls CallRow) (owing_nothing s) e o (owing_nothing n)
whole_row s n (Begin t p) o h row = lacks_nothing s n (Begin t p) o refl row
whole_row s n (Kill t) o h row = lacks_nothing s n (Kill t) o refl row
whole_row s n (Resize size) o h row = lacks_nothing s n (Resize size) o refl row
whole_row s n (Step t grant) o h row = by (s.calls t) refl
  where
    takes : (c : Option Call) → s.calls t ≡ c → lowers c - s.resv ≡ 0 → lacks s (Step t grant) ≡ 0
    takes c e none = ap (λ (c : Option Call). lowers c - s.resv) e ∙ none

    settles : (c : Call) → s.calls t ≡ Some c → CanSettle s (Some c)
    settles c e =
        let there = h.lives.there t (h.lives.busy t c e) in
        can_settle s.geometry s t (Some c) h.inv (omega (arith, there.1)) e (stands_at s t (Some c) h.inv e)

    by : (c : Option Call) → s.calls t ≡ c → WholeRow (with_calls CallRow) (owing_nothing s) (Step t grant) o (owing_nothing n)
    by None e = lacks_nothing s n (Step t grant) o (takes None e (omega arith)) row
    by (Some c) e = elim (call_pays s c (settles c e)) [
      | inl none ↦ lacks_nothing s n (Step t grant) o (takes (Some c) e none) row
      | inr at ↦ (
        lent n (lacks s (Step t grant)),
        looks_at_none s n t grant o at.0 (lacks s (Step t grant)) (e ∙ ap (λ (c : Call). Some c) at.1) row,
        paid_back n (lacks s (Step t grant)),
      )
    ]

whole_run : (s : State) (log : List (Event × Outcome)) (n : State) → Always s → Run s log n
    → LateRun (with_calls CallRow) (owing_nothing s) (as_happenings log) (owing_nothing n)
whole_run s [] n h run = ap owing_nothing run
whole_run s (e ∷ log) n h (mid, row, run) =
    (owing_nothing mid, whole_row s mid e.0 e.1 h row, whole_run mid log n (row_keeps s e.0 e.1 mid h row) run)

pub machine_runs : HaveTheMachinesRuns MayRow
machine_runs g frames log s run =
    runs_among CallRow MayRow machine_may (owing_nothing (opening g frames)) (as_happenings log) (owing_nothing s)
    (whole_run (opening g frames) log s (opens_well g frames) run)
