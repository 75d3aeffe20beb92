-- The machine's rows, and machines with rows of Linux's, are among those that Linux may do.
use Rattle.std.proofs.Common.{◌≡◌, ℕ, ◌+◌, ◌≤◌, refl, ap, sym, subst, ◌∙◌, arith, inl, inr, ◌⊎◌}
use Rattle.std.specs.Prelude.{Bool, true, false, Option, Some, None, MatchBool, MatchOption, is_some, nat_le, ◌-◌, if◌then◌else◌}
use Rattle.std.specs.Prelude.{[], ◌∷◌}
use Rattle.hp_base.specs.Numbers.{bit, put}
use Rattle.hp_base.specs.declared.event.Event.{Event}
use Rattle.hp_base.specs.declared.event.Event.TheVariants.{Begin, Step, Kill, Resize}
use Rattle.hp_machine.specs.State.{Pool, State, frees, pool_of, with_pool, is_dead, is_killed}
use Rattle.hp_machine.specs.Parts.{Goes}
use Rattle.hp_machine.specs.Events.{CallRow, CallRows, Refuses, lives_after}
use Rattle.hp_machine.specs.declared.outcome.Outcome.{Outcome}
use Rattle.hp_machine.specs.declared.outcome.Refusal.TheVariants as refusal
use Rattle.hp_machine.specs.TouchRows.{TouchRow}
use Rattle.hp_machine.specs.MapRows.{MapRow}
use Rattle.hp_machine.specs.AllocRows.{AllocRow}
use Rattle.hp_machine.specs.PunchRows.{PunchRow}
use Rattle.hp_machine.specs.TruncateRows.{TruncateRow}
use Rattle.hp_machine.specs.declared.touch.TouchPhase.{TouchPhase}
use Rattle.hp_machine.specs.declared.touch.TouchPhase.TheVariants as touch
use Rattle.hp_machine.specs.declared.map.MapPhase.{MapPhase}
use Rattle.hp_machine.specs.declared.map.MapPhase.TheVariants as map
use Rattle.hp_machine.specs.declared.alloc.AllocPhase.{AllocPhase}
use Rattle.hp_machine.specs.declared.alloc.AllocPhase.TheVariants as alloc
use Rattle.hp_machine.specs.declared.punch.Free.{Free}
use Rattle.hp_machine.specs.declared.punch.PunchPhase.{PunchPhase}
use Rattle.hp_machine.specs.declared.punch.PunchPhase.TheVariants as punch
use Rattle.hp_machine.specs.declared.truncate.TruncatePhase.{TruncatePhase}
use Rattle.hp_machine.specs.declared.truncate.TruncatePhase.TheVariants as truncate
use Rattle.hp_machine.specs.declared.truncate.Want.{Want}
use Rattle.hp_machine.specs.declared.call.Call.{Call}
use Rattle.hp_machine.specs.declared.call.Call.TheVariants as call
use Rattle.hp_machine.specs.declared.call.Turn.{Turn}
use Rattle.hp_counterexamples.specs.Cutting.{PagesOnlyWantRow}
use Rattle.hp_counterexamples.specs.Runs.{with_calls}
use Rattle.hp_linux.specs.Late.{Does, LetsGo, let_go}
use Rattle.hp_linux.specs.Whole.{lacks, lent}
use Rattle.hp_linux.specs.Rows.{BacksOut, FreesLate, LinuxRows, LooksForPagesFirst, PassesAndPlaces, LatePunchFreeRow, raised_count}
use Rattle.hp_linux_laws.specs.Laws.{AreAmong, RunsAreAmong}
use Rattle.hp_linux_laws.specs.MayRows.{MayTouch, MayMap, MayAlloc, MayPunch, MayTruncate, MayRow, LateFreeRow}

touch_may : (s : Pool) (t : ℕ) (killed grant : Bool) (p : TouchPhase) (turn : Turn TouchPhase) (new : Pool)
    → TouchRow s t killed grant p turn new → MayTouch s t killed grant p turn new
touch_may s t killed grant (touch.Look p) turn new r = r
touch_may s t killed grant (touch.Want p) turn new r = r
touch_may s t killed grant (touch.Locked p) turn new r = inl r
touch_may s t killed grant (touch.Missing p) turn new r = inl r
touch_may s t killed grant (touch.Changed p) turn new r = inl r
touch_may s t killed grant (touch.Abort p) turn new r = r
touch_may s t killed grant (touch.Taken p) turn new r = r
touch_may s t killed grant (touch.Settle p) turn new (low, used, r) = (low, r)
touch_may s t killed grant (touch.Committed p) turn new r = inl r
touch_may s t killed grant (touch.Restore p) turn new r = inl (inl r)
touch_may s t killed grant (touch.Found p) turn new r = inl r
touch_may s t killed grant (touch.Leave p) turn new r = r

map_may : (s : Pool) (t : ℕ) (killed grant : Bool) (p : MapPhase) (turn : Turn MapPhase) (new : Pool)
    → MapRow s t killed grant p turn new → MayMap s t killed grant p turn new
map_may s t killed grant (map.Start p) turn new r = r
map_may s t killed grant (map.Room p) turn new r = r
map_may s t killed grant (map.Missing p) turn new r = inl r
map_may s t killed grant (map.Changed p) turn new r = inl r
map_may s t killed grant (map.Abort p) turn new r = r
map_may s t killed grant (map.Accounted p) turn new r = r
map_may s t killed grant (map.Settle p) turn new (low, used, r) = (low, r)
map_may s t killed grant (map.Enter p) turn new r = r
map_may s t killed grant (map.Leave p) turn new r = r

alloc_may : (s : Pool) (t : ℕ) (killed grant : Bool) (p : AllocPhase) (turn : Turn AllocPhase) (new : Pool)
    → AllocRow s t killed grant p turn new → MayAlloc s t killed grant p turn new
alloc_may s t killed grant (alloc.Start p) turn new r = r
alloc_may s t killed grant (alloc.Head p) turn new r = r
alloc_may s t killed grant (alloc.Want p) turn new r = r
alloc_may s t killed grant (alloc.Locked p) turn new r = r
alloc_may s t killed grant (alloc.Missing p) turn new r = inl r
alloc_may s t killed grant (alloc.Changed p) turn new r = inl r
alloc_may s t killed grant (alloc.Abort p) turn new r = r
alloc_may s t killed grant (alloc.Taken p) turn new r = r
alloc_may s t killed grant (alloc.Settle p) turn new (low, used, r) = (low, r)
alloc_may s t killed grant (alloc.Committed p) turn new r = r
alloc_may s t killed grant (alloc.Restore p) turn new r = inl r
alloc_may s t killed grant (alloc.Unslot p) turn new r = r
alloc_may s t killed grant (alloc.Extend p) turn new r = r
alloc_may s t killed grant (alloc.Leave p) turn new r = r

punch_may : (s : Pool) (t : ℕ) (killed grant : Bool) (p : PunchPhase) (turn : Turn PunchPhase) (new : Pool)
    → PunchRow s t killed grant p turn new → MayPunch s t killed grant p turn new
punch_may s t killed grant (punch.Start p) turn new r = r
punch_may s t killed grant (punch.Want p) turn new r = inl r
punch_may s t killed grant (punch.Locked p) turn new r = r
punch_may s t killed grant (punch.Unmap p) turn new r = r
punch_may s t killed grant (punch.Evict p) turn new r = r
punch_may s t killed grant (punch.Delete p) turn new r = inl r
punch_may s t killed grant (punch.Free p) turn new r = inl r
punch_may s t killed grant (punch.Unslot p) turn new r = r
punch_may s t killed grant (punch.Leave p) turn new r = r

truncate_may : (s : Pool) (t : ℕ) (killed grant : Bool) (p : TruncatePhase) (turn : Turn TruncatePhase) (new : Pool)
    → TruncateRow s t killed grant p turn new → MayTruncate s t killed grant p turn new
truncate_may s t killed grant (truncate.Start p) turn new r = r
truncate_may s t killed grant (truncate.Size p) turn new r = inl r
truncate_may s t killed grant (truncate.Want p) turn new r = inl r
truncate_may s t killed grant (truncate.Locked p) turn new r = r
truncate_may s t killed grant (truncate.Unmap p) turn new r = r
truncate_may s t killed grant (truncate.Evict p) turn new r = r
truncate_may s t killed grant (truncate.Free p) turn new r = inl r
truncate_may s t killed grant (truncate.Unslot p) turn new r = inl r
truncate_may s t killed grant (truncate.Tail p) turn new r = inl r
truncate_may s t killed grant (truncate.Settle p) turn new (low, used, r) = (low, r)
truncate_may s t killed grant (truncate.Leave p) turn new r = r

-- the machine's own
pub machine_may : AreAmong CallRow MayRow
unfolding CallRow MayRow
machine_may s t killed grant (call.Touch p) told new next (turn, r, tells, last) =
    (turn, touch_may s t killed grant p turn new r, tells, last)
machine_may s t killed grant (call.Map p) told new next (turn, r, tells, last) = (turn, map_may s t killed grant p turn new r, tells, last)
machine_may s t killed grant (call.Alloc p) told new next (turn, r, tells, last) =
    (turn, alloc_may s t killed grant p turn new r, tells, last)
machine_may s t killed grant (call.Punch p) told new next (turn, r, tells, last) =
    (turn, punch_may s t killed grant p turn new r, tells, last)
machine_may s t killed grant (call.Truncate p) told new next (turn, r, tells, last) =
    (turn, truncate_may s t killed grant p turn new r, tells, last)
machine_may s t killed grant (call.Unmap p) told new next r = r
machine_may s t killed grant (call.Exit p) told new next r = r

-- a truncation that visits only pages passes the other indices
pages_only : (s : Pool) (t : ℕ) (killed grant : Bool) (p : Want) (turn : Turn TruncatePhase) (new : Pool)
    → PagesOnlyWantRow s t p turn new → MayTruncate s t killed grant (truncate.Want p) turn new
pages_only s t killed grant p turn new row = here (is_some (s.pages p.truncation.file p.index)) row
  where
    here : {A B C : Type 0} (b : Bool) → MatchBool b A B → A ⊎ (B ⊎ C)
    here true r = inl r
    here false r = inr (inl r)

-- machines with rows of Linux's
pub first_may : AreAmong LooksForPagesFirst MayRow
unfolding LooksForPagesFirst MayRow
first_may s t killed grant (call.Touch (touch.Locked p)) told new next (turn, r, tells, last) = (turn, inr r, tells, last)
first_may s t killed grant (call.Touch (touch.Found p)) told new next (turn, r, tells, last) = (turn, inr r, tells, last)
first_may s t killed grant other told new next r = machine_may s t killed grant other told new next r

pub backs_may : AreAmong BacksOut MayRow
unfolding BacksOut MayRow
backs_may s t killed grant (call.Touch (touch.Restore p)) told new next (turn, r, tells, last) = (turn, inl r, tells, last)
backs_may s t killed grant other told new next r = machine_may s t killed grant other told new next r

pub passes_may : AreAmong PassesAndPlaces MayRow
unfolding PassesAndPlaces MayRow
passes_may s t killed grant (call.Touch (touch.Committed p)) told new next (turn, r, tells, last) = (turn, inr r, tells, last)
passes_may s t killed grant (call.Touch (touch.Found p)) told new next (turn, r, tells, last) = (turn, inr r, tells, last)
passes_may s t killed grant (call.Truncate (truncate.Want p)) told new next (turn, r, tells, last) =
    (turn, pages_only s t killed grant p turn new r, tells, last)
passes_may s t killed grant other told new next r = machine_may s t killed grant other told new next r

pub linux_may : AreAmong LinuxRows MayRow
unfolding LinuxRows MayRow
linux_may s t killed grant (call.Touch (touch.Locked p)) told new next (turn, r, tells, last) = (turn, inr r, tells, last)
linux_may s t killed grant (call.Touch (touch.Committed p)) told new next (turn, r, tells, last) = (turn, inr r, tells, last)
linux_may s t killed grant (call.Touch (touch.Found p)) told new next (turn, r, tells, last) = (turn, inr r, tells, last)
linux_may s t killed grant (call.Punch (punch.Delete p)) told new next (turn, r, tells, last) = (turn, inr (inl r), tells, last)
linux_may s t killed grant (call.Punch (punch.Free p)) told new next (turn, r, tells, last) = (turn, inr (inl r), tells, last)
linux_may s t killed grant (call.Truncate (truncate.Want p)) told new next (turn, r, tells, last) =
    (turn, pages_only s t killed grant p turn new r, tells, last)
linux_may s t killed grant other told new next r = machine_may s t killed grant other told new next r

-- the count that is raised, or isn't, as a number that is added
raised_by : (r : ℕ) (c : Bool) → (n : ℕ) × (n ≤ 1) × ((if c then r + 1 else r) ≡ r + n)
raised_by r true = (1, (omega arith), refl)
raised_by r false = (0, (omega arith), (omega arith))

-- a punch whose frame becomes free later
late_punch_free : (s : Pool) (p : Free) (turn : Turn PunchPhase) (new : Pool) → LatePunchFreeRow s p turn new → LateFreeRow s p turn new
late_punch_free s p turn new row = here p.denied refl row
  where
    here : (b : Bool) → p.denied ≡ b
        → MatchBool b
        (Goes (punch.Unslot (record { hole = p.hole; index = p.index })) (record s { resv = raised_count s }) turn new)
        (Goes (punch.Unslot (record { hole = p.hole; index = p.index })) (record s { used = s.used - 1 }) turn new)
        → LateFreeRow s p turn new
    here true e (goes, is) =
        let n = raised_by s.resv (nat_le (s.resv + 1) (frees s)) in
        (n.0, s.used, subst (λ (b : Bool). n.0 ≤ bit b) (sym e) n.1, (goes, is ∙ ap (λ (r : ℕ). record s { resv = r }) n.2))
    here false e (goes, is) =
        let same : s.resv ≡ s.resv + 0 = (omega arith) in
        (0, s.used - 1, (omega arith), (goes, is ∙ ap (λ (r : ℕ). record s { resv = r; used = s.used - 1 }) same))

pub late_may : AreAmong FreesLate MayRow
unfolding FreesLate MayRow
late_may s t killed grant (call.Punch (punch.Free p)) told new next (turn, r, tells, last) =
    (turn, inr (inr (inl (late_punch_free s p turn new r))), tells, last)
late_may s t killed grant (call.Truncate (truncate.Free p)) told new next (turn, r, tells, last) = (turn, inr r, tells, last)
late_may s t killed grant other told new next r = linux_may s t killed grant other told new next r

-- a run by rows that are among others is one by these
pub runs_among : (some all : CallRows) → AreAmong some all → RunsAreAmong some all
runs_among some all are l [] n e = e
runs_among some all are l (LetsGo x ∷ hs) n (left, rest) = (left, runs_among some all are (let_go l x) hs n rest)
runs_among some all are l (Does e told ∷ hs) n (mid, (s, row, is), rest) =
    (mid, (s, one e (lent l.state (lacks l.state e)) told s row, is), runs_among some all are mid hs n rest)
  where
    inner : (s : State) (t : ℕ) (grant : Bool) (o : Outcome) (n : State) (dead : Bool) (call : Option Call)
        → MatchBool dead (Refuses refusal.NotAlive s o n) (MatchOption call (Refuses refusal.Idle s o n)
        (λ c. (pool : Pool) × (next : Option Call) × some (pool_of s) t (is_killed (s.life t)) grant c o pool next
        × (n ≡ record (with_pool s pool) { life = lives_after s.life t c next; calls = put s.calls t next })))
        → MatchBool dead (Refuses refusal.NotAlive s o n) (MatchOption call (Refuses refusal.Idle s o n)
        (λ c. (pool : Pool) × (next : Option Call) × all (pool_of s) t (is_killed (s.life t)) grant c o pool next
        × (n ≡ record (with_pool s pool) { life = lives_after s.life t c next; calls = put s.calls t next })))
    inner s t grant o n true call r = r
    inner s t grant o n false None r = r
    inner s t grant o n false (Some c) (pool, next, r, is) =
        (pool, next, are (pool_of s) t (is_killed (s.life t)) grant c o pool next r, is)

    one : (e : Event) (s : State) (o : Outcome) (n : State) → with_calls some s e o n → with_calls all s e o n
    one (Begin t p) s o n r = r
    one (Step t grant) s o n r = inner s t grant o n (is_dead (s.life t)) (s.calls t) r
    one (Kill t) s o n r = r
    one (Resize size) s o n r = r
