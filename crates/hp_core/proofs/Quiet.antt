-- A step from a phase whose word doesn't say otherwise leaves the slot and the lock that its call holds.
use Rattle.std.proofs.Common.{◌≡◌, ℕ, ◌+◌, ◌-◌, refl, ap, sym, ◌∙◌, subst}
use Rattle.std.specs.Prelude.{Bool, false, not, ◌&&◌, ◌==◌, nat_le, nat_lt, max, is_some, Option, Some}
use Rattle.hp_base.specs.Indices.{missing, splits}
use Rattle.hp_base.specs.Mappings.{find, first_base, without}
use Rattle.hp_base.specs.declared.answer.Answer.{Answer}
use Rattle.hp_base.specs.declared.answer.Answer.TheVariants.{NoFrame, NoQuota}
use Rattle.hp_region.specs.Change.{Change}
use Rattle.hp_machine.specs.Events.{CallRow, word_of, left}
use Rattle.hp_machine.specs.Parts.{ChangeRow, CommitRow, TakeRow, UnmapIndexRow}
use Rattle.hp_machine.specs.State.{exceeds_quota, quota_is_used_up, Pool, frees}
use Rattle.hp_machine.specs.TouchRows.{TouchRow}
use Rattle.hp_machine.specs.MapRows.{MapRow}
use Rattle.hp_machine.specs.AllocRows.{AllocRow}
use Rattle.hp_machine.specs.PunchRows.{PunchRow}
use Rattle.hp_machine.specs.TruncateRows.{TruncateRow}
use Rattle.hp_machine.specs.UnmapRows.{UnmapRow}
use Rattle.hp_machine.specs.ExitRows.{ExitRow}
use Rattle.hp_machine.specs.declared.touch.TouchPhase.{TouchPhase}
use Rattle.hp_machine.specs.declared.touch.TouchPhase.TheVariants as touch
use Rattle.hp_machine.specs.declared.map.MapPhase.{MapPhase}
use Rattle.hp_machine.specs.declared.map.MapPhase.TheVariants as map
use Rattle.hp_machine.specs.declared.alloc.AllocPhase.{AllocPhase}
use Rattle.hp_machine.specs.declared.alloc.AllocPhase.TheVariants as alloc
use Rattle.hp_machine.specs.declared.punch.PunchPhase.{PunchPhase}
use Rattle.hp_machine.specs.declared.punch.PunchPhase.TheVariants as punch
use Rattle.hp_machine.specs.declared.truncate.TruncatePhase.{TruncatePhase}
use Rattle.hp_machine.specs.declared.truncate.TruncatePhase.TheVariants as truncate
use Rattle.hp_machine.specs.declared.unmap.UnmapPhase.{UnmapPhase}
use Rattle.hp_machine.specs.declared.unmap.UnmapPhase.TheVariants as unmap
use Rattle.hp_machine.specs.declared.exit.ExitPhase.{ExitPhase}
use Rattle.hp_machine.specs.declared.exit.ExitPhase.TheVariants as exit
use Rattle.hp_machine.specs.declared.outcome.Outcome.{Outcome}
use Rattle.hp_machine.specs.declared.call.Call.{Call}
use Rattle.hp_machine.specs.declared.call.Call.TheVariants as call
use Rattle.hp_machine.specs.declared.call.Turn.{Turn}
use Rattle.hp_machine.specs.declared.call.Turn.TheVariants.{Moved}
use Rattle.hp_laws.proofs.Shared.{by_test, by_option}
use Rattle.hp_laws.proofs.Deciding.{never}
use Rattle.hp_core.specs.Holding.{held_by}
use Rattle.hp_core.specs.Passing.{may_pass}

-- after the turn the call holds what it held
abbrev Keeps : {P : Type 0} → (P → Call) → P → Turn P → Type 0
Keeps call here turn = held_by (left call turn) ≡ held_by (Some (call here))

-- a leaf's equations put in
leaf : {P B : Type 0} {wanted turn : Turn P} (call : P → Call) (here : P) → (turn ≡ wanted) × B → Keeps call here wanted
    → Keeps call here turn
leaf {P} call here e h = subst (λ (m : Turn P). Keeps call here m) (sym e.0) h

-- a word that says otherwise
-- what the rows that operations share do: where a change is begun
change_keeps : {P : Type 0} (call : P → Call) (here : P) (s : Pool) (grant : Bool) (f from to : ℕ) (denied : P) (changed : Change → P)
    (turn : Turn P) (new : Pool) → ChangeRow s grant f from to denied changed turn new
    → Keeps call here (Moved denied) → ((c : Change) → Keeps call here (Moved (changed c))) → Keeps call here turn
change_keeps call here s grant f from to denied changed turn new row refused begun =
    by_test ((s.spare f == s.pending f) && not grant) row (λ _ r. leaf call here r refused) (λ _ r. leaf call here r (begun _))

-- where it is committed
commit_keeps : {P : Type 0} (call : P → Call) (here : P) (s : Pool) (f : ℕ) (c : Change) (settle next : P) (turn : Turn P) (new : Pool)
    → CommitRow s f c settle next turn new → Keeps call here (Moved settle) → Keeps call here (Moved next) → Keeps call here turn
commit_keeps call here s f c settle next turn new row some all =
    by_test (nat_lt (missing (s.reserved f) c.from c.to) c.missing) row (λ _ r. leaf call here r some) (λ _ r. leaf call here r all)

-- where a frame is taken
take_keeps : {P : Type 0} (call : P → Call) (here : P) (s : Pool) (m : ℕ) (refused : Answer → P) (taken : ℕ → P) (turn : Turn P)
    (new : Pool) → TakeRow s m refused taken turn new
    → ((a : Answer) → Keeps call here (Moved (refused a))) → ((x : ℕ) → Keeps call here (Moved (taken x))) → Keeps call here turn
take_keeps call here s m refused taken turn new row none some =
    by_test (m == 0) row
    (λ _ r. leaf call here r.3 (some r.0))
    (λ _ r. by_test (quota_is_used_up s) r
    (λ _ r. leaf call here r (none NoQuota))
    (λ _ r. by_test (frees s == s.resv) r
    (λ _ r. leaf call here r (none NoFrame))
    (λ _ r. leaf call here r.2 (some r.0))))

-- where entries of an index are cleared
unmap_index_keeps : {P : Type 0} (call : P → Call) (here : P) (s : Pool) (k f i : ℕ) (more last : P) (turn : Turn P) (new : Pool)
    → UnmapIndexRow s k f i more last turn new → Keeps call here (Moved more) → Keeps call here (Moved last) → Keeps call here turn
unmap_index_keeps call here s k f i more last turn new row on off =
    by_test (nat_lt k s.geometry.tasks) row (λ _ r. leaf call here r on) (λ _ r. leaf call here r off)

-- of each operation: a touch
touch_keeps : (s : Pool) (t : ℕ) (killed grant : Bool) (p : TouchPhase) (turn : Turn TouchPhase) (new : Pool)
    → may_pass (word_of (call.Touch p)) ≡ false → TouchRow s t killed grant p turn new → Keeps call.Touch p turn
touch_keeps s t killed grant (touch.Look p) turn new q row =
    by_option (find (s.mappings t) p.vpn) row
    (λ _ r. leaf call.Touch (touch.Look p) r refl)
    (λ place _ r. by_option (s.entries t p.vpn) r
    (λ _ r. leaf call.Touch (touch.Look p) r refl)
    (λ x _ r. leaf call.Touch (touch.Look p) r.2 refl))
touch_keeps s t killed grant (touch.Want p) turn new q row = never (sym q)
touch_keeps s t killed grant (touch.Locked p) turn new q row =
    by_test (nat_le (s.size p.touch.file) p.touch.index) row
    (λ _ r. leaf call.Touch (touch.Locked p) r refl)
    (λ _ r. by_test (is_some (s.pages p.touch.file p.touch.index)) r
    (λ _ r. leaf call.Touch (touch.Locked p) r refl) (λ _ r. leaf call.Touch (touch.Locked p) r refl))
touch_keeps s t killed grant (touch.Missing p) turn new q row =
    change_keeps call.Touch (touch.Missing p) s grant _ p.touch.index (p.touch.index + 1) _
    (λ change. touch.Changed (record { touch = p.touch; pending = change })) turn new row refl (λ c. refl)
touch_keeps s t killed grant (touch.Changed p) turn new q row =
    by_test killed row
    (λ _ r. leaf call.Touch (touch.Changed p) r refl)
    (λ _ r. take_keeps call.Touch (touch.Changed p) s p.pending.missing
    (λ a. touch.Abort (record { touch = p.touch; pending = p.pending; answer = a }))
    (λ x. touch.Taken (record { touch = p.touch; pending = p.pending; held = x })) turn new r (λ a. refl) (λ x. refl))
touch_keeps s t killed grant (touch.Abort p) turn new q row = leaf call.Touch (touch.Abort p) row refl
touch_keeps s t killed grant (touch.Taken p) turn new q row =
    commit_keeps call.Touch (touch.Taken p) s _ p.pending _ _ turn new row refl refl
touch_keeps s t killed grant (touch.Settle p) turn new q row = leaf call.Touch (touch.Settle p) row.2 refl
touch_keeps s t killed grant (touch.Committed p) turn new q row =
    by_test (nat_le (s.size p.touch.file) p.touch.index) row
    (λ _ r. leaf call.Touch (touch.Committed p) r refl)
    (λ _ r. by_test grant r
    (λ _ r. leaf call.Touch (touch.Committed p) r refl) (λ _ r. leaf call.Touch (touch.Committed p) r refl))
touch_keeps s t killed grant (touch.Restore p) turn new q row = leaf call.Touch (touch.Restore p) row refl
touch_keeps s t killed grant (touch.Found p) turn new q row =
    by_test (nat_le (s.size p.touch.file) p.touch.index) row
    (λ _ r. leaf call.Touch (touch.Found p) r refl)
    (λ _ r. by_test grant r
    (λ _ r. leaf call.Touch (touch.Found p) r.4 refl) (λ _ r. leaf call.Touch (touch.Found p) r refl))
touch_keeps s t killed grant (touch.Leave p) turn new q row = never (sym q)

-- a map
map_keeps : (s : Pool) (t : ℕ) (killed grant : Bool) (p : MapPhase) (turn : Turn MapPhase) (new : Pool)
    → may_pass (word_of (call.Map p)) ≡ false → MapRow s t killed grant p turn new → Keeps call.Map p turn
map_keeps s t killed grant (map.Start p) turn new q row = never (sym q)
map_keeps s t killed grant (map.Room p) turn new q row =
    by_option row.0 row.2
    (λ _ r. leaf call.Map (map.Room p) r refl)
    (λ base _ r. by_test grant r
    (λ _ r. by_test p.map.reserve r (λ _ r. leaf call.Map (map.Room p) r refl) (λ _ r. leaf call.Map (map.Room p) r refl))
    (λ _ r. leaf call.Map (map.Room p) r refl))
map_keeps s t killed grant (map.Missing p) turn new q row =
    change_keeps call.Map (map.Missing p) s grant _ p.map.from (p.map.from + p.map.len) _
    (λ change. map.Changed (record { map = p.map; base = p.base; pending = change })) turn new row refl (λ c. refl)
map_keeps s t killed grant (map.Changed p) turn new q row =
    by_test killed row
    (λ _ r. leaf call.Map (map.Changed p) r refl)
    (λ _ r. by_test (exceeds_quota s p.pending.missing) r
    (λ _ r. leaf call.Map (map.Changed p) r refl)
    (λ _ r. by_test (nat_lt (frees s - s.resv) p.pending.missing) r
    (λ _ r. leaf call.Map (map.Changed p) r refl) (λ _ r. leaf call.Map (map.Changed p) r refl)))
map_keeps s t killed grant (map.Abort p) turn new q row = leaf call.Map (map.Abort p) row refl
map_keeps s t killed grant (map.Accounted p) turn new q row =
    by_test (nat_lt (missing (s.reserved p.map.file) p.pending.from p.pending.to) p.pending.missing) row
    (λ _ r. leaf call.Map (map.Accounted p) r refl) (λ _ r. leaf call.Map (map.Accounted p) r refl)
map_keeps s t killed grant (map.Settle p) turn new q row = leaf call.Map (map.Settle p) row.2 refl
map_keeps s t killed grant (map.Enter p) turn new q row = leaf call.Map (map.Enter p) row refl
map_keeps s t killed grant (map.Leave p) turn new q row = never (sym q)

-- an allocation
alloc_keeps : (s : Pool) (t : ℕ) (killed grant : Bool) (p : AllocPhase) (turn : Turn AllocPhase) (new : Pool)
    → may_pass (word_of (call.Alloc p)) ≡ false → AllocRow s t killed grant p turn new → Keeps call.Alloc p turn
alloc_keeps s t killed grant (alloc.Start p) turn new q row = never (sym q)
alloc_keeps s t killed grant (alloc.Head p) turn new q row =
    by_test killed row (λ _ r. leaf call.Alloc (alloc.Head p) r refl) (λ _ r. leaf call.Alloc (alloc.Head p) r refl)
alloc_keeps s t killed grant (alloc.Want p) turn new q row = never (sym q)
alloc_keeps s t killed grant (alloc.Locked p) turn new q row =
    by_test (is_some (s.pages p.allocation.file p.index)) row
    (λ _ r. leaf call.Alloc (alloc.Locked p) r refl) (λ _ r. leaf call.Alloc (alloc.Locked p) r refl)
alloc_keeps s t killed grant (alloc.Missing p) turn new q row =
    change_keeps call.Alloc (alloc.Missing p) s grant _ p.index (p.index + 1) _
    (λ change. alloc.Changed (record { allocation = p.allocation; index = p.index; pending = change })) turn new row refl (λ c. refl)
alloc_keeps s t killed grant (alloc.Changed p) turn new q row =
    by_test killed row
    (λ _ r. leaf call.Alloc (alloc.Changed p) r refl)
    (λ _ r. take_keeps call.Alloc (alloc.Changed p) s p.pending.missing
    (λ a. alloc.Abort (record { allocation = p.allocation; index = p.index; pending = p.pending; answer = a }))
    (λ x. alloc.Taken (record { allocation = p.allocation; index = p.index; pending = p.pending; held = x })) turn new r
    (λ a. refl) (λ x. refl))
alloc_keeps s t killed grant (alloc.Abort p) turn new q row = leaf call.Alloc (alloc.Abort p) row refl
alloc_keeps s t killed grant (alloc.Taken p) turn new q row =
    commit_keeps call.Alloc (alloc.Taken p) s _ p.pending _ _ turn new row refl refl
alloc_keeps s t killed grant (alloc.Settle p) turn new q row = leaf call.Alloc (alloc.Settle p) row.2 refl
alloc_keeps s t killed grant (alloc.Committed p) turn new q row =
    by_test grant row (λ _ r. leaf call.Alloc (alloc.Committed p) r refl) (λ _ r. leaf call.Alloc (alloc.Committed p) r refl)
alloc_keeps s t killed grant (alloc.Restore p) turn new q row = leaf call.Alloc (alloc.Restore p) row refl
alloc_keeps s t killed grant (alloc.Unslot p) turn new q row = never (sym q)
alloc_keeps s t killed grant (alloc.Extend p) turn new q row = leaf call.Alloc (alloc.Extend p) row refl
alloc_keeps s t killed grant (alloc.Leave p) turn new q row = never (sym q)

-- a punch
punch_keeps : (s : Pool) (t : ℕ) (killed grant : Bool) (p : PunchPhase) (turn : Turn PunchPhase) (new : Pool)
    → may_pass (word_of (call.Punch p)) ≡ false → PunchRow s t killed grant p turn new → Keeps call.Punch p turn
punch_keeps s t killed grant (punch.Start p) turn new q row = never (sym q)
punch_keeps s t killed grant (punch.Want p) turn new q row = never (sym q)
punch_keeps s t killed grant (punch.Locked p) turn new q row =
    by_test (is_some (s.pages p.hole.file p.index)) row
    (λ _ r. leaf call.Punch (punch.Locked p) r refl) (λ _ r. leaf call.Punch (punch.Locked p) r refl)
punch_keeps s t killed grant (punch.Unmap p) turn new q row =
    unmap_index_keeps call.Punch (punch.Unmap p) s p.task _ _ _ _ turn new row refl refl
punch_keeps s t killed grant (punch.Evict p) turn new q row = leaf call.Punch (punch.Evict p) row.2 refl
punch_keeps s t killed grant (punch.Delete p) turn new q row =
    by_test (splits (s.reserved p.hole.file) p.index && nat_le (s.spare p.hole.file) (s.pending p.hole.file) && not grant) row
    (λ _ r. leaf call.Punch (punch.Delete p) r refl) (λ _ r. leaf call.Punch (punch.Delete p) r refl)
punch_keeps s t killed grant (punch.Free p) turn new q row =
    by_test p.denied row (λ _ r. leaf call.Punch (punch.Free p) r refl) (λ _ r. leaf call.Punch (punch.Free p) r.1 refl)
punch_keeps s t killed grant (punch.Unslot p) turn new q row = never (sym q)
punch_keeps s t killed grant (punch.Leave p) turn new q row = never (sym q)

-- a truncation
truncate_keeps : (s : Pool) (t : ℕ) (killed grant : Bool) (p : TruncatePhase) (turn : Turn TruncatePhase) (new : Pool)
    → may_pass (word_of (call.Truncate p)) ≡ false → TruncateRow s t killed grant p turn new → Keeps call.Truncate p turn
truncate_keeps s t killed grant (truncate.Start p) turn new q row = never (sym q)
truncate_keeps s t killed grant (truncate.Size p) turn new q row =
    by_test (nat_lt p.truncation.new (max (s.size p.truncation.file) row.0)) row.2
    (λ _ r. leaf call.Truncate (truncate.Size p) r refl) (λ _ r. leaf call.Truncate (truncate.Size p) r refl)
truncate_keeps s t killed grant (truncate.Want p) turn new q row = never (sym q)
truncate_keeps s t killed grant (truncate.Locked p) turn new q row =
    by_test (is_some (s.pages p.truncation.file p.index)) row
    (λ _ r. leaf call.Truncate (truncate.Locked p) r refl) (λ _ r. leaf call.Truncate (truncate.Locked p) r refl)
truncate_keeps s t killed grant (truncate.Unmap p) turn new q row =
    unmap_index_keeps call.Truncate (truncate.Unmap p) s p.task _ _ _ _ turn new row refl refl
truncate_keeps s t killed grant (truncate.Evict p) turn new q row = leaf call.Truncate (truncate.Evict p) row.2 refl
truncate_keeps s t killed grant (truncate.Free p) turn new q row = leaf call.Truncate (truncate.Free p) row refl
truncate_keeps s t killed grant (truncate.Unslot p) turn new q row = never (sym q)
truncate_keeps s t killed grant (truncate.Tail p) turn new q row = leaf call.Truncate (truncate.Tail p) row refl
truncate_keeps s t killed grant (truncate.Settle p) turn new q row = leaf call.Truncate (truncate.Settle p) row.2 refl
truncate_keeps s t killed grant (truncate.Leave p) turn new q row = never (sym q)

-- an unmap, which holds nothing
unmap_keeps : (s : Pool) (t : ℕ) (killed grant : Bool) (p : UnmapPhase) (turn : Turn UnmapPhase) (new : Pool)
    → may_pass (word_of (call.Unmap p)) ≡ false → UnmapRow s t killed grant p turn new → Keeps call.Unmap p turn
unmap_keeps s t killed grant (unmap.Start p) turn new q row = never (sym q)
unmap_keeps s t killed grant (unmap.Clear p) turn new q row = leaf call.Unmap (unmap.Clear p) row refl
unmap_keeps s t killed grant (unmap.Drop p) turn new q row = leaf call.Unmap (unmap.Drop p) row refl

-- an exit, which holds nothing
exit_keeps : (s : Pool) (t : ℕ) (killed grant : Bool) (p : ExitPhase) (turn : Turn ExitPhase) (new : Pool)
    → may_pass (word_of (call.Exit p)) ≡ false → ExitRow s t killed grant p turn new → Keeps call.Exit p turn
exit_keeps s t killed grant exit.Start turn new q row = never (sym q)
exit_keeps s t killed grant (exit.Clear p) turn new q row = leaf call.Exit (exit.Clear p) row refl
exit_keeps s t killed grant (exit.Drop p) turn new q row =
    by_option (first_base (without (s.mappings t) p.base)) row
    (λ _ r. leaf call.Exit (exit.Drop p) r refl) (λ base _ r. leaf call.Exit (exit.Drop p) r refl)
exit_keeps s t killed grant exit.Leave turn new q row = never (sym q)

-- the call that a turn leaves
of_turn : {P : Type 0} (call : P → Call) (here : P) (turn : Turn P) (next : Option Call) → next ≡ left call turn
    → Keeps call here turn → held_by next ≡ held_by (Some (call here))
of_turn call here turn next leaves h = ap held_by leaves ∙ h

-- so each step of a call
pub call_keeps : (s : Pool) (t : ℕ) (killed grant : Bool) (c : Call) (o : Outcome) (new : Pool) (next : Option Call)
    → may_pass (word_of c) ≡ false → CallRow s t killed grant c o new next → held_by next ≡ held_by (Some c)
unfolding CallRow
call_keeps s t killed grant (call.Touch p) o new next q (turn, row, tells, leaves) =
    of_turn call.Touch p turn next leaves (touch_keeps s t killed grant p turn new q row)
call_keeps s t killed grant (call.Map p) o new next q (turn, row, tells, leaves) =
    of_turn call.Map p turn next leaves (map_keeps s t killed grant p turn new q row)
call_keeps s t killed grant (call.Alloc p) o new next q (turn, row, tells, leaves) =
    of_turn call.Alloc p turn next leaves (alloc_keeps s t killed grant p turn new q row)
call_keeps s t killed grant (call.Punch p) o new next q (turn, row, tells, leaves) =
    of_turn call.Punch p turn next leaves (punch_keeps s t killed grant p turn new q row)
call_keeps s t killed grant (call.Truncate p) o new next q (turn, row, tells, leaves) =
    of_turn call.Truncate p turn next leaves (truncate_keeps s t killed grant p turn new q row)
call_keeps s t killed grant (call.Unmap p) o new next q (turn, row, tells, leaves) =
    of_turn call.Unmap p turn next leaves (unmap_keeps s t killed grant p turn new q row)
call_keeps s t killed grant (call.Exit p) o new next q (turn, row, tells, leaves) =
    of_turn call.Exit p turn next leaves (exit_keeps s t killed grant p turn new q row)
