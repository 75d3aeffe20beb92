-- A step from a start or a want keeps the slot and the lock that its call holds, and may take one.
use Rattle.std.proofs.Common.{◌≡◌, ℕ, refl, sym, subst, ap, ◌∙◌}
use Rattle.std.specs.Prelude.{Bool, true, false, ◌||◌, Option, Some, None}
use Rattle.hp_machine.specs.Events.{CallRow, word_of, left}
use Rattle.hp_machine.specs.State.{Pool, slot_of}
use Rattle.hp_machine.specs.AllocRows.{AllocRow}
use Rattle.hp_machine.specs.PunchRows.{PunchRow}
use Rattle.hp_machine.specs.TruncateRows.{TruncateRow}
use Rattle.hp_machine.specs.declared.touch.TouchPhase.TheVariants as touch
use Rattle.hp_machine.specs.declared.map.MapPhase.TheVariants as map
use Rattle.hp_machine.specs.declared.alloc.AllocPhase.{AllocPhase}
use Rattle.hp_machine.specs.declared.alloc.AllocPhase.TheVariants as alloc
use Rattle.hp_machine.specs.declared.punch.PunchPhase.{PunchPhase}
use Rattle.hp_machine.specs.declared.punch.PunchPhase.TheVariants as punch
use Rattle.hp_machine.specs.declared.truncate.TruncatePhase.{TruncatePhase}
use Rattle.hp_machine.specs.declared.truncate.TruncatePhase.TheVariants as truncate
use Rattle.hp_machine.specs.declared.unmap.UnmapPhase.TheVariants as unmap
use Rattle.hp_machine.specs.declared.exit.ExitPhase.TheVariants as exit
use Rattle.hp_machine.specs.declared.outcome.Outcome.{Outcome}
use Rattle.hp_machine.specs.declared.phase.Phase.{Phase}
use Rattle.hp_machine.specs.declared.call.Call.{Call}
use Rattle.hp_machine.specs.declared.call.Call.TheVariants as call
use Rattle.hp_machine.specs.declared.call.Turn.{Turn}
use Rattle.hp_laws.proofs.Deciding.{never}
use Rattle.hp_laws.proofs.Shared.{by_test, by_option}
use Rattle.hp_core.specs.Holding.{held_by}
use Rattle.hp_core.specs.declared.holding.Holding.{Holding}
use Rattle.hp_core.proofs.Waits.{nobody}
use Rattle.hp_core.specs.Passing.{may_leave, may_pass, may_wait}
use Rattle.hp_core.proofs.Quiet.{call_keeps}

-- what was held is held
abbrev pub HeldOn : Holding → Holding → Type 0
HeldOn before after = record {
  slot : (p : ℕ × ℕ) → before.slot ≡ Some p → after.slot ≡ Some p;
  lock : (f : ℕ) → before.lock ≡ Some f → after.lock ≡ Some f;
}

pub held_same : (a b : Holding) → b ≡ a → HeldOn a b
held_same a b e = subst (HeldOn a) (sym e) (record { slot = λ p h. h; lock = λ f h. h })

-- where nothing is held
none_held : (after : Holding) → HeldOn (held_by None) after
none_held after = record { slot = λ p e. absurd (no_option e); lock = λ f e. nobody f e }
  where
    no_option : {p : ℕ × ℕ} → ◌≡◌ {A = Option (ℕ × ℕ)} None (Some p) → ⊥
    no_option e = cc

-- where a lock is held, and is held on
lock_held : (f : ℕ) (o : Option (ℕ × ℕ)) → HeldOn (record { slot = None; lock = Some f }) (record { slot = o; lock = Some f })
lock_held f o = record { slot = λ p e. absurd (no_option e); lock = λ g e. e }
  where
    no_option : {p : ℕ × ℕ} → ◌≡◌ {A = Option (ℕ × ℕ)} None (Some p) → ⊥
    no_option e = cc

-- the call that the turn leaves holds on
abbrev Grows : {P : Type 0} → (P → Call) → P → Turn P → Type 0
Grows call here turn = HeldOn (held_by (Some (call here))) (held_by (left call turn))

leaf : {P B : Type 0} {wanted turn : Turn P} (call : P → Call) (here : P) → (turn ≡ wanted) × B → Grows call here wanted
    → Grows call here turn
leaf {P} call here e h = subst (λ (m : Turn P). Grows call here m) (sym e.0) h

-- another word
alloc_grows : (s : Pool) (t : ℕ) (killed grant : Bool) (p : AllocPhase) (turn : Turn AllocPhase) (new : Pool)
    → may_wait (word_of (call.Alloc p)) ≡ true → AllocRow s t killed grant p turn new → Grows call.Alloc p turn
alloc_grows s t killed grant (alloc.Start p) turn new q row = none_held _
alloc_grows s t killed grant (alloc.Want p) turn new q row =
    by_test killed row
    (λ _ r. leaf call.Alloc (alloc.Want p) r (lock_held p.allocation.file _))
    (λ _ r. by_option (s.slots (slot_of s.geometry p.allocation.file p.index)) r
    (λ _ r. leaf call.Alloc (alloc.Want p) r (lock_held p.allocation.file _))
    (λ holder _ r. leaf call.Alloc (alloc.Want p) r (lock_held p.allocation.file _)))
alloc_grows s t killed grant p turn new q row = never q

punch_grows : (s : Pool) (t : ℕ) (killed grant : Bool) (p : PunchPhase) (turn : Turn PunchPhase) (new : Pool)
    → may_wait (word_of (call.Punch p)) ≡ true → PunchRow s t killed grant p turn new → Grows call.Punch p turn
punch_grows s t killed grant (punch.Start p) turn new q row = none_held _
punch_grows s t killed grant (punch.Want p) turn new q row =
    by_option (s.slots (slot_of s.geometry p.hole.file p.index)) row
    (λ _ r. leaf call.Punch (punch.Want p) r (lock_held p.hole.file _))
    (λ holder _ r. leaf call.Punch (punch.Want p) r (lock_held p.hole.file _))
punch_grows s t killed grant p turn new q row = never q

truncate_grows : (s : Pool) (t : ℕ) (killed grant : Bool) (p : TruncatePhase) (turn : Turn TruncatePhase) (new : Pool)
    → may_wait (word_of (call.Truncate p)) ≡ true → TruncateRow s t killed grant p turn new → Grows call.Truncate p turn
truncate_grows s t killed grant (truncate.Start p) turn new q row = none_held _
truncate_grows s t killed grant (truncate.Want p) turn new q row =
    by_option (s.slots (slot_of s.geometry p.truncation.file p.index)) row
    (λ _ r. leaf call.Truncate (truncate.Want p) r (lock_held p.truncation.file _))
    (λ holder _ r. leaf call.Truncate (truncate.Want p) r (lock_held p.truncation.file _))
truncate_grows s t killed grant p turn new q row = never q

-- the call that a turn leaves
of_turn : {P : Type 0} (call : P → Call) (here : P) (turn : Turn P) (next : Option Call) → next ≡ left call turn
    → Grows call here turn → HeldOn (held_by (Some (call here))) (held_by next)
of_turn call here turn next leaves h = subst (λ (o : Option Call). HeldOn (held_by (Some (call here))) (held_by o)) (sym leaves) h

-- so a step from a start or a want
waiting_grows : (s : Pool) (t : ℕ) (killed grant : Bool) (c : Call) (o : Outcome) (new : Pool) (next : Option Call)
    → may_wait (word_of c) ≡ true → CallRow s t killed grant c o new next → HeldOn (held_by (Some c)) (held_by next)
unfolding CallRow
waiting_grows s t killed grant (call.Touch (touch.Want p)) o new next q row = none_held _
waiting_grows s t killed grant (call.Touch p) o new next q row = never q
waiting_grows s t killed grant (call.Map (map.Start p)) o new next q row = none_held _
waiting_grows s t killed grant (call.Map p) o new next q row = never q
waiting_grows s t killed grant (call.Alloc p) o new next q (turn, row, tells, leaves) =
    of_turn call.Alloc p turn next leaves (alloc_grows s t killed grant p turn new q row)
waiting_grows s t killed grant (call.Punch p) o new next q (turn, row, tells, leaves) =
    of_turn call.Punch p turn next leaves (punch_grows s t killed grant p turn new q row)
waiting_grows s t killed grant (call.Truncate p) o new next q (turn, row, tells, leaves) =
    of_turn call.Truncate p turn next leaves (truncate_grows s t killed grant p turn new q row)
waiting_grows s t killed grant (call.Unmap (unmap.Start p)) o new next q row = none_held _
waiting_grows s t killed grant (call.Unmap p) o new next q row = never q
waiting_grows s t killed grant (call.Exit exit.Start) o new next q row = none_held _
waiting_grows s t killed grant (call.Exit p) o new next q row = never q

-- what neither leaves nor acquires anything passes nothing
quiet : (w : Phase) → may_leave w ≡ false → may_wait w ≡ false → may_pass w ≡ false
quiet w stays goes = ap (λ (b : Bool). b || may_leave w) goes ∙ stays

-- so each step but one that may leave what its call holds
pub call_grows : (s : Pool) (t : ℕ) (killed grant : Bool) (c : Call) (o : Outcome) (new : Pool) (next : Option Call)
    → may_leave (word_of c) ≡ false → CallRow s t killed grant c o new next → HeldOn (held_by (Some c)) (held_by next)
call_grows s t killed grant c o new next stays row = by (may_wait (word_of c)) refl
  where
    by : (b : Bool) → may_wait (word_of c) ≡ b → HeldOn (held_by (Some c)) (held_by next)
    by true e = waiting_grows s t killed grant c o new next e row
    by false e = held_same (held_by (Some c)) (held_by next)
        (call_keeps s t killed grant c o new next (quiet (word_of c) stays e) row)
