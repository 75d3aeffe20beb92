-- The rows of the machine, put together from what the steps ensure.
use Rattle.std.proofs.Common.{◌≡◌, ℕ, refl, sym, subst}
use Rattle.std.specs.Prelude.{Bool, Option, Some, Result, Ok, Err, IfOk, IfSome, IsSomeAnd}
use Rattle.std.specs.declared.alloc.AllocError.{AllocError}
use Rattle.hp_machine.specs.State.{Pool}
use Rattle.hp_machine.specs.Events.{CallRow, TurnRow}
use Rattle.hp_machine.specs.Wants.{Wants}
use Rattle.hp_machine.specs.TouchRows.{TouchRow}
use Rattle.hp_machine.specs.MapRows.{MapRow}
use Rattle.hp_machine.specs.ExitRows.{ExitRow}
use Rattle.hp_machine.specs.UnmapRows.{UnmapRow}
use Rattle.hp_machine.specs.TruncateRows.{TruncateRow}
use Rattle.hp_machine.specs.PunchRows.{PunchRow}
use Rattle.hp_machine.specs.AllocRows.{AllocRow}
use Rattle.hp_machine.specs.declared.touch.TouchPhase.{TouchPhase}
use Rattle.hp_machine.specs.declared.map.MapPhase.{MapPhase}
use Rattle.hp_machine.specs.declared.alloc.AllocPhase.{AllocPhase}
use Rattle.hp_machine.specs.declared.punch.PunchPhase.{PunchPhase}
use Rattle.hp_machine.specs.declared.truncate.TruncatePhase.{TruncatePhase}
use Rattle.hp_machine.specs.declared.unmap.UnmapPhase.{UnmapPhase}
use Rattle.hp_machine.specs.declared.exit.ExitPhase.{ExitPhase}
use Rattle.hp_machine.specs.declared.call.Call.{Call}
use Rattle.hp_machine.specs.declared.call.Call.TheVariants as call
use Rattle.hp_machine.specs.declared.call.Stopped.{Stopped}
use Rattle.hp_machine.specs.declared.call.Turn.{Turn}
use Rattle.hp_machine.specs.declared.outcome.Outcome.{Outcome}
use Rattle.hp_core.specs.Turns.{Settles}

-- a turn that is a row of its operation settles as a row of the call, where memory was found
settled_row : {P : Type 0} (inflight : P → Call) (row : Turn P → Pool → Type 0) (new : Pool)
    (stepped : Result (Turn P) (Stopped P)) (result : Result Outcome AllocError) (next : Option Call)
    → Settles inflight stepped result next → IfOk stepped (λ turn. row turn new)
    → IfOk result (λ told. TurnRow inflight row told new next)
settled_row inflight row new (Ok turn) result next h r =
    subst (λ (res : Result Outcome AllocError). IfOk res (λ told. TurnRow inflight row told new next)) (sym h.0)
    (turn, r, refl, h.1)
settled_row inflight row new (Err stopped) (Err e) next h r = tt
settled_row inflight row new (Err stopped) (Ok told) next h r = (let no = h.0 in absurd (cc))

-- of each operation: a step of a touch is a row of the machine
pub touch_row : (s : Pool) (t : ℕ) (killed grant : Bool) (p : TouchPhase) (new : Pool)
    (stepped : Result (Turn TouchPhase) (Stopped TouchPhase)) (result : Result Outcome AllocError) (next : Option Call)
    → Settles call.Touch stepped result next → IfOk stepped (λ turn. TouchRow s t killed grant p turn new)
    → IfOk result (λ told. CallRow s t killed grant (call.Touch p) told new next)
unfolding CallRow
touch_row s t killed grant p new stepped result next h r =
    settled_row call.Touch (TouchRow s t killed grant p) new stepped result next h r

-- of a map
pub map_row : (s : Pool) (t : ℕ) (killed grant : Bool) (p : MapPhase) (new : Pool)
    (stepped : Result (Turn MapPhase) (Stopped MapPhase)) (result : Result Outcome AllocError) (next : Option Call)
    → Settles call.Map stepped result next → IfOk stepped (λ turn. MapRow s t killed grant p turn new)
    → IfOk result (λ told. CallRow s t killed grant (call.Map p) told new next)
unfolding CallRow
map_row s t killed grant p new stepped result next h r =
    settled_row call.Map (MapRow s t killed grant p) new stepped result next h r

-- of an allocation
pub alloc_row : (s : Pool) (t : ℕ) (killed grant : Bool) (p : AllocPhase) (new : Pool)
    (stepped : Result (Turn AllocPhase) (Stopped AllocPhase)) (result : Result Outcome AllocError) (next : Option Call)
    → Settles call.Alloc stepped result next → IfOk stepped (λ turn. AllocRow s t killed grant p turn new)
    → IfOk result (λ told. CallRow s t killed grant (call.Alloc p) told new next)
unfolding CallRow
alloc_row s t killed grant p new stepped result next h r =
    settled_row call.Alloc (AllocRow s t killed grant p) new stepped result next h r

-- of a punch
pub punch_row : (s : Pool) (t : ℕ) (killed grant : Bool) (p : PunchPhase) (new : Pool)
    (stepped : Result (Turn PunchPhase) (Stopped PunchPhase)) (result : Result Outcome AllocError) (next : Option Call)
    → Settles call.Punch stepped result next → IfOk stepped (λ turn. PunchRow s t killed grant p turn new)
    → IfOk result (λ told. CallRow s t killed grant (call.Punch p) told new next)
unfolding CallRow
punch_row s t killed grant p new stepped result next h r =
    settled_row call.Punch (PunchRow s t killed grant p) new stepped result next h r

-- of a truncation, whose steps want no memory
pub truncate_row : (s : Pool) (t : ℕ) (killed grant : Bool) (p : TruncatePhase) (new : Pool) (turn : Turn TruncatePhase)
    (result : Result Outcome AllocError) (next : Option Call)
    → Settles call.Truncate (Ok turn) result next → TruncateRow s t killed grant p turn new
    → IfOk result (λ told. CallRow s t killed grant (call.Truncate p) told new next)
unfolding CallRow
truncate_row s t killed grant p new turn result next h r =
    settled_row call.Truncate (TruncateRow s t killed grant p) new (Ok turn) result next h r

-- of an unmap
pub unmap_row : (s : Pool) (t : ℕ) (killed grant : Bool) (p : UnmapPhase) (new : Pool) (turn : Turn UnmapPhase)
    (result : Result Outcome AllocError) (next : Option Call)
    → Settles call.Unmap (Ok turn) result next → UnmapRow s t killed grant p turn new
    → IfOk result (λ told. CallRow s t killed grant (call.Unmap p) told new next)
unfolding CallRow
unmap_row s t killed grant p new turn result next h r =
    settled_row call.Unmap (UnmapRow s t killed grant p) new (Ok turn) result next h r

-- of an exit
pub exit_row : (s : Pool) (t : ℕ) (killed grant : Bool) (p : ExitPhase) (new : Pool) (turn : Turn ExitPhase)
    (result : Result Outcome AllocError) (next : Option Call)
    → Settles call.Exit (Ok turn) result next → ExitRow s t killed grant p turn new
    → IfOk result (λ told. CallRow s t killed grant (call.Exit p) told new next)
unfolding CallRow
exit_row s t killed grant p new turn result next h r =
    settled_row call.Exit (ExitRow s t killed grant p) new (Ok turn) result next h r

-- so it is of a task state that has the call, and of a task that is killed as the step was told
pub task_state_row : (s : Pool) (t : ℕ) (killed now grant : Bool) (o : Option Call) (c : Call) (new : Pool)
    (result : Result Outcome AllocError) (next : Option Call) → o ≡ Some c → killed ≡ now
    → IfOk result (λ told. CallRow s t killed grant c told new next)
    → IfOk result (λ told. IfSome o (λ call. CallRow s t now grant call told new next))
task_state_row s t killed now grant o c new (Err e) next was same h = tt
task_state_row s t killed now grant o c new (Ok told) next was same h =
    subst (λ (x : Option Call). IfSome x (λ call. CallRow s t now grant call told new next)) (sym was)
    (subst (λ (b : Bool). CallRow s t b grant c told new next) same h)

-- and what its call wants, the task state's does
pub task_state_wants : (s : Pool) (t : ℕ) (o : Option Call) (c : Call) → o ≡ Some c → Wants s t c → IsSomeAnd o (λ call. Wants s t call)
task_state_wants s t o c was wants = subst (λ (x : Option Call). IsSomeAnd x (λ call. Wants s t call)) (sym was) wants
