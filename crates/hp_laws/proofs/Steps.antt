-- Each step of a call wrote what fits, whatever the operation: so a law on what is written holds of each.
use Rattle.std.proofs.Common.{◌≡◌, ℕ, ◌+◌, ◌<◌, ◌≤◌, subst}
use Rattle.std.specs.Prelude.{Bool, Option, Some}
use Rattle.hp_machine.specs.State.{Pool, State, pool_of}
use Rattle.hp_machine.specs.Events.{CallRow, outcome_of, left}
use Rattle.hp_machine.specs.declared.outcome.Outcome.{Outcome}
use Rattle.hp_machine.specs.declared.call.Call.{Call}
use Rattle.hp_machine.specs.declared.call.Call.TheVariants as call
use Rattle.hp_machine.specs.declared.call.Turn.{Turn}
use Rattle.hp_laws.proofs.Invariant.{Inv}
use Rattle.hp_laws.proofs.Did.{Stepped, Did}
use Rattle.hp_laws.proofs.TouchDid.{touch_did}
use Rattle.hp_laws.proofs.MapDid.{map_did}
use Rattle.hp_laws.proofs.AllocDid.{alloc_did}
use Rattle.hp_laws.proofs.PunchDid.{punch_did}
use Rattle.hp_laws.proofs.TruncateDid.{truncate_did}
use Rattle.hp_laws.proofs.UnmapDid.{unmap_did, exit_did}

-- a turn as it is told, with the call that it leaves
pub as_told : {P : Type 0} (call : P → Call) (s : State) (t : ℕ) (here : P) (turn : Turn P) (new : Pool) (o : Outcome) (next : Option Call)
    → o ≡ outcome_of call turn → next ≡ left call turn → Did call s t here turn new → Stepped s t (call here) o new next
as_told call s t here turn new o next tells leaves d =
    subst (λ (p : Outcome × Option Call). Stepped s t (call here) p.0 new p.1) (pair tells leaves) d
  where
    pair : {a b : Outcome} {c d : Option Call} → a ≡ b → c ≡ d → ◌≡◌ {A = Outcome × Option Call} (b, d) (a, c)
    pair e f = cc

-- one walk over the rows of each operation
pub call_did : (s : State) (t : ℕ) (killed grant : Bool) (c : Call) (o : Outcome) (new : Pool) (next : Option Call)
    → Inv s.geometry s → 1 ≤ t → t < s.geometry.tasks + 1 → s.calls t ≡ Some c → CallRow (pool_of s) t killed grant c o new next
    → Stepped s t c o new next
unfolding CallRow
call_did s t killed grant (call.Touch p) o new next h one l e (turn, row, tells, leaves) =
    as_told call.Touch s t p turn new o next tells leaves (touch_did s t killed grant p turn new h e row)
call_did s t killed grant (call.Map p) o new next h one l e (turn, row, tells, leaves) =
    as_told call.Map s t p turn new o next tells leaves (map_did s t killed grant p turn new h e row)
call_did s t killed grant (call.Alloc p) o new next h one l e (turn, row, tells, leaves) =
    as_told call.Alloc s t p turn new o next tells leaves (alloc_did s t killed grant p turn new h e row)
call_did s t killed grant (call.Punch p) o new next h one l e (turn, row, tells, leaves) =
    as_told call.Punch s t p turn new o next tells leaves (punch_did s t killed grant p turn new h one l e row)
call_did s t killed grant (call.Truncate p) o new next h one l e (turn, row, tells, leaves) =
    as_told call.Truncate s t p turn new o next tells leaves (truncate_did s t killed grant p turn new h one l e row)
call_did s t killed grant (call.Unmap p) o new next h one l e (turn, row, tells, leaves) =
    as_told call.Unmap s t p turn new o next tells leaves (unmap_did s t killed grant p turn new h e row)
call_did s t killed grant (call.Exit p) o new next h one l e (turn, row, tells, leaves) =
    as_told call.Exit s t p turn new o next tells leaves (exit_did s t killed grant p turn new h e row)
