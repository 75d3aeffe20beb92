-- One step of a call, taken by a pool and by that pool with its frames renamed.
use Rattle.std.proofs.Common.{◌≡◌, ℕ, refl, ap, sym, ◌∙◌}
use Rattle.std.specs.Prelude.{Bool, Option, Some, None}
use Rattle.std.specs.Option.{option_map}
use Rattle.hp_machine.specs.State.{Pool}
use Rattle.hp_machine.specs.Events.{CallRow, word_of, outcome_of, left}
use Rattle.hp_machine.specs.Views.{hand}
use Rattle.hp_machine.specs.declared.touch.TouchPhase.TheVariants as touch
use Rattle.hp_machine.specs.declared.alloc.AllocPhase.TheVariants as alloc
use Rattle.hp_machine.specs.declared.punch.PunchPhase.TheVariants as punch
use Rattle.hp_machine.specs.declared.truncate.TruncatePhase.TheVariants as truncate
use Rattle.hp_machine.specs.declared.outcome.Outcome.{Outcome}
use Rattle.hp_machine.specs.declared.outcome.Outcome.TheVariants as outcome
use Rattle.hp_machine.specs.declared.call.Call.{Call}
use Rattle.hp_machine.specs.declared.call.Call.TheVariants as call
use Rattle.hp_machine.specs.declared.call.Turn.{Turn}
use Rattle.hp_machine.specs.declared.call.Turn.TheVariants.{Moved, Blocked, Ended}
use Rattle.hp_sequential.specs.Renaming.{Renaming, call_renamed, touch_renamed, alloc_renamed, punch_renamed, truncate_renamed}
use Rattle.hp_sequential.proofs.Parts.{pool_renamed, turn_renamed, unnamed, IsUsed, Used, Follows}
use Rattle.hp_sequential.proofs.Touches.{touch_row, alloc_row}
use Rattle.hp_sequential.proofs.Maps.{map_row, unmap_row, exit_row}
use Rattle.hp_sequential.proofs.Removals.{punch_row, truncate_row}

-- a call stands in the same phase under any names
word_renamed : (to : ℕ → ℕ) (c : Call) → word_of (call_renamed to c) ≡ word_of c
word_renamed to (call.Touch (touch.Taken p)) = refl
word_renamed to (call.Touch p) = refl
word_renamed to (call.Alloc (alloc.Taken p)) = refl
word_renamed to (call.Alloc p) = refl
word_renamed to (call.Punch (punch.Free p)) = refl
word_renamed to (call.Punch p) = refl
word_renamed to (call.Truncate (truncate.Free p)) = refl
word_renamed to (call.Truncate p) = refl
word_renamed to c = refl

-- under names that call its frame alike a call is the same
pub call_agrees : (p q : ℕ → ℕ) (c : Option Call) → ((x : ℕ) → hand c ≡ Some x → q x ≡ p x)
    → option_map (call_renamed q) c ≡ option_map (call_renamed p) c
call_agrees p q None h = refl
call_agrees p q (Some (call.Touch (touch.Taken c))) h =
    ap (λ (x : ℕ). Some (call.Touch (touch.Taken (record c { held = x })))) (h c.held refl)
call_agrees p q (Some (call.Touch (touch.Settle c))) h =
    ap (λ (x : ℕ). Some (call.Touch (touch.Settle (record c { held = x })))) (h c.held refl)
call_agrees p q (Some (call.Touch (touch.Committed c))) h =
    ap (λ (x : ℕ). Some (call.Touch (touch.Committed (record c { held = x })))) (h c.held refl)
call_agrees p q (Some (call.Touch (touch.Restore c))) h =
    ap (λ (x : ℕ). Some (call.Touch (touch.Restore (record c { held = x })))) (h c.held refl)
call_agrees p q (Some (call.Alloc (alloc.Taken c))) h =
    ap (λ (x : ℕ). Some (call.Alloc (alloc.Taken (record c { held = x })))) (h c.held refl)
call_agrees p q (Some (call.Alloc (alloc.Settle c))) h =
    ap (λ (x : ℕ). Some (call.Alloc (alloc.Settle (record c { held = x })))) (h c.held refl)
call_agrees p q (Some (call.Alloc (alloc.Committed c))) h =
    ap (λ (x : ℕ). Some (call.Alloc (alloc.Committed (record c { held = x })))) (h c.held refl)
call_agrees p q (Some (call.Alloc (alloc.Restore c))) h =
    ap (λ (x : ℕ). Some (call.Alloc (alloc.Restore (record c { held = x })))) (h c.held refl)
call_agrees p q (Some (call.Punch (punch.Delete c))) h =
    ap (λ (x : ℕ). Some (call.Punch (punch.Delete (record c { held = x })))) (h c.held refl)
call_agrees p q (Some (call.Punch (punch.Free c))) h =
    ap (λ (x : ℕ). Some (call.Punch (punch.Free (record c { held = x })))) (h c.held refl)
call_agrees p q (Some (call.Truncate (truncate.Free c))) h =
    ap (λ (x : ℕ). Some (call.Truncate (truncate.Free (record c { held = x })))) (h c.held refl)
call_agrees p q (Some c) h = refl

-- one step of a call, and of that call with its frame renamed
pub record CallFollows (frames : ℕ) (s : Pool) (r : Renaming frames) (o : Outcome) (new : Pool) (next : Option Call)
    (o' : Outcome) (new' : Pool) (next' : Option Call) : Type 0 where
  pub names : Renaming frames
  pub keeps : (x : ℕ) → IsUsed (s.frame x) → names.to x ≡ r.to x
  pub tells : o' ≡ o
  pub calls : next' ≡ option_map (call_renamed names.to) next
  pub pools : new' ≡ pool_renamed names new
  pub count : new.frames ≡ s.frames

-- two turns that follow one another are steps of the call that do so
of_turns : {P : Type 0} {frames : ℕ} {s : Pool} {r : Renaming frames} {turn turn' : Turn P} {o o' : Outcome}
    {new new' : Pool} {next next' : Option Call} (call : P → Call) (rename : (ℕ → ℕ) → P → P)
    → ((to : ℕ → ℕ) (p : P) → call (rename to p) ≡ call_renamed to (call p)) → Follows P rename frames s r turn new turn' new'
    → (o ≡ outcome_of call turn) × (next ≡ left call turn) → (o' ≡ outcome_of call turn') × (next' ≡ left call turn')
    → CallFollows frames s r o new next o' new' next'
of_turns {P} {turn = turn} call rename same h e d = record {
  names = h.names;
  keeps = h.keeps;
  tells = d.0 ∙ (ap (outcome_of call) h.turns ∙ (tells_same turn ∙ sym e.0));
  calls = d.1 ∙ (ap (left call) h.turns ∙ (left_same turn ∙ ap (option_map (call_renamed h.names.to)) (sym e.1)));
  pools = h.pools;
  count = h.count;
}
  where
    tells_same : (turn : Turn P) → outcome_of call (turn_renamed (rename h.names.to) turn) ≡ outcome_of call turn
    tells_same (Moved p) = ap outcome.Moved (ap word_of (same h.names.to p) ∙ word_renamed h.names.to (call p))
    tells_same (Blocked p holder) = refl
    tells_same (Ended a) = refl

    left_same : (turn : Turn P) → left call (turn_renamed (rename h.names.to) turn) ≡ option_map (call_renamed h.names.to) (left call turn)
    left_same (Moved p) = ap (λ (c : Call). Some c) (same h.names.to p)
    left_same (Blocked p holder) = ap (λ (c : Call). Some c) (same h.names.to p)
    left_same (Ended a) = refl

-- so by the rows of each operation: a step and the renamed step have one outcome and states that are each other
-- renamed
pub call_row : {frames : ℕ} {s : Pool} {r : Renaming frames} {o o' : Outcome} {new new' : Pool}
    {next next' : Option Call} (t : ℕ) (killed grant : Bool) (c : Call)
    → Used frames s → CallRow s t killed grant c o new next
    → CallRow (pool_renamed r s) t killed grant (call_renamed r.to c) o' new' next'
    → CallFollows frames s r o new next o' new' next'
unfolding CallRow
call_row t killed grant (call.Touch p) h a b =
    of_turns call.Touch touch_renamed (λ to p. refl) (touch_row t killed grant p h a.1 b.1) (a.2, a.3) (b.2, b.3)
call_row t killed grant (call.Map p) h a b =
    of_turns call.Map unnamed (λ to p. refl) (map_row t killed grant p h a.1 b.1) (a.2, a.3) (b.2, b.3)
call_row t killed grant (call.Alloc p) h a b =
    of_turns call.Alloc alloc_renamed (λ to p. refl) (alloc_row t killed grant p h a.1 b.1) (a.2, a.3) (b.2, b.3)
call_row t killed grant (call.Punch p) h a b =
    of_turns call.Punch punch_renamed (λ to p. refl) (punch_row t killed grant p a.1 b.1) (a.2, a.3) (b.2, b.3)
call_row t killed grant (call.Truncate p) h a b =
    of_turns call.Truncate truncate_renamed (λ to p. refl) (truncate_row t killed grant p a.1 b.1) (a.2, a.3) (b.2, b.3)
call_row t killed grant (call.Unmap p) h a b =
    of_turns call.Unmap unnamed (λ to p. refl) (unmap_row t killed grant p a.1 b.1) (a.2, a.3) (b.2, b.3)
call_row t killed grant (call.Exit p) h a b =
    of_turns call.Exit unnamed (λ to p. refl) (exit_row t killed grant p a.1 b.1) (a.2, a.3) (b.2, b.3)
