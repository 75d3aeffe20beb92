-- Frames under other names, and states that differ in the names of frames alone.
use Rattle.std.specs.Prelude.{◌≡◌, ℕ, ◌≤◌}
use Rattle.std.specs.Option.{option_map}
use Rattle.hp_machine.specs.State.{State}
use Rattle.hp_machine.specs.declared.touch.TouchPhase.{TouchPhase}
use Rattle.hp_machine.specs.declared.touch.TouchPhase.TheVariants as touch
use Rattle.hp_machine.specs.declared.alloc.AllocPhase.{AllocPhase}
use Rattle.hp_machine.specs.declared.alloc.AllocPhase.TheVariants as alloc
use Rattle.hp_machine.specs.declared.punch.PunchPhase.{PunchPhase}
use Rattle.hp_machine.specs.declared.punch.PunchPhase.TheVariants as punch
use Rattle.hp_machine.specs.declared.truncate.TruncatePhase.{TruncatePhase}
use Rattle.hp_machine.specs.declared.truncate.TruncatePhase.TheVariants as truncate
use Rattle.hp_machine.specs.declared.call.Call.{Call}
use Rattle.hp_machine.specs.declared.call.Call.TheVariants as call

-- another name for each frame, and the way back; a number of which there is no frame keeps its own
pub record Renaming (frames : ℕ) : Type 0 where
  pub to : ℕ → ℕ
  pub back : ℕ → ℕ
  pub there : (x : ℕ) → back (to x) ≡ x
  pub here : (x : ℕ) → to (back x) ≡ x
  pub fixed : (x : ℕ) → frames ≤ x → to x ≡ x

-- a phase with another name for the frame in the call's hand
abbrev pub touch_renamed : (ℕ → ℕ) → TouchPhase → TouchPhase
touch_renamed to (touch.Taken p) = touch.Taken (record p { held = to p.held })
touch_renamed to (touch.Settle p) = touch.Settle (record p { held = to p.held })
touch_renamed to (touch.Committed p) = touch.Committed (record p { held = to p.held })
touch_renamed to (touch.Restore p) = touch.Restore (record p { held = to p.held })
touch_renamed to phase = phase

abbrev pub alloc_renamed : (ℕ → ℕ) → AllocPhase → AllocPhase
alloc_renamed to (alloc.Taken p) = alloc.Taken (record p { held = to p.held })
alloc_renamed to (alloc.Settle p) = alloc.Settle (record p { held = to p.held })
alloc_renamed to (alloc.Committed p) = alloc.Committed (record p { held = to p.held })
alloc_renamed to (alloc.Restore p) = alloc.Restore (record p { held = to p.held })
alloc_renamed to phase = phase

abbrev pub punch_renamed : (ℕ → ℕ) → PunchPhase → PunchPhase
punch_renamed to (punch.Delete p) = punch.Delete (record p { held = to p.held })
punch_renamed to (punch.Free p) = punch.Free (record p { held = to p.held })
punch_renamed to phase = phase

abbrev pub truncate_renamed : (ℕ → ℕ) → TruncatePhase → TruncatePhase
truncate_renamed to (truncate.Free p) = truncate.Free (record p { held = to p.held })
truncate_renamed to phase = phase

-- maps, unmaps and exits have no frame in hand
abbrev pub call_renamed : (ℕ → ℕ) → Call → Call
call_renamed to (call.Touch phase) = call.Touch (touch_renamed to phase)
call_renamed to (call.Alloc phase) = call.Alloc (alloc_renamed to phase)
call_renamed to (call.Punch phase) = call.Punch (punch_renamed to phase)
call_renamed to (call.Truncate phase) = call.Truncate (truncate_renamed to phase)
call_renamed to other = other

-- The state with its frames renamed. What frame x was, free, in a hand or a page with its word, the frame
-- `to x` is now; pages, translations and calls name it so. All else is the same.
abbrev pub renamed : {frames : ℕ} → Renaming frames → State → State
renamed r s = record s {
  pool = record s.pool {
    frame = λ y. s.frame (r.back y);
    pages = λ file index. option_map r.to (s.pages file index);
    entries = λ task vpn. option_map r.to (s.entries task vpn);
  };
  calls = λ task. option_map (call_renamed r.to) (s.calls task);
}

-- the second state is the first with its frames renamed
abbrev pub Alike : State → State → Type 0
Alike s n = (r : Renaming s.frames) × (n ≡ renamed r s)
