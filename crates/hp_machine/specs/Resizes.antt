-- What the resize of a pool does to its frames (Linux: `set_max_huge_pages`).
use Rattle.std.specs.Prelude.{◌≡◌, ℕ, ◌+◌, ◌-◌, ◌<◌, ◌≤◌, ◌⊎◌, Bool, MatchBool, max, min, nat_lt}
use Rattle.hp_base.specs.Limits.{is_in}
use Rattle.hp_frames.specs.declared.frame.FrameState.{FrameState}
use Rattle.hp_frames.specs.declared.frame.FrameState.TheVariants.{Free, Retired}
use Rattle.hp_machine.specs.State.{Pool, active_frames, actives, frees}
use Rattle.hp_machine.specs.declared.outcome.Outcome.{Outcome}
use Rattle.hp_machine.specs.declared.outcome.Outcome.TheVariants.{Resized, Refused}
use Rattle.hp_machine.specs.declared.outcome.Refusal.TheVariants.{BadSize}

-- a pool may have so many frames
abbrev pub is_size : (frames : ℕ) → Bool
is_size n = is_in 1 4096 n

-- The pool has n frames now, which are more: retired ones are free again, and where they don't suffice, new
-- numbers are free frames. No other frame is elsewhere
pub record GrowsTo (s : Pool) (n : ℕ) (frame : ℕ → FrameState) : Type 0 where
  pub count : active_frames frame (max s.frames n) ≡ n
  pub each : (x : ℕ) → x < s.frames → (frame x ≡ s.frame x) ⊎ ((s.frame x ≡ Retired) × (frame x ≡ Free))
  pub fresh : (x : ℕ) → s.frames ≤ x → x < max s.frames n → frame x ≡ Free
  pub beyond : (x : ℕ) → max s.frames n ≤ x → frame x ≡ s.frame x

-- k free frames are retired, and no other frame is elsewhere
pub record Retires (s : Pool) (k : ℕ) (frame : ℕ → FrameState) : Type 0 where
  pub count : active_frames frame s.frames + k ≡ actives s
  pub each : (x : ℕ) → (frame x ≡ s.frame x) ⊎ ((x < s.frames) × (s.frame x ≡ Free) × (frame x ≡ Retired))

-- what n frames leave over, of the free frames that nobody reserved
abbrev pub surplus : Pool → (frames : ℕ) → ℕ
surplus s n = min (actives s - n) (frees s - s.resv)

-- A number of frames that no pool may have: BadSize. More than there are: free frames come in. Else what is left over
-- is retired. The frames that the pool has then are told
unfoldable pub ResizeRow : Pool → (frames : ℕ) → Outcome → Pool → Type 0
ResizeRow s n tells new =
    MatchBool (is_size n)
    ((frame : ℕ → FrameState) × MatchBool (nat_lt (actives s) n)
    (GrowsTo s n frame × (tells ≡ Resized n) × (new ≡ record s { frames = max s.frames n; frame = frame }))
    (Retires s (surplus s n) frame × (tells ≡ Resized (actives s - surplus s n)) × (new ≡ record s { frame = frame })))
    ((tells ≡ Refused BadSize) × (new ≡ s))
