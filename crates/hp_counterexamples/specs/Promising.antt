-- Machines that promise or take what they may not: each differs from the right one in one row.
use Rattle.std.specs.Prelude.{◌≡◌, ℕ, ◌+◌, ◌-◌, ◌<◌, ◌⊎◌, ◌==◌, ◌&&◌, Bool, true, MatchBool, min, nat_lt, List, [], ◌∷◌}
use Rattle.hp_base.specs.declared.answer.Answer.TheVariants as answer
use Rattle.hp_base.specs.declared.event.Op.TheVariants as op
use Rattle.hp_base.specs.declared.event.Event.{Event}
use Rattle.hp_base.specs.declared.event.Event.TheVariants.{Resize}
use Rattle.hp_frames.specs.declared.frame.FrameState.{FrameState}
use Rattle.hp_frames.specs.declared.frame.FrameState.TheVariants.{Free, Hand, Retired}
use Rattle.hp_machine.specs.State.{Pool, active_frames, actives, frees}
use Rattle.hp_machine.specs.Parts.{Goes}
use Rattle.hp_machine.specs.Events.{CallRow, CallRows, ResizeRows, TurnRow}
use Rattle.hp_machine.specs.Resizes.{Retires, ResizeRow, is_size, surplus}
use Rattle.hp_machine.specs.TouchRows.{TouchChangedRow}
use Rattle.hp_machine.specs.MapRows.{MapChangedRow}
use Rattle.hp_machine.specs.declared.touch.Changed as touch_changed
use Rattle.hp_machine.specs.declared.touch.TouchPhase.{TouchPhase}
use Rattle.hp_machine.specs.declared.touch.TouchPhase.TheVariants as touch
use Rattle.hp_machine.specs.declared.map.Changed as map_changed
use Rattle.hp_machine.specs.declared.map.MapPhase.{MapPhase}
use Rattle.hp_machine.specs.declared.map.MapPhase.TheVariants as map
use Rattle.hp_machine.specs.declared.outcome.Outcome.TheVariants.{Resized}
use Rattle.hp_machine.specs.declared.call.Call.TheVariants as call
use Rattle.hp_machine.specs.declared.call.Turn.{Turn}
use Rattle.hp_counterexamples.specs.Runs.{calls}

-- ---- a touch without a reservation takes any free frame, as if none were reserved
-- (right: TakeRow takes none where as many are reserved as are free)
abbrev pub AnyFrameRow : Pool → (killed : Bool) → touch_changed.Changed → Turn TouchPhase → Pool → Type 0
AnyFrameRow s killed p turn new =
    MatchBool (p.pending.missing == 0)
    (TouchChangedRow s killed p turn new)
    ((right : Pool) × TouchChangedRow (record s { resv = 0 }) killed p turn right × (new ≡ record right { resv = s.resv }))

unfoldable pub TakesAnyFrame : CallRows
TakesAnyFrame s t killed grant (call.Touch (touch.Changed p)) = TurnRow call.Touch (AnyFrameRow s killed p)
TakesAnyFrame s t killed grant other = CallRow s t killed grant other

-- a touch at an index that nobody reserved, where the one frame is promised for another
abbrev pub any_frame_run : List Event
any_frame_run = calls 1 (op.Map 0 0 1) 7 (calls 1 (op.MapNoReserve 0 1 1) 4 (calls 1 (op.Load 1) 5 []))

-- ---- a map may promise any free frame, as if none were reserved
-- (right: MapChangedRow promises no more than the free frames that aren't reserved)
abbrev pub AnyPromiseRow : Pool → (killed : Bool) → map_changed.Changed → Turn MapPhase → Pool → Type 0
AnyPromiseRow s killed p turn new =
    (right : Pool) × MapChangedRow (record s { resv = 0 }) killed p turn right
    × (new ≡ record right { resv = s.resv + right.resv })

unfoldable pub PromisesAnyFrame : CallRows
PromisesAnyFrame s t killed grant (call.Map (map.Changed p)) = TurnRow call.Map (AnyPromiseRow s killed p)
PromisesAnyFrame s t killed grant other = CallRow s t killed grant other

-- a second map, where the one frame is promised
abbrev pub any_promise_run : List Event
any_promise_run = calls 1 (op.Map 0 0 1) 7 (calls 1 (op.Map 0 0 2) 4 [])

-- ---- a map doesn't ask the quota
-- (right: MapChangedRow goes to abort with NoQuota where the quota has less left)
abbrev pub UnboundRow : Pool → (killed : Bool) → map_changed.Changed → Turn MapPhase → Pool → Type 0
UnboundRow s killed p turn new =
    MatchBool killed
    (Goes (map.Abort (record { map = p.map; pending = p.pending; answer = answer.Killed })) s turn new)
    (MatchBool (nat_lt (frees s - s.resv) p.pending.missing)
    (Goes (map.Abort (record { map = p.map; pending = p.pending; answer = answer.NoFrame })) s turn new)
    (Goes (map.Accounted (record { map = p.map; base = p.base; pending = p.pending }))
    (record s { resv = s.resv + p.pending.missing; used = s.used + p.pending.missing }) turn new))

unfoldable pub AsksNoQuota : CallRows
AsksNoQuota s t killed grant (call.Map (map.Changed p)) = TurnRow call.Map (UnboundRow s killed p)
AsksNoQuota s t killed grant other = CallRow s t killed grant other

-- a map of two pages, under a quota of one
abbrev pub quota_run : List Event
quota_run = calls 1 (op.Map 0 0 2) 4 []

-- ---- a resize retires what is left over of all free frames, also the reserved ones
-- (right: ResizeRow retires what is left over of the free frames that nobody reserved)
abbrev pub all_surplus : Pool → (frames : ℕ) → ℕ
all_surplus s n = min (actives s - n) (frees s)

unfoldable pub RetiresReserved : ResizeRows
RetiresReserved s n tells new =
    MatchBool (is_size n && nat_lt n (actives s))
    ((frame : ℕ → FrameState) × Retires s (all_surplus s n) frame
    × (tells ≡ Resized (actives s - all_surplus s n)) × (new ≡ record s { frame = frame }))
    (ResizeRow s n tells new)

-- a pool of two reserved frames is to have one
abbrev pub resize_reserved_run : List Event
resize_reserved_run = calls 1 (op.Map 0 0 2) 4 (Resize 1 ∷ [])

-- ---- a resize retires frames that are free or in a hand
-- (right: ResizeRow retires free frames alone)
pub record RetiresAny (s : Pool) (k : ℕ) (frame : ℕ → FrameState) : Type 0 where
  pub count : active_frames frame s.frames + k ≡ actives s
  pub each : (x : ℕ) → (frame x ≡ s.frame x)
      ⊎ ((x < s.frames) × ((s.frame x ≡ Free) ⊎ (s.frame x ≡ Hand)) × (frame x ≡ Retired))

unfoldable pub RetiresHands : ResizeRows
RetiresHands s n tells new =
    MatchBool (is_size n && nat_lt n (actives s))
    ((frame : ℕ → FrameState) × RetiresAny s (surplus s n) frame
    × (tells ≡ Resized (actives s - surplus s n)) × (new ≡ record s { frame = frame }))
    (ResizeRow s n tells new)

-- a pool of two frames, one of which is in the hand of an allocation, is to have one
abbrev pub resize_hand_run : List Event
resize_hand_run = calls 1 (op.Alloc 0 0 1 true) 6 (Resize 1 ∷ [])
