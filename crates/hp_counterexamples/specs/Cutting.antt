-- Machines that cut a file short wrongly: each differs from the right one in one row, or sets the size in another.
use Rattle.std.specs.Prelude.{◌≡◌, ℕ, ◌-◌, true, MatchBool, is_some, nat_lt, List, []}
use Rattle.hp_base.specs.Numbers.{put}
use Rattle.hp_base.specs.declared.event.Op.TheVariants as op
use Rattle.hp_base.specs.declared.event.Event.{Event}
use Rattle.hp_machine.specs.State.{Pool}
use Rattle.hp_machine.specs.Parts.{Goes}
use Rattle.hp_machine.specs.Events.{CallRow, CallRows, TurnRow}
use Rattle.hp_machine.specs.TruncateRows.{TruncateSizeRow, TruncateWantRow, TruncateTailRow}
use Rattle.hp_machine.specs.declared.touch.Locked as touch_locked
use Rattle.hp_machine.specs.declared.touch.TouchPhase.{TouchPhase}
use Rattle.hp_machine.specs.declared.touch.TouchPhase.TheVariants as touch
use Rattle.hp_machine.specs.declared.truncate.Size.{Size}
use Rattle.hp_machine.specs.declared.truncate.Want.{Want}
use Rattle.hp_machine.specs.declared.truncate.Tail.{Tail}
use Rattle.hp_machine.specs.declared.truncate.TruncatePhase.{TruncatePhase}
use Rattle.hp_machine.specs.declared.truncate.TruncatePhase.TheVariants as truncate
use Rattle.hp_machine.specs.declared.call.Call.TheVariants as call
use Rattle.hp_machine.specs.declared.call.Turn.{Turn}
use Rattle.hp_counterexamples.specs.Runs.{steps, calls}

-- ---- a truncation visits only the indices that have a page, as Linux 6.1 does: past the others it goes on without their slots
-- (right: TruncateWantRow takes the slot of each index)
abbrev pub PagesOnlyWantRow : Pool → (task : ℕ) → Want → Turn TruncatePhase → Pool → Type 0
PagesOnlyWantRow s t p turn new =
    MatchBool (is_some (s.pages p.truncation.file p.index))
    (TruncateWantRow s t p turn new)
    (MatchBool (nat_lt p.truncation.new p.index)
    (Goes (truncate.Want (record { truncation = p.truncation; index = p.index - 1; evicted = p.evicted })) s turn new)
    (Goes (truncate.Tail (record { truncation = p.truncation; evicted = p.evicted })) s turn new))

unfoldable pub VisitsPagesOnly : CallRows
VisitsPagesOnly s t killed grant (call.Truncate (truncate.Want p)) = TurnRow call.Truncate (PagesOnlyWantRow s t p)
VisitsPagesOnly s t killed grant other = CallRow s t killed grant other

-- a touch took the reserved frame and hasn't placed it, while a truncation passes its index
abbrev pub pages_only_run : List Event
pages_only_run = calls 1 (op.Map 0 0 1) 7 (calls 1 (op.Load 0) 5 (calls 2 (op.Truncate 0 0) 4 (steps 1 4 (steps 2 2 []))))

-- a touch made its index a reserved one and hasn't placed its page, and the truncation is to give the index back
abbrev pub short_run : List Event
short_run = calls 1 (op.MapNoReserve 0 0 1) 4 (calls 1 (op.Load 0) 6 (calls 2 (op.Truncate 0 0) 4 []))

-- ---- a truncation sweeps from the size down, and not from the end of the pages
-- (right: TruncateSizeRow begins at the larger of both)
abbrev pub LowTopRow : Pool → Size → Turn TruncatePhase → Pool → Type 0
LowTopRow s p turn new =
    let f = p.truncation.file in
    let after = record s { size = put s.size f p.truncation.new } in
    MatchBool (nat_lt p.truncation.new (s.size f))
    (Goes (truncate.Want (record { truncation = p.truncation; index = s.size f - 1; evicted = 0 })) after turn new)
    (Goes (truncate.Tail (record { truncation = p.truncation; evicted = 0 })) after turn new)

unfoldable pub SweepsFromSize : CallRows
SweepsFromSize s t killed grant (call.Truncate (truncate.Size p)) = TurnRow call.Truncate (LowTopRow s p)
SweepsFromSize s t killed grant other = CallRow s t killed grant other

-- a file of size one has a page above it, and is truncated to one
abbrev pub low_top_run : List Event
low_top_run = calls 1 (op.Map 0 0 1) 7 (calls 1 (op.Alloc 0 1 1 true) 10 (calls 1 (op.Truncate 0 1) 5 []))

-- ---- a touch that has the slot doesn't look at the size
-- (right: TouchLockedRow leaves with Beyond where the index is at or above the size)
abbrev pub UnsizedLockedRow : Pool → touch_locked.Locked → Turn TouchPhase → Pool → Type 0
UnsizedLockedRow s p turn new =
    MatchBool (is_some (s.pages p.touch.file p.touch.index))
    (Goes (touch.Found (record { touch = p.touch })) s turn new)
    (Goes (touch.Missing (record { touch = p.touch })) s turn new)

unfoldable pub LooksNoMore : CallRows
LooksNoMore s t killed grant (call.Touch (touch.Locked p)) = TurnRow call.Touch (UnsizedLockedRow s p)
LooksNoMore s t killed grant other = CallRow s t killed grant other

-- a touch takes its slot after a truncation has passed it, and finds its index reserved before the tail takes it out
abbrev pub late_touch_run : List Event
late_touch_run =
    calls 1 (op.Map 0 0 1) 7 (calls 1 (op.Load 0) 1 (calls 2 (op.Truncate 0 0) 5
    (steps 1 4 (steps 2 1 (steps 1 4 (steps 2 2 []))))))

-- ---- a truncation sets the size at its end, and not before its sweep
-- (right: TruncateSizeRow sets it, and TruncateTailRow leaves it)
abbrev pub UnsizingRow : Pool → Size → Turn TruncatePhase → Pool → Type 0
UnsizingRow s p turn new = (right : Pool) × TruncateSizeRow s p turn right × (new ≡ record right { size = s.size })

abbrev pub SizingTailRow : Pool → Tail → Turn TruncatePhase → Pool → Type 0
SizingTailRow s p turn new =
    (right : Pool) × TruncateTailRow s p turn right
    × (new ≡ record right { size = put s.size p.truncation.file p.truncation.new })

unfoldable pub SizesLast : CallRows
SizesLast s t killed grant (call.Truncate (truncate.Size p)) = TurnRow call.Truncate (UnsizingRow s p)
SizesLast s t killed grant (call.Truncate (truncate.Tail p)) = TurnRow call.Truncate (SizingTailRow s p)
SizesLast s t killed grant other = CallRow s t killed grant other
