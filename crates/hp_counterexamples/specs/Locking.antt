-- Machines that don't wait, or don't clear in time: each differs from the right one in one row.
use Rattle.std.specs.Prelude.{◌≡◌, true, List, []}
use Rattle.hp_base.specs.declared.event.Op.TheVariants as op
use Rattle.hp_base.specs.declared.event.Event.{Event}
use Rattle.hp_machine.specs.State.{Pool}
use Rattle.hp_machine.specs.Parts.{unlocked, unslotted}
use Rattle.hp_machine.specs.Events.{CallRow, CallRows, TurnRow}
use Rattle.hp_machine.specs.TouchRows.{TouchWantRow}
use Rattle.hp_machine.specs.MapRows.{MapStartRow}
use Rattle.hp_machine.specs.PunchRows.{PunchStartRow, PunchWantRow, PunchUnmapRow}
use Rattle.hp_machine.specs.TruncateRows.{TruncateStartRow, TruncateSizeRow, TruncateWantRow, TruncateUnmapRow}
use Rattle.hp_machine.specs.declared.touch.TouchPhase.TheVariants as touch
use Rattle.hp_machine.specs.declared.map.MapPhase.TheVariants as map
use Rattle.hp_machine.specs.declared.punch.Unmap as punch_unmap
use Rattle.hp_machine.specs.declared.punch.PunchPhase.{PunchPhase}
use Rattle.hp_machine.specs.declared.punch.PunchPhase.TheVariants as punch
use Rattle.hp_machine.specs.declared.truncate.Size.{Size}
use Rattle.hp_machine.specs.declared.truncate.Unmap as truncate_unmap
use Rattle.hp_machine.specs.declared.truncate.TruncatePhase.{TruncatePhase}
use Rattle.hp_machine.specs.declared.truncate.TruncatePhase.TheVariants as truncate
use Rattle.hp_machine.specs.declared.call.Call.TheVariants as call
use Rattle.hp_machine.specs.declared.call.Turn.{Turn}
use Rattle.hp_machine.specs.declared.call.Turn.TheVariants.{Moved}
use Rattle.hp_counterexamples.specs.Runs.{steps, calls}

-- ---- a truncation leaves its file lock once the size is set
-- (right: TruncateSizeRow leaves the lock as it is; TruncateLeaveRow is where it is left)
abbrev pub UnlockingSizeRow : Pool → Size → Turn TruncatePhase → Pool → Type 0
UnlockingSizeRow s p turn new = (right : Pool) × TruncateSizeRow s p turn right × (new ≡ unlocked right p.truncation.file)

unfoldable pub UnlocksEarly : CallRows
UnlocksEarly s t killed grant (call.Truncate (truncate.Size p)) = TurnRow call.Truncate (UnlockingSizeRow s p)
UnlocksEarly s t killed grant other = CallRow s t killed grant other

-- a truncation of a file whose page is translated has set the size
abbrev pub unlock_run : List Event
unlock_run = calls 1 (op.MapNoReserve 0 0 1) 4 (calls 1 (op.Load 0) 9 (calls 1 (op.Truncate 0 0) 2 []))

-- a map counts on an index that a truncation is about to take out
abbrev pub unlock_count_run : List Event
unlock_count_run =
    calls 2 (op.Truncate 0 0) 2 (calls 1 (op.Map 0 0 1) 7 (calls 1 (op.Map 0 0 1) 4 (steps 2 1 (steps 1 3 (steps 2 2 [])))))

-- ---- a map takes the file lock though another task holds it
-- (right: MapStartRow waits)
unfoldable pub BreaksLock : CallRows
BreaksLock s t killed grant (call.Map (map.Start p)) =
    TurnRow call.Map (λ turn new. MapStartRow (unlocked s p.map.file) t killed p turn new)
BreaksLock s t killed grant other = CallRow s t killed grant other

-- a map counts on an index that a truncation, which holds the lock, is about to take out
abbrev pub lock_run : List Event
lock_run =
    calls 1 (op.Map 0 0 1) 0 (calls 2 (op.Truncate 0 0) 1 (steps 1 5 (steps 2 1
    (steps 1 2 (calls 1 (op.Map 0 0 1) 4 (steps 2 1 (steps 1 3 (steps 2 2 []))))))))

-- ---- a punch takes the file lock though another task holds it
-- (right: PunchStartRow waits)
unfoldable pub PunchBreaksLock : CallRows
PunchBreaksLock s t killed grant (call.Punch (punch.Start p)) =
    TurnRow call.Punch (λ turn new. PunchStartRow (unlocked s p.hole.file) t killed p turn new)
PunchBreaksLock s t killed grant other = CallRow s t killed grant other

-- a map counts on an index that a punch takes out
abbrev pub punch_lock_run : List Event
punch_lock_run = calls 1 (op.Alloc 0 0 1 true) 10 (calls 1 (op.Map 0 0 1) 3 (calls 2 (op.Punch 0 0 1) 10 (steps 1 4 [])))

-- ---- a truncation takes the file lock though another task holds it
-- (right: TruncateStartRow waits)
unfoldable pub TruncateBreaksLock : CallRows
TruncateBreaksLock s t killed grant (call.Truncate (truncate.Start p)) =
    TurnRow call.Truncate (λ turn new. TruncateStartRow (unlocked s p.truncation.file) t killed p turn new)
TruncateBreaksLock s t killed grant other = CallRow s t killed grant other

-- two maps of one task, one after the other, count on an index that the truncation takes out between them
abbrev pub truncate_lock_run : List Event
truncate_lock_run =
    calls 1 (op.Map 0 0 1) 5 (calls 2 (op.Truncate 0 0) 2 (steps 1 2
    (calls 1 (op.Map 0 0 1) 4 (steps 2 1 (steps 1 3 (steps 2 2 []))))))

-- ---- a touch takes its slot though another task holds it
-- (right: TouchWantRow waits)
unfoldable pub TouchBreaksSlot : CallRows
TouchBreaksSlot s t killed grant (call.Touch (touch.Want p)) =
    TurnRow call.Touch (λ turn new. TouchWantRow (unslotted s p.touch.file p.touch.index) t killed p turn new)
TouchBreaksSlot s t killed grant other = CallRow s t killed grant other

-- a touch makes a page and translates it, while a punch that holds the slot is about to take it away
abbrev pub touch_slot_run : List Event
touch_slot_run =
    calls 1 (op.MapNoReserve 0 0 1) 4 (calls 1 (op.Load 0) 1 (calls 2 (op.Punch 0 0 1) 2
    (steps 1 6 (steps 2 2 (steps 1 1 (steps 2 2 []))))))

-- ---- a punch takes its slot though another task holds it
-- (right: PunchWantRow waits)
unfoldable pub PunchBreaksSlot : CallRows
PunchBreaksSlot s t killed grant (call.Punch (punch.Want p)) =
    TurnRow call.Punch (λ turn new. PunchWantRow (unslotted s p.hole.file p.index) t p turn new)
PunchBreaksSlot s t killed grant other = CallRow s t killed grant other

-- a touch translates a page that a punch is about to take away
abbrev pub punch_slot_run : List Event
punch_slot_run =
    calls 1 (op.MapNoReserve 0 0 1) 4 (calls 1 (op.Load 0) 7 (calls 2 (op.Punch 0 0 1) 4 (steps 1 1 (steps 2 2 []))))

-- ---- a truncation takes its slots though another task holds them
-- (right: TruncateWantRow waits)
unfoldable pub TruncateBreaksSlot : CallRows
TruncateBreaksSlot s t killed grant (call.Truncate (truncate.Want p)) =
    TurnRow call.Truncate (λ turn new. TruncateWantRow (unslotted s p.truncation.file p.index) t p turn new)
TruncateBreaksSlot s t killed grant other = CallRow s t killed grant other

-- a touch took the reserved frame and hasn't placed it, while a truncation passes its index
abbrev pub truncate_slot_run : List Event
truncate_slot_run = calls 1 (op.Map 0 0 1) 7 (calls 1 (op.Load 0) 5 (calls 2 (op.Truncate 0 0) 6 (steps 1 4 (steps 2 2 []))))

-- ---- a punch evicts the page once one task's entries are cleared
-- (right: PunchUnmapRow goes on to the next task, and evicts after the last)
abbrev pub OneTaskUnmapRow : Pool → punch_unmap.Unmap → Turn PunchPhase → Pool → Type 0
OneTaskUnmapRow s p turn new =
    (right : Turn PunchPhase) × PunchUnmapRow s p right new
    × (turn ≡ Moved (punch.Evict (record { hole = p.hole; index = p.index })))

unfoldable pub PunchesEarly : CallRows
PunchesEarly s t killed grant (call.Punch (punch.Unmap p)) = TurnRow call.Punch (OneTaskUnmapRow s p)
PunchesEarly s t killed grant other = CallRow s t killed grant other

-- task 2 translates the page that task 1 takes away
abbrev pub punch_early_run : List Event
punch_early_run = calls 2 (op.MapNoReserve 0 0 1) 4 (calls 2 (op.Load 0) 9 (calls 1 (op.Punch 0 0 1) 5 []))

-- ---- a truncation evicts the page once one task's entries are cleared
-- (right: TruncateUnmapRow goes on to the next task, and evicts after the last)
abbrev pub OneTaskTruncateRow : Pool → truncate_unmap.Unmap → Turn TruncatePhase → Pool → Type 0
OneTaskTruncateRow s p turn new =
    (right : Turn TruncatePhase) × TruncateUnmapRow s p right new
    × (turn ≡ Moved (truncate.Evict (record { truncation = p.truncation; index = p.index; evicted = p.evicted })))

unfoldable pub TruncatesEarly : CallRows
TruncatesEarly s t killed grant (call.Truncate (truncate.Unmap p)) = TurnRow call.Truncate (OneTaskTruncateRow s p)
TruncatesEarly s t killed grant other = CallRow s t killed grant other

-- task 2 translates the page that task 1 takes away
abbrev pub truncate_early_run : List Event
truncate_early_run = calls 2 (op.MapNoReserve 0 0 1) 4 (calls 2 (op.Load 0) 9 (calls 1 (op.Truncate 0 0) 6 []))
