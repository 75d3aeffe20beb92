-- Machines that count wrongly: each differs from the right one in one row.
use Rattle.std.specs.Prelude.{◌≡◌, ◌-◌, ◌&&◌, true, false, MatchBool, nat_lt, List, []}
use Rattle.hp_base.specs.Numbers.{put2}
use Rattle.hp_base.specs.declared.event.Op.TheVariants as op
use Rattle.hp_base.specs.declared.event.Event.{Event}
use Rattle.hp_machine.specs.State.{Pool, frees}
use Rattle.hp_machine.specs.Events.{CallRow, CallRows, TurnRow}
use Rattle.hp_machine.specs.TouchRows.{TouchSettleRow, TouchRestoreRow}
use Rattle.hp_machine.specs.MapRows.{MapSettleRow}
use Rattle.hp_machine.specs.PunchRows.{PunchFreeRow}
use Rattle.hp_machine.specs.TruncateRows.{TruncateTailRow, TruncateSettleRow}
use Rattle.hp_machine.specs.declared.touch.Restore.{Restore}
use Rattle.hp_machine.specs.declared.punch.Free.{Free}
use Rattle.hp_machine.specs.declared.truncate.Tail.{Tail}
use Rattle.hp_machine.specs.declared.truncate.Settle as truncate_settle
use Rattle.hp_machine.specs.declared.touch.TouchPhase.{TouchPhase}
use Rattle.hp_machine.specs.declared.touch.TouchPhase.TheVariants as touch
use Rattle.hp_machine.specs.declared.map.MapPhase.TheVariants as map
use Rattle.hp_machine.specs.declared.punch.PunchPhase.{PunchPhase}
use Rattle.hp_machine.specs.declared.punch.PunchPhase.TheVariants as punch
use Rattle.hp_machine.specs.declared.truncate.TruncatePhase.{TruncatePhase}
use Rattle.hp_machine.specs.declared.truncate.TruncatePhase.TheVariants as truncate
use Rattle.hp_machine.specs.declared.call.Call.TheVariants as call
use Rattle.hp_machine.specs.declared.call.Turn.{Turn}
use Rattle.hp_counterexamples.specs.Runs.{steps, deny, calls}

-- the right row, but the reserve count stays as it was
abbrev pub Uncounted : {P : Type 0} → Pool → (Turn P → Pool → Type 0) → Turn P → Pool → Type 0
Uncounted s row turn new = (right : Pool) × row turn right × (new ≡ record right { resv = s.resv })

-- the right row, but the used count stays as it was
abbrev pub Unused : {P : Type 0} → Pool → (Turn P → Pool → Type 0) → Turn P → Pool → Type 0
Unused s row turn new = (right : Pool) × row turn right × (new ≡ record right { used = s.used })

-- ---- a map doesn't give back what it counted and didn't add
-- (right: MapSettleRow lowers the reserve count by it)
unfoldable pub MapKeepsExcess : CallRows
MapKeepsExcess s t killed grant (call.Map (map.Settle p)) =
    TurnRow call.Map (Uncounted s (λ turn new. MapSettleRow s p turn new))
MapKeepsExcess s t killed grant other = CallRow s t killed grant other

-- a touch and a map find one index missing, and the touch commits first
abbrev pub map_settles_run : List Event
map_settles_run = calls 2 (op.MapNoReserve 0 0 1) 4 (calls 1 (op.Map 0 0 1) 4 (calls 2 (op.Load 0) 9 (steps 1 4 [])))

-- ---- a touch doesn't give back what it counted and didn't add
-- (right: TouchSettleRow lowers the reserve count by one)
unfoldable pub TouchKeepsExcess : CallRows
TouchKeepsExcess s t killed grant (call.Touch (touch.Settle p)) =
    TurnRow call.Touch (Uncounted s (λ turn new. TouchSettleRow s p turn new))
TouchKeepsExcess s t killed grant other = CallRow s t killed grant other

-- a touch and a map find one index missing, and the map commits first
abbrev pub touch_settles_run : List Event
touch_settles_run =
    calls 2 (op.MapNoReserve 0 0 1) 4 (calls 1 (op.Map 0 0 1) 4 (calls 2 (op.Load 0) 5 (steps 1 3 (steps 2 5 []))))

-- ---- a map that gives back what it didn't add still counts it as used
-- (right: MapSettleRow lowers the used count by it, too)
unfoldable pub MapKeepsUsed : CallRows
MapKeepsUsed s t killed grant (call.Map (map.Settle p)) = TurnRow call.Map (Unused s (λ turn new. MapSettleRow s p turn new))
MapKeepsUsed s t killed grant other = CallRow s t killed grant other

-- ---- a touch that gives back what it didn't add still counts it as used
-- (right: TouchSettleRow lowers the used count by one, too)
unfoldable pub TouchKeepsUsed : CallRows
TouchKeepsUsed s t killed grant (call.Touch (touch.Settle p)) =
    TurnRow call.Touch (Unused s (λ turn new. TouchSettleRow s p turn new))
TouchKeepsUsed s t killed grant other = CallRow s t killed grant other

-- ---- a touch that gives its frame back doesn't count the index, which stays in the reserve map
-- (right: TouchRestoreRow raises the reserve count by one)
unfoldable pub RestoresUncounted : CallRows
RestoresUncounted s t killed grant (call.Touch (touch.Restore p)) =
    TurnRow call.Touch (Uncounted s (λ turn new. TouchRestoreRow s p turn new))
RestoresUncounted s t killed grant other = CallRow s t killed grant other

-- a touch is denied the place of its page
abbrev pub restore_run : List Event
restore_run = calls 1 (op.MapNoReserve 0 0 1) 4 (calls 1 (op.Load 0) 6 (deny 1 (steps 1 2 [])))

-- ---- a touch that gives its frame back takes the index out of the reserve map
-- (right: TouchRestoreRow leaves the reserve map)
abbrev pub UnmarkingRestoreRow : Pool → Restore → Turn TouchPhase → Pool → Type 0
UnmarkingRestoreRow s p turn new =
    (right : Pool) × TouchRestoreRow s p turn right
    × (new ≡ record right { reserved = put2 s.reserved p.touch.file p.touch.index false })

unfoldable pub RestoresUnmarked : CallRows
RestoresUnmarked s t killed grant (call.Touch (touch.Restore p)) = TurnRow call.Touch (UnmarkingRestoreRow s p)
RestoresUnmarked s t killed grant other = CallRow s t killed grant other

-- ---- a punch forgets that its delete was denied, and doesn't count the index, which stays in the reserve map
-- (right: PunchFreeRow raises the reserve count by one where it was denied)
unfoldable pub ForgetsDenial : CallRows
ForgetsDenial s t killed grant (call.Punch (punch.Free p)) =
    TurnRow call.Punch (Uncounted s (λ turn new. PunchFreeRow s p turn new))
ForgetsDenial s t killed grant other = CallRow s t killed grant other

-- ---- a punch lowers the used count whether its delete was denied or not
-- (right: PunchFreeRow leaves the used count where it was denied)
abbrev pub UnusingFreeRow : Pool → Free → Turn PunchPhase → Pool → Type 0
UnusingFreeRow s p turn new = (right : Pool) × PunchFreeRow s p turn right × (new ≡ record right { used = s.used - 1 })

unfoldable pub UnusesDenied : CallRows
UnusesDenied s t killed grant (call.Punch (punch.Free p)) = TurnRow call.Punch (UnusingFreeRow s p)
UnusesDenied s t killed grant other = CallRow s t killed grant other

-- ---- a punch whose delete was denied asks for a frame that isn't reserved before it raises the reserve count, as Linux does
-- (hugetlb_acct_memory); where there is none, the count isn't raised, and nobody notices
-- (right: PunchFreeRow frees the frame first, so there is one)
abbrev pub AskingFreeRow : Pool → Free → Turn PunchPhase → Pool → Type 0
AskingFreeRow s p turn new =
    MatchBool (p.denied && nat_lt (frees s - s.resv) 1)
    (Uncounted s (λ turn new. PunchFreeRow s p turn new) turn new)
    (PunchFreeRow s p turn new)

unfoldable pub IgnoresRefusal : CallRows
IgnoresRefusal s t killed grant (call.Punch (punch.Free p)) = TurnRow call.Punch (AskingFreeRow s p)
IgnoresRefusal s t killed grant other = CallRow s t killed grant other

-- a punch inside a region, where no descriptor is spare, is denied one
abbrev pub denial_run : List Event
denial_run =
    calls 1 (op.Map 0 0 3) 7
    (calls 1 (op.Load 1) 9 (calls 1 (op.Map 0 4 1) 7 (calls 1 (op.Punch 0 1 1) 5 (deny 1 (steps 1 3 [])))))

-- ---- a truncation gives nothing back
-- (right: TruncateSettleRow lowers the reserve count by the indices that went and had no page)
unfoldable pub GivesNothingBack : CallRows
GivesNothingBack s t killed grant (call.Truncate (truncate.Settle p)) =
    TurnRow call.Truncate (Uncounted s (λ turn new. TruncateSettleRow s p turn new))
GivesNothingBack s t killed grant other = CallRow s t killed grant other

-- a truncation of a mapped file
abbrev pub nothing_back_run : List Event
nothing_back_run = calls 1 (op.Map 0 0 1) 7 (calls 1 (op.Truncate 0 0) 8 [])

-- ---- a truncation gives back all that it removed, also the indices whose pages it took away
-- (right: TruncateTailRow takes the number of those pages off what is given back)
abbrev pub WholeTailRow : Pool → Tail → Turn TruncatePhase → Pool → Type 0
WholeTailRow s p turn new = TruncateTailRow s (record { truncation = p.truncation; evicted = 0 }) turn new

unfoldable pub GivesBackEvicted : CallRows
GivesBackEvicted s t killed grant (call.Truncate (truncate.Tail p)) = TurnRow call.Truncate (WholeTailRow s p)
GivesBackEvicted s t killed grant other = CallRow s t killed grant other

-- a truncation takes one page of two away
abbrev pub evicted_run : List Event
evicted_run = calls 1 (op.Map 0 0 2) 7 (calls 1 (op.Load 1) 9 (calls 1 (op.Truncate 0 1) 11 []))

-- ---- a truncation lowers the used count by what it gives back alone, and not by the pages that it took away
-- (right: TruncateSettleRow lowers the used count by both)
abbrev pub ExcessSettleRow : Pool → truncate_settle.Settle → Turn TruncatePhase → Pool → Type 0
ExcessSettleRow s p turn new =
    (right : Pool) × TruncateSettleRow s p turn right × (new ≡ record right { used = s.used - p.excess })

unfoldable pub KeepsEvictedUsed : CallRows
KeepsEvictedUsed s t killed grant (call.Truncate (truncate.Settle p)) = TurnRow call.Truncate (ExcessSettleRow s p)
KeepsEvictedUsed s t killed grant other = CallRow s t killed grant other

-- a file of one page is truncated
abbrev pub evicted_used_run : List Event
evicted_used_run = calls 1 (op.Alloc 0 0 1 true) 10 (calls 1 (op.Truncate 0 0) 11 [])
