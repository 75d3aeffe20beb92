-- When a call is about to lower the reserve count or the used count, the count is at least what it takes.
use Rattle.std.specs.Prelude.{◌≡◌, ◌+◌, ◌≤◌, false, Option, Some, None}
use Rattle.hp_machine.specs.State.{State}
use Rattle.hp_machine.specs.declared.touch.TouchPhase.TheVariants as touch
use Rattle.hp_machine.specs.declared.map.MapPhase.TheVariants as map
use Rattle.hp_machine.specs.declared.alloc.AllocPhase.TheVariants as alloc
use Rattle.hp_machine.specs.declared.punch.PunchPhase.TheVariants as punch
use Rattle.hp_machine.specs.declared.truncate.TruncatePhase.TheVariants as truncate
use Rattle.hp_machine.specs.declared.unmap.UnmapPhase.TheVariants as unmap
use Rattle.hp_machine.specs.declared.exit.ExitPhase.TheVariants as exit
use Rattle.hp_machine.specs.declared.call.Call.{Call}
use Rattle.hp_machine.specs.declared.call.Call.TheVariants as call

abbrev pub CanSettle : State → Option Call → Type 0
CanSettle s None = Unit {0}
CanSettle s (Some (call.Touch (touch.Look p))) = Unit {0}
CanSettle s (Some (call.Touch (touch.Want p))) = Unit {0}
CanSettle s (Some (call.Touch (touch.Locked p))) = Unit {0}
CanSettle s (Some (call.Touch (touch.Missing p))) = Unit {0}
CanSettle s (Some (call.Touch (touch.Changed p))) = p.pending.missing ≡ 0 → 1 ≤ s.resv
CanSettle s (Some (call.Touch (touch.Abort p))) = Unit {0}
CanSettle s (Some (call.Touch (touch.Taken p))) = Unit {0}
CanSettle s (Some (call.Touch (touch.Settle p))) = (1 ≤ s.resv) × (1 ≤ s.used)
CanSettle s (Some (call.Touch (touch.Committed p))) = Unit {0}
CanSettle s (Some (call.Touch (touch.Restore p))) = Unit {0}
CanSettle s (Some (call.Touch (touch.Found p))) = Unit {0}
CanSettle s (Some (call.Touch (touch.Leave p))) = Unit {0}
CanSettle s (Some (call.Map (map.Start p))) = Unit {0}
CanSettle s (Some (call.Map (map.Room p))) = Unit {0}
CanSettle s (Some (call.Map (map.Missing p))) = Unit {0}
CanSettle s (Some (call.Map (map.Changed p))) = Unit {0}
CanSettle s (Some (call.Map (map.Abort p))) = Unit {0}
CanSettle s (Some (call.Map (map.Accounted p))) = Unit {0}
CanSettle s (Some (call.Map (map.Settle p))) = (p.excess ≤ s.resv) × (p.excess ≤ s.used)
CanSettle s (Some (call.Map (map.Enter p))) = Unit {0}
CanSettle s (Some (call.Map (map.Leave p))) = Unit {0}
CanSettle s (Some (call.Alloc (alloc.Start p))) = Unit {0}
CanSettle s (Some (call.Alloc (alloc.Head p))) = Unit {0}
CanSettle s (Some (call.Alloc (alloc.Want p))) = Unit {0}
CanSettle s (Some (call.Alloc (alloc.Locked p))) = Unit {0}
CanSettle s (Some (call.Alloc (alloc.Missing p))) = Unit {0}
CanSettle s (Some (call.Alloc (alloc.Changed p))) = p.pending.missing ≡ 0 → 1 ≤ s.resv
CanSettle s (Some (call.Alloc (alloc.Abort p))) = Unit {0}
CanSettle s (Some (call.Alloc (alloc.Taken p))) = Unit {0}
CanSettle s (Some (call.Alloc (alloc.Settle p))) = (1 ≤ s.resv) × (1 ≤ s.used)
CanSettle s (Some (call.Alloc (alloc.Committed p))) = Unit {0}
CanSettle s (Some (call.Alloc (alloc.Restore p))) = Unit {0}
CanSettle s (Some (call.Alloc (alloc.Unslot p))) = Unit {0}
CanSettle s (Some (call.Alloc (alloc.Extend p))) = Unit {0}
CanSettle s (Some (call.Alloc (alloc.Leave p))) = Unit {0}
CanSettle s (Some (call.Punch (punch.Start p))) = Unit {0}
CanSettle s (Some (call.Punch (punch.Want p))) = Unit {0}
CanSettle s (Some (call.Punch (punch.Locked p))) = Unit {0}
CanSettle s (Some (call.Punch (punch.Unmap p))) = Unit {0}
CanSettle s (Some (call.Punch (punch.Evict p))) = Unit {0}
CanSettle s (Some (call.Punch (punch.Delete p))) = Unit {0}
CanSettle s (Some (call.Punch (punch.Free p))) = p.denied ≡ false → 1 ≤ s.used
CanSettle s (Some (call.Punch (punch.Unslot p))) = Unit {0}
CanSettle s (Some (call.Punch (punch.Leave p))) = Unit {0}
CanSettle s (Some (call.Truncate (truncate.Start p))) = Unit {0}
CanSettle s (Some (call.Truncate (truncate.Size p))) = Unit {0}
CanSettle s (Some (call.Truncate (truncate.Want p))) = Unit {0}
CanSettle s (Some (call.Truncate (truncate.Locked p))) = Unit {0}
CanSettle s (Some (call.Truncate (truncate.Unmap p))) = Unit {0}
CanSettle s (Some (call.Truncate (truncate.Evict p))) = Unit {0}
CanSettle s (Some (call.Truncate (truncate.Free p))) = Unit {0}
CanSettle s (Some (call.Truncate (truncate.Unslot p))) = Unit {0}
CanSettle s (Some (call.Truncate (truncate.Tail p))) = Unit {0}
CanSettle s (Some (call.Truncate (truncate.Settle p))) = (p.excess ≤ s.resv) × (p.excess + p.evicted ≤ s.used)
CanSettle s (Some (call.Truncate (truncate.Leave p))) = Unit {0}
CanSettle s (Some (call.Unmap (unmap.Start p))) = Unit {0}
CanSettle s (Some (call.Unmap (unmap.Clear p))) = Unit {0}
CanSettle s (Some (call.Unmap (unmap.Drop p))) = Unit {0}
CanSettle s (Some (call.Exit exit.Start)) = Unit {0}
CanSettle s (Some (call.Exit (exit.Clear p))) = Unit {0}
CanSettle s (Some (call.Exit (exit.Drop p))) = Unit {0}
CanSettle s (Some (call.Exit exit.Leave)) = Unit {0}
