-- Which rows want growth: a Step that isn't granted is denied in these alone.
use Rattle.std.specs.Prelude.{◌≡◌, ℕ, ◌≤◌, ◌<◌, true, Some}
use Rattle.hp_base.specs.Indices.{splits}
use Rattle.hp_base.specs.Mappings.{IsRoom}
use Rattle.hp_machine.specs.State.{Pool}
use Rattle.hp_machine.specs.declared.touch.TouchPhase.{TouchPhase}
use Rattle.hp_machine.specs.declared.map.MapPhase.{MapPhase}
use Rattle.hp_machine.specs.declared.alloc.AllocPhase.{AllocPhase}
use Rattle.hp_machine.specs.declared.punch.PunchPhase.{PunchPhase}
use Rattle.hp_machine.specs.declared.touch.TouchPhase.TheVariants as touch
use Rattle.hp_machine.specs.declared.map.MapPhase.TheVariants as map
use Rattle.hp_machine.specs.declared.alloc.AllocPhase.TheVariants as alloc
use Rattle.hp_machine.specs.declared.punch.PunchPhase.TheVariants as punch
use Rattle.hp_machine.specs.declared.call.Call.{Call}
use Rattle.hp_machine.specs.declared.call.Call.TheVariants as call

-- a change wants a descriptor where each spare one is pending
abbrev pub ChangeWants : Pool → (file : ℕ) → Type 0
ChangeWants s f = s.spare f ≡ s.pending f

abbrev pub touch_wants : Pool → TouchPhase → Type 0
touch_wants s (touch.Look p) = ⊥
touch_wants s (touch.Want p) = ⊥
touch_wants s (touch.Locked p) = ⊥
touch_wants s (touch.Missing p) = ChangeWants s p.touch.file
touch_wants s (touch.Changed p) = ⊥
touch_wants s (touch.Abort p) = ⊥
touch_wants s (touch.Taken p) = ⊥
touch_wants s (touch.Settle p) = ⊥
touch_wants s (touch.Committed p) = p.touch.index < s.size p.touch.file
touch_wants s (touch.Restore p) = ⊥
touch_wants s (touch.Found p) = p.touch.index < s.size p.touch.file
touch_wants s (touch.Leave p) = ⊥

abbrev pub map_wants : Pool → (task : ℕ) → MapPhase → Type 0
map_wants s t (map.Start p) = ⊥
map_wants s t (map.Room p) = (base : ℕ) × IsRoom s.geometry.space (s.mappings t) p.map.len (Some base)
map_wants s t (map.Missing p) = ChangeWants s p.map.file
map_wants s t (map.Changed p) = ⊥
map_wants s t (map.Abort p) = ⊥
map_wants s t (map.Accounted p) = ⊥
map_wants s t (map.Settle p) = ⊥
map_wants s t (map.Enter p) = ⊥
map_wants s t (map.Leave p) = ⊥

abbrev pub alloc_wants : Pool → AllocPhase → Type 0
alloc_wants s (alloc.Start p) = ⊥
alloc_wants s (alloc.Head p) = ⊥
alloc_wants s (alloc.Want p) = ⊥
alloc_wants s (alloc.Locked p) = ⊥
alloc_wants s (alloc.Missing p) = ChangeWants s p.allocation.file
alloc_wants s (alloc.Changed p) = ⊥
alloc_wants s (alloc.Abort p) = ⊥
alloc_wants s (alloc.Taken p) = ⊥
alloc_wants s (alloc.Settle p) = ⊥
alloc_wants s (alloc.Committed p) = Unit {0}
alloc_wants s (alloc.Restore p) = ⊥
alloc_wants s (alloc.Unslot p) = ⊥
alloc_wants s (alloc.Extend p) = ⊥
alloc_wants s (alloc.Leave p) = ⊥

abbrev pub punch_wants : Pool → PunchPhase → Type 0
punch_wants s (punch.Start p) = ⊥
punch_wants s (punch.Want p) = ⊥
punch_wants s (punch.Locked p) = ⊥
punch_wants s (punch.Unmap p) = ⊥
punch_wants s (punch.Evict p) = ⊥
punch_wants s (punch.Delete p) = (splits (s.reserved p.hole.file) p.index ≡ true) × (s.spare p.hole.file ≤ s.pending p.hole.file)
punch_wants s (punch.Free p) = ⊥
punch_wants s (punch.Unslot p) = ⊥
punch_wants s (punch.Leave p) = ⊥

-- truncations, unmaps and exits want none
abbrev pub Wants : Pool → (task : ℕ) → Call → Type 0
Wants s t (call.Touch phase) = touch_wants s phase
Wants s t (call.Map phase) = map_wants s t phase
Wants s t (call.Alloc phase) = alloc_wants s phase
Wants s t (call.Punch phase) = punch_wants s phase
Wants s t (call.Truncate phase) = ⊥
Wants s t (call.Unmap phase) = ⊥
Wants s t (call.Exit phase) = ⊥
