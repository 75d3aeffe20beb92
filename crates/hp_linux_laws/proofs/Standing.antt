-- What is known of each call in flight: what it knows of its index, by the books, and what its task's own tables say, a line a phase.
use Rattle.std.proofs.Common.{◌≡◌, ℕ, ◌+◌, ◌<◌, ◌≤◌, arith}
use Rattle.std.specs.Prelude.{Bool, true, false, Option, Some, None, List}
use Rattle.hp_base.specs.Mappings.{find, fits, in_mapping}
use Rattle.hp_base.specs.declared.mapping.Mapping.{Mapping}
use Rattle.hp_machine.specs.State.{Geometry}
use Rattle.hp_machine.specs.declared.touch.Touch.{Touch}
use Rattle.hp_machine.specs.declared.touch.TouchPhase.{TouchPhase}
use Rattle.hp_machine.specs.declared.touch.TouchPhase.TheVariants as touch
use Rattle.hp_machine.specs.declared.map.MapRequest.{MapRequest}
use Rattle.hp_machine.specs.declared.map.MapPhase.{MapPhase}
use Rattle.hp_machine.specs.declared.map.MapPhase.TheVariants as map
use Rattle.hp_machine.specs.declared.alloc.Allocation.{Allocation}
use Rattle.hp_machine.specs.declared.alloc.AllocPhase.{AllocPhase}
use Rattle.hp_machine.specs.declared.alloc.AllocPhase.TheVariants as alloc
use Rattle.hp_machine.specs.declared.punch.Hole.{Hole}
use Rattle.hp_machine.specs.declared.punch.PunchPhase.{PunchPhase}
use Rattle.hp_machine.specs.declared.punch.PunchPhase.TheVariants as punch
use Rattle.hp_machine.specs.declared.truncate.Truncation.{Truncation}
use Rattle.hp_machine.specs.declared.truncate.TruncatePhase.{TruncatePhase}
use Rattle.hp_machine.specs.declared.truncate.TruncatePhase.TheVariants as truncate
use Rattle.hp_machine.specs.declared.unmap.UnmapPhase.TheVariants as unmap
use Rattle.hp_machine.specs.declared.exit.ExitPhase.TheVariants as exit
use Rattle.hp_machine.specs.declared.call.Call.{Call}
use Rattle.hp_machine.specs.declared.call.Call.TheVariants as call
use Rattle.hp_laws.proofs.Standing.{IsOne}
use Rattle.hp_accounts.specs.Books.{Mark, Away, At, Bare, Entered, Clearing, place_of}

-- the touch's virtual page stands for its index
abbrev pub Aims : Geometry → List Mapping → Touch → Type 0
Aims g ms p = (find ms p.vpn ≡ Some (p.file, p.index)) × (p.file < g.files) × (p.index < g.limit)

-- the index lies in the range, which passed its check
abbrev pub Within : Geometry → (file from len index : ℕ) → Type 0
Within g f from len i = (f < g.files) × (i < from + len) × (from + len ≤ g.limit)

abbrev pub aims_alloc : Geometry → Allocation → (index : ℕ) → Type 0
aims_alloc g a i = Within g a.file a.from a.len i

abbrev pub aims_punch : Geometry → Hole → (index : ℕ) → Type 0
aims_punch g h i = Within g h.file h.from h.len i

-- the map's range passed its check
abbrev pub Ranged : Geometry → MapRequest → Type 0
Ranged g m = (m.file < g.files) × (m.from + m.len ≤ g.limit)

-- and its mapping fits
abbrev pub Fitted : Geometry → List Mapping → MapRequest → (base : ℕ) → Type 0
Fitted g ms m base = Ranged g m × (fits g.space ms base m.len ≡ true)

-- the truncation's file, new size and index are there; careful rows owe that many
abbrev pub Sweeps : Geometry → (careful : Bool) → Truncation → (index evicted owed : ℕ) → Type 0
Sweeps g careful p i evicted owed = (p.file < g.files) × (p.new ≤ g.limit) × (i < g.limit) × (careful ≡ true → evicted ≡ owed)

-- no virtual page of the mapping is translated
abbrev pub Emptied : List Mapping → (ℕ → Option ℕ) → (base : ℕ) → Type 0
Emptied ms es base = (v x : ℕ) → es v ≡ Some x → in_mapping ms base v ≡ false

abbrev pub touch_stands : Geometry → List Mapping → Mark → TouchPhase → Type 0
touch_stands g ms m (touch.Look p) = m ≡ Away
touch_stands g ms m (touch.Want p) = (m ≡ Away) × Aims g ms p.touch
touch_stands g ms m (touch.Locked p) = (m ≡ At p.touch.file p.touch.index) × Aims g ms p.touch
touch_stands g ms m (touch.Missing p) = (m ≡ Bare p.touch.file p.touch.index) × Aims g ms p.touch
touch_stands g ms m (touch.Changed p) = (m ≡ Bare p.touch.file p.touch.index) × Aims g ms p.touch × IsOne p.pending p.touch.index
touch_stands g ms m (touch.Abort p) = (m ≡ Bare p.touch.file p.touch.index) × Aims g ms p.touch
touch_stands g ms m (touch.Taken p) = (m ≡ Bare p.touch.file p.touch.index) × Aims g ms p.touch × IsOne p.pending p.touch.index
touch_stands g ms m (touch.Settle p) = (m ≡ Entered p.touch.file p.touch.index) × Aims g ms p.touch
touch_stands g ms m (touch.Committed p) = (m ≡ Entered p.touch.file p.touch.index) × Aims g ms p.touch
touch_stands g ms m (touch.Restore p) = (m ≡ Entered p.touch.file p.touch.index) × Aims g ms p.touch
touch_stands g ms m (touch.Found p) = (m ≡ At p.touch.file p.touch.index) × Aims g ms p.touch
touch_stands g ms m (touch.Leave p) = place_of m ≡ Some (p.touch.file, p.touch.index)

abbrev pub map_stands : Geometry → List Mapping → Mark → MapPhase → Type 0
map_stands g ms m (map.Start p) = m ≡ Away
map_stands g ms m (map.Room p) = (m ≡ Away) × Ranged g p.map
map_stands g ms m (map.Missing p) = (m ≡ Away) × Fitted g ms p.map p.base
map_stands g ms m (map.Changed p) = (m ≡ Away) × Fitted g ms p.map p.base × (p.pending.to ≤ g.limit)
map_stands g ms m (map.Abort p) = m ≡ Away
map_stands g ms m (map.Accounted p) = (m ≡ Away) × Fitted g ms p.map p.base × (p.pending.to ≤ g.limit)
map_stands g ms m (map.Settle p) = (m ≡ Away) × Fitted g ms p.map p.base
map_stands g ms m (map.Enter p) = (m ≡ Away) × Fitted g ms p.map p.base
map_stands g ms m (map.Leave p) = m ≡ Away

abbrev pub alloc_stands : Geometry → Mark → AllocPhase → Type 0
alloc_stands g m (alloc.Start p) = m ≡ Away
alloc_stands g m (alloc.Head p) = (m ≡ Away) × aims_alloc g p.allocation p.index
alloc_stands g m (alloc.Want p) = (m ≡ Away) × aims_alloc g p.allocation p.index
alloc_stands g m (alloc.Locked p) = (m ≡ At p.allocation.file p.index) × aims_alloc g p.allocation p.index
alloc_stands g m (alloc.Missing p) = (m ≡ Bare p.allocation.file p.index) × aims_alloc g p.allocation p.index
alloc_stands g m (alloc.Changed p) = (m ≡ Bare p.allocation.file p.index) × aims_alloc g p.allocation p.index × IsOne p.pending p.index
alloc_stands g m (alloc.Abort p) = (m ≡ Bare p.allocation.file p.index) × aims_alloc g p.allocation p.index
alloc_stands g m (alloc.Taken p) = (m ≡ Bare p.allocation.file p.index) × aims_alloc g p.allocation p.index × IsOne p.pending p.index
alloc_stands g m (alloc.Settle p) = (m ≡ Entered p.allocation.file p.index) × aims_alloc g p.allocation p.index
alloc_stands g m (alloc.Committed p) = (m ≡ Entered p.allocation.file p.index) × aims_alloc g p.allocation p.index
alloc_stands g m (alloc.Restore p) = (m ≡ Entered p.allocation.file p.index) × aims_alloc g p.allocation p.index
alloc_stands g m (alloc.Unslot p) = (place_of m ≡ Some (p.allocation.file, p.index)) × aims_alloc g p.allocation p.index
alloc_stands g m (alloc.Extend p) = (m ≡ Away) × (p.allocation.from + p.allocation.len ≤ g.limit)
alloc_stands g m (alloc.Leave p) = m ≡ Away

abbrev pub punch_stands : Geometry → Mark → PunchPhase → Type 0
punch_stands g m (punch.Start p) = m ≡ Away
punch_stands g m (punch.Want p) = (m ≡ Away) × aims_punch g p.hole p.index
punch_stands g m (punch.Locked p) = (m ≡ At p.hole.file p.index) × aims_punch g p.hole p.index
punch_stands g m (punch.Unmap p) = (m ≡ Clearing p.hole.file p.index p.task) × aims_punch g p.hole p.index
punch_stands g m (punch.Evict p) = ((n : ℕ) × (m ≡ Clearing p.hole.file p.index n) × (g.tasks < n)) × aims_punch g p.hole p.index
punch_stands g m (punch.Delete p) = (m ≡ Bare p.hole.file p.index) × aims_punch g p.hole p.index
punch_stands g m (punch.Free p) = (m ≡ Bare p.hole.file p.index) × aims_punch g p.hole p.index
punch_stands g m (punch.Unslot p) = (place_of m ≡ Some (p.hole.file, p.index)) × aims_punch g p.hole p.index
punch_stands g m (punch.Leave p) = m ≡ Away

abbrev pub truncate_stands : Geometry → (careful : Bool) → Mark → TruncatePhase → Type 0
truncate_stands g careful m (truncate.Start p) = m ≡ Away
truncate_stands g careful m (truncate.Size p) = (m ≡ Away) × (p.truncation.file < g.files) × (p.truncation.new ≤ g.limit)
truncate_stands g careful m (truncate.Want p) = (m ≡ Away) × Sweeps g careful p.truncation p.index p.evicted 0
truncate_stands g careful m (truncate.Locked p) = (m ≡ At p.truncation.file p.index) × Sweeps g careful p.truncation p.index p.evicted 0
truncate_stands g careful m (truncate.Unmap p) =
    (m ≡ Clearing p.truncation.file p.index p.task) × Sweeps g careful p.truncation p.index p.evicted 0
truncate_stands g careful m (truncate.Evict p) =
    ((n : ℕ) × (m ≡ Clearing p.truncation.file p.index n) × (g.tasks < n)) × Sweeps g careful p.truncation p.index p.evicted 0
truncate_stands g careful m (truncate.Free p) = (m ≡ Bare p.truncation.file p.index) × Sweeps g careful p.truncation p.index p.evicted 1
truncate_stands g careful m (truncate.Unslot p) =
    (place_of m ≡ Some (p.truncation.file, p.index)) × Sweeps g careful p.truncation p.index p.evicted 0
truncate_stands g careful m (truncate.Tail p) = (m ≡ Away) × (p.truncation.file < g.files)
truncate_stands g careful m (truncate.Settle p) = m ≡ Away
truncate_stands g careful m (truncate.Leave p) = m ≡ Away

-- what is known of the call of a task with these mappings and translations
abbrev pub Stands : Geometry → (careful : Bool) → List Mapping → (ℕ → Option ℕ) → Mark → Option Call → Type 0
Stands g careful ms es m None = m ≡ Away
Stands g careful ms es m (Some (call.Touch phase)) = touch_stands g ms m phase
Stands g careful ms es m (Some (call.Map phase)) = map_stands g ms m phase
Stands g careful ms es m (Some (call.Alloc phase)) = alloc_stands g m phase
Stands g careful ms es m (Some (call.Punch phase)) = punch_stands g m phase
Stands g careful ms es m (Some (call.Truncate phase)) = truncate_stands g careful m phase
Stands g careful ms es m (Some (call.Unmap (unmap.Drop p))) = (m ≡ Away) × Emptied ms es p.base
Stands g careful ms es m (Some (call.Unmap other)) = m ≡ Away
Stands g careful ms es m (Some (call.Exit (exit.Drop p))) = (m ≡ Away) × Emptied ms es p.base
Stands g careful ms es m (Some (call.Exit other)) = m ≡ Away

-- sizes and pages lie below the limit
abbrev pub Fits : Geometry → (size : ℕ → ℕ) → (pages : ℕ → ℕ → Option ℕ) → Type 0
Fits g size pages = ((f : ℕ) → size f ≤ g.limit) × ((f i x : ℕ) → pages f i ≡ Some x → i < g.limit)

-- an index of a range lies below the limit
pub below_limit : (g : Geometry) (f from len i : ℕ) → Within g f from len i → i < g.limit
below_limit g f from len i h = let a = h.1 in let b = h.2 in omega arith
