-- What the steps of punches, truncations, unmaps and exits take for granted of the pool. Each of these is a
-- fact of every state that the machine reaches.
use Rattle.std.specs.Prelude.{◌≡◌, ℕ, ◌+◌, ◌≤◌, ◌<◌, ◌^◌, true, false, None, Some}
use Rattle.hp_base.specs.Indices.{count_within}
use Rattle.hp_base.specs.Mappings.{in_mapping}
use Rattle.hp_machine.specs.State.{Pool, slot_of}
use Rattle.hp_machine.specs.declared.punch.PunchPhase.{PunchPhase}
use Rattle.hp_machine.specs.declared.punch.PunchPhase.TheVariants as punch
use Rattle.hp_machine.specs.declared.truncate.TruncatePhase.{TruncatePhase}
use Rattle.hp_machine.specs.declared.truncate.TruncatePhase.TheVariants as truncate
use Rattle.hp_machine.specs.declared.unmap.UnmapPhase.{UnmapPhase}
use Rattle.hp_machine.specs.declared.unmap.UnmapPhase.TheVariants as unmap
use Rattle.hp_machine.specs.declared.exit.ExitPhase.{ExitPhase}
use Rattle.hp_machine.specs.declared.exit.ExitPhase.TheVariants as exit
use Rattle.hp_parts.specs.Fits.{IsTaskOf, IsFileOf, IsHeld, HasPage}

-- no virtual page of the mapping is translated
abbrev pub IsCleared : Pool → (task base : ℕ) → Type 0
IsCleared s t base = (v : ℕ) → in_mapping (s.mappings t) base v ≡ true → s.entries t v ≡ None

abbrev pub PunchFits : Pool → (task : ℕ) → PunchPhase → Type 0
PunchFits s t (punch.Start p) = Unit {0}
PunchFits s t (punch.Want p) = Unit {0}
PunchFits s t (punch.Locked p) = IsFileOf s p.hole.file
PunchFits s t (punch.Unmap p) = IsTaskOf s p.task × (s.geometry.tasks < 2 ^ 32)
PunchFits s t (punch.Evict p) = IsFileOf s p.hole.file × HasPage s p.hole.file p.index
PunchFits s t (punch.Delete p) = IsFileOf s p.hole.file × (s.pending p.hole.file ≤ s.spare p.hole.file)
PunchFits s t (punch.Free p) = IsHeld s p.held × (p.denied ≡ false → 1 ≤ s.used)
PunchFits s t (punch.Unslot p) = record {
  slot : s.slots (slot_of s.geometry p.hole.file p.index) ≡ Some t;
  in_limit : p.hole.from + p.hole.len ≤ s.geometry.limit;
  index : p.index < s.geometry.limit;
}
PunchFits s t (punch.Leave p) = s.locks p.hole.file ≡ Some t

abbrev pub TruncateFits : Pool → (task : ℕ) → TruncatePhase → Type 0
TruncateFits s t (truncate.Start p) = Unit {0}
TruncateFits s t (truncate.Size p) = IsFileOf s p.truncation.file
TruncateFits s t (truncate.Want p) = Unit {0}
TruncateFits s t (truncate.Locked p) = IsFileOf s p.truncation.file
TruncateFits s t (truncate.Unmap p) = IsTaskOf s p.task × (s.geometry.tasks < 2 ^ 32)
TruncateFits s t (truncate.Evict p) = IsFileOf s p.truncation.file × HasPage s p.truncation.file p.index × (p.evicted ≤ s.geometry.limit)
TruncateFits s t (truncate.Free p) = IsHeld s p.held
TruncateFits s t (truncate.Unslot p) = s.slots (slot_of s.geometry p.truncation.file p.index) ≡ Some t
TruncateFits s t (truncate.Tail p) =
    IsFileOf s p.truncation.file × (p.evicted ≤ count_within (s.reserved p.truncation.file) p.truncation.new s.geometry.limit)
TruncateFits s t (truncate.Settle p) = (p.excess ≤ s.resv) × (p.excess + p.evicted ≤ s.used)
TruncateFits s t (truncate.Leave p) = s.locks p.truncation.file ≡ Some t

abbrev pub UnmapFits : Pool → (task : ℕ) → UnmapPhase → Type 0
UnmapFits s t (unmap.Start p) = IsTaskOf s t
UnmapFits s t (unmap.Clear p) = IsTaskOf s t
UnmapFits s t (unmap.Drop p) = IsTaskOf s t × IsCleared s t p.base

abbrev pub ExitFits : Pool → (task : ℕ) → ExitPhase → Type 0
ExitFits s t exit.Start = IsTaskOf s t
ExitFits s t (exit.Clear p) = IsTaskOf s t
ExitFits s t (exit.Drop p) = IsTaskOf s t × IsCleared s t p.base
ExitFits s t exit.Leave = Unit {0}
