-- What the steps of maps, touches and allocations take for granted of the pool. Each of these is a fact of every
-- state that the machine reaches.
use Rattle.std.specs.Prelude.{◌≡◌, ℕ, ◌+◌, ◌≤◌, ◌<◌, ◌^◌, true, None, Some, IfSome, IsSome}
use Rattle.hp_base.specs.Mappings.{find, fits}
use Rattle.hp_machine.specs.State.{Pool, slot_of}
use Rattle.hp_machine.specs.declared.map.MapPhase.{MapPhase}
use Rattle.hp_machine.specs.declared.map.MapPhase.TheVariants as at
use Rattle.hp_machine.specs.declared.touch.TouchPhase.{TouchPhase}
use Rattle.hp_machine.specs.declared.touch.TouchPhase.TheVariants as touch
use Rattle.hp_machine.specs.declared.alloc.AllocPhase.{AllocPhase}
use Rattle.hp_machine.specs.declared.alloc.AllocPhase.TheVariants as alloc
use Rattle.hp_parts.specs.Fits.{IsTaskOf, IsFileOf, IsHeld, IsPage, HasPage}

abbrev pub MapFits : Pool → (task : ℕ) → MapPhase → Type 0
MapFits s t (at.Start p) = Unit {0}
MapFits s t (at.Room p) = IsTaskOf s t
MapFits s t (at.Missing p) = IsFileOf s p.map.file × (1 ≤ p.map.len) × (p.map.from + p.map.len ≤ s.geometry.limit)
MapFits s t (at.Changed p) = s.used + p.pending.missing < 2 ^ 32
MapFits s t (at.Abort p) = IsFileOf s p.map.file × (1 ≤ s.pending p.map.file)
MapFits s t (at.Accounted p) = IsFileOf s p.map.file × (1 ≤ s.pending p.map.file)
MapFits s t (at.Settle p) = (p.excess ≤ s.resv) × (p.excess ≤ s.used)
MapFits s t (at.Enter p) = record {
  task : IsTaskOf s t;
  file : IsFileOf s p.map.file;
  some : 1 ≤ p.map.len;
  in_limit : p.map.from + p.map.len ≤ s.geometry.limit;
  ready : s.ready t ≡ true;
  fits : fits s.geometry.space (s.mappings t) p.base p.map.len ≡ true;
}
MapFits s t (at.Leave p) = s.locks p.map.file ≡ Some t

abbrev pub TouchFits : Pool → (task : ℕ) → TouchPhase → Type 0
TouchFits s t (touch.Look p) = IsTaskOf s t × IfSome (s.entries t p.vpn) (λ x. IsPage s x)
TouchFits s t (touch.Want p) = Unit {0}
TouchFits s t (touch.Locked p) = IsFileOf s p.touch.file
TouchFits s t (touch.Missing p) = IsFileOf s p.touch.file × (p.touch.index < s.geometry.limit)
TouchFits s t (touch.Changed p) = (p.pending.missing ≡ 0 → 1 ≤ s.resv) × (s.used + 1 < 2 ^ 32)
TouchFits s t (touch.Abort p) = IsFileOf s p.touch.file × (1 ≤ s.pending p.touch.file)
TouchFits s t (touch.Taken p) = IsFileOf s p.touch.file × (1 ≤ s.pending p.touch.file)
TouchFits s t (touch.Settle p) = (1 ≤ s.resv) × (1 ≤ s.used)
TouchFits s t (touch.Committed p) = record {
  file : IsFileOf s p.touch.file;
  in_limit : p.touch.index < s.geometry.limit;
  bare : s.pages p.touch.file p.touch.index ≡ None;
  held : IsHeld s p.held;
}
TouchFits s t (touch.Restore p) = IsHeld s p.held
TouchFits s t (touch.Found p) = record {
  task : IsTaskOf s t;
  file : IsFileOf s p.touch.file;
  mapped : IsSome (find (s.mappings t) p.touch.vpn);
  untranslated : s.entries t p.touch.vpn ≡ None;
  page : HasPage s p.touch.file p.touch.index;
}
TouchFits s t (touch.Leave p) = s.slots (slot_of s.geometry p.touch.file p.touch.index) ≡ Some t

abbrev pub AllocFits : Pool → (task : ℕ) → AllocPhase → Type 0
AllocFits s t (alloc.Start p) = Unit {0}
AllocFits s t (alloc.Head p) = Unit {0}
AllocFits s t (alloc.Want p) = Unit {0}
AllocFits s t (alloc.Locked p) = IsFileOf s p.allocation.file
AllocFits s t (alloc.Missing p) = IsFileOf s p.allocation.file × (p.index < s.geometry.limit)
AllocFits s t (alloc.Changed p) = (p.pending.missing ≡ 0 → 1 ≤ s.resv) × (s.used + 1 < 2 ^ 32)
AllocFits s t (alloc.Abort p) = IsFileOf s p.allocation.file × (1 ≤ s.pending p.allocation.file)
AllocFits s t (alloc.Taken p) = IsFileOf s p.allocation.file × (1 ≤ s.pending p.allocation.file)
AllocFits s t (alloc.Settle p) = (1 ≤ s.resv) × (1 ≤ s.used)
AllocFits s t (alloc.Committed p) = record {
  file : IsFileOf s p.allocation.file;
  in_limit : p.index < s.geometry.limit;
  bare : s.pages p.allocation.file p.index ≡ None;
  held : IsHeld s p.held;
}
AllocFits s t (alloc.Restore p) = IsHeld s p.held
AllocFits s t (alloc.Unslot p) = record {
  slot : s.slots (slot_of s.geometry p.allocation.file p.index) ≡ Some t;
  in_limit : p.allocation.from + p.allocation.len ≤ s.geometry.limit;
  index : p.index < s.geometry.limit;
}
AllocFits s t (alloc.Extend p) = IsFileOf s p.allocation.file × (p.allocation.from + p.allocation.len ≤ s.geometry.limit)
AllocFits s t (alloc.Leave p) = s.locks p.allocation.file ≡ Some t
