-- What a step writes.
use Rattle.std.specs.Prelude.{ℕ, ◌+◌, ◌-◌, ◌&&◌, true, false, Some, None, max, nat_lt}
use Rattle.std.specs.Prelude.{if◌then◌else◌}
use Rattle.hp_base.specs.Numbers.{put, put2}
use Rattle.hp_base.specs.Indices.{splits, cut_tail}
use Rattle.hp_base.specs.Mappings.{without_index, entered, without}
use Rattle.hp_base.specs.declared.mapping.Mapping.{Mapping}
use Rattle.hp_frames.specs.declared.frame.FrameState.TheVariants.{Free, Hand}
use Rattle.hp_region.specs.Change.{Change}
use Rattle.hp_machine.specs.State.{Pool, slot_of}
use Rattle.hp_machine.specs.Parts.{unlocked, unslotted, aborted, committed, placed, restored, frame_after, cleared}
use Rattle.hp_machine.specs.declared.touch.Access.{Access}

-- what a step writes
pub data Write : Type 0 where
  Nothing : Write
  TakesLock : (file : ℕ) → Write
  LeavesLock : (file : ℕ) → Write
  TakesSlot : (file index : ℕ) → Write
  LeavesSlot : (file index : ℕ) → Write
  Opens : (file : ℕ) → Write
  Aborts : (file : ℕ) → Write
  Commits : (file : ℕ) → (change : Change) → Write
  TakesReserved : (frame : ℕ) → Write
  TakesFree : (frame : ℕ) → Write
  Settles : (resv used : ℕ) → Write
  Places : (file index frame : ℕ) → Write
  Restores : (frame : ℕ) → Write
  Enters : (vpn frame : ℕ) → (access : Access) → Write
  Accesses : (frame : ℕ) → (access : Access) → Write
  Grows : (file end : ℕ) → Write
  Clears : (task file index : ℕ) → Write
  Evicts : (file index frame : ℕ) → Write
  Deletes : (file index : ℕ) → Write
  FreesUnreserved : (frame : ℕ) → Write
  Frees : (frame : ℕ) → Write
  Cuts : (file size : ℕ) → Write
  Passes : (file index size : ℕ) → Write
  CutsTail : (file size : ℕ) → Write
  Prepares : Write
  Accounts : (missing : ℕ) → Write
  EntersArea : Mapping → Write
  Empties : (base : ℕ) → Write
  Drops : (base : ℕ) → Write

-- the pool after it
abbrev pub written : Pool → (task : ℕ) → Write → Pool
written s t Nothing = s
written s t (TakesLock f) = record s { locks = put s.locks f (Some t) }
written s t (LeavesLock f) = unlocked s f
written s t (TakesSlot f i) = record s { slots = put s.slots (slot_of s.geometry f i) (Some t) }
written s t (LeavesSlot f i) = unslotted s f i
written s t (Opens f) = record s { pending = put s.pending f (s.pending f + 1); spare = put s.spare f (max (s.spare f) (s.pending f + 1)) }
written s t (Aborts f) = aborted s f
written s t (Commits f change) = committed s f change
written s t (TakesReserved x) = record s { frame = put s.frame x Hand; resv = s.resv - 1 }
written s t (TakesFree x) = record s { frame = put s.frame x Hand; used = s.used + 1 }
written s t (Settles n m) = record s { resv = s.resv - n; used = s.used - m }
written s t (Places f i x) = placed s f i x
written s t (Restores x) = restored s x
written s t (Enters v x access) = record s { entries = put2 s.entries t v (Some x); frame = frame_after access s.frame x }
written s t (Accesses x access) = record s { frame = frame_after access s.frame x }
written s t (Grows f end) = record s { size = put s.size f (max (s.size f) end) }
written s t (Clears k f i) = record s { entries = put s.entries k (without_index (s.mappings k) (s.entries k) f i) }
written s t (Evicts f i x) = record s { pages = put2 s.pages f i None; frame = put s.frame x Hand }
written s t (Deletes f i) =
    record s {
      reserved = put2 s.reserved f i false;
      spare = put s.spare f (if splits (s.reserved f) i && nat_lt (s.pending f) (s.spare f) then s.spare f - 1 else s.spare f);
    }
written s t (FreesUnreserved x) = record s { frame = put s.frame x Free; used = s.used - 1 }
written s t (Frees x) = record s { frame = put s.frame x Free }
written s t (Cuts f new) = record s { size = put s.size f new }
written s t (Passes f i new) = unslotted s f i
written s t (CutsTail f new) = record s { reserved = put s.reserved f (cut_tail (s.reserved f) new) }
written s t Prepares = record s { ready = put s.ready t true }
written s t (Accounts n) = record s { resv = s.resv + n; used = s.used + n }
written s t (EntersArea a) = record s {
  mappings = put s.mappings t (entered (s.mappings t) a);
  ready = put s.ready t false;
  size = put s.size a.file (max (s.size a.file) (a.from + a.len));
}
written s t (Empties base) = cleared s t base
written s t (Drops base) = record s { mappings = put s.mappings t (without (s.mappings t) base) }
