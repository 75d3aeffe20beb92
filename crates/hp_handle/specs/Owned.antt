-- What is kept for C: a core, or none.
use Rattle.std.specs.Prelude.{Option, Some, None}
use base.Fml.{Fml, ftrue}
use Rattle.std.specs.Coded.{Coded, coded_option}
use denote.RawPtr.{Ptr}
use Rattle.std.specs.Box.Ownership.{box_owns}
use Rattle.std.specs.Global.{Global}
use Rattle.std_heap.specs.contracts.GlobalAllocator.TheImpl.{ghosts}
use Rattle.hp_core.specs.contracts.core_state.Core.{the_row}

-- the core's block and the right to free it, or nothing
abbrev pub core_owned : Global → Ptr → Option the_row.Denot → Fml
core_owned alloc p None = ftrue
core_owned alloc p (Some x) = box_owns (ghosts.dealloc_token alloc) the_row p x

-- a code of what is held, from the core's own
abbrev pub held_coded : Coded (Option the_row.Denot)
held_coded = coded_option the_row.coded
