-- A kept core and its parts own what a box at the same types owns.
use mir.Syntax.{impl, tnil, dnil}
use mathlib.Core.List.{[]}
use denote.Signature.{Slot, plain}
use Rattle.std_alloc.proofs.BoxSteps.Form.{Bx}
use Rattle.std_heap.specs.contracts.Global as Heap
use Rattle.std_heap.specs.contracts.GlobalAllocator.TheImpl.{ghosts, dict}
use Rattle.std_heap.proofs.Global.TheLaws as heap
use Rattle.hp_core.specs.contracts.core_state.Core as Core
use Rattle.hp_core.proofs.core_state.Core.TheLaws as core
use Rattle.hp_handle.specs.contracts.parts.Parts as Parts
use Rattle.hp_handle.specs.contracts.kept_core.KeptCore as KeptCore

abbrev pub E : Bx
E = record { row = Core.the_row; laws = core.the_row_laws; al = record { row = Heap.the_row; laws = heap.the_row_laws; g = ghosts; d = dict; drops = impl [] tnil dnil } }

abbrev pub FromParts : Slot 0
FromParts = plain (λ _. Parts.the_row Core.the_row Heap.the_row ghosts)

abbrev pub FromKept : Slot 0
FromKept = plain (λ _. KeptCore.the_row)
