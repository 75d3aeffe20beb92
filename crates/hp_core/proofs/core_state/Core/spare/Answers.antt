use Rattle.std.proofs.Common.{arith, ◌∙◌, ap}
use Rattle.hp_parts.specs.declared.parts.FileState.{FileState}
use Rattle.hp_parts.specs.View.{spares_of}
use Rattle.hp_core.specs.Readers.{spare_of}
use Rattle.hp_core.proofs.Reading.{file_in, file_read}
use Rattle.hp_core.proofs.core_state.Core.spare.Goals as goal

pub index-requires : goal.index-requires
index-requires c = let l = file_in c.self.view_is c.self.invariant c.number.ensures c.requires in omega (arith, l)

pub returns : goal.returns
unfolding spare_of spares_of
returns c =
    let read = file_read c.self.view_is c.self.invariant c.number.ensures c.requires c.index.ensures in
    c.spare.ensures.value ∙ ap (λ (y : FileState). y.map.spare) read
