use Rattle.std.proofs.Common.{arith, ◌∙◌, ap}
use Rattle.std.specs.Prelude.{length}
use Rattle.hp_table.specs.Table.{Table}
use Rattle.hp_parts.specs.View.{mappings_by_task}
use Rattle.hp_core.specs.Readers.{mappings_of}
use Rattle.hp_core.proofs.Reading.{space_in, space_read}
use Rattle.hp_core.proofs.core_state.Core.mappings.Goals as goal

pub index-requires : goal.index-requires
index-requires c =
    let l = space_in c.self.view_is c.self.invariant c.place.ensures c.requires.first c.requires.last in
    omega (arith, l)

pub returns : goal.returns
unfolding mappings_of mappings_by_task
returns c =
    let read = space_read c.self.view_is c.self.invariant c.place.ensures c.requires.first c.requires.last c.index.ensures in
    c.mappings.ensures.value ∙ ap (λ (y : Table). length y.mappings) read
