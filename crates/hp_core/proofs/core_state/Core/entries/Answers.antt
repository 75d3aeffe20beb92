use Rattle.std.proofs.Common.{arith, ◌∙◌, ap, is_some}
use Rattle.std.specs.FinMap as map
use Rattle.hp_base.specs.Indices.{count_below}
use Rattle.hp_base.specs.declared.limits.TheConstants.{VPNS}
use Rattle.hp_table.specs.Table.{Table}
use Rattle.hp_parts.specs.View as view
use Rattle.hp_core.specs.Readers.{entries_of}
use Rattle.hp_core.proofs.Reading.{space_in, space_read}
use Rattle.hp_core.proofs.core_state.Core.entries.Goals as goal

pub index-requires : goal.index-requires
index-requires c =
    let l = space_in c.self.view_is c.self.invariant c.place.ensures c.requires.first c.requires.last in
    omega (arith, l)

pub returns : goal.returns
unfolding entries_of view.entries_of
returns c =
    let read = space_read c.self.view_is c.self.invariant c.place.ensures c.requires.first c.requires.last c.index.ensures in
    c.entries.ensures.count ∙ ap (λ (y : Table). count_below (λ v. is_some (map.get y.entries v)) VPNS) read
