use Rattle.std.proofs.Common.{arith, ◌∙◌, ap}
use Rattle.std.specs.FinMap as map
use Rattle.hp_table.specs.Table.{Table}
use Rattle.hp_parts.specs.View as view
use Rattle.hp_core.specs.Readers.{translation_of}
use Rattle.hp_core.proofs.Reading.{space_in, space_read}
use Rattle.hp_core.proofs.core_state.Core.translate.Goals as goal

pub index-requires : goal.index-requires
index-requires c =
    let l = space_in c.self.view_is c.self.invariant c.place.ensures c.requires.first c.requires.last in
    omega (arith, l)

pub returns : goal.returns
unfolding translation_of view.entries_of
returns c =
    let read = space_read c.self.view_is c.self.invariant c.place.ensures c.requires.first c.requires.last c.index.ensures in
    c.translate.ensures ∙ ap (λ (y : Table). map.get y.entries c.args.vpn) read
