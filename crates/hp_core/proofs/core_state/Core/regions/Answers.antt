use Rattle.std.proofs.Common.{arith, ◌∙◌, ap}
use Rattle.hp_base.specs.Indices.{region_count}
use Rattle.hp_base.specs.declared.limits.TheConstants.{LIMIT}
use Rattle.hp_region.specs.Regions.{is_member}
use Rattle.hp_parts.specs.declared.parts.FileState.{FileState}
use Rattle.hp_parts.specs.View.{sets_of}
use Rattle.hp_core.specs.Readers.{regions_of}
use Rattle.hp_core.proofs.Reading.{file_in, file_read}
use Rattle.hp_core.proofs.core_state.Core.regions.Goals as goal

pub index-requires : goal.index-requires
index-requires c = let l = file_in c.self.view_is c.self.invariant c.number.ensures c.requires in omega (arith, l)

pub returns : goal.returns
unfolding regions_of sets_of
returns c =
    let read = file_read c.self.view_is c.self.invariant c.number.ensures c.requires c.index.ensures in
    c.regions.ensures.runs ∙ ap (λ (y : FileState). region_count LIMIT (is_member y.map.regions)) read
