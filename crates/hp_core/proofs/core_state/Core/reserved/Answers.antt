use Rattle.std.proofs.Common.{arith, ◌∙◌, ap}
use Rattle.hp_base.specs.Indices.{count_below}
use Rattle.hp_base.specs.declared.limits.TheConstants.{LIMIT}
use Rattle.hp_region.specs.Regions.{is_member}
use Rattle.hp_parts.specs.declared.parts.FileState.{FileState}
use Rattle.hp_parts.specs.View.{sets_of}
use Rattle.hp_core.specs.Readers.{reserved_of}
use Rattle.hp_core.proofs.Reading.{file_in, file_read}
use Rattle.hp_core.proofs.core_state.Core.reserved.Goals as goal

pub index-requires : goal.index-requires
index-requires c = let l = file_in c.self.view_is c.self.invariant c.number.ensures c.requires in omega (arith, l)

pub returns-clause-count : goal.returns-clause-count
unfolding reserved_of sets_of
returns-clause-count c =
    let read = file_read c.self.view_is c.self.invariant c.number.ensures c.requires c.index.ensures in
    c.count.ensures.counted ∙ ap (λ (y : FileState). count_below (is_member y.map.regions) LIMIT) read
