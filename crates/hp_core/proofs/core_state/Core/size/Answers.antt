use Rattle.std.proofs.Common.{arith, ap}
use Rattle.hp_parts.specs.declared.parts.FileState.{FileState}
use Rattle.hp_parts.specs.View.{sizes_of}
use Rattle.hp_core.specs.Readers.{size_of}
use Rattle.hp_core.proofs.Reading.{file_in, file_read}
use Rattle.hp_core.proofs.core_state.Core.size.Goals as goal

pub index-requires : goal.index-requires
index-requires c = let l = file_in c.self.view_is c.self.invariant c.number.ensures c.requires in omega (arith, l)

pub returns : goal.returns
unfolding size_of sizes_of
returns c =
    let read = file_read c.self.view_is c.self.invariant c.number.ensures c.requires c.index.ensures in
    ap (λ (y : FileState). y.size) read
