use Rattle.std.proofs.Common.{take}
use Rattle.hp_chunks.specs.Chunks.{AreCopies}
use Rattle.hp_chunks.proofs.chunk_list.copy_all.Given as goal

abbrev pub invariant-loop-chunk : goal.invariant-loop-chunk
invariant-loop-chunk l = AreCopies l.copies.items (take l.chunk-index l.chunks)
