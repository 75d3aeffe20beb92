use Rattle.hp_chunks.proofs.Present.{none_of_no_bits}
use Rattle.hp_chunks.proofs.chunk.Chunk.new.Goals as goal

pub returns : goal.returns
returns c = rw c.new.ensures (none_of_no_bits 64)
