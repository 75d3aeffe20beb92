use Rattle.std.proofs.Common.{◌*◌, refl, sym, ap, arith}
use Rattle.std.specs.Prelude.{is_some}
use Rattle.hp_base.proofs.Counting.{count_below_none}
use Rattle.hp_chunks.specs.Chunks.{frame_of}
use Rattle.hp_chunks.proofs.Slots.{frame_of_no_chunk}
use Rattle.hp_chunks.proofs.Tables.{map_below-none}
use Rattle.hp_chunks.proofs.frame_map.FrameMap.new.Goals as goal

pub invariant_of-result : goal.invariant_of-result
invariant_of-result g c =
    record {
      few = rw c.new.ensures.items (omega arith);
      small = c.requires;
      kept = rw c.new.ensures.items (λ k d within. absurd (omega arith));
      counted =
          sym (count_below_none (λ k. is_some (frame_of c.new.result.items k)) (g.row.CHUNKS * 64)
          (λ k below. ap is_some (frame_of_no_chunk c.new.result.items k (rw c.new.ensures.items refl))));
    }

pub returns-clause-frames : goal.returns-clause-frames
returns-clause-frames g c =
    map_below-none (frame_of c.new.result.items) (g.row.CHUNKS * 64)
    (λ k. frame_of_no_chunk c.new.result.items k (rw c.new.ensures.items refl))
