use Rattle.hp_hunt.proofs.Cuts.{all_left, left_of_left}
use Rattle.hp_hunt.proofs.cutting.cut_halves.Goals as goal

pub loop-chunk-init : goal.loop-chunk-init
loop-chunk-init g c = record { left = all_left c.args.events.now.items; meets = c.requires }

pub loop-chunk-preserved : goal.loop-chunk-preserved
loop-chunk-preserved g c = record {
  left = left_of_left c.cut_chunks.new.events.items c.loop-chunk.events.items c.args.events.now.items
      c.in_ok-cut_chunks.ensures.left c.loop-chunk.invariant.left;
  meets = c.in_ok-cut_chunks.ensures.meets;
}
