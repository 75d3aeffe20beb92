use Rattle.std.proofs.Common.{sym, ap, ◌∙◌}
use Rattle.hp_chunks.specs.Framed.{Framed}
use Rattle.hp_chunks.specs.Chunks.{AreCopies}
use Rattle.hp_chunks.proofs.Copies.{copies_few, copies_kept, copies_count, copies_frames}
use Rattle.hp_chunks.proofs.frame_map.FrameMap.copy.Goals as goal

pub invariant_of-result : goal.invariant_of-result
invariant_of-result g c =
    let copies = c.in_ok-copy_all.field-0.items in
    let chunks = c.self.inside.chunks.items in
    let copied : AreCopies copies chunks = rw c.deref.ensures.value at c.in_ok-copy_all.ensures in
    record {
      few = copies_few g.row.CHUNKS copies chunks copied c.self.invariant.few;
      small = c.self.invariant.small;
      kept = copies_kept g.row.CHUNKS copies chunks copied c.self.invariant.few c.self.invariant.kept;
      counted = c.self.invariant.counted ∙ sym (copies_count g.row.CHUNKS copies chunks copied c.self.invariant.few);
    }

pub returns : goal.returns
returns g c =
    let copied : AreCopies c.in_ok-copy_all.field-0.items c.self.inside.chunks.items =
    rw c.deref.ensures.value at c.in_ok-copy_all.ensures in
    copies_frames g.row.CHUNKS _ _ copied c.self.invariant.few ∙ ap (λ (v : Framed). v.frames) c.self.view_is
