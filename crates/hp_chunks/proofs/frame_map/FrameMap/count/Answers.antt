use Rattle.std.proofs.Common.{◌*◌, length, sym, ap, ◌∙◌, arith}
use Rattle.std.specs.Prelude.{vec_capacity, is_some}
use Rattle.std.specs.FinMap as map
use Rattle.hp_base.proofs.Counting.{count_below-ext}
use Rattle.hp_chunks.specs.Chunks.{frame_of}
use Rattle.hp_chunks.proofs.Listing.{listed_count}
use Rattle.hp_chunks.proofs.Views.{Shows, entries_listed, frame_count_le, get_frame}
use Rattle.hp_chunks.proofs.frame_map.FrameMap.count.Goals as goal

pub returns-clause-count : goal.returns-clause-count
returns-clause-count g c =
    let chunks = c.self.inside.chunks.items in
    let shows : Shows g.row.CHUNKS chunks c.args.self.now =
    record { capacity = vec_capacity c.self.inside.chunks; is = c.self.view_is; few = c.self.invariant.few } in
    c.self.invariant.counted
    ∙ count_below-ext (λ i. is_some (frame_of chunks i)) (λ i. is_some (map.get c.args.self.now.frames i)) (g.row.CHUNKS * 64)
    (λ i below. ap is_some (sym (get_frame shows i)))

pub returns-clause-within : goal.returns-clause-within
returns-clause-within g c = omega (arith, c.self.invariant.counted, frame_count_le g.row.CHUNKS c.self.inside.chunks.items)

pub overflow_cast-result : goal.overflow_cast-result
overflow_cast-result g c = omega (arith, c.self.invariant.counted, frame_count_le g.row.CHUNKS c.self.inside.chunks.items)

pub returns-clause-len : goal.returns-clause-len
returns-clause-len g c =
    let chunks = c.self.inside.chunks.items in
    let shows : Shows g.row.CHUNKS chunks c.args.self.now =
    record { capacity = vec_capacity c.self.inside.chunks; is = c.self.view_is; few = c.self.invariant.few } in
    returns-clause-count g c
    ∙ sym (map.len-entries c.args.self.now.frames ∙ ap length (sym (entries_listed shows))
    ∙ listed_count (map.get c.args.self.now.frames) (g.row.CHUNKS * 64))
