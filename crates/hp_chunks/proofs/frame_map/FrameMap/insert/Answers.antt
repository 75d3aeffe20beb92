use Rattle.std.proofs.Common.{◌≡◌, ◌+◌, ◌*◌, ◌/◌, ◌%◌, ◌∙◌, sym, ap, arith}
use Rattle.std.specs.Prelude.{vec_capacity}
use Rattle.hp_chunks.specs.Chunks.{frame_of}
use Rattle.hp_chunks.proofs.Views.{Shows, get_frame, frame_count_le, written_more}
use Rattle.hp_chunks.proofs.frame_map.FrameMap.insert.Goals as goal

pub put_at-requires-clause-vacant : goal.put_at-requires-clause-vacant
put_at-requires-clause-vacant g c =
    let shows : Shows g.row.CHUNKS c.self.inside.chunks.items c.args.self.now =
    record { capacity = vec_capacity c.self.inside.chunks; is = c.self.view_is; few = c.self.invariant.few } in
    let number : c.args.number / 64 * 64 + c.args.number % 64 ≡ c.args.number = omega arith in
    ap (frame_of c.self.inside.chunks.items) number ∙ (sym (get_frame shows c.args.number) ∙ c.requires.vacant)

pub overflow_add-self : goal.overflow_add-self
overflow_add-self g c = omega (arith, c.self.invariant.counted, frame_count_le g.row.CHUNKS c.self.inside.chunks.items)

pub invariant_of-self-2 : goal.invariant_of-self-2
invariant_of-self-2 g c =
    let shows : Shows g.row.CHUNKS c.self.inside.chunks.items c.args.self.now =
    record { capacity = vec_capacity c.self.inside.chunks; is = c.self.view_is; few = c.self.invariant.few } in
    let number : c.args.number / 64 * 64 + c.args.number % 64 ≡ c.args.number = omega arith in
    let put = c.in_ok-put_at.ensures {u = tt} in
    let more = written_more shows c.put_at.new.chunks.items c.args.number c.requires.within c.args.frame c.requires.vacant
    (rw number at put.frames) in
    record {
      small = c.self.invariant.small;
      few = omega (arith, put.listed, c.self.invariant.few, c.requires.within);
      kept = put.kept;
      counted = omega (arith, c.self.invariant.counted, more.0);
    }

pub returns-clause-ok : goal.returns-clause-ok
returns-clause-ok g c =
    let shows : Shows g.row.CHUNKS c.self.inside.chunks.items c.args.self.now =
    record { capacity = vec_capacity c.self.inside.chunks; is = c.self.view_is; few = c.self.invariant.few } in
    let number : c.args.number / 64 * 64 + c.args.number % 64 ≡ c.args.number = omega arith in
    let more = written_more shows c.put_at.new.chunks.items c.args.number c.requires.within c.args.frame c.requires.vacant
    (rw number at (c.in_ok-put_at.ensures {u = tt}).frames) in
    more.1
