use Rattle.std.proofs.Common.{◌/◌, None, sym, ◌∙◌, arith}
use Rattle.std.specs.Prelude.{vec_capacity}
use Rattle.std.proofs.lemmas.List.{length-set}
use Rattle.std.proofs.lemmas.List.Elements.{All-set}
use Rattle.hp_chunks.specs.Chunks.{IsKept}
use Rattle.hp_chunks.proofs.Slots.{frame_of-set}
use Rattle.hp_chunks.proofs.Views.{Shows, present_listed, slot_read, written_less}
use Rattle.hp_chunks.proofs.frame_map.FrameMap.remove.Goals as goal

-- a number that has a frame has a chunk that is listed
pub index_mut-requires : goal.index_mut-requires
index_mut-requires g c =
    let shows : Shows g.row.CHUNKS c.self.inside.chunks.items c.args.self.now =
    record { capacity = vec_capacity c.self.inside.chunks; is = c.self.view_is; few = c.self.invariant.few } in
    omega (arith, present_listed shows c.args.number c.requires.present)

pub take_from-frame-requires-clause-kept : goal.take_from-frame-requires-clause-kept
take_from-frame-requires-clause-kept g c =
    let shows : Shows g.row.CHUNKS c.self.inside.chunks.items c.args.self.now =
    record { capacity = vec_capacity c.self.inside.chunks; is = c.self.view_is; few = c.self.invariant.few } in
    rw c.index_mut.ensures.value (c.self.invariant.kept (c.args.number / 64) c.index_mut.result.now
    (present_listed shows c.args.number c.requires.present))

pub take_from-frame-requires-clause-present : goal.take_from-frame-requires-clause-present
take_from-frame-requires-clause-present g c =
    let shows : Shows g.row.CHUNKS c.self.inside.chunks.items c.args.self.now =
    record { capacity = vec_capacity c.self.inside.chunks; is = c.self.view_is; few = c.self.invariant.few } in
    let listed = present_listed shows c.args.number c.requires.present in
    rw (c.index_mut.ensures.value, slot_read shows c.args.number c.index_mut.result.now listed) c.requires.present

pub overflow_sub-self : goal.overflow_sub-self
overflow_sub-self g c =
    let shows : Shows g.row.CHUNKS c.self.inside.chunks.items c.args.self.now =
    record { capacity = vec_capacity c.self.inside.chunks; is = c.self.view_is; few = c.self.invariant.few } in
    let listed = present_listed shows c.args.number c.requires.present in
    let differs = frame_of-set c.self.inside.chunks.items c.args.number c.take_from-frame.new.slot c.index_mut.result.now None listed
    (rw (← c.index_mut.ensures.value) c.take_from-frame.ensures.rest) in
    let less = written_less shows _ c.args.number (omega (arith, listed, c.self.invariant.few)) c.requires.present differs in
    omega (arith, c.self.invariant.counted, less.0)

pub invariant_of-self : goal.invariant_of-self
invariant_of-self g c =
    let shows : Shows g.row.CHUNKS c.self.inside.chunks.items c.args.self.now =
    record { capacity = vec_capacity c.self.inside.chunks; is = c.self.view_is; few = c.self.invariant.few } in
    let listed = present_listed shows c.args.number c.requires.present in
    let differs = frame_of-set c.self.inside.chunks.items c.args.number c.take_from-frame.new.slot c.index_mut.result.now None listed
    (rw (← c.index_mut.ensures.value) c.take_from-frame.ensures.rest) in
    let less = written_less shows _ c.args.number (omega (arith, listed, c.self.invariant.few)) c.requires.present differs in
    record {
      small = c.self.invariant.small;
      few = omega (arith, length-set c.self.inside.chunks.items (c.args.number / 64) c.take_from-frame.new.slot, c.self.invariant.few);
      kept =
          All-set IsKept c.self.inside.chunks.items _ c.take_from-frame.new.slot
          c.take_from-frame.ensures.kept c.self.invariant.kept;
      counted = omega (arith, c.self.invariant.counted, less.0);
    }

pub returns-clause-frame : goal.returns-clause-frame
returns-clause-frame g c =
    let shows : Shows g.row.CHUNKS c.self.inside.chunks.items c.args.self.now =
    record { capacity = vec_capacity c.self.inside.chunks; is = c.self.view_is; few = c.self.invariant.few } in
    let listed = present_listed shows c.args.number c.requires.present in
    sym (slot_read shows c.args.number c.index_mut.result.now listed)
    ∙ rw (← c.index_mut.ensures.value) c.take_from-frame.ensures.frame

pub returns-clause-frames : goal.returns-clause-frames
returns-clause-frames g c =
    let shows : Shows g.row.CHUNKS c.self.inside.chunks.items c.args.self.now =
    record { capacity = vec_capacity c.self.inside.chunks; is = c.self.view_is; few = c.self.invariant.few } in
    let listed = present_listed shows c.args.number c.requires.present in
    let differs = frame_of-set c.self.inside.chunks.items c.args.number c.take_from-frame.new.slot c.index_mut.result.now None listed
    (rw (← c.index_mut.ensures.value) c.take_from-frame.ensures.rest) in
    let less = written_less shows _ c.args.number (omega (arith, listed, c.self.invariant.few)) c.requires.present differs in
    less.1
