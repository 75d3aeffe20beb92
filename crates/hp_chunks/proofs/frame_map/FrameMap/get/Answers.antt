use Rattle.std.proofs.Common.{◌/◌, None, Some, sym, ◌∙◌}
use Rattle.std.specs.Prelude.{vec_capacity}
use Rattle.std.proofs.lemmas.List.{get_or_past}
use Rattle.hp_chunks.proofs.Views.{Shows, get_slot}
use Rattle.hp_chunks.proofs.frame_map.FrameMap.get.Goals as goal

pub returns-in_err-get : goal.returns-in_err-get
returns-in_err-get g c =
    let shows : Shows g.row.CHUNKS c.self.inside.chunks.items c.args.self.now =
    record { capacity = vec_capacity c.self.inside.chunks; is = c.self.view_is; few = c.self.invariant.few } in
    let past = rw c.deref.ensures.value at (c.in_err-get.ensures {u = tt}).lookup.3 in
    let none = get_or_past c.self.inside.chunks.items (c.args.number / 64) None past in
    c.from_residual.ensures ∙ sym (get_slot shows c.args.number None none)

pub returns-in_err-chunk : goal.returns-in_err-chunk
returns-in_err-chunk g c =
    let shows : Shows g.row.CHUNKS c.self.inside.chunks.items c.args.self.now =
    record { capacity = vec_capacity c.self.inside.chunks; is = c.self.view_is; few = c.self.invariant.few } in
    let read = rw c.deref.ensures.value at (c.in_ok-get.ensures {u = tt}).lookup.3.1 None in
    let none = sym read ∙ sym (c.in_err-chunk.ensures {u = tt}).value in
    c.from_residual-in_err-chunk.ensures ∙ sym (get_slot shows c.args.number None none)

pub returns : goal.returns
returns g c =
    let shows : Shows g.row.CHUNKS c.self.inside.chunks.items c.args.self.now =
    record { capacity = vec_capacity c.self.inside.chunks; is = c.self.view_is; few = c.self.invariant.few } in
    let read = rw c.deref.ensures.value at (c.in_ok-get.ensures {u = tt}).lookup.3.1 None in
    let there = sym read ∙ sym (c.in_ok-chunk.ensures {u = tt}).value in
    rw (c.get-2.ensures, c.deref-2.ensures)
    (sym (get_slot shows c.args.number (Some c.in_ok-chunk.chunk.now) there))
