use Rattle.std.proofs.Common.{◌≡◌, ◌*◌, ◌+◌, ◌/◌, ◌%◌, ◌<◌, None, Some, length, sym, ◌∙◌, arith}
use Rattle.std.proofs.lemmas.List.{get_or_default}
use Rattle.std.proofs.lemmas.Nat.{div-mul-add, mod-mul-add}
use Rattle.std.proofs.lemmas.Result.{on_ok_weaker}
use Rattle.hp_chunks.proofs.Slots.{slot_at, frame_of-at, frame_of-set}
use Rattle.hp_chunks.proofs.chunk_list.put_at.Goals as goal

pub put_into-requires-clause-vacant : goal.put_into-requires-clause-vacant
put_into-requires-clause-vacant c =
    let here : c.index_mut.result.now ≡ slot_at c.args.chunks.now.items c.args.at =
    c.index_mut.ensures.value ∙ get_or_default c.args.chunks.now.items c.args.at c.index_mut.result.now None (omega arith) in
    rw here (sym (frame_of-at c.args.chunks.now.items c.args.at c.args.place c.requires.in_chunk) ∙ c.requires.vacant)

pub returns-clause-frames : goal.returns-clause-frames
returns-clause-frames c =
    let chunks = c.args.chunks.now.items in
    let number = c.args.at * 64 + c.args.place in
    let quotient : number / 64 ≡ c.args.at = div-mul-add c.args.at 64 c.args.place c.requires.in_chunk in
    let remainder : number % 64 ≡ c.args.place = mod-mul-add c.args.at 64 c.args.place c.requires.in_chunk in
    let listed : number / 64 < length chunks = rw quotient (omega arith) in
    on_ok_weaker c.put_into.result (λ writes.
    rw quotient at (frame_of-set chunks number c.put_into.new.slot c.index_mut.result.now (Some c.args.frame) listed
    (rw (quotient, remainder, ← c.index_mut.ensures.value) writes))) c.put_into.ensures.ok
