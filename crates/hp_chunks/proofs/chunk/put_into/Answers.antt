use Rattle.std.proofs.Common.{◌≡◌, ◌<◌, Some, length, refl, set, sym, ap, ◌∙◌, arith}
use Rattle.hp_chunks.specs.Chunks.{Slot, frame_in}
use Rattle.hp_chunks.proofs.Chunks.{bare, get_or_none, set_place, kept_at, frames_at, kept_first}
use Rattle.hp_chunks.proofs.chunk.put_into.Goals as goal

pub returns-in-Some-clause-ok : goal.returns-in-Some-clause-ok
returns-in-Some-clause-ok c k below =
    let chunk = c.in-Some.chunk in
    let long = (kept_at c.args.slot.now chunk c.requires.kept c.in-Some.is).0 in
    let within : c.args.place < length chunk.value = omega (arith, long, c.requires.in_chunk) in
    rw (c.put.ensures, c.deref_mut.ensures.value)
    (set_place (frame_in c.args.slot.now) chunk.value c.args.place (Some c.args.frame) within
    (frames_at c.args.slot.now chunk c.in-Some.is) k)

pub put-requires-in_default-clause-vacant : goal.put-requires-in_default-clause-vacant
put-requires-in_default-clause-vacant c =
    rw (c.deref_mut-in_default.ensures.value, (c.in_ok-chunk.ensures {u = tt}).ok, c.new.ensures) (get_or_none 64 c.args.place)

-- the chunk that is made has its one frame
made : (c : goal.Joined-slot-2) → c.put-in_default.new.self ≡ set bare c.args.place (Some c.args.frame)
made c =
    rw (c.put-in_default.ensures, c.deref_mut-in_default.ensures.value, (c.in_ok-chunk.ensures {u = tt}).ok, c.new.ensures) refl

pub returns-in_ok-chunk-clause-kept : goal.returns-in_ok-chunk-clause-kept
returns-in_ok-chunk-clause-kept c = rw (made c) (kept_first c.args.place c.args.frame c.requires.in_chunk)

pub returns-in_ok-chunk-clause-ok : goal.returns-in_ok-chunk-clause-ok
returns-in_ok-chunk-clause-ok c k below =
    let within : c.args.place < length bare = c.requires.in_chunk in
    rw (made c)
    (set_place (frame_in c.args.slot.now) bare c.args.place (Some c.args.frame) within
    (λ k. get_or_none 64 k ∙ ap (λ (slot : Slot). frame_in slot k) (sym c.in_default.is)) k)
