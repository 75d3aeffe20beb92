use Rattle.std.proofs.Common.{◌≡◌, ℕ, ◌<◌, Some, None, get_or, set, Box, refl, sym, ap, ◌∙◌, arith}
use Rattle.std.specs.Prelude.{is_some, count_by}
use Rattle.std.specs.Global.{Global}
use Rattle.std.specs.Option.{option_copied_mut}
use Rattle.hp_base.specs.Numbers.{put}
use Rattle.hp_chunks.specs.Chunks.{Slot, Places, IsKept, frame_in}
use Rattle.hp_chunks.proofs.Chunks.{none_counted, set_place, kept_at, frames_at}
use Rattle.hp_chunks.proofs.chunk.take_from.Goals as goal

-- what the chunk has once the frame is taken
left : (slot : Slot) (chunk : Box Places Global) (place : ℕ) → IsKept slot → slot ≡ Some chunk → place < 64
    → (k : ℕ) → get_or (set chunk.value place None) k None ≡ put (frame_in slot) place None k
left slot chunk place kept is within k =
    let long = (kept_at slot chunk kept is).0 in
    set_place (frame_in slot) chunk.value place None (omega (arith, long)) (frames_at slot chunk is) k

pub returns-then-is_empty-clause-rest : goal.returns-then-is_empty-clause-rest
returns-then-is_empty-clause-rest c k below =
    let is = sym c.as_mut.ensures.value ∙ ap option_copied_mut c.unwrap-chunk.ensures in
    let none : count_by is_some c.take-frame.new.self ≡ 0 = rw c.deref.ensures at ((c.if-is_empty.ensures {u = tt}).0 refl) in
    let gone = none_counted c.take-frame.new.self none k in
    sym (rw (c.take-frame.ensures.rest, c.deref_mut.ensures.value) at gone)
    ∙ left c.args.slot.now c.unwrap-chunk.result.now c.args.place c.requires.kept is c.requires.in_chunk k

pub returns-else-is_empty-clause-rest : goal.returns-else-is_empty-clause-rest
returns-else-is_empty-clause-rest c k below =
    let is = sym c.as_mut.ensures.value ∙ ap option_copied_mut c.unwrap-chunk.ensures in
    rw (c.take-frame.ensures.rest, c.deref_mut.ensures.value)
    (left c.args.slot.now c.unwrap-chunk.result.now c.args.place c.requires.kept is c.requires.in_chunk k)
