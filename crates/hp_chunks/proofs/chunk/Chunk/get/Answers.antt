use Rattle.std.proofs.Common.{get_or, sym, ap, ◌∙◌, arith}
use Rattle.std.proofs.lemmas.Nat.Bits.{shr_and_one}
use Rattle.hp_chunks.specs.Chunks.{frame_by}
use Rattle.hp_chunks.proofs.Present.{at_place}
use Rattle.hp_chunks.proofs.chunk.Chunk.get.Goals as goal

pub returns : goal.returns
returns c =
    let frames = c.self.inside.frames in
    let frame = get_or frames c.args.place c.index-self-place.result in
    c.then_some.ensures ∙ ap (λ bit. frame_by bit frame) (shr_and_one c.self.inside.present c.args.place)
    ∙ sym (rw (← c.self.view_is) (at_place c.self.inside.present frames c.args.place c.index-self-place.result
    (omega (arith, c.self.invariant, c.requires))))
