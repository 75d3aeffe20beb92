use Rattle.std.proofs.Common.{◌<◌, Some, length, set, refl, arith}
use Rattle.std.specs.Int.{w64}
use Rattle.std.proofs.lemmas.List.{length-set, get_or-set_same, get_or-set_other}
use Rattle.std.proofs.lemmas.Nat.Bits.{bit_at_set_same, bit_at_set_other}
use Rattle.hp_chunks.proofs.Present.{written}
use Rattle.hp_chunks.proofs.chunk.Chunk.put.Goals as goal

pub returns : goal.returns
returns c =
    let present = c.self.inside.present in
    let frames = c.self.inside.frames in
    let place = c.args.place in
    let within : place < length frames = omega (arith, c.self.invariant, c.requires.in_chunk) in
    rw (← c.self.view_is)
    (written present _ frames (set frames place c.args.frame) place (Some c.args.frame) (length-set frames place c.args.frame) within
    (rw (bit_at_set_same w64 present place c.requires.in_chunk, get_or-set_same frames place c.args.frame 0 within) refl)
    (λ k below other. rw (bit_at_set_other w64 present place c.requires.in_chunk k other, get_or-set_other frames place k c.args.frame 0 other) refl))
