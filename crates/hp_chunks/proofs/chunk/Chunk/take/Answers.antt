use Rattle.std.proofs.Common.{◌≡◌, ◌<◌, true, None, length, get_or, refl, sym, ◌∙◌, arith}
use Rattle.std.specs.Int.{w64, bit_at}
use Rattle.std.specs.Prelude.{is_some}
use Rattle.std.proofs.lemmas.Bool.{eqb-true}
use Rattle.std.proofs.lemmas.Nat.Bits.{bit_at_clear_same, bit_at_clear_other}
use Rattle.hp_chunks.proofs.Present.{written, some_at, bit_of}
use Rattle.hp_chunks.proofs.chunk.Chunk.take.Goals as goal

pub returns-clause-frame : goal.returns-clause-frame
returns-clause-frame c =
    let present = c.self.inside.present in
    let frames = c.self.inside.frames in
    let place = c.args.place in
    let within : place < length frames = omega (arith, c.self.invariant, c.requires.in_chunk) in
    let bit = bit_of present frames place within in
    let there : is_some (get_or c.args.self.now place None) ≡ true = c.requires.present in
    let on : bit_at present place ≡ 1 = eqb-true (bit_at present place) 1 (sym bit ∙ rw c.self.view_is there) in
    rw (← c.self.view_is) (some_at present frames place c.index-self-place.result within on)

pub returns-clause-rest : goal.returns-clause-rest
returns-clause-rest c =
    let present = c.self.inside.present in
    let frames = c.self.inside.frames in
    let place = c.args.place in
    let within : place < length frames = omega (arith, c.self.invariant, c.requires.in_chunk) in
    rw (← c.self.view_is)
    (written present _ frames frames place None refl within
    (rw (bit_at_clear_same w64 present place c.requires.in_chunk) refl)
    (λ k below other.
    rw (bit_at_clear_other w64 present place c.requires.in_chunk k (omega (arith, c.self.invariant, below)) other) refl))
