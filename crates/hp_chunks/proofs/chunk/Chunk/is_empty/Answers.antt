use Rattle.std.proofs.Common.{◌≡◌, ◌<◌, ◌^◌, arith}
use Rattle.std.proofs.lemmas.Bool.{eqb-true, eq-eqb}
use Rattle.hp_chunks.proofs.Present.{no_bits, all_off}
use Rattle.hp_chunks.proofs.chunk.Chunk.is_empty.Goals as goal

pub returns : goal.returns
returns c =
    let present = c.self.inside.present in
    let frames = c.self.inside.frames in
    let small : present < 2 ^ 64 = omega arith in
    rw (← c.self.view_is) (
      (λ zero. let none : present ≡ 0 = eqb-true present 0 zero in rw none (no_bits frames)),
      λ none. eq-eqb present 0 (all_off present frames c.self.invariant small none),
    )
