-- No other bit than the two is set exactly where the bits stay under the mask 3.
use Rattle.std.proofs.Common.{◌≡◌, ◌<◌, ◌%◌, ◌∙◌, arith}
use Rattle.std.proofs.lemmas.Nat.{and_mask}
use Rattle.std.specs.Int.RustNames.{bit_and}
use Rattle.bitflags.specs.Sets.{known_from}
use Rattle.hp_base.proofs.mode.Mode.from_bits.Goals as goal

pub returns-clause-known : goal.returns-clause-known
unfolding known_from
returns-clause-known c =
    let n = c.args.bits in
    let masked : bit_and n 3 ≡ n % 4 = and_mask n 2 in
    let known = c.from_bits.ensures.known tt in (
      λ some. let same : bit_and n 3 ≡ n = known.0 some in omega arith,
      λ below. let same : bit_and n 3 ≡ n = omega arith in known.1 same,
    )
