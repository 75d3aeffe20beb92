use Rattle.std.proofs.Common.{◌≤◌, ◌+◌, ◌-◌, ◌*◌, ◌/◌, arith}
use Rattle.hp_region.specs.Bits.{has_bit}
use Rattle.hp_region.proofs.Words.{put_range-next}
use Rattle.hp_region.proofs.bits.Bits.put.Goals as goal

pub returns-else-first-last : goal.returns-else-first-last
returns-else-first-last c =
    let old = has_bit c.args.self.now in
    let from = c.args.from in
    let to = c.args.to in
    let begin : from ≤ (from / 64 + 1) * 64 = omega arith in
    let middle : (from / 64 + 1) * 64 ≤ (to - 1) / 64 * 64 = omega (arith, c.if-first-last.false, c.requires.in_order) in
    let end : (to - 1) / 64 * 64 ≤ to = omega arith in
    let head : from ≤ (to - 1) / 64 * 64 = omega (arith, begin, middle) in
    let one = put_range-next old from ((from / 64 + 1) * 64) ((to - 1) / 64 * 64) c.args.value begin middle in
    let two = put_range-next old from ((to - 1) / 64 * 64) to c.args.value head end in
    cc
