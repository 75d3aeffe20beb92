use Rattle.std.proofs.Common.{◌≡◌, ℕ, ◌*◌, ◌≤◌, false, length, arith}
use Rattle.hp_region.specs.Bits.{has_bit}
use Rattle.hp_region.proofs.Words.{none_past, cut_tail_past, put_range-cut_tail}
use Rattle.hp_region.proofs.bits.Bits.cut_tail.Goals as goal

pub returns-then-first-ge-LIMIT : goal.returns-then-first-ge-LIMIT
returns-then-first-ge-LIMIT c =
    let whole : length c.self.inside.words * 64 ≤ 4096 = omega (arith, c.self.invariant) in
    let past : 4096 ≤ c.args.from = omega (arith, c.if-first-ge-LIMIT.true, c.number-first.ensures) in
    rw (← c.self.view_is) (cut_tail_past (has_bit c.self.inside.words) c.args.from 4096 (none_past c.self.inside.words 4096 whole) past)

pub returns : goal.returns
returns c =
    let whole : length c.self.inside.words * 64 ≤ 4096 = omega (arith, c.self.invariant) in
    let none : (k : ℕ) → 4096 ≤ k → has_bit c.args.self.now k ≡ false =
    rw (← c.self.view_is) (none_past c.self.inside.words 4096 whole) in
    let cut = put_range-cut_tail (has_bit c.args.self.now) c.args.from 4096 none in
    cc
