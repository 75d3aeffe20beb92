use Rattle.std.proofs.Common.{◌<◌, ◌/◌, ◌^◌, length, arith}
use Rattle.hp_region.proofs.Words.{set_in_word, clear_in_word}
use Rattle.hp_region.proofs.bits.Bits.put_in_word.Goals as goal

pub returns-then-value : goal.returns-then-value
returns-then-value c =
    let words = c.self.inside.words in
    let within : c.args.from / 64 < length words = omega (arith, c.self.invariant, c.requires.in_limit, c.requires.in_order) in
    let fits : c.mask-mask.result < 2 ^ 64 = omega arith in
    rw (← c.self.view_is, c.if-value.true)
    (set_in_word words c.args.from c.args.to c.mask-mask.result within c.requires.in_order c.requires.in_word fits c.mask-mask.ensures)

pub returns-else-value : goal.returns-else-value
returns-else-value c =
    let words = c.self.inside.words in
    let within : c.args.from / 64 < length words = omega (arith, c.self.invariant, c.requires.in_limit, c.requires.in_order) in
    let fits : c.mask-mask.result < 2 ^ 64 = omega arith in
    rw (← c.self.view_is, c.if-value.false)
    (clear_in_word words c.args.from c.args.to c.mask-mask.result within c.requires.in_order c.requires.in_word fits c.mask-mask.ensures)
