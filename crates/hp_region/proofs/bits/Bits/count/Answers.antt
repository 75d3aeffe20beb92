use Rattle.std.proofs.Common.{◌≡◌, ◌+◌, ◌*◌, ◌/◌, ◌^◌, ◌<◌, ◌≤◌, get_or, arith}
use Rattle.hp_base.proofs.Counting.{count_below_le, count_below_wider}
use Rattle.hp_region.specs.Bits.{has_bit}
use Rattle.hp_region.proofs.Words.{count_word, counted_to, count_below-within_from}
use Rattle.hp_region.proofs.bits.Bits.count.Goals as goal

pub overflow_add-count : goal.overflow_add-count
overflow_add-count c =
    let words = c.self.inside.words in
    let word = c.loop-word.word in
    let fits : get_or words word 0 < 2 ^ 64 = omega arith in
    let few : (word + 1) * 64 ≤ 4096 = omega (arith, c.loop-word-test.true, c.number-last.ensures, c.requires.in_limit) in
    omega (arith, count_word words word fits, c.loop-word.invariant, count_below_le (has_bit words) ((word + 1) * 64), few)

pub loop-word-preserved : goal.loop-word-preserved
loop-word-preserved c =
    let words = c.self.inside.words in
    let fits : get_or words c.loop-word.word 0 < 2 ^ 64 = omega arith in
    omega (arith, count_word words c.loop-word.word fits, c.loop-word.invariant)

pub overflow_add-result : goal.overflow_add-result
overflow_add-result c =
    let words = c.self.inside.words in
    let late = rw (← c.self.view_is) at c.before-2.ensures in
    let there : c.loop-word.word ≡ c.number-last.result / 64 =
    omega (arith, c.number-first.ensures, c.number-last.ensures, c.requires.in_order, c.loop-word-test.false) in
    let whole = counted_to words c.number-first.result c.number-last.result c.args.from c.args.to c.loop-word.count c.loop-word.word
    c.before-2.result c.number-first.ensures c.number-last.ensures there c.loop-word.invariant late in
    omega (arith, whole, count_below_le (has_bit words) c.args.to, c.requires.in_limit)

pub overflow_sub-result : goal.overflow_sub-result
overflow_sub-result c =
    let words = c.self.inside.words in
    let late = rw (← c.self.view_is) at c.before-2.ensures in
    let early = rw (← c.self.view_is) at c.before-3.ensures in
    let there : c.loop-word.word ≡ c.number-last.result / 64 =
    omega (arith, c.number-first.ensures, c.number-last.ensures, c.requires.in_order, c.loop-word-test.false) in
    let whole = counted_to words c.number-first.result c.number-last.result c.args.from c.args.to c.loop-word.count c.loop-word.word
    c.before-2.result c.number-first.ensures c.number-last.ensures there c.loop-word.invariant late in
    omega (arith, whole, early, count_below_wider (has_bit words) c.args.from c.args.to c.requires.in_order)

pub returns : goal.returns
returns c =
    let words = c.self.inside.words in
    let late = rw (← c.self.view_is) at c.before-2.ensures in
    let early = rw (← c.self.view_is) at c.before-3.ensures in
    let there : c.loop-word.word ≡ c.number-last.result / 64 =
    omega (arith, c.number-first.ensures, c.number-last.ensures, c.requires.in_order, c.loop-word-test.false) in
    let whole = counted_to words c.number-first.result c.number-last.result c.args.from c.args.to c.loop-word.count c.loop-word.word
    c.before-2.result c.number-first.ensures c.number-last.ensures there c.loop-word.invariant late in
    rw (← c.self.view_is) (omega (arith, whole, early, count_below-within_from (has_bit words) c.args.from c.args.to c.requires.in_order))
