use Rattle.std.proofs.Common.{◌≡◌, arith, get_or, max, refl}
use Rattle.std.proofs.lemmas.List.{get_or_default}
use Rattle.hp_draw.specs.declared.following.Numbers.{Numbers}
use Rattle.hp_draw.specs.Places.{HaveRoom}
use Rattle.hp_draw.proofs.Others.{lower_more, lower_of_all, upper_more, upper_of_all}
use Rattle.hp_draw.proofs.Pieces.{no_numbers}
use Rattle.hp_draw.proofs.Placing.{all_found, one_room}
use Rattle.hp_draw.proofs.layout.most_of.Goals as goal

pub loop-counts-preserved : goal.loop-counts-preserved
loop-counts-preserved c =
    let counts : Numbers = get_or c.args.numbers.now c.loop-counts.counts-index no_numbers in
    let is = get_or_default c.args.numbers.now c.loop-counts.counts-index no_numbers counts c.loop-counts-test.true in
    let free : c.max.result ≡ max c.loop-counts.most_free counts.free = c.max.ensures in
    let taken : c.max-in-loop-counts.result ≡ max c.max.result counts.resv = c.max-in-loop-counts.ensures in
    let upper : c.max-most_free.result ≡ max c.max-in-loop-counts.result counts.used = c.max-most_free.ensures in
    let resv : c.max-in-loop-counts-2.result ≡ max c.loop-counts.most_resv counts.resv = c.max-in-loop-counts-2.ensures in
    let lower : c.max-most_resv.result ≡ max c.max-in-loop-counts-2.result counts.bare = c.max-most_resv.ensures in
    record {
      room =
          one_room c.args.numbers.now c.loop-counts.counts-index counts
          c.loop-counts.most_free c.loop-counts.most_resv c.max-most_free.result c.max-most_resv.result c.loop-counts-test.true is
          (omega (arith, free, taken, upper)) (omega (arith, resv, lower)) (
            omega (arith, free, taken, upper),
            omega (arith, taken, upper),
            omega (arith, upper),
            omega (arith, resv, lower),
            omega (arith, lower),
          ) c.loop-counts.invariant.room;
      upper =
          upper_more c.args.numbers.now c.loop-counts.counts-index counts c.loop-counts.most_free c.max.result c.max-in-loop-counts.result
          c.max-most_free.result c.loop-counts-test.true is free taken upper c.loop-counts.invariant.upper;
      lower =
          lower_more c.args.numbers.now c.loop-counts.counts-index counts c.loop-counts.most_resv c.max-in-loop-counts-2.result
          c.max-most_resv.result c.loop-counts-test.true is resv lower c.loop-counts.invariant.lower;
    }

pub returns-clause-room : goal.returns-clause-room
returns-clause-room c =
    all_found (HaveRoom c.loop-counts.most_free c.loop-counts.most_resv) c.args.numbers.now c.args.numbers.now
    c.loop-counts.counts-index refl
    c.loop-counts-test.false c.loop-counts.invariant.room

pub returns-clause-upper : goal.returns-clause-upper
returns-clause-upper c =
    upper_of_all c.args.numbers.now c.loop-counts.counts-index c.loop-counts.most_free c.loop-counts-test.false
    c.loop-counts.invariant.upper

pub returns-clause-lower : goal.returns-clause-lower
returns-clause-lower c =
    lower_of_all c.args.numbers.now c.loop-counts.counts-index c.loop-counts.most_resv c.loop-counts-test.false
    c.loop-counts.invariant.lower
