use Rattle.std.proofs.Common.{◌<◌, ◌≤◌, ◌*◌, ◌∙◌, length, arith}
use Rattle.std.proofs.lemmas.List.{length-set}
use Rattle.hp_region.specs.Bits.{has_bit}
use Rattle.hp_region.proofs.Words.{put_range_none, put_next}
use Rattle.hp_region.proofs.bits.Bits.put_words.Goals as goal

pub loop-word-init : goal.loop-word-init
loop-word-init c = record {
  length = c.self.invariant;
  put = put_range_none (has_bit c.self.inside.words) (c.args.first * 64) c.args.value;
}

pub loop-word-preserved : goal.loop-word-preserved
loop-word-preserved c =
    let words = c.loop-word.self-inside.words in
    let so_far = c.loop-word.invariant in
    let within : c.loop-word.word < length words = omega (arith, so_far.length, c.requires.in_range, c.loop-word-test.true) in
    let order : c.args.first ≤ c.loop-word.word = omega arith in
    record {
      length = length-set words c.loop-word.word c.all-all.result ∙ so_far.length;
      put = put_next (has_bit c.self.inside.words) words c.args.first c.loop-word.word c.all-all.result c.args.value within order
          c.all-all.ensures so_far.put;
    }
