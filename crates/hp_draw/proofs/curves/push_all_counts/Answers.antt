use Rattle.std.specs.Prelude.{string_bytes}
use Rattle.hp_draw.specs.Curves.{counts_text}
use Rattle.hp_draw.proofs.Pieces.{none_of, no_numbers, one_more, all_of}
use Rattle.hp_draw.proofs.curves.push_all_counts.Goals as goal

pub loop-counts-init : goal.loop-counts-init
loop-counts-init c = none_of (counts_text c.args.layout.now c.args.quota) c.args.numbers.now (string_bytes c.args.text.now)

pub loop-counts-preserved : goal.loop-counts-preserved
loop-counts-preserved c =
    one_more (counts_text c.args.layout.now c.args.quota) c.args.numbers.now c.loop-counts.counts-index no_numbers
    (string_bytes c.args.text.now)
    (string_bytes c.loop-counts.text) (string_bytes c.push_counts.new.text) c.loop-counts-test.true c.loop-counts.invariant
    c.in_ok-push_counts.ensures

pub returns : goal.returns
returns c =
    all_of (counts_text c.args.layout.now c.args.quota) c.args.numbers.now c.loop-counts.counts-index (string_bytes c.args.text.now)
    (string_bytes c.loop-counts.text)
    c.loop-counts-test.false c.loop-counts.invariant
