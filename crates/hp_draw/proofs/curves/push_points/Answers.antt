use Rattle.std.specs.Prelude.{string_bytes}
use Rattle.hp_draw.specs.Curves.{point_text}
use Rattle.hp_draw.proofs.Pieces.{none_of, no_numbers, one_more, all_of}
use Rattle.hp_draw.proofs.curves.push_points.Goals as goal

pub loop-counts-init : goal.loop-counts-init
loop-counts-init c = none_of (point_text c.args.layout.now c.args.curve) c.args.numbers.now (string_bytes c.args.text.now)

pub loop-counts-preserved : goal.loop-counts-preserved
loop-counts-preserved c =
    one_more (point_text c.args.layout.now c.args.curve) c.args.numbers.now c.loop-counts.counts-index no_numbers
    (string_bytes c.args.text.now)
    (string_bytes c.loop-counts.text) (string_bytes c.push_point.new.text) c.loop-counts-test.true c.loop-counts.invariant
    c.in_ok-push_point.ensures

pub returns : goal.returns
returns c =
    all_of (point_text c.args.layout.now c.args.curve) c.args.numbers.now c.loop-counts.counts-index
    (string_bytes c.args.text.now) (string_bytes c.loop-counts.text) c.loop-counts-test.false c.loop-counts.invariant
