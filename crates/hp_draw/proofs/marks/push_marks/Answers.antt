use Rattle.std.specs.Prelude.{string_bytes}
use Rattle.hp_draw.specs.Marks.{mark_text}
use Rattle.hp_draw.proofs.Pieces.{none_of, one_of, all_of}
use Rattle.hp_draw.proofs.marks.push_marks.Goals as goal

pub loop-mark-init : goal.loop-mark-init
loop-mark-init c = none_of (mark_text c.args.layout.now) c.args.marks.now (string_bytes c.args.text.now)

pub loop-mark-preserved : goal.loop-mark-preserved
loop-mark-preserved c =
    one_of (mark_text c.args.layout.now) c.args.marks.now c.loop-mark.mark-index _ (string_bytes c.args.text.now)
    (string_bytes c.loop-mark.text) (string_bytes c.push_mark.new.text) c.loop-mark-test.true c.mark-item.is c.loop-mark.invariant
    c.in_ok-push_mark.ensures

pub returns : goal.returns
returns c =
    all_of (mark_text c.args.layout.now) c.args.marks.now c.loop-mark.mark-index (string_bytes c.args.text.now)
    (string_bytes c.loop-mark.text)
    c.loop-mark-test.false c.loop-mark.invariant
