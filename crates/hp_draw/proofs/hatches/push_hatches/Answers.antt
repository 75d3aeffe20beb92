use Rattle.std.specs.Prelude.{string_bytes}
use Rattle.hp_draw.specs.Hatches.{hatch_text}
use Rattle.hp_draw.proofs.Pieces.{none_of, one_of, all_of}
use Rattle.hp_draw.proofs.hatches.push_hatches.Goals as goal

pub loop-wait-init : goal.loop-wait-init
loop-wait-init c = none_of (hatch_text c.args.layout.now) c.args.waits.now (string_bytes c.args.text.now)

pub loop-wait-preserved : goal.loop-wait-preserved
loop-wait-preserved c =
    one_of (hatch_text c.args.layout.now) c.args.waits.now c.loop-wait.wait-index _ (string_bytes c.args.text.now)
    (string_bytes c.loop-wait.text) (string_bytes c.push_hatch.new.text) c.loop-wait-test.true c.wait-item.is c.loop-wait.invariant
    c.in_ok-push_hatch.ensures

pub returns : goal.returns
returns c =
    all_of (hatch_text c.args.layout.now) c.args.waits.now c.loop-wait.wait-index (string_bytes c.args.text.now)
    (string_bytes c.loop-wait.text)
    c.loop-wait-test.false c.loop-wait.invariant
