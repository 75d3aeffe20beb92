use Rattle.std.specs.Prelude.{string_bytes}
use Rattle.hp_draw.specs.Lanes.{phase_of}
use Rattle.hp_draw.proofs.Pieces.{none_of, one_of, all_of}
use Rattle.hp_draw.proofs.lanes.push_phases.Goals as goal

pub loop-stay-init : goal.loop-stay-init
loop-stay-init c = none_of (phase_of c.args.layout.now) c.args.stays.now (string_bytes c.args.text.now)

pub loop-stay-preserved : goal.loop-stay-preserved
loop-stay-preserved c =
    one_of (phase_of c.args.layout.now) c.args.stays.now c.loop-stay.stay-index _ (string_bytes c.args.text.now)
    (string_bytes c.loop-stay.text) (string_bytes c.push_phase_of.new.text) c.loop-stay-test.true c.stay-item.is c.loop-stay.invariant
    c.in_ok-push_phase_of.ensures

pub returns : goal.returns
returns c =
    all_of (phase_of c.args.layout.now) c.args.stays.now c.loop-stay.stay-index (string_bytes c.args.text.now)
    (string_bytes c.loop-stay.text)
    c.loop-stay-test.false c.loop-stay.invariant
