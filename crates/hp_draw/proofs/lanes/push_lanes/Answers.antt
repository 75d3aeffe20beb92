use Rattle.std.specs.Prelude.{string_bytes}
use Rattle.hp_draw.proofs.Pieces.{no_lane, one_lane}
use Rattle.hp_draw.proofs.lanes.push_lanes.Goals as goal

pub loop-column-init : goal.loop-column-init
loop-column-init c = no_lane c.args.layout.now (string_bytes c.args.text.now)

pub loop-column-preserved : goal.loop-column-preserved
loop-column-preserved c =
    one_lane c.args.layout.now c.loop-column.column (string_bytes c.args.text.now) (string_bytes c.loop-column.text)
    (string_bytes c.push_lane.new.text) c.loop-column.invariant (rw c.lane.ensures at c.in_ok-push_lane.ensures)
