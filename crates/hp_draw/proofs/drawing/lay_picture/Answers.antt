use Rattle.std.proofs.Common.{List, length, subst}
use Rattle.hp_base.specs.Text.{sizes}
use Rattle.hp_base.specs.declared.event.Event.{Event}
use Rattle.hp_draw.specs.Places.{HasPlaces}
use Rattle.hp_draw.specs.Sketches.{seen}
use Rattle.hp_draw.proofs.Columns.{columns_count, few_columns, in_columns}
use Rattle.hp_draw.proofs.drawing.lay_picture.Goals as goal

pub lay_out-requires-clause-columns : goal.lay_out-requires-clause-columns
lay_out-requires-clause-columns c =
    in_columns (sizes c.args.trace.now.config) c.args.trace.now.events.items (seen c.in_ok-sketch.sketch) c.in_ok-sketch.ensures

pub lay_out-requires-clause-few : goal.lay_out-requires-clause-few
lay_out-requires-clause-few c =
    let config = c.args.trace.now.config in
    few_columns config.frames config.files config.slots config.tasks _
    (columns_count (sizes c.args.trace.now.config) c.args.trace.now.events.items (seen c.in_ok-sketch.sketch) c.in_ok-sketch.ensures)
    c.args.trace.now.config.within_limits

pub returns : goal.returns
returns c =
    record {
      drawn = seen c.in_ok-sketch.sketch;
      of_run = c.in_ok-sketch.ensures;
      layout = c.in_ok-layout.layout;
      places =
          subst (λ (x : List Event). HasPlaces c.args.trace.now.config.quota (length x)
          (seen c.in_ok-sketch.sketch) c.in_ok-layout.layout) c.as_slice.ensures.value
          c.in_ok-layout.ensures;
      is = c.in_ok-text.ensures;
    }
