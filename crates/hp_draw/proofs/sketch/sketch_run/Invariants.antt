use Rattle.std.proofs.Common.{◌≡◌}
use Rattle.hp_base.specs.Text.{sizes}
use Rattle.hp_draw.specs.Sketches.{seen}
use Rattle.hp_draw.proofs.Runs.{DrawnSoFar}
use Rattle.hp_draw.proofs.sketch.sketch_run.Given as goal

-- what is drawn of the events so far
abbrev pub invariant-loop-event : goal.invariant-loop-event
invariant-loop-event l =
    (l.at ≡ l.event-index) × DrawnSoFar (sizes l.trace.config).tasks l.trace.events.items l.event-index l.initial.run.core l.run.core
    (seen l.sketch)
