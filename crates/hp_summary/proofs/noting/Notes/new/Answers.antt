use Rattle.hp_watch.proofs.Phases.{no_phases}
use Rattle.hp_summary.proofs.Noted.{none_held, none_met, opened_reached}
use Rattle.hp_summary.proofs.noting.Notes.new.Goals as goal

pub returns-clause-knows : goal.returns-clause-knows
returns-clause-knows c = λ config core opens. record {
  reached = opened_reached config core opens;
  phases = no_phases config core c.args.tasks _ opens c.in_ok-no_calls.ensures;
  calls = c.new.ensures;
  ended = c.new-2.ensures.items;
  held = none_held config core c.args.tasks _ (c.in_ok-vec.ensures.items_if_clones_equal (λ y h. h)) opens;
  met = none_met config core 729 _ (c.in_ok-vec-2.ensures.items_if_clones_equal (λ y h. h)) opens;
}
