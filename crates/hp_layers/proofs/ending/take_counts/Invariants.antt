use Rattle.std.proofs.Common.{◌≡◌, length}
use Rattle.std.specs.Prelude.{Some}
use Rattle.std.specs.HashMap.{get}
use Rattle.hp_layers.specs.Ended.{has_place}
use Rattle.hp_layers.specs.Named.{IsIndexed}
use Rattle.hp_layers.proofs.Seating.{TakesRest}
use Rattle.hp_layers.proofs.Taking.{TakesMost}
use Rattle.hp_layers.proofs.ending.take_counts.Given as goal

abbrev pub invariant-loop-state : goal.invariant-loop-state
invariant-loop-state g l = record {
  layer : length l.ways.items ≡ length l.states.items;
  long : length l.table.ways.items ≡ length l.table.states.items;
  indexed : IsIndexed g.M.Ending.PartialEq.eq (λ s e. g.M.Ends.ending_of l.system s ≡ Some e) (get g.M.Ending.PartialEq.eq l.places)
      l.table.states.items;
  taken : TakesMost (g.M.Ends.ending_of l.system) (has_place (get g.M.Ending.PartialEq.eq l.fn.places))
      (has_place (get g.M.Ending.PartialEq.eq l.places)) l.fn.table.states.items l.fn.layer.states.items l.states.items
      l.table.states.items;
  rest : TakesRest (g.M.Ends.ending_of l.system) (get g.M.Ending.PartialEq.eq l.fn.places) (get g.M.Ending.PartialEq.eq l.places)
      l.fn.layer.states.items l.states.items l.fn.layer.ways.items l.ways.items l.fn.table l.table;
}

abbrev pub decreases-loop-state : goal.decreases-loop-state
decreases-loop-state g l = length l.states.items
