use Rattle.std.proofs.Common.{◌≡◌, List, length}
use Rattle.std.specs.Prelude.{Some}
use Rattle.std.specs.HashMap.{get}
use Rattle.hp_layers.specs.Ended.{AreShortest, has_place}
use Rattle.hp_layers.specs.Layers.{AreBytes, AreKeysOf, IsLayer, IsLong}
use Rattle.hp_layers.specs.Named.{AreTold, IsIndexed}
use Rattle.hp_layers.proofs.Spreading.{AreSpread}
use Rattle.hp_layers.proofs.Taking.{HasBefore}
use Rattle.hp_layers.proofs.ending.endings.Given as goal

abbrev pub invariant-loop-turns : goal.invariant-loop-turns
invariant-loop-turns g l = record {
  layer : IsLayer (g.M.Turns.turn l.system) (g.M.Turns.alike l.system) l.fn.first l.turns l.layer.counts.states.items;
  even : length l.layer.counts.ways.items ≡ length l.layer.counts.states.items;
  long : length l.counts.ways.items ≡ length l.counts.states.items;
  indexed : IsIndexed g.M.Ending.PartialEq.eq (λ s e. g.M.Ends.ending_of l.system s ≡ Some e) (get g.M.Ending.PartialEq.eq l.places)
      l.counts.states.items;
  shortest : AreShortest (g.M.Turns.turn l.system) (g.M.Ends.ending_of l.system) l.fn.first l.counts.states.items;
  before : HasBefore (g.M.Turns.turn l.system) (g.M.Ends.ending_of l.system) l.fn.first
      (has_place (get g.M.Ending.PartialEq.eq l.places)) l.turns;
  keys : (keys : List _) × AreKeysOf g.M.Key.PartialEq.eq (g.M.Turns.key_of l.system) keys l.layer.counts.states.items;
  bytes : AreBytes (g.M.Turns.bytes_of l.system) l.layer.counts.states.items l.layer.bytes;
  spread : AreSpread (g.M.Ends.step l.system) (g.M.Turns.alike l.system) l.fn.first l.turns l.layer.counts;
  goes_on : IsLong (g.M.Turns.turn l.system) l.fn.first l.turns;
  told : AreTold (g.M.Ends.step l.system) (g.M.Ends.ending_of l.system) l.fn.first l.turns l.counts;
}
