use Rattle.std.proofs.Common.{List}
use Rattle.hp_layers.specs.Layers.{AreBytes, AreKeysOf, IsLayer, IsLong, NoneBefore}
use Rattle.hp_layers.proofs.searching.search.Given as goal

abbrev pub invariant-loop-turns : goal.invariant-loop-turns
invariant-loop-turns g l =
    IsLayer (g.M.Turns.turn l.system) (g.M.Turns.alike l.system) l.fn.first l.turns l.layer.states.items
    × NoneBefore (g.M.Turns.turn l.system) (g.M.Turns.meets l.system) l.fn.first l.turns
    × ((keys : List _) × AreKeysOf g.M.Key.PartialEq.eq (g.M.Turns.key_of l.system) keys l.layer.states.items)
    × IsLong (g.M.Turns.turn l.system) l.fn.first l.turns
    × AreBytes (g.M.Turns.bytes_of l.system) l.layer.states.items l.layer.bytes
