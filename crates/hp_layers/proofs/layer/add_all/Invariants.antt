use Rattle.std.proofs.Common.{length}
use Rattle.std.specs.HashSet.{contains}
use Rattle.hp_layers.specs.Layers.{AreBytes, AreCounted, AreValid, KeysStand}
use Rattle.hp_layers.proofs.Covering.{AddsMost}
use Rattle.hp_layers.proofs.layer.add_all.Given as goal

abbrev pub invariant-loop-state : goal.invariant-loop-state
invariant-loop-state g l =
    KeysStand g.M.Key.PartialEq.eq (g.M.Turns.key_of l.system) (contains g.M.Key.PartialEq.eq l.seen) l.next.states.items
    × AddsMost (g.M.Turns.alike l.system) l.fn.next.states.items l.fn.states.items l.left.items l.next.states.items
    × AreValid (g.M.Turns.valid l.system) l.next.states.items
    × AreValid (g.M.Turns.valid l.system) l.left.items
    × AreCounted g.M.Key.PartialEq.eq l.seen.keys l.next.states.items
    × AreBytes (g.M.Turns.bytes_of l.system) l.next.states.items l.next.bytes

abbrev pub decreases-loop-state : goal.decreases-loop-state
decreases-loop-state g l = length l.left.items
