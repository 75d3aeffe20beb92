use Rattle.std.proofs.Common.{◌+◌, take}
use Rattle.std.specs.HashSet.{contains}
use Rattle.hp_workers.specs.Claims.{AreOwn}
use Rattle.hp_layers.specs.Layers.{IsBehind, IsGathered}
use Rattle.hp_layers.proofs.layer.add_part.Given as goal

abbrev pub invariant-loop-place : goal.invariant-loop-place
invariant-loop-place g l = record {
  gathered : IsGathered g.M.Key.PartialEq.eq (g.M.Turns.key_of l.system) (g.M.Turns.valid l.system) (g.M.Turns.turn l.system)
      (g.M.Turns.alike l.system) (g.M.Turns.bytes_of l.system) l.room.states l.room.bytes (take (l.begin + l.place) l.layer)
      (contains g.M.Key.PartialEq.eq l.seen) l.seen.keys l.next.states.items l.next.bytes;
  own : AreOwn (IsBehind (g.M.Turns.turn l.system) (g.M.Turns.alike l.system) l.layer l.begin) l.made.items;
}
