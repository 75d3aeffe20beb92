use Rattle.std.proofs.Common.{◌+◌, take}
use Rattle.std.specs.HashMap.{get}
use Rattle.hp_workers.specs.Claims.{AreOwn}
use Rattle.hp_layers.specs.Named.{IsEachBehind, IsTallied}
use Rattle.hp_layers.proofs.counting.add_part.Given as goal

abbrev pub invariant-loop-place : goal.invariant-loop-place
invariant-loop-place g l = record {
  tallied : IsTallied (g.M.Ends.step l.system) g.M.Key.PartialEq.eq (g.M.Turns.key_of l.system) (g.M.Turns.valid l.system)
      (g.M.Turns.turn l.system) (g.M.Turns.alike l.system) (g.M.Turns.bytes_of l.system) l.room.states l.room.bytes
      (take (l.begin + l.place) l.layer) (take (l.begin + l.place) l.ways) (get g.M.Key.PartialEq.eq l.seats) l.next.counts l.next.bytes;
  own : AreOwn (IsEachBehind (g.M.Ends.step l.system) l.layer l.begin) l.made.items;
}
