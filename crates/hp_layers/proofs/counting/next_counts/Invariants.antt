use Rattle.std.proofs.Common.{◌-◌, ◌≤◌, length, take}
use Rattle.std.specs.HashMap.{get}
use Rattle.hp_workers.specs.Claims.{AreOwn}
use Rattle.hp_layers.specs.Named.{IsEachBehind, IsTallied}
use Rattle.hp_layers.proofs.counting.next_counts.Given as goal

abbrev pub invariant-loop-begin : goal.invariant-loop-begin
invariant-loop-begin g l = record {
  within : l.begin ≤ length l.states;
  tallied : IsTallied (g.M.Ends.step l.system) g.M.Key.PartialEq.eq (g.M.Turns.key_of l.system) (g.M.Turns.valid l.system)
      (g.M.Turns.turn l.system) (g.M.Turns.alike l.system) (g.M.Turns.bytes_of l.system) l.room.states l.room.bytes
      (take l.begin l.states) (take l.begin l.layer.ways.items) (get g.M.Key.PartialEq.eq l.seats) l.next.counts l.next.bytes;
  own : AreOwn (IsEachBehind (g.M.Ends.step l.system) l.states l.begin) l.made.items;
}

abbrev pub decreases-loop-begin : goal.decreases-loop-begin
decreases-loop-begin g l = length l.states - l.begin
