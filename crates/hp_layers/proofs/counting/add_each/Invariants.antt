use Rattle.std.proofs.Common.{◌≡◌, length}
use Rattle.std.specs.HashMap.{get}
use Rattle.hp_layers.specs.Layers.{AreBytes, AreValid}
use Rattle.hp_layers.specs.Named.{IsIndexed, KeepsPlaces}
use Rattle.hp_layers.proofs.Covering.{AddsMost}
use Rattle.hp_layers.proofs.Spreading.{AddsRest}
use Rattle.hp_layers.proofs.counting.add_each.Given as goal

abbrev pub invariant-loop-state : goal.invariant-loop-state
invariant-loop-state g l = record {
  left : AreValid (g.M.Turns.valid l.system) l.left.items;
  valid : AreValid (g.M.Turns.valid l.system) l.next.counts.states.items;
  long : length l.next.counts.ways.items ≡ length l.next.counts.states.items;
  indexed : IsIndexed g.M.Key.PartialEq.eq (λ s k. g.M.Turns.key_of l.system s ≡ k) (get g.M.Key.PartialEq.eq l.places)
      l.next.counts.states.items;
  bytes : AreBytes (g.M.Turns.bytes_of l.system) l.next.counts.states.items l.next.bytes;
  kept : KeepsPlaces (get g.M.Key.PartialEq.eq l.fn.places) (get g.M.Key.PartialEq.eq l.places);
  most : AddsMost (g.M.Turns.alike l.system) l.fn.next.counts.states.items l.fn.states.items l.left.items l.next.counts.states.items;
  rest : AddsRest (g.M.Turns.key_of l.system) (get g.M.Key.PartialEq.eq l.places) l.fn.states.items l.left.items l.more
      l.fn.next.counts.ways.items l.next.counts.ways.items;
}

abbrev pub decreases-loop-state : goal.decreases-loop-state
decreases-loop-state g l = length l.left.items
