use Rattle.std.specs.Prelude.{◌≡◌, None, replicate, vec_capacity}
use Rattle.hp_slots.proofs.table.SlotTable.new.Given as goal

abbrev pub invariant-loop : goal.invariant-loop
invariant-loop l = record {
  vacant : l.holders.items ≡ replicate l.counter None;
  capacity : vec_capacity l.holders ≡ l.places;
}
