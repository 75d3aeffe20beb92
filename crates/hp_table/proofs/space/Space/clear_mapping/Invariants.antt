use Rattle.std.proofs.Common.{◌≡◌, ℕ, ◌-◌, ◌≤◌}
use Rattle.std.specs.FinMap as map
use Rattle.hp_base.specs.Indices.{is_within}
use Rattle.hp_table.specs.Table.{cleared, NoMoreCapacity}
use Rattle.hp_table.proofs.space.Space.clear_mapping.Given as goal

abbrev pub invariant-loop-vpn : goal.invariant-loop-vpn
invariant-loop-vpn l = record {
  begun : l.fn.base ≤ l.next;
  within : l.next ≤ l.end;
  mappings : l.self.mappings ≡ l.fn.self.mappings;
  entries : (v : ℕ) → map.get l.self.entries v ≡ cleared (is_within l.fn.base l.next) (map.get l.fn.self.entries) v;
  ready : l.self.ready ≡ l.fn.self.ready;
  capacity : NoMoreCapacity l.self.capacity l.fn.self.capacity;
}

abbrev pub decreases-loop-vpn : goal.decreases-loop-vpn
decreases-loop-vpn l = l.end - l.next
