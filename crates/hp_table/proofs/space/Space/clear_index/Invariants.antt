use Rattle.std.proofs.Common.{◌≡◌, ℕ, ◌≤◌}
use Rattle.std.specs.FinMap as map
use Rattle.hp_base.specs.Mappings.{without_index}
use Rattle.hp_table.specs.Table.{NoMoreCapacity}
use Rattle.hp_table.proofs.space.Space.clear_index.Given as goal

abbrev pub invariant-loop-vpn : goal.invariant-loop-vpn
invariant-loop-vpn l = record {
  mappings : l.self.mappings ≡ l.fn.self.mappings;
  left : (v : ℕ) → without_index l.fn.self.mappings (map.get l.fn.self.entries) l.file l.index v
      ≡ without_index l.fn.self.mappings (map.get l.self.entries) l.file l.index v;
  ready : l.self.ready ≡ l.fn.self.ready;
  capacity : NoMoreCapacity l.self.capacity l.fn.self.capacity;
}

abbrev pub decreases-loop-vpn : goal.decreases-loop-vpn
decreases-loop-vpn l = map.len l.self.entries
