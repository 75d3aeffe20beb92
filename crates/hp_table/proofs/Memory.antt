-- Memory that was given back step by step.
use Rattle.std.proofs.Common.{◌∙◌, arith}
use Rattle.hp_table.specs.Table.{SpaceCapacity, NoMoreCapacity}

-- no more than before, twice
pub no_more_since : (now then first : SpaceCapacity) → NoMoreCapacity now then → NoMoreCapacity then first → NoMoreCapacity now first
no_more_since now then first later before = record {
  mappings = later.mappings ∙ before.mappings;
  gaps = later.gaps ∙ before.gaps;
  entries = (omega (arith, later.entries.0, before.entries.0), later.entries.1 ∙ before.entries.1);
  places = omega (arith, later.places, before.places);
}
