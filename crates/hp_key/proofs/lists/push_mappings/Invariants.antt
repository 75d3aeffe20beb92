use Rattle.std.proofs.Common.{◌≡◌, ◌++◌, ◌∷◌, length, take}
use Rattle.std.specs.List.{flat_map}
use Rattle.hp_table.specs.Gaps.{end_of}
use Rattle.hp_key.specs.Key.{mapping_words}
use Rattle.hp_key.proofs.lists.push_mappings.Given as goal

abbrev pub invariant-loop : goal.invariant-loop
invariant-loop l = record {
  written : l.words.items ≡ l.fn.words.items ++ (length l.space.mappings ∷ flat_map mapping_words (take l.counter l.space.mappings));
  end : l.end ≡ end_of 0 l.space.mappings l.counter;
}
