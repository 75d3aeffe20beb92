use Rattle.std.proofs.Common.{◌≡◌, ◌++◌}
use Rattle.std.specs.FinMap.{entries}
use Rattle.std.specs.List.{flat_map}
use Rattle.hp_key.specs.Key.{entry_words}
use Rattle.hp_key.proofs.lists.push_translations.Given as goal

abbrev pub invariant-loop-vpn : goal.invariant-loop-vpn
invariant-loop-vpn l =
    l.words.items ++ flat_map entry_words l.vpn-iterator ≡ l.initial.words.items ++ flat_map entry_words (entries l.space.entries)
