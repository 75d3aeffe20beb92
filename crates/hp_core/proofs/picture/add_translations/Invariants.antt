use Rattle.std.specs.Prelude.{◌≡◌, ◌++◌, filter_map}
use Rattle.std.specs.FinMap.{entries}
use Rattle.hp_core.specs.Copies.{translation}
use Rattle.hp_core.proofs.picture.add_translations.Given as goal

abbrev pub invariant-loop-vpn : goal.invariant-loop-vpn
invariant-loop-vpn l =
    l.tables.items ++ filter_map (translation l.task l.space.mappings) l.vpn-iterator ≡ l.initial.tables.items
    ++ filter_map (translation l.task l.space.mappings) (entries l.space.entries)
