use Rattle.std.proofs.Common.{◌≡◌, drop, map}
use Rattle.hp_race.specs.Keeping.{is_in_turn}
use Rattle.hp_race.proofs.keeping.is_in_turn.Given as goal

-- whether the entries that are left come in turn is whether all do
abbrev pub invariant-loop-entry : goal.invariant-loop-entry
invariant-loop-entry l =
    let needs = map (λ calls. map (λ needs. needs.items) calls.items) l.needs in
    is_in_turn needs l.fn.tasks l.entries ≡ is_in_turn needs l.tasks (drop l.entry-index l.entries)
