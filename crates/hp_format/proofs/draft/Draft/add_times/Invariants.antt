use Rattle.std.proofs.Common.{◌≡◌, ◌++◌, replicate}
use Rattle.hp_format.specs.Following.{IsAny, Repeats}
use Rattle.hp_format.proofs.draft.Draft.add_times.Given as goal

abbrev pub invariant-loop : goal.invariant-loop
invariant-loop l =
    (l.self.sizes ≡ l.fn.self.sizes) × (l.self.events ≡ l.fn.self.events ++ replicate l.counter l.event)
    × Repeats IsAny l.fn.self.core l.event l.counter l.self.core
