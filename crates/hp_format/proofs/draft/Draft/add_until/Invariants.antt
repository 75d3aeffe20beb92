use Rattle.std.proofs.Common.{◌≡◌, ◌++◌, true, replicate}
use Rattle.hp_base.specs.declared.event.Event.TheVariants.{Step}
use Rattle.hp_format.specs.Following.{GoesOn, Repeats}
use Rattle.hp_format.proofs.draft.Draft.add_until.Given as goal

abbrev pub invariant-loop : goal.invariant-loop
invariant-loop l =
    (l.self.sizes ≡ l.fn.self.sizes) × (l.self.events ≡ l.fn.self.events ++ replicate l.counter (Step l.fn.task true))
    × (l.step ≡ Step l.fn.task true) × Repeats (GoesOn l.fn.goal) l.fn.self.core (Step l.fn.task true) l.counter l.self.core
