-- the conditions of the watches so far are met, or alternatives of theirs
use Rattle.std.proofs.Common.{◌≡◌, ℕ, ◌<◌, List}
use Rattle.std.specs.Prelude.{slice_index_or}
use Rattle.hp_core.specs.State.{CoreState}
use Rattle.hp_hunt.specs.Conditions.{MeetsChoice}
use Rattle.hp_watch.specs.Moments.{Moment, last_of}
use Rattle.hp_hunt.specs.Watching.{AllKnow, known_of}
use Rattle.hp_hunt.specs.declared.condition.Condition.{Condition}
use Rattle.hp_hunt.specs.declared.watching.Watch.{Watch}
use Rattle.hp_hunt.proofs.watching.Watches.are_met.Given as goal

abbrev pub invariant-loop-watch : goal.invariant-loop-watch
invariant-loop-watch l =
    (conditions : List Condition) (first : CoreState) (moments : List Moment) → l.core ≡ last_of first moments
    → AllKnow conditions (known_of l.self) moments → (k : ℕ) (d : Watch) → k < l.watch-index
    → MeetsChoice conditions first moments (slice_index_or l.self.watches.items k d).condition.choice
