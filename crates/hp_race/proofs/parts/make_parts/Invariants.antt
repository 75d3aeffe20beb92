use Rattle.std.proofs.Common.{◌≡◌, ◌-◌, ℕ, List, length}
use Rattle.std.specs.Prelude.{All}
use Rattle.hp_core.specs.State.{CoreState}
use Rattle.hp_race.specs.Calls.{is_mortal}
use Rattle.hp_race.specs.Racers.{IsNew}
use Rattle.hp_race.specs.Parts.{AreRaceParts, RacePart}
use Rattle.hp_race.proofs.parts.make_parts.Given as goal

-- whatever parts come from here on come behind those that were made
abbrev pub invariant-loop-from : goal.invariant-loop-from
invariant-loop-from g l = record {
  new : All IsNew l.seats.items;
  count : length l.seats.items ≡ l.script.config.tasks;
  before : (parts : List RacePart) (entries : ℕ) (end : CoreState)
      → AreRaceParts (is_mortal l.track.chances) l.script l.most l.from l.again.entries l.again.core parts entries end
      → (all : List RacePart) × AreRaceParts (is_mortal l.track.chances) l.script l.most 0 l.fn.again.entries l.fn.again.core all entries end;
}

abbrev pub decreases-loop-from : goal.decreases-loop-from
decreases-loop-from g l = l.longest - l.from
