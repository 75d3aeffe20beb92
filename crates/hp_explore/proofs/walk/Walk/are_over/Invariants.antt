use Rattle.std.proofs.Common.{◌≡◌, true, take}
use Rattle.std.specs.List.{list_all}
use Rattle.hp_explore.specs.Schedule.{is_over}
use Rattle.hp_explore.proofs.walk.Walk.are_over.Given as goal

abbrev pub invariant-loop-need : goal.invariant-loop-need
invariant-loop-need l = list_all (is_over l.self) (take l.need-index l.needs) ≡ true
