-- those of the first places that can take a turn
use Rattle.std.proofs.Common.{◌≡◌, filter, take}
use Rattle.hp_explore.specs.CanNow.{can_now}
use Rattle.hp_explore.proofs.walk.Walk.strike.Given as goal

abbrev pub invariant-loop-place : goal.invariant-loop-place
invariant-loop-place l = l.tasks ≡ filter (can_now l.plan l.self) (take l.place l.before)
