use Rattle.std.proofs.Common.{take}
use Rattle.hp_hunt.specs.Watching.{known_of}
use Rattle.hp_hunt.proofs.Watched.{IsWatched}
use Rattle.hp_hunt.proofs.meeting.meets.Given as goal

abbrev pub invariant-loop-event : goal.invariant-loop-event
invariant-loop-event l = IsWatched l.fn.config l.conditions (take l.event-index l.events) l.core (known_of l.watches)
