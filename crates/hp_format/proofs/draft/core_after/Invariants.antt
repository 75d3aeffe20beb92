use Rattle.std.proofs.Common.{take}
use Rattle.hp_format.specs.Drafts.{IsLed}
use Rattle.hp_format.proofs.draft.core_after.Given as goal

abbrev pub invariant-loop-event : goal.invariant-loop-event
invariant-loop-event l = IsLed l.fn.config l.core (take l.event-index l.events)
