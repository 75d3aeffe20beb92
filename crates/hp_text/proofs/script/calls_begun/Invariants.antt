use Rattle.std.proofs.Common.{◌≡◌, map, take}
use Rattle.hp_text.specs.Scripts.{begin_of}
use Rattle.hp_text.proofs.script.calls_begun.Given as goal

abbrev pub invariant-loop-event : goal.invariant-loop-event
invariant-loop-event l = map begin_of l.calls.items ≡ take l.event-index l.events
