-- so many of the turns were made
use Rattle.std.proofs.Common.{take}
use Rattle.hp_search.specs.Searching.{IsAt, question_of}
use Rattle.hp_search.proofs.following.follow.Given as goal

abbrev pub invariant-loop-turn : goal.invariant-loop-turn
invariant-loop-turn l = IsAt (question_of l.query) (take l.turn-index l.turns) l.events.items l.position
