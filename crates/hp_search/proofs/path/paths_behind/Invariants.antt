-- so many of the turns were made
use Rattle.std.proofs.Common.{take}
use Rattle.hp_every.specs.Search.{AreBehind}
use Rattle.hp_search.specs.Searching.{question_of}
use Rattle.hp_search.proofs.path.paths_behind.Given as goal

abbrev pub invariant-loop-place : goal.invariant-loop-place
invariant-loop-place l = AreBehind (question_of l.query) l.path (take l.place l.turns) l.next.items
