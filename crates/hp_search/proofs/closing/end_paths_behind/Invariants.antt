-- so many of the turns were made
use Rattle.std.proofs.Common.{take}
use Rattle.std.specs.List.{AllZip}
use Rattle.hp_every.specs.Endings.{GoesBy}
use Rattle.hp_search.specs.Searching.{question_of}
use Rattle.hp_search.proofs.closing.end_paths_behind.Given as goal

abbrev pub invariant-loop-place : goal.invariant-loop-place
invariant-loop-place l = AllZip (GoesBy (question_of l.query) l.from) (take l.place l.turns) l.next.items
