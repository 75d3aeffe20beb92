use Rattle.hp_text.proofs.Feeding.{Taking}
use Rattle.hp_text.proofs.feed.TraceFeed.take.Given as goal

-- what is held so far and the bytes left of the line give what the line gives
abbrev pub invariant-loop-i : goal.invariant-loop-i
invariant-loop-i l = Taking l.self l.fn.self l.i l.piece
