use Rattle.std.specs.Prelude.{◌≡◌, take, drop}
use Rattle.hp_conditions.specs.Pieces.{split}
use Rattle.hp_conditions.proofs.Splitting.{behind_front}
use Rattle.hp_conditions.proofs.pieces.split.Given as goal

-- the word stands at none of the places so far
abbrev pub invariant-loop-place : goal.invariant-loop-place
invariant-loop-place l = split l.word l.text ≡ behind_front (take l.place l.text) (split l.word (drop l.place l.text))
