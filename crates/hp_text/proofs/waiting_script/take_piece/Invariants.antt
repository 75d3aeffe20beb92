use Rattle.std.proofs.Common.{◌+◌, ◌≤◌, length}
use Rattle.hp_text.specs.ScriptTaking.{script_room}
use Rattle.hp_text.proofs.ScriptTakings.{TakingPiece}
use Rattle.hp_text.proofs.waiting_script.take_piece.Given as goal

abbrev pub invariant-loop-line : goal.invariant-loop-line
invariant-loop-line l = record {
  taken : TakingPiece l.fn.draft l.draft l.piece l.left;
  room : script_room l.draft + length l.piece ≤ script_room l.fn.draft + length l.left;
}

abbrev pub decreases-loop-line : goal.decreases-loop-line
decreases-loop-line l = length l.left
