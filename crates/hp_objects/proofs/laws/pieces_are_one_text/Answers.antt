use Rattle.hp_objects.proofs.Pieces.{behind_pieces, in_pieces}
use Rattle.hp_objects.proofs.laws.pieces_are_one_text.Goals as goal

pub returns-clause-text : goal.returns-clause-text
returns-clause-text c = in_pieces

pub returns-clause-line : goal.returns-clause-line
returns-clause-line c = behind_pieces
