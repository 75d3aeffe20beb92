use Rattle.hp_paint.proofs.Unpainted.{behind_pieces, in_pieces}
use Rattle.hp_paint.proofs.laws.pieces_make_no_difference.Goals as goal

pub returns-clause-text : goal.returns-clause-text
returns-clause-text c = in_pieces

pub returns-clause-held : goal.returns-clause-held
returns-clause-held c = behind_pieces
