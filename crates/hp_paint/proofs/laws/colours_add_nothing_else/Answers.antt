use Rattle.hp_paint.proofs.Unpainted.{text_again}
use Rattle.hp_paint.proofs.laws.colours_add_nothing_else.Goals as goal

pub returns : goal.returns
returns c = text_again
