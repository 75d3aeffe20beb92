use Rattle.hp_objects.proofs.Pieces.{own_object}
use Rattle.hp_objects.proofs.laws.each_line_is_an_object.Goals as goal

pub returns : goal.returns
returns c = own_object
