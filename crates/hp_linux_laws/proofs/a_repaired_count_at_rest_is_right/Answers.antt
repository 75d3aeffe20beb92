use Rattle.hp_linux_laws.specs.Laws.{IsRight}
use Rattle.hp_linux_laws.proofs.Claims.{right_count, by_repaired}
use Rattle.hp_linux_laws.proofs.a_repaired_count_at_rest_is_right.Goals as goal

pub returns : goal.returns
returns c = by_repaired IsRight right_count
