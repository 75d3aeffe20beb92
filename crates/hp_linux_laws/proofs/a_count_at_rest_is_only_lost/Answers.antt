use Rattle.std.specs.Prelude.{false}
use Rattle.hp_linux_laws.specs.Laws.{IsOnlyLost}
use Rattle.hp_linux_laws.proofs.Claims.{only_lost, by_may}
use Rattle.hp_linux_laws.proofs.a_count_at_rest_is_only_lost.Goals as goal

pub returns : goal.returns
returns c = by_may IsOnlyLost (only_lost false false)
