use Rattle.std.specs.Prelude.{false}
use Rattle.hp_linux_laws.specs.Laws.{IsListed}
use Rattle.hp_linux_laws.proofs.Claims.{listed, by_may}
use Rattle.hp_linux_laws.proofs.a_run_is_a_list_of_entries.Goals as goal

pub returns : goal.returns
returns c = by_may IsListed (listed false false)
