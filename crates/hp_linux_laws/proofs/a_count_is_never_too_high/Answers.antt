use Rattle.std.specs.Prelude.{false}
use Rattle.hp_linux_laws.specs.Laws.{IsNeverTooHigh}
use Rattle.hp_linux_laws.proofs.Claims.{never_too_high, by_may}
use Rattle.hp_linux_laws.proofs.a_count_is_never_too_high.Goals as goal

pub returns : goal.returns
returns c = by_may IsNeverTooHigh (never_too_high false false)
