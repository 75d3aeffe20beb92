use Rattle.std.proofs.Common.{sym, ◌∙◌}
use Rattle.hp_region.proofs.Words.{all_on}
use Rattle.hp_region.proofs.bits.all.Goals as goal

pub returns-then-value : goal.returns-then-value
returns-then-value c bit below = all_on bit below ∙ sym c.if-value.true
