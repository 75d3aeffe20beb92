use Rattle.hp_region.proofs.Words.{count_before}
use Rattle.hp_region.proofs.bits.Bits.before.Goals as goal

pub returns : goal.returns
returns c = rw (← c.self.view_is, ← c.number-index.ensures) (count_before c.self.inside.words c.number-index.result)
