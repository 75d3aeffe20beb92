use Rattle.hp_shared.proofs.shared.Shared.tally.Goals as goal

pub returns : goal.returns
returns g c = (_, c.tally.ensures.came, c.tally.ensures.numbers)
