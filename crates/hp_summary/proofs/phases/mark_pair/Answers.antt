use Rattle.hp_summary.proofs.Noted.{pair_marked}
use Rattle.hp_summary.proofs.phases.mark_pair.Goals as goal

pub returns-clause-marked : goal.returns-clause-marked
returns-clause-marked c =
    λ p q. rw (c.pair_place.ensures.place, c.pair_place-2.ensures.place)
    (pair_marked c.args.met.now c.args.one c.args.other p q c.requires)
