use Rattle.hp_explore.proofs.Inverse.{remainder_at}
use Rattle.hp_explore.proofs.remainders.remainder.Goals as goal

pub returns : goal.returns
returns c = rw (c.from-2.ensures, c.from-3.ensures, c.from.ensures, c.requires.inverse)
    (remainder_at c.args.word c.args.count c.requires.one c.requires.few c.ranges.word.fits)
