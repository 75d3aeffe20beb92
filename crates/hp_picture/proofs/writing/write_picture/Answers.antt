use Rattle.std.proofs.Common.{inr}
use Rattle.hp_picture.proofs.Taking.{picture_again}
use Rattle.hp_picture.proofs.writing.write_picture.Goals as goal

pub returns-clause-again : goal.returns-clause-again
returns-clause-again g c =
    inr (λ short. picture_again c.args.picture.now.counts c.args.picture.now.places short c.in_ok-push_picture.ensures.fits)
