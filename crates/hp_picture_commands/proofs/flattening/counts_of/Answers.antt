use Rattle.std.proofs.Common.{◌≡◌, rules, subst, sym}
use Rattle.hp_picture.specs.Text.{AreShortCounts}
use Rattle.hp_agree.specs.Flat.{counts_of}
use Rattle.hp_picture_commands.proofs.Flattened.{short_counts}
use Rattle.hp_picture_commands.proofs.flattening.counts_of.Goals as goal

pub returns-clause-short : goal.returns-clause-short
returns-clause-short c right few =
    let same : c.counts.result ≡ counts_of c.args.picture.now = search rules in
    subst AreShortCounts (sym same)
    (short_counts c.args.picture.now c.counts.ensures.resv c.counts.ensures.used c.counts.ensures.quota right few)
