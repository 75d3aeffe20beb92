use Rattle.std.proofs.Common.{◌∙◌}
use Rattle.hp_paint.proofs.Colours.{among_words}
use Rattle.hp_paint.proofs.palette.has_colour.Goals as goal

pub returns : goal.returns
returns c = c.is_among.ensures ∙ among_words c.args.word.now c.args.palette c.args.colour c.words.result.now c.words.ensures
