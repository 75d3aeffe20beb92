use Rattle.std.proofs.Common.{[], arith}
use Rattle.hp_paint.proofs.Unpainted.{word_in_colour}
use Rattle.hp_paint.proofs.laws.whole_words_have_their_colours.Goals as goal

pub returns : goal.returns
returns c = λ p word b rest all few not_in. word_in_colour p [] word b rest all (omega arith) not_in
