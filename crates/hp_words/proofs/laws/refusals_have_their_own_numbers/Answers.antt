use Rattle.hp_words.proofs.Named.{refusals_own}
use Rattle.hp_words.proofs.laws.refusals_have_their_own_numbers.Goals as goal

pub returns : goal.returns
returns c = refusals_own
