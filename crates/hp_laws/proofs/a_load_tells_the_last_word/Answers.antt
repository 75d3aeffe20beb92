use Rattle.std.proofs.Common.{refl}
use Rattle.hp_laws.proofs.Histories.{last_words}
use Rattle.hp_laws.proofs.a_load_tells_the_last_word.Goals as goal

pub returns : goal.returns
returns c = λ s g frames past m f i word h. last_words g frames past m f i word (refl, h.1, h.2)
