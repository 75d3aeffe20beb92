use Rattle.std.proofs.Common.{refl}
use Rattle.hp_laws.proofs.Answering.{ended_word}
use Rattle.hp_laws.proofs.a_load_ends_with_the_last_word.Goals as goal

pub returns : goal.returns
returns c = λ s g frames past m t grant word h. ended_word g frames past m t grant word (refl, h.1, h.2)
