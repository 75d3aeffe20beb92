use Rattle.hp_key.proofs.Unpacking.{unpacked}
use Rattle.hp_key.proofs.equal_bytes_are_of_equal_words.Goals as goal

pub returns : goal.returns
returns c = unpacked
