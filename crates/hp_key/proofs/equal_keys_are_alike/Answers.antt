use Rattle.hp_key.proofs.Same.{same_key}
use Rattle.hp_key.proofs.equal_keys_are_alike.Goals as goal

pub returns : goal.returns
returns c = same_key
