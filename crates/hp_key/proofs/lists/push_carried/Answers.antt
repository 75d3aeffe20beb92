use Rattle.std.proofs.Common.{rules}
use Rattle.std.proofs.lemmas.List.{append_assoc}
use Rattle.hp_key.proofs.lists.push_carried.Goals as goal

pub returns : goal.returns
returns c = search (rules, append_assoc)
