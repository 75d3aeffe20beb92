use Rattle.hp_remove.proofs.Tops.{top_is}
use Rattle.hp_remove.proofs.truncate.set_size.Goals as goal

pub returns-clause-top : goal.returns-clause-top
returns-clause-top c = top_is _ _ _ _ _ _ c.requires c.number.ensures c.index_mut-file.ensures.value c.top.ensures.end c.max-top.ensures
