use Rattle.hp_remove.proofs.Cleared.{still_cleared}
use Rattle.hp_remove.proofs.pages.drop_mapping.Goals as goal

pub drop_mapping-requires : goal.drop_mapping-requires
drop_mapping-requires c =
    record {
      bare = still_cleared _ _ _ _ _ c.requires.task.0 c.requires.task.1 c.place.ensures
          c.index_mut.ensures.value c.requires.bare;
    }
