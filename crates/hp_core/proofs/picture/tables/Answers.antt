use Rattle.std.proofs.Common.{◌∙◌}
use Rattle.hp_core.proofs.Copying.{no_translations, more_translations}
use Rattle.hp_core.proofs.picture.tables.Goals as goal

pub loop-place-init : goal.loop-place-init
loop-place-init c = c.new-tables.ensures.items ∙ no_translations _

pub loop-place-preserved : goal.loop-place-preserved
loop-place-preserved c =
    more_translations _ _ _ _ _ _ c.loop-place-test.true c.new.ensures c.index-spaces-place.is c.loop-place.invariant
    c.in_ok-add_translations.ensures
