use Rattle.std.proofs.Common.{refl, sym, ap, ◌∙◌, drop}
use Rattle.hp_shared.proofs.Lists.{get_or-unused-map, used_up_at}
use Rattle.hp_shared.proofs.order.is_used_at.Goals as goal

pub returns : goal.returns
returns g c =
    used_up_at c.listed.result.now _ _ _ (get_or-unused-map g.S.Listed.listed c.args.lists.now c.args.used.now c.args.i
    c.index-lists-i.result c.requires.same c.requires.bound c.index-lists-i.is ∙ ap (drop _) (sym c.listed.ensures)) refl
