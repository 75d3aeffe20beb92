use Rattle.std.proofs.Common.{◌≡◌, sym, ap, ◌∙◌, drop, map, get_or, []}
use Rattle.hp_shared.specs.Unused.{unused}
use Rattle.hp_shared.proofs.Lists.{get_or-unused-map}
use Rattle.hp_shared.proofs.order.is_next_at.Goals as goal

pub returns : goal.returns
returns g c =
    let is : get_or (unused (map g.S.Listed.listed c.args.lists.now) c.args.used.now) c.args.i [] ≡ drop
    (get_or c.args.used.now c.args.i 0) c.listed.result.now =
    get_or-unused-map g.S.Listed.listed c.args.lists.now c.args.used.now c.args.i c.index-lists-i.result c.requires.same
    c.requires.bound c.index-lists-i.is ∙ ap (drop _) (sym c.listed.ensures) in
    rw is c.begins_with.ensures
