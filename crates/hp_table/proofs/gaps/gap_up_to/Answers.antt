use Rattle.std.proofs.Common.{length, ap, sym, ◌∙◌}
use Rattle.std.proofs.lemmas.Bool.{ltb-true, ltb-false}
use Rattle.hp_base.specs.declared.mapping.Mapping.{Mapping}
use Rattle.hp_table.specs.Gaps.{between, listed}
use Rattle.hp_table.proofs.GapsOf.{up_to_some, up_to_none}
use Rattle.hp_table.proofs.gaps.gap_up_to.Goals as goal

pub returns-in_err-next : goal.returns-in_err-next
returns-in_err-next c =
    let ms = c.args.mappings.now in
    let absent = (c.in_err-next.ensures {u = tt}).lookup in
    let past = ltb-false c.args.at (length ms) (sym absent.0) in
    ap listed c.from_residual.ensures ∙ sym (up_to_none ms c.args.at c.args.from past)

pub returns : goal.returns
returns c =
    let ms = c.args.mappings.now in
    let next = c.in_ok-next.next.now in
    let found = (c.in_ok-next.ensures {u = tt}).lookup in
    let within = ltb-true c.args.at (length ms) (sym found.0) in
    c.gap_between.ensures ∙ sym (up_to_some ms c.args.at c.args.from next within
    ∙ ap (λ (m : Mapping). between c.args.from m.base) (sym found.1))
