use Rattle.std.proofs.Common.{◌<◌, arith, length}
use Rattle.std.proofs.lemmas.Grind.{common_steps}
use Rattle.std.proofs.lemmas.Option.{slice_get_read}
use Rattle.std.proofs.Common.{refl}
use Rattle.hp_base.specs.Text.{sizes}
use Rattle.hp_script_commands.proofs.Chosen.{writes_front, writes_row}
use Rattle.hp_script_commands.proofs.choosing.write_row.Goals as goal

pub returns-clause-ok : goal.returns-clause-ok
returns-clause-ok g c =
    let rows = c.args.rows.items in
    let row = c.swap_remove-events.result in
    let there : c.args.place < length rows = grind (arith, common_steps, c.if-len-place.false, c.len.ensures) in
    writes_row (sizes c.args.config) rows c.args.place _ _ row (slice_get_read rows (length rows) c.args.place row refl there
    c.swap_remove-events.ensures.value) c.write_shortest.result c.write_shortest.ensures.ok c.write_shortest.ensures.met

pub returns-clause-err : goal.returns-clause-err
returns-clause-err g c =
    let rows = c.args.rows.items in
    let row = c.swap_remove-events.result in
    let there : c.args.place < length rows = grind (arith, common_steps, c.if-len-place.false, c.len.ensures) in
    writes_front (sizes c.args.config) rows c.args.place _ _ row (slice_get_read rows (length rows) c.args.place row refl there
    c.swap_remove-events.ensures.value) c.write_shortest.result c.write_shortest.ensures.err
