use Rattle.std.proofs.Common.{List, refl, subst, sym}
use Rattle.std.proofs.KnownBytes.{Keeps-refl}
use Rattle.hp_search.specs.Endings.{AreAllRows}
use Rattle.hp_search.specs.declared.endings.EndingRow.{EndingRow}
use Rattle.hp_script_commands.specs.Tabling.{limits_of, schedules_of}
use Rattle.hp_script_commands.proofs.Tabled.{cut_within, tabulates, tabulates_short, whole_rows}
use Rattle.hp_script_commands.proofs.tabling.tabulate_script.Goals as goal

pub returns-in-Whole-clause-ok : goal.returns-in-Whole-clause-ok
returns-in-Whole-clause-ok g c =
    let it = c.in_ok-_script in
    let a = schedules_of c.args.bounds it._script in
    let are = subst (λ (rows : List EndingRow). AreAllRows a rows) (sym c.as_slice.ensures.value)
    (whole_rows a it.every c.in-Whole.rows c.in-Whole.is it.ensures.endings) in
    tabulates c.args.bounds _ _ _ _ _ it._script c.as_slice.result.now it.ensures.script are c.write_table.result c.write_table.ensures.ok
    c.write_table.ensures.done

pub returns-in-Whole-clause-err : goal.returns-in-Whole-clause-err
returns-in-Whole-clause-err g c =
    let it = c.in_ok-_script in
    let a = schedules_of c.args.bounds it._script in
    let are = subst (λ (rows : List EndingRow). AreAllRows a rows) (sym c.as_slice.ensures.value)
    (whole_rows a it.every c.in-Whole.rows c.in-Whole.is it.ensures.endings) in
    tabulates_short c.args.bounds c.args.cut.now _ _ _ _ it._script c.as_slice.result.now it.ensures.script are c.write_table.result _ _
    c.write_table.ensures.err c.write_table.ensures.writes

pub returns-clause-ok : goal.returns-clause-ok
returns-clause-ok g c =
    let it = c.in_ok-_script in
    let a = schedules_of c.args.bounds it._script in (
      record {
        script = it._script;
        turns = c.in-Cut.turns;
        reads = it.ensures.script;
        at = refl;
        why = cut_within a (limits_of c.args.bounds) it.every c.in-Cut.turns c.in-Cut.is it.ensures.within;
      },
      Keeps-refl _,
    )
