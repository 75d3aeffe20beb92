use Rattle.std.proofs.KnownBytes.{Keeps-refl}
use Rattle.hp_script_commands.specs.Choosing.{HasNoRow}
use Rattle.hp_script_commands.specs.Tabling.{limits_of, schedules_of}
use Rattle.hp_script_commands.proofs.Chosen.{chooses, chooses_short}
use Rattle.hp_script_commands.proofs.Tabled.{cut_within, rows_within, whole_rows}
use Rattle.hp_script_commands.proofs.choosing.choose_ending.Goals as goal

pub write_row-requires : goal.write_row-requires
write_row-requires g c =
    let it = c.in_ok-script in
    record {
      few = rows_within (schedules_of c.args.choice.bounds it.script) (limits_of c.args.choice.bounds) it.every c.in-Whole.rows c.in-Whole.is
          it.ensures.within;
    }

pub returns-in-Whole-clause-ok : goal.returns-in-Whole-clause-ok
returns-in-Whole-clause-ok g c =
    let it = c.in_ok-script in
    let a = schedules_of c.args.choice.bounds it.script in
    chooses c.args.choice _ _ _ _ it.script c.in-Whole.rows.items it.ensures.script
    (whole_rows a it.every c.in-Whole.rows c.in-Whole.is it.ensures.endings) c.write_row.result c.write_row.ensures.ok

pub returns-in-Whole-clause-err : goal.returns-in-Whole-clause-err
returns-in-Whole-clause-err g c =
    let it = c.in_ok-script in
    let a = schedules_of c.args.choice.bounds it.script in
    chooses_short c.args.choice _ _ _ _ it.script c.in-Whole.rows.items it.ensures.script
    (whole_rows a it.every c.in-Whole.rows c.in-Whole.is it.ensures.endings) c.write_row.result _ _ c.write_row.ensures.err
    c.write_row.ensures.writes

pub returns-clause-ok : goal.returns-clause-ok
unfolding HasNoRow
returns-clause-ok g c =
    let it = c.in_ok-script in
    let a = schedules_of c.args.choice.bounds it.script in (
      record {
        script = it.script;
        reads = it.ensures.script;
        none = cut_within a (limits_of c.args.choice.bounds) it.every c.in-Cut.turns c.in-Cut.is it.ensures.within;
      },
      Keeps-refl _,
    )
