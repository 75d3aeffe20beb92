use Rattle.std.specs.Prelude.{string_bytes}
use Rattle.hp_explain.proofs.Laying.{no_column, one_column}
use Rattle.hp_explain.proofs.layout.push_columns.Goals as goal

pub loop-number-init : goal.loop-number-init
loop-number-init c = no_column c.args.widths.now c.args.own c.args.text.now (string_bytes c.args.line.now)

pub loop-number-preserved : goal.loop-number-preserved
loop-number-preserved c =
    one_column c.args.widths.now c.args.own c.args.text.now c.loop-number.number (string_bytes c.args.line.now)
    (string_bytes c.loop-number.line) (string_bytes c.push_column.new.line) c.loop-number.invariant c.in_ok-push_column.ensures
