use Rattle.std.specs.Prelude.{string_bytes}
use Rattle.hp_explain.proofs.Laying.{no_title, one_title}
use Rattle.hp_explain.proofs.layout.push_titles.Goals as goal

pub loop-number-init : goal.loop-number-init
loop-number-init c = no_title c.args.compact c.args.widths.now (string_bytes c.args.line.now)

pub loop-number-preserved : goal.loop-number-preserved
loop-number-preserved c =
    one_title c.args.compact c.args.widths.now c.loop-number.number (string_bytes c.args.line.now) (string_bytes c.loop-number.line)
    (string_bytes c.push_title.new.line) c.loop-number.invariant c.in_ok-push_title.ensures
