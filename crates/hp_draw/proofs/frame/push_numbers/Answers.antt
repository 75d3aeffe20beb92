use Rattle.std.specs.Prelude.{string_bytes}
use Rattle.hp_draw.proofs.Pieces.{no_number, one_number}
use Rattle.hp_draw.proofs.frame.push_numbers.Goals as goal

pub loop-at-init : goal.loop-at-init
loop-at-init c = no_number c.args.layout.now (string_bytes c.args.text.now)

pub loop-at-preserved : goal.loop-at-preserved
loop-at-preserved c =
    one_number c.args.layout.now c.loop-at.at (string_bytes c.args.text.now) (string_bytes c.loop-at.text)
    (string_bytes c.push_number_at.new.text) c.loop-at.invariant c.in_ok-push_number_at.ensures
