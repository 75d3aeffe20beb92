use Rattle.std.specs.Prelude.{string_bytes}
use Rattle.hp_explain.proofs.Laying.{no_space, one_space}
use Rattle.hp_explain.proofs.layout.push_spaces.Goals as goal

pub loop-space-init : goal.loop-space-init
loop-space-init c = no_space (string_bytes c.args.line.now)

pub loop-space-preserved : goal.loop-space-preserved
loop-space-preserved c =
    one_space c.loop-space._space (string_bytes c.args.line.now) (string_bytes c.loop-space.line) (string_bytes c.push_str.new.self)
    c.loop-space.invariant c.in_ok-push_str.ensures.bytes
