use Rattle.std.proofs.Common.{◌≡◌, ◌++◌}
use Rattle.std.specs.Prelude.{string_bytes}
use Rattle.hp_explain.specs.Layout.{spaces}
use Rattle.hp_explain.proofs.layout.push_spaces.Given as goal

abbrev pub invariant-loop-space : goal.invariant-loop-space
invariant-loop-space l = string_bytes l.line ≡ string_bytes l.fn.line ++ spaces l._space
